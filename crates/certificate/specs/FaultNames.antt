-- What each fault is called in a report.
use Rattle.std.specs.Prelude.{ℕ, List, codes}
use Rattle.certificate.specs.declared.faults.WriteFault.{WriteFault}
use Rattle.certificate.specs.declared.faults.WriteFault.TheVariants as write
use Rattle.certificate.specs.declared.faults.UpgradeFault.{UpgradeFault}
use Rattle.certificate.specs.declared.faults.UpgradeFault.TheVariants as upgrade

abbrev pub write_fault_number : WriteFault → ℕ
write_fault_number write.Device = 1
write_fault_number write.Memory = 2
write_fault_number write.TurnsSpent = 3

abbrev pub write_fault_name : WriteFault → List ℕ
write_fault_name write.Device = codes "Device"
write_fault_name write.Memory = codes "Memory"
write_fault_name write.TurnsSpent = codes "TurnsSpent"

abbrev pub upgrade_fault_number : UpgradeFault → ℕ
upgrade_fault_number upgrade.Memory = 1
upgrade_fault_number (upgrade.Moved at) = 2

abbrev pub upgrade_fault_name : UpgradeFault → List ℕ
upgrade_fault_name upgrade.Memory = codes "Memory"
upgrade_fault_name (upgrade.Moved at) = codes "Moved"
