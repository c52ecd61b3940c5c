-- How the counters of a device go on, each of 64 bits.
use Rattle.std.specs.Prelude.{ℕ, ◌≡◌, zero, suc, ◌+◌, ◌-◌, ◌%◌, ◌^◌, ◌==◌, ◌&&◌, ◌≤◌, ◌↔◌, nat_lt}
use Rattle.std.specs.Prelude.{if◌then◌else◌, Option, None, Some, Result, Ok, Err}
use Rattle.certificate.specs.Limits.{max_turns}
use Rattle.certificate.specs.declared.device.DeviceFault.{DeviceFault}
use Rattle.certificate.specs.declared.device.DeviceFault.TheVariants.{Again, Broken}
use Rattle.certificate.specs.declared.faults.ReadFault.{ReadFault}
use Rattle.lines.specs.declared.cause.ReadCause.{ReadCause}
use Rattle.lines.specs.declared.cause.ReadCause.TheVariants.{Device, TurnsSpent}
use Rattle.certificate.specs.declared.faults.WriteFault.{WriteFault}
use Rattle.certificate.specs.declared.faults.WriteFault.TheVariants as write

-- one more, in a counter that begins again after 2^64 - 1
abbrev pub next_count : ℕ → ℕ
next_count count = (count + 1) % 2 ^ 64

-- n more
unfoldable pub count_more : ℕ → ℕ → ℕ
count_more count zero = count
count_more count (suc n) = next_count (count_more count n)

-- the counter of the answers `Again`, after an answer
abbrev pub agains_after : Result ℕ DeviceFault → ℕ → ℕ
agains_after (Ok n) count = count
agains_after (Err Again) count = next_count count
agains_after (Err Broken) count = count

-- the counter of the answers `Broken`, after an answer
abbrev pub breaks_after : Result ℕ DeviceFault → ℕ → ℕ
breaks_after (Ok n) count = count
breaks_after (Err Again) count = count
breaks_after (Err Broken) count = next_count count

-- the counter of the answers `Again` and of those that no byte was taken of some, after an answer to so
-- many bytes: to take none of none is no stall
abbrev pub stalls_after : ℕ → Result ℕ DeviceFault → ℕ → ℕ
stalls_after offered (Ok n) count = if n == 0 && nat_lt 0 offered then next_count count else count
stalls_after offered (Err Again) count = next_count count
stalls_after offered (Err Broken) count = count

-- the counter of the answers `Broken`, after a call of `read` that ends so: only `Device` reports one
abbrev pub breaks_told : Option ReadCause → ℕ → ℕ
breaks_told None count = count
breaks_told (Some Device) count = next_count count
breaks_told (Some _) count = count

-- the cause that a call of `read` reported
abbrev pub cause_told : {X : Type 0} → Result X ReadFault → Option ReadCause
cause_told (Ok x) = None
cause_told (Err fault) = Some fault.cause

-- the turns that a call has taken so far, each an answer `Again`; with the one after the last that it has,
-- it ends
pub record TakesTurns (told : Option ReadCause) (turns turns' agains agains' : ℕ) : Type 0 where
  pub later : turns ≤ turns'
  pub within : turns' ≤ max_turns + 1
  pub counted : agains' ≡ count_more agains (turns' - turns)
  pub spent : (told ≡ Some TurnsSpent) ↔ (turns' ≡ max_turns + 1)

-- the counter of the answers `Broken`, after a call of `write_bytes` that ends so
abbrev pub breaks_written : Result (Unit {0}) WriteFault → ℕ → ℕ
breaks_written (Ok _) count = count
breaks_written (Err write.Device) count = next_count count
breaks_written (Err write.Memory) count = count
breaks_written (Err write.TurnsSpent) count = count

-- the turns that a call of `write_bytes` has taken, each an answer `Again` or that no byte was taken of some;
-- with the one after the last that it has, it ends
pub record TakesStalls (result : Result (Unit {0}) WriteFault) (turns stalls stalls' : ℕ) : Type 0 where
  pub within : turns ≤ max_turns + 1
  pub counted : stalls' ≡ count_more stalls turns
  pub spent : (result ≡ Err write.TurnsSpent) ↔ (turns ≡ max_turns + 1)
