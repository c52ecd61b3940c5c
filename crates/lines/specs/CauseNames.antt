-- What each cause is called in a report.
use Rattle.std.specs.Prelude.{ℕ, List, codes}
use Rattle.lines.specs.declared.cause.ReadCause.{ReadCause}
use Rattle.lines.specs.declared.cause.ReadCause.TheVariants as read

abbrev pub read_cause_number : ReadCause → ℕ
read_cause_number read.Device = 1
read_cause_number read.Memory = 2
read_cause_number read.Header = 3
read_cause_number read.LineTooLong = 4
read_cause_number read.NotJson = 5
read_cause_number read.Field = 6
read_cause_number read.Limit = 7
read_cause_number read.Unended = 8
read_cause_number read.TurnsSpent = 9

abbrev pub read_cause_name : ReadCause → List ℕ
read_cause_name read.Device = codes "Device"
read_cause_name read.Memory = codes "Memory"
read_cause_name read.Header = codes "Header"
read_cause_name read.LineTooLong = codes "LineTooLong"
read_cause_name read.NotJson = codes "NotJson"
read_cause_name read.Field = codes "Field"
read_cause_name read.Limit = codes "Limit"
read_cause_name read.Unended = codes "Unended"
read_cause_name read.TurnsSpent = codes "TurnsSpent"
