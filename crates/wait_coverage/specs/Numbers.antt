-- How many children a task had created before a record.
use Rattle.std.specs.Prelude.{ℕ, ◌≡◌, List, length, Some, slice_get}
use Rattle.ompt_events.specs.declared.records.Record.{Record}
use Rattle.ompt_events.specs.Places.{at}
use Rattle.ompt_events.specs.Tree.{child_number}
use Rattle.packed_trace.specs.Named.{subject}

-- by index of each task how many children it creates in the first n records
pub record AreCreationCounts (rs : List Record) (n : ℕ) (tasks counts : List ℕ) : Type 0 where
  pub all : length counts ≡ length tasks
  pub each : (index task count : ℕ) → slice_get tasks index ≡ Some task → slice_get counts index ≡ Some count
      → count ≡ child_number rs task n

-- the task of the record had created this many children before it
abbrev pub IsNumberAt : List Record → ℕ → ℕ → Type 0
IsNumberAt rs i number = (task : ℕ) → at subject rs i ≡ Some task → number ≡ child_number rs task i

-- this holds of each of the first n records
pub record AreNumbers (rs : List Record) (n : ℕ) (numbers : List ℕ) : Type 0 where
  pub all : length numbers ≡ n
  pub each : (i number : ℕ) → slice_get numbers i ≡ Some number → IsNumberAt rs i number
