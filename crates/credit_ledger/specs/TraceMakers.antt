-- Which record makes each entry of the ledger, in a table by entry.
use Rattle.std.specs.Prelude.{◌≡◌, ◌<◌, ◌+◌, ℕ, zero, suc, List, [], ◌∷◌, Option, Some, None, length, take}
use Rattle.std.specs.Prelude.{slice_get}
use Rattle.ompt_events.specs.declared.records.Record.{Record}
use Rattle.ompt_events.specs.declared.cause.Cause.TheVariants.{EntryTwice, LengthAhead}
use Rattle.ompt_events.specs.Places.{seen_at}
use Rattle.ompt_events.specs.HappensBefore.{IsFinishing}
use Rattle.ompt_events.specs.Causes.{entries_in, IsFreeOf}

-- the record at the place, one of the first n, makes the entry
abbrev pub IsEntryRecord : List Record → ℕ → ℕ → ℕ → Type 0
IsEntryRecord rs n index place = (place < n) × IsFinishing rs place × (seen_at rs place ≡ index)

-- how many entries have no record yet
abbrev pub free_entries : List (Option ℕ) → ℕ
free_entries [] = zero
free_entries (None ∷ makers) = suc (free_entries makers)
free_entries (Some place ∷ makers) = free_entries makers

-- the table has an item for each entry, and has only records among the first n, each at its entry; it has
-- all of these that finish, unless two records name one entry or one names an entry past the end
pub record AreEntryRecords (rs : List Record) (n : ℕ) (makers : List (Option ℕ)) : Type 0 where
  pub entries : length makers ≡ entries_in rs
  pub makes : (index place : ℕ) → slice_get makers index ≡ Some (Some place) → IsEntryRecord rs n index place
  pub all : IsFreeOf rs EntryTwice → IsFreeOf rs LengthAhead
      → free_entries makers + entries_in (take n rs) ≡ length makers
