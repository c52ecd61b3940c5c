-- The ledger's entries during the search for the records that make them.
use Rattle.std.specs.Prelude.{◌≡◌, ◌<◌, ◌↔◌, ℕ, Bool, true, List, length, nat_lt, slice_index, if◌then◌else◌}
use Rattle.std.specs.Ordering.{nat_cmp}
use Rattle.std.specs.BTreeSet.{contains}
use Rattle.ompt_events.specs.declared.records.Record.{Record}
use Rattle.ompt_events.specs.Places.{seen_at}
use Rattle.ompt_events.specs.HappensBefore.{IsFinishing}
use Rattle.checker.specs.declared.makers.Named.{Named}

-- whether the entry is named so far: the table has a record for it, or it is in the set of the entries
-- beyond
abbrev pub is_named : ℕ → Named → ℕ → Bool
is_named records named entry =
    if nat_lt entry (length named.makers.items) then nat_lt (slice_index named.makers.items entry) records
    else contains nat_cmp named.beyond entry

-- one of the first n records makes the entry
abbrev pub IsMadeBelow : List Record → ℕ → ℕ → Type 0
IsMadeBelow rs n entry = (k : ℕ) × (k < n) × IsFinishing rs k × (seen_at rs k ≡ entry)

-- just the entries of the first n records are named
abbrev pub AreEntriesNamed : List Record → ℕ → Named → Type 0
AreEntriesNamed rs n named =
    (entry : ℕ) → (is_named (length rs) named entry ≡ true) ↔ IsMadeBelow rs n entry
