-- What one thread has recorded, and what it knows of the ledger.
use Rattle.std.specs.Prelude.{ℕ, ◌≡◌, ◌≤◌, ◌+◌, Bool, true, List, All, length, take, fold, Some, is_some}
use Rattle.std.specs.Prelude.{slice_get, if◌then◌else◌}
use Rattle.std.specs.BTreeSet.{BTreeSet}
use Rattle.ompt_events.specs.declared.records.Record.{Record}
use Rattle.ompt_events.specs.declared.records.Body.{Body}
use Rattle.ompt_events.specs.Limits.{max_records}
use Rattle.ompt_events.specs.Records.{finish}
use Rattle.ompt_events.specs.Traces.{IsSoundIn, IsInRange}
use Rattle.callbacks.specs.declared.thread_state.ThreadState.{ThreadState}
use Rattle.callbacks.specs.Begun.{AreBegun}
use Rattle.callbacks.specs.Standing.{Standing, standing_of, allows}

-- the view of a thread's records: the thread's number, whether regions may lie inside others, the records,
-- the ledger length that the thread knew last, and for how many more records there is room
pub record LogView : Type 0 where
  pub thread : ℕ
  pub nests : Bool
  pub records : List Record
  pub known : ℕ
  pub spare : ℕ

-- the ledger length that is known after a record that names `seen`: one more if it makes the entry with
-- that index
abbrev pub known_from : ℕ → Body → ℕ
known_from seen body = if is_some (finish body) then seen + 1 else seen

-- the ledger length that is known after these records
abbrev pub known_of : List Record → ℕ
known_of own = fold (λ k (r : Record). known_from r.seen r.body) 0 own

-- the record may come after those before it, in a trace where regions may lie inside others as it says
pub record Follows (thread : ℕ) (before : List Record) (r : Record) : Type 0 where
  pub thread_is : r.thread ≡ thread
  pub seq_is : r.seq ≡ length before
  pub seen_rises : known_of before ≤ r.seen
  pub allowed : allows r.nests before r.body ≡ true
  -- what a body may be by itself is the same in versions 2 and 3
  pub sound : IsSoundIn 2 r.body
  pub in_range : IsInRange r

-- each record may come after those before it
abbrev pub AreOrderly : ℕ → List Record → Type 0
AreOrderly thread own = (i : ℕ) (r : Record) → slice_get own i ≡ Some r → Follows thread (take i own) r

-- the records of one thread, which knows the ledger up to a length
pub record AreRecorded (thread : ℕ) (own : List Record) (known : ℕ) : Type 0 where
  pub few : length own ≤ max_records
  pub orderly : AreOrderly thread own
  pub known_rises : known_of own ≤ known

-- the records are of a trace where regions may lie inside others, or of one where they may not
abbrev pub AreOfKind : Bool → List Record → Type 0
AreOfKind nests own = All (λ (r : Record). r.nests ≡ nests) own

-- what is kept beside the records is what they say
pub record IsKept (nests : Bool) (own : List Record) (standing : Standing)
    (begun : BTreeSet (ℕ × ℕ)) : Type 0 where
  pub of_kind : AreOfKind nests own
  pub standing_is : standing ≡ standing_of own
  pub begun_are : nests ≡ true → AreBegun own begun

-- the state of a thread is what these records of it leave
abbrev pub IsLeft : List Record → ThreadState → Type 0
IsLeft own s = IsKept s.nests own s.standing s.begun

-- the log is as it was, except for its room
pub record IsSameLog (old new : LogView) : Type 0 where
  pub thread : new.thread ≡ old.thread
  pub nests : new.nests ≡ old.nests
  pub records : new.records ≡ old.records
  pub known : new.known ≡ old.known
