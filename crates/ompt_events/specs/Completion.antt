-- When a task is complete (OpenMP 5.2, 1.2.5 and 12.5.2: task completion, the detach clause).
use Rattle.std.specs.Prelude.{ℕ, ◌≡◌, ◌<◌, ◌⊎◌, List, Some}
use Rattle.ompt_events.specs.declared.records.Record.{Record}
use Rattle.ompt_events.specs.declared.records.Part.{Part}
use Rattle.ompt_events.specs.declared.records.Part.TheVariants.{Whole, Body, Event}
use Rattle.ompt_events.specs.Records.{finish}
use Rattle.ompt_events.specs.Places.{at, seen_at}
use Rattle.ompt_events.specs.Tree.{IsExplicit}
use Rattle.ompt_events.specs.HappensBefore.{IsStart}
use Rattle.ompt_events.specs.Linearization.{IsEarlier}

-- some record that counts finishes this part of the task
abbrev pub IsPartFinished : List Record → (ℕ → Type 0) → ℕ → Part → Type 0
IsPartFinished rs counts task part = (k : ℕ) × (at finish rs k ≡ Some (task, part)) × counts k

-- of the records that count, one finishes the task whole, or one its body and one its event
abbrev pub IsFinished : List Record → (ℕ → Type 0) → ℕ → Type 0
IsFinished rs counts task =
    IsPartFinished rs counts task Whole
    ⊎ (IsPartFinished rs counts task Body × IsPartFinished rs counts task Event)

-- the record starts an explicit task; what it finishes itself counts as finished then
abbrev pub StartsTask : List Record → ℕ → Type 0
StartsTask rs i = (task : ℕ) × IsExplicit rs task × IsStart rs i task

-- a finishing record counts at i: it is earlier in the order, or is the record that starts a task itself
abbrev pub CountsIn : List Record → List ℕ → ℕ → ℕ → Type 0
CountsIn rs order i k = IsEarlier order k i ⊎ ((k ≡ i) × StartsTask rs i)

-- in this order of the records the task is complete at i
abbrev pub IsCompleteIn : List Record → List ℕ → ℕ → ℕ → Type 0
IsCompleteIn rs order task i = IsFinished rs (CountsIn rs order i) task

-- a finishing record counts at i: its entry is below the length that i names, or it is the record that
-- starts a task itself
abbrev pub CountsAt : List Record → ℕ → ℕ → Type 0
CountsAt rs i k = (seen_at rs k < seen_at rs i) ⊎ ((k ≡ i) × StartsTask rs i)

-- by the ledger length that i names, the task is complete there
abbrev pub IsCompleteAt : List Record → ℕ → ℕ → Type 0
IsCompleteAt rs task i = IsFinished rs (CountsAt rs i) task
