-- The records of a trace in the tasks' own order, and the place of each of them in the file.
use Rattle.std.specs.Prelude.{ℕ, ◌≡◌, ◌<◌, ⊤, true, List, length, Option, Some, MatchOption, is_some}
use Rattle.std.specs.Prelude.{slice_get}
use Rattle.ompt_events.specs.declared.records.Record.{Record}
use Rattle.ompt_events.specs.declared.cause.Cause.{Cause}
use Rattle.ompt_events.specs.declared.cause.Cause.TheVariants.{RegionOrder, TeamShort, ShareWrong}
use Rattle.ompt_events.specs.declared.fault.Fault.{Fault}
use Rattle.ompt_events.specs.declared.fault.Fault.TheVariants.{Memory, Malformed}
use Rattle.ompt_events.specs.Records.{joined}
use Rattle.ompt_events.specs.Places.{at}
use Rattle.ompt_events.specs.Causes.{HasCause, IsFreeOf}
use Rattle.ompt_events.specs.Shown.{AreAll}
use Rattle.task_tree.specs.Runs.{RunView, IsRun}
use Rattle.task_tree.specs.OwnOrder.{AreAllPlaces}

-- the view of a run in its tasks' own order: the run, whose records are in that order, and by number in it
-- the place in the file
pub record OwnView : Type 0 where
  pub run : RunView
  pub places : List ℕ

-- members of teams begin in the order in which they begin in the file
abbrev pub KeepsMembers : List Record → List ℕ → Type 0
KeepsMembers records places = (number other first second : ℕ) → number < other
    → is_some (at joined records number) ≡ true → is_some (at joined records other) ≡ true
    → slice_get places number ≡ Some first → slice_get places other ≡ Some second → first < second

pub record IsOwn (own : OwnView) : Type 0 where
  pub run : IsRun own.run
  pub places : AreAllPlaces own.places (length own.run.records)
  pub members : KeepsMembers own.run.records own.places

-- ---- what is searched for in file order

-- the causes that are read in the tasks' own order
pub data IsOwnCause : Cause → Type 0 where
  of_regions : IsOwnCause RegionOrder
  of_teams : IsOwnCause TeamShort
  of_claims : IsOwnCause ShareWrong

-- the record at this place in the file has the cause in the tasks' own order
abbrev pub HasCauseAt : OwnView → Cause → ℕ → Type 0
HasCauseAt own cause place =
    (number : ℕ) × (slice_get own.places number ≡ Some place) × HasCause own.run.records number cause

-- it is the first in the file that does
pub record IsFirstPlaceWith (own : OwnView) (cause : Cause) (place : ℕ) : Type 0 where
  pub has : HasCauseAt own cause place
  pub first : (k : ℕ) → k < place → HasCauseAt own cause k → ⊥

-- the cause's first place in the file was found, or that no record has it
abbrev pub FindsFirstPlace : OwnView → Cause → Option ℕ → Type 0
FindsFirstPlace own cause found =
    MatchOption found (IsFreeOf own.run.records cause) (IsFirstPlaceWith own cause)

-- these are all places in the file at which a record has the cause in the tasks' own order, in file order
abbrev pub AreAllPlacesWith : OwnView → Cause → List ℕ → Type 0
AreAllPlacesWith own cause places = AreAll (HasCauseAt own cause) (length own.run.records) places

-- the cause was found, at its first place in the file, unless the call ran out of memory
abbrev pub IsOwnFault : OwnView → Cause → Fault → Type 0
IsOwnFault own cause Memory = ⊤
IsOwnFault own cause (Malformed place found) = (found ≡ cause) × IsFirstPlaceWith own cause place
