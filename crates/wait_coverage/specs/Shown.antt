-- What is unfinished at a wait, by the trace alone: what a wait covers is read in the tasks' own order, all
-- else in file order.
use Rattle.std.specs.Prelude.{ℕ, ◌≡◌, ◌<◌, List, Some}
use Rattle.ompt_events.specs.declared.records.Record.{Record}
use Rattle.ompt_events.specs.Records.{created}
use Rattle.ompt_events.specs.Places.{at}
use Rattle.ompt_events.specs.Turns.{in_own_order, own_place}
use Rattle.ompt_events.specs.Coverage.{Covers}
use Rattle.ompt_events.specs.Completion.{IsCompleteAt}

-- a wait that covers the task ends at the place in the file, and the task is unfinished there
pub record IsUnfinishedShown (rs : List Record) (place task : ℕ) : Type 0 where
  pub covered : Covers (in_own_order rs) (own_place rs place) task
  pub incomplete : IsCompleteAt rs task place → ⊥

-- each task that the wait covers is complete at its end
abbrev pub IsCompleteShown : List Record → ℕ → Type 0
IsCompleteShown rs place =
    (task : ℕ) → Covers (in_own_order rs) (own_place rs place) task → IsCompleteAt rs task place

-- of the tasks that are unfinished there this one was created first in the file
pub record IsFirstUnfinishedShown (rs : List Record) (place task : ℕ) : Type 0 where
  pub unfinished_there : IsUnfinishedShown rs place task
  pub creation : ℕ
  pub is_created : at created rs creation ≡ Some task
  pub created_first : (k other : ℕ) → k < creation → at created rs k ≡ Some other
      → IsUnfinishedShown rs place other → ⊥
