-- What must be complete where.
use Rattle.std.specs.Prelude.{ℕ, ◌≡◌, List, Some}
use Rattle.ompt_events.specs.declared.records.Record.{Record}
use Rattle.ompt_events.specs.Records.{wait_completed}
use Rattle.ompt_events.specs.Places.{at}
use Rattle.ompt_events.specs.Turns.{in_own_order, own_place}
use Rattle.ompt_events.specs.Tree.{IsExplicit}
use Rattle.ompt_events.specs.HappensBefore.{IsStart}
use Rattle.ompt_events.specs.Dependences.{IsPredecessor}
use Rattle.ompt_events.specs.Coverage.{Covers}

-- the task must be complete at i
pub data IsRequired (rs : List Record) (i task : ℕ) : Type 0 where
  -- a wait ends that covers it
  covered : Covers rs i task → IsRequired rs i task
  -- a task starts that depends on it
  preceding : {dependent : ℕ} → IsExplicit rs dependent → IsStart rs i dependent
      → IsPredecessor rs dependent task → IsRequired rs i task
  -- a taskwait is complete that depends on it
  awaited : {dependent : ℕ} → at wait_completed rs i ≡ Some dependent → IsPredecessor rs dependent task
      → IsRequired rs i task

-- the same, where regions and numbers of children are read in the tasks' own order
pub data MustBeComplete (rs : List Record) (i task : ℕ) : Type 0 where
  wait_ends : Covers (in_own_order rs) (own_place rs i) task → MustBeComplete rs i task
  dependent_starts : {dependent : ℕ} → IsExplicit rs dependent → IsStart rs i dependent
      → IsPredecessor (in_own_order rs) dependent task → MustBeComplete rs i task
  taskwait_completes : {dependent : ℕ} → at wait_completed rs i ≡ Some dependent
      → IsPredecessor (in_own_order rs) dependent task → MustBeComplete rs i task
