-- What a yes promises of the records, in OpenMP's words.
use Rattle.std.specs.Prelude.{◌≡◌, ℕ, List, Some}
use Rattle.ompt_events.specs.declared.records.Record.{Record}
use Rattle.ompt_events.specs.Records.{wait_completed}
use Rattle.ompt_events.specs.Places.{at}
use Rattle.ompt_events.specs.Turns.{in_own_order, own_place}
use Rattle.ompt_events.specs.Tree.{IsExplicit}
use Rattle.ompt_events.specs.HappensBefore.{IsStart}
use Rattle.ompt_events.specs.Linearization.{IsLinearization}
use Rattle.ompt_events.specs.Completion.{IsCompleteIn}
use Rattle.ompt_events.specs.Coverage.{Covers}
use Rattle.ompt_events.specs.Dependences.{IsPredecessor}

-- There is an order of all records that keeps what happens before what. In every such order each task that a
-- wait covers is complete when the wait ends (OpenMP 5.2, 15.3 to 15.5), each explicit task starts after all
-- its predecessors are complete (15.9.5), and so is each taskwait with dependences complete (15.5). What a
-- wait covers, and which tasks come before another, is read by each task's own order.
pub record IsSynchronised (rs : List Record) : Type 0 where
  pub order : List ℕ
  pub has_order : IsLinearization rs order
  pub waits : (other : List ℕ) → IsLinearization rs other → (i task : ℕ)
      → Covers (in_own_order rs) (own_place rs i) task → IsCompleteIn rs other task i
  pub starts : (other : List ℕ) → IsLinearization rs other → (i dependent predecessor : ℕ)
      → IsExplicit rs dependent → IsStart rs i dependent
      → IsPredecessor (in_own_order rs) dependent predecessor
      → IsCompleteIn rs other predecessor i
  pub taskwaits : (other : List ℕ) → IsLinearization rs other → (i dependent predecessor : ℕ)
      → at wait_completed rs i ≡ Some dependent → IsPredecessor (in_own_order rs) dependent predecessor
      → IsCompleteIn rs other predecessor i
