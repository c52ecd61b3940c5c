use Rattle.std.proofs.Common.{false, get_or}
use Rattle.std.specs.Prelude.{IsTrue}
use Rattle.ompt_events.specs.Shown.{AreAllBelow}
use Rattle.task_states.proofs.refusals.marked_places.Given as goal

-- the marked places so far are noted
abbrev pub invariant-loop-at : goal.invariant-loop-at
invariant-loop-at l = AreAllBelow (λ i. IsTrue (get_or l.marks i false)) l.at l.shown
