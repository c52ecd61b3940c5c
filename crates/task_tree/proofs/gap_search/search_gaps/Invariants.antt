use Rattle.ompt_events.specs.Causes.{HasTurnGap}
use Rattle.ompt_events.specs.Shown.{AreAllBelow}
use Rattle.task_tree.specs.GapSearch.{AreGreatestTurns}
use Rattle.task_tree.proofs.gap_search.search_gaps.Given as goal

-- the records so far that have a gap, and the greatest turns by them
abbrev pub invariant-loop-at : goal.invariant-loop-at
invariant-loop-at l = record {
  greatest : AreGreatestTurns l.trace.records l.at l.greatest;
  places : AreAllBelow (HasTurnGap l.trace.records) l.at l.shown;
}
