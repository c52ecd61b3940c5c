use Rattle.ompt_events.specs.Causes.{IsBehind}
use Rattle.ompt_events.specs.Shown.{AreAllBelow}
use Rattle.checker.specs.Lengths.{ArePassed}
use Rattle.checker.proofs.lengths.lengths_back.Given as goal

-- what the records so far leave behind, and those of them that are behind
abbrev pub invariant-loop-at : goal.invariant-loop-at
invariant-loop-at l = record {
  passed : ArePassed l.run.records l.at l.run.family.tasks l.passed;
  shown : AreAllBelow (IsBehind l.run.records) l.at l.shown;
}
