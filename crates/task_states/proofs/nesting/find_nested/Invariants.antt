use Rattle.ompt_events.specs.Causes.{IsNested}
use Rattle.ompt_events.specs.Shown.{AreAllBelow}
use Rattle.task_states.proofs.NestingLemmas.{AreOpenRoots}
use Rattle.task_states.proofs.nesting.find_nested.Given as goal

-- the open roots of each thread are known, and which records so far are inside another region
abbrev pub invariant-loop-at : goal.invariant-loop-at
invariant-loop-at l = record {
  roots : AreOpenRoots l.run l.at l.walks.items;
  places : AreAllBelow (IsNested l.run.records) l.at l.shown;
}
