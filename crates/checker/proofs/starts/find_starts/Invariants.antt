use Rattle.checker.specs.Starts.{AreStartsBelow}
use Rattle.checker.proofs.starts.find_starts.Given as goal

-- where the tasks start among the records so far is known
abbrev pub invariant-loop-at : goal.invariant-loop-at
invariant-loop-at l = AreStartsBelow l.run.records l.at l.run.family.tasks l.starts.items
