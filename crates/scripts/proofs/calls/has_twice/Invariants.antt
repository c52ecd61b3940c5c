use Rattle.std.proofs.Common.{◌≡◌, drop}
use Rattle.scripts.specs.Scripts.{has_twice}
use Rattle.scripts.proofs.calls.has_twice.Given as goal

-- the tasks so far stand no second time
abbrev pub invariant-loop-at : goal.invariant-loop-at
invariant-loop-at l = has_twice l.tasks ≡ has_twice (drop l.at l.tasks)
