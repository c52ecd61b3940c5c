use Rattle.std.proofs.Common.{◌≡◌, drop}
use Rattle.scripts.specs.Keeping.{all_may_be_named}
use Rattle.scripts.proofs.lives.all_may_be_named.Given as goal

-- the tasks so far may be named
abbrev pub invariant-loop-at : goal.invariant-loop-at
invariant-loop-at l =
    all_may_be_named l.lives l.made l.tasks ≡ all_may_be_named l.lives l.made (drop l.at l.tasks)
