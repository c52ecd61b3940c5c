use Rattle.std.proofs.Common.{◌≡◌}
use Rattle.online.specs.Groups.{group_at, KeepsCounts}
use Rattle.online.proofs.uses.release_all.Given as goal

abbrev pub invariant-loop-location : goal.invariant-loop-location
invariant-loop-location l =
    KeepsCounts (group_at l.initial.groups) (group_at l.groups) × (l.groups.next ≡ l.initial.groups.next)
