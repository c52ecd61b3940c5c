use Rattle.std.proofs.Common.{◌≡◌}
use Rattle.online.specs.Groups.{group_at, KeepsCounts}
use Rattle.online.proofs.groups.Groups.settle.Given as goal

abbrev pub invariant-loop-step : goal.invariant-loop-step
invariant-loop-step l =
    KeepsCounts (group_at l.initial.self) (group_at l.self) × (l.self.next ≡ l.initial.self.next)
