use Rattle.std.proofs.Common.{ℕ, ◌≡◌, ◌<◌, get_or}
use Rattle.online.specs.Groups.{group_at, KeepsCounts, IsClearAt}
use Rattle.online.proofs.groups.Groups.are_clear.Given as goal

abbrev pub invariant-loop-number : goal.invariant-loop-number
invariant-loop-number l =
    ((k : ℕ) → k < l.number-index → IsClearAt (group_at l.initial.self) (get_or l.numbers k 0) l.length)
    × KeepsCounts (group_at l.initial.self) (group_at l.self)
    × (l.self.next ≡ l.initial.self.next)
