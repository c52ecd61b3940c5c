use Rattle.std.proofs.Common.{ℕ, ◌≡◌, ◌≤◌, List, drop}
use Rattle.online.specs.Groups.{Grouping, IsOver, AreCounted, IsLessOf, times, group_at}
use Rattle.online.proofs.groups.Groups.leave_all.Given as goal

abbrev pub invariant-loop-number : goal.invariant-loop-number
invariant-loop-number l =
    ((ends : List (ℕ × ℕ)) (all : Grouping) (next task : ℕ) → IsOver ends task l.length
    → ((n : ℕ) → times n l.numbers ≤ times task (all.unfinished n))
    → AreCounted ends all (group_at l.initial.self) next
    → (less : Grouping) × IsLessOf task all less × AreCounted ends less (group_at l.self) next
    × ((n : ℕ) → times n (drop l.number-index l.numbers) ≤ times task (less.unfinished n)))
    × (l.self.next ≡ l.initial.self.next)
