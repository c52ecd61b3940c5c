use Rattle.std.proofs.Common.{◌≡◌, ℕ, map}
use Rattle.std.specs.Prelude.{slice_index}
use Rattle.std.specs.List.{range_with_len}
use Rattle.task_tree.proofs.own_order.keys_of.Given as goal

-- the keys of the records so far
abbrev pub invariant-loop-at : goal.invariant-loop-at
invariant-loop-at l =
    l.keys.items ≡ map {B = ℕ × ℕ} (λ at. (slice_index l.turns at, at)) (range_with_len 0 l.at)
