use Rattle.std.proofs.Common.{◌≡◌, ℕ, map, take}
use Rattle.task_tree.proofs.own_order.places_of.Given as goal

-- the places so far
abbrev pub invariant-loop-key : goal.invariant-loop-key
invariant-loop-key l = l.places.items ≡ map (λ (key : ℕ × ℕ). key.1) (take l.key-index l.keys)
