use Rattle.std.proofs.Common.{ℕ, ◌≡◌}
use Rattle.std.specs.Prelude.{map, take}
use Rattle.wait_coverage.proofs.order.without_depths.Given as goal

-- the indices so far
abbrev pub invariant-loop-place : goal.invariant-loop-place
invariant-loop-place l = l.order.items ≡ map (λ (entry : ℕ × ℕ). entry.1) (take l.place l.ranked)
