use Rattle.std.proofs.Common.{ℕ, ◌≡◌, ◌<◌, Some, None}
use Rattle.std.specs.Prelude.{slice_get}
use Rattle.task_tree.proofs.rootless.are_known.Given as goal

-- each root so far is known
abbrev pub invariant-loop-root : goal.invariant-loop-root
invariant-loop-root l = (index : ℕ) → index < l.root-index → slice_get l.roots index ≡ Some None → ⊥
