use Rattle.std.proofs.Common.{◌≡◌, ◌<◌, ℕ}
use Rattle.std.specs.Prelude.{slice_index}
use Rattle.checker.proofs.starts.are_all_zero.Given as goal

-- those so far are zero
abbrev pub invariant-loop-length : goal.invariant-loop-length
invariant-loop-length l = (index : ℕ) → index < l.length-index → slice_index l.latest index ≡ 0
