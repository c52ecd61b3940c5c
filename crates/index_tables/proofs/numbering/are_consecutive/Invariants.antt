use Rattle.std.proofs.Common.{ℕ, ◌≡◌, ◌<◌, ◌+◌}
use Rattle.std.specs.Prelude.{slice_index}
use Rattle.index_tables.proofs.numbering.are_consecutive.Given as goal

-- the ids so far have no gap
abbrev pub invariant-loop-index : goal.invariant-loop-index
invariant-loop-index l = (k : ℕ) → k < l.index → slice_index l.ids k ≡ slice_index l.ids 0 + k
