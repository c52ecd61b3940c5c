use Rattle.std.proofs.Common.{ℕ, ◌<◌, ◌≤◌}
use Rattle.std.specs.Prelude.{slice_index}
use Rattle.index_tables.proofs.dense.close_span.Given as goal

-- the ids so far are from the least to the greatest
abbrev pub invariant-loop-id : goal.invariant-loop-id
invariant-loop-id l = record {
  order : l.least ≤ l.greatest;
  low : (k : ℕ) → k < l.id-index → l.least ≤ slice_index l.ids k;
  high : (k : ℕ) → k < l.id-index → slice_index l.ids k ≤ l.greatest;
}
