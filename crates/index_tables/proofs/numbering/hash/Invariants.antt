use Rattle.std.proofs.Common.{ℕ, ◌≡◌, ◌<◌, take}
use Rattle.index_tables.specs.Numbering.{IsAgain, IsSeededBy}
use Rattle.index_tables.proofs.numbering.hash.Given as goal

-- the ids so far are in the table, which has the seed of all ids, and none of them is there again
abbrev pub invariant-loop-index : goal.invariant-loop-index
invariant-loop-index l = record {
  same : l.known.keys ≡ take l.index l.ids;
  seeded : IsSeededBy l.known l.ids;
  once : (k : ℕ) → k < l.index → IsAgain l.ids k → ⊥;
}
