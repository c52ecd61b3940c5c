use Rattle.std.proofs.Common.{◌≡◌, length}
use Rattle.index_tables.proofs.DenseLemmas.{ArePlacedBelow}
use Rattle.index_tables.proofs.dense.place.Given as goal

-- the ids so far have their slots
abbrev pub invariant-loop-index : goal.invariant-loop-index
invariant-loop-index l = record {
  long : length l.slots.items ≡ l.span.places;
  below : ArePlacedBelow l.ids l.span.least l.index l.slots.items;
}
