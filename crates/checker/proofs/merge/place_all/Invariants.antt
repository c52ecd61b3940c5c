use Rattle.std.proofs.Common.{◌<◌, ◌≤◌, ℕ, length}
use Rattle.std.specs.Prelude.{slice_index, sum_by}
use Rattle.checker.specs.Merge.{Stands, IsUnplaced, AreOffered}
use Rattle.checker.proofs.MergingLemmas.{IsMerging, is_missing}
use Rattle.checker.proofs.merge.place_all.Given as goal

-- the merge has come so far, of the entries before `low` each maker stands, and what may stand next is known
abbrev pub invariant-merge : goal.invariant-merge
invariant-merge l = record {
  merging : IsMerging l.run.records l.standing.placed.items l.standing.heads.items l.standing.links.items
      l.fn.base.items l.order.items;
  within : l.low ≤ length l.places;
  passed : (k : ℕ) → k < l.low → slice_index l.places k < length l.standing.placed.items
      → Stands l.standing.placed.items (slice_index l.places k);
  missing : l.low < length l.places → IsUnplaced l.standing.placed.items (slice_index l.places l.low);
  ready : AreOffered l.run.records l.standing.placed.items l.ready;
}

-- each turn leaves one record less to place
abbrev pub decreases-merge : goal.decreases-merge
decreases-merge l = sum_by is_missing l.standing.placed.items
