use Rattle.std.proofs.Common.{◌≡◌, ◌<◌, ◌≤◌, take, Some, length}
use Rattle.std.specs.Prelude.{reverse, slice_index}
use Rattle.credit_ledger.specs.declared.links.Spot.TheVariants.{Missing}
use Rattle.credit_ledger.specs.Links.{spot_of}
use Rattle.credit_ledger.specs.Trees.{place, child, IsGrown}
use Rattle.credit_ledger.proofs.tree.Tree.make.Given as goal

abbrev pub invariant-runs : goal.invariant-runs
invariant-runs l = record {
  grown : IsGrown l.fn.self l.self;
  place : place (child l.self) (reverse (take l.depth l.runs)) ≡ Some l.index;
  within : l.index < length l.self.nodes.items;
  depth : l.depth ≤ length l.runs;
  spot : l.depth < length l.runs
      → spot_of l.self.links.items l.index (slice_index l.runs l.depth) ≡ Missing l.at l.side;
}
