use Rattle.std.proofs.Common.{[]}
use Rattle.std.specs.List.{AllByRecursion}
use Rattle.lines.specs.Objects.{item_data}
use Rattle.lines.specs.PlainData.{IsPlain}
use Rattle.lines.proofs.TakeLemmas.{AreItemsTaken}
use Rattle.lines.proofs.written.take_list.Given as goal

-- the items so far
abbrev pub invariant-items : goal.invariant-items
invariant-items l = record {
  taken : AreItemsTaken item_data l.items.items l.later l.fn.rest l.rest [];
  plain : AllByRecursion (λ i. IsPlain (item_data i) 1) l.items.items;
}
