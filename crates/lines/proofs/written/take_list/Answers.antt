use Rattle.std.proofs.Common.{◌≡◌, [], ◌∷◌, ◌++◌, true, not, refl, ap, ◌∙◌}
use Rattle.std.specs.Result.{is_ok}
use Rattle.lines.specs.Objects.{item_data}
use Rattle.lines.specs.PlainData.{IsPlain}
use Rattle.lines.proofs.TakeLemmas.{AreItemsTaken-more, Takes-items}
use Rattle.lines.proofs.TextLemmas.{ArePlain-items_of}
use Rattle.lines.proofs.WrittenLemmas.{AllByRecursion-more}
use Rattle.lines.proofs.written.take_list.Goals as goal

pub items-preserved : goal.items-preserved
items-preserved c =
    let now = c.items.invariant in
    let item = c.in-Some.item in
    let grown : c.push.new.self.items ≡ c.items.items.items ++ item ∷ [] =
    c.push.ensures.items
    ∙ (let ok : is_ok c.push.result ≡ true = c.is_err.ensures.negation ∙ ap not c.if-is_err.false in
    rw ok refl) in
    rw grown (record {
      taken =
          AreItemsTaken-more item_data c.items.items.items item c.items.later c.args.rest.now
          c.items.rest.now c.in-Some.behind.now [] now.taken c.in-Some.ensures.takes;
      plain =
          AllByRecursion-more (λ i. IsPlain (item_data i) 1) c.items.items.items item now.plain
          c.in-Some.ensures.plain;
    })

pub returns : goal.returns
returns c = record {
  takes =
      Takes-items item_data c.items.items.items c.items.later c.args.rest.now c.items.rest.now
      c.in_ok-behind.behind.now [] c.items.invariant.taken c.in_ok-behind.ensures;
  plain = ArePlain-items_of item_data c.items.items.items 1 c.items.invariant.plain;
}
