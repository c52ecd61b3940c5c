use Rattle.std.proofs.Common.{◌∙◌, ◌++◌, refl, sym, ap}
use Rattle.std.proofs.lemmas.Option.{same_Some}
use Rattle.online.proofs.lists.Lists.note.Goals as goal

pub returns : goal.returns
returns c = λ p given. record {
  kept = record { place = c.args.place; parent = c.in-Some.parent; items = c.extend_from_slice.new.self };
  at_place = refl;
  of_parent = same_Some c.in-Some.parent p (sym c.in-Some.is ∙ given);
  has =
      c.in_ok-extend_from_slice.ensures.items
      ∙ ap (λ l. l ++ c.args.list.now) c.new-items.ensures.items;
  noted = λ q. c.in_ok-insert.ensures.updates.0 q;
}
