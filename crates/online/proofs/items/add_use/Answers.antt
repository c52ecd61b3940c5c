use Rattle.std.proofs.Common.{◌≡◌, ◌∙◌, List, Some, refl, sym, ap, subst}
use Rattle.online.specs.declared.uses.Use.{Use}
use Rattle.online.proofs.MergeLemmas.{uses_set, uses_push}
use Rattle.std.proofs.lemmas.Option.{get_or_from_slice_get}
use Rattle.online.specs.Items.{IsUseAt, AddsItem}
use Rattle.online.proofs.items.add_use.Goals as goal

pub returns-in-Some : goal.returns-in-Some
returns-in-Some c =
    let uses = c.args.uses.now.items in
    let (used, at_index, at_item) = subst (λ (l : List Use). IsUseAt l c.in-Some.index c.args.item.var)
    c.as_slice.ensures.value c.in-Some.ensures in
    let same : c.index.result.now ≡ used =
    c.index.ensures ∙ get_or_from_slice_get uses c.in-Some.index used c.index.result.now at_index in
    uses_set uses c.in-Some.index c.index.result.now c.with_kind.result c.args.item
    (at_index ∙ ap Some (sym same)) (ap (λ (u : Use). u.location) same ∙ at_item) c.with_kind.ensures

pub returns-in_ok-push-in-None : goal.returns-in_ok-push-in-None
returns-in_ok-push-in-None c =
    subst (λ (l : List Use). AddsItem c.args.uses.now.items l c.args.item) (sym
    c.in_ok-push-in-None.ensures.items)
    (uses_push c.args.uses.now.items (record { location = c.args.item.var; kind = c.kind_of.result })
    c.args.item
    refl c.kind_of.ensures)
