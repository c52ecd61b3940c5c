use Rattle.std.proofs.Common.{◌≡◌, List, Some, [], ◌∷◌, ◌++◌, refl, subst}
use Rattle.std.specs.Prelude.{nat_eq}
use Rattle.std.specs.HashMap.{get}
use Rattle.online.specs.declared.uses.Use.{Use}
use Rattle.online.specs.Uses.{listing, IsUses}
use Rattle.online.specs.Items.{awaited_of}
use Rattle.online.proofs.ListLaw.{listings_listed, missing_unlisted}
use Rattle.online.proofs.items.Items.list.Goals as goal

pub returns : goal.returns
returns c = λ yes rs r lists is.
    let (history, ends, gone, table, listings) = is in
    let there : awaited_of c.args.self.now c.args.parent ≡ Some c.args.task = c.if-not-is_awaited.ensures.0
    refl in
    let uses : List Use = c.in_ok-uses.uses.items in
    let listed =
    c.in_ok-list.ensures c.if-not-branch.false history ends gone table
    (missing_unlisted rs history ends gone (awaited_of c.args.self.now) c.args.parent c.args.task listings
    there)
    (λ has. lists.goes_on (listings.ended c.args.parent has)) in (
      history ++ listing c.args.parent c.args.task uses ∷ [],
      ends,
      gone,
      subst
          (λ (l : List Use). IsUses (history ++ listing c.args.parent c.args.task l ∷ []) ends gone
          c.list.new.self)
          c.as_slice.ensures.value listed,
      listings_listed rs r history ends gone (awaited_of c.args.self.now) (λ p. get nat_eq
          c.remove.new.self p)
          c.args.parent c.args.task c.args.list.now uses lists.once lists.in_place lists.lists there
          c.in_ok-uses.ensures (λ q. c.remove.ensures.updates.0 q) listings,
    )
