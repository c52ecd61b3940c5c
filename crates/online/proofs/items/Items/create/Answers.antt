use Rattle.std.proofs.Common.{◌∙◌, Some, None, Bool, refl, ap}
use Rattle.std.specs.Prelude.{nat_eq}
use Rattle.std.specs.HashMap.{get}
use Rattle.online.specs.Items.{awaited_of}
use Rattle.online.proofs.ListingLemmas.{listings_plain, listings_created}
use Rattle.std.specs.Prelude.{if◌then◌else◌}
use Rattle.online.proofs.items.Items.create.Goals as goal

pub returns-then-not-has_list-clause-taken : goal.returns-then-not-has_list-clause-taken
returns-then-not-has_list-clause-taken c = λ yes rs r creates is.
    let (history, ends, gone, table, lists) = is in (
      history,
      ends,
      gone,
      table,
      listings_plain rs r history ends gone (awaited_of c.args.self.now) c.args.parent c.args.child
          creates.watchable
          creates.once creates.creates
          (creates.has_deps ∙ ap (λ (b : Bool). if b then Some c.args.child else None) c.if-not-has_list.true)
          (c.if-not-awaits_none.ensures.0 refl) lists,
    )

pub returns-clause-taken : goal.returns-clause-taken
returns-clause-taken c = λ yes rs r creates is.
    let (history, ends, gone, table, lists) = is in (
      history,
      ends,
      gone,
      table,
      listings_created rs r history ends gone (awaited_of c.args.self.now) (λ p. get nat_eq
          c.insert.new.self p)
          c.args.parent c.args.child creates.watchable creates.once creates.creates
          (creates.has_deps ∙ ap (λ (b : Bool). if b then Some c.args.child else None)
          c.if-not-has_list.false)
          (c.if-not-awaits_none.ensures.0 refl)
          (λ q. c.in_ok-insert.ensures.updates.0 q) lists,
    )
