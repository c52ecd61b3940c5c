use Rattle.std.proofs.Common.{◌≡◌, ◌∷◌, take, Some, ap, sym, ◌∙◌, subst}
use Rattle.std.specs.Prelude.{IsTrue, ◌↔◌}
use Rattle.std.proofs.Math.Seq.{take-length}
use Rattle.atomic_table.specs.Table.{rest}
use Rattle.credit_ledger.specs.declared.entry.Cover.TheVariants.{Descendants}
use Rattle.credit_ledger.specs.Entries.{IsSpanHeld}
use Rattle.credit_ledger.specs.Histories.{entries_after}
use Rattle.credit_ledger.proofs.LockLemmas.{has_list}
use Rattle.credit_ledger.proofs.shared.held.Goals as goal

pub slot_mut-requires : goal.slot_mut-requires
slot_mut-requires c = (
  c.requires.place,
  (
    Some (entries_after c.args.place.now.me.0.seen),
    c.requires.ledger
        ∙ ap (λ xs. (0, Some (entries_after c.args.place.now.me.0.seen)) ∷ rest xs) (sym c.requires.ledger),
  ),
)

pub returns-clause-held : goal.returns-clause-held
returns-clause-held c =
    let list : entries_after c.args.place.now.me.0.seen ≡ c.in-Some.ledger =
    has_list c.args.place.now.me.1 (entries_after c.args.place.now.me.0.seen) c.in-Some.ledger
    (rest c.args.place.now.me.1) c.requires.ledger
    (c.slot_mut.ensures.value ∙ ap (λ o. (0, o) ∷ rest c.args.place.now.me.1) c.in-Some.is) in
    let all : take c.len-len.result c.in-Some.ledger ≡ entries_after c.args.place.now.me.0.seen =
    ap (λ n. take n c.in-Some.ledger) c.len-len.ensures ∙ take-length c.in-Some.ledger ∙ sym list in
    subst (λ es. IsTrue c.in_ok-is_held.is_held ↔ IsSpanHeld es c.args.span.now Descendants) all
    c.in_ok-is_held.ensures.held
