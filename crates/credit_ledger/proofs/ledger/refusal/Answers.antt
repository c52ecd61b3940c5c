use Rattle.std.proofs.Common.{◌≡◌, ◌+◌, Some, false, sym, ◌∙◌, ap, subst, arith}
use Rattle.std.specs.List.{list_any}
use Rattle.std.specs.Option.{option_map_or}
use Rattle.std.proofs.lemmas.List.{take_all}
use Rattle.std.proofs.lemmas.Option.{slice_get-get_or}
use Rattle.credit_ledger.specs.declared.fault.LedgerFault.TheVariants.{Memory, Overlap}
use Rattle.credit_ledger.specs.Entries.{is_overlap}
use Rattle.credit_ledger.proofs.LedgerLemmas.{fault_of-room}
use Rattle.credit_ledger.proofs.OverlapLemmas.{position_from-none, position_from-first}
use Rattle.credit_ledger.proofs.ledger.refusal.Goals as goal

pub returns-then-do_overlap : goal.returns-then-do_overlap
returns-then-do_overlap c =
    sym (fault_of-room c.args.entries.now c.args.entry.now c.requires
    ∙ ap (λ o. option_map_or (λ index. Overlap index) o Memory)
    (position_from-first (is_overlap c.args.entry.now) c.args.entries.now 0 c.entries.index
    c.index-entries-index.result c.entries.invariant
    (slice_get-get_or c.args.entries.now c.entries.index c.index-entries-index.result c.entries-test.true
    ∙ ap (λ x. Some x) (sym c.index-entries-index.is))
    (sym c.do_overlap.ensures ∙ c.if-do_overlap.true))
    ∙ ap (λ n. Overlap n) (let e : 0 + c.entries.index ≡ c.entries.index = omega arith in e))

pub returns : goal.returns
returns c =
    sym (fault_of-room c.args.entries.now c.args.entry.now c.requires
    ∙ ap (λ o. option_map_or (λ index. Overlap index) o Memory)
    (position_from-none (is_overlap c.args.entry.now) c.args.entries.now 0
    (subst (λ xs. list_any (is_overlap c.args.entry.now) xs ≡ false)
    (take_all c.entries.index c.args.entries.now c.entries-test.false) c.entries.invariant)))
