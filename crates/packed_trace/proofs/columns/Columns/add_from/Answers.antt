use Rattle.std.proofs.Common.{◌≡◌, ◌∙◌, length, rules, sym}
use Rattle.std.specs.Prelude.{option_copied}
use Rattle.ompt_events.specs.Records.{claim}
use Rattle.ompt_events.proofs.PlaceLemmas.{at_get}
use Rattle.packed_trace.specs.Packed.{ids_of, listed_deps, numbers_of, packed}
use Rattle.packed_trace.proofs.ColumnLemmas.{added, column_more, kept_there, same_there, ok_always}
use Rattle.packed_trace.proofs.columns.Columns.add_from.Goals as goal

pub returns : goal.returns
returns c = λ rs others r from there are.
    let old = c.args.self.now in
    let other = c.args.other.now in
    let k = c.args.at in
    let at : c.len-place.result ≡ length old.events.items = search rules in
    added rs r old c.push.new.self c.push-2.new.self c.push-3.new.self c.push-4.new.self
    c.copy_claim.new.claims
    c.copy_list.new.lists c.copy_list.result are
    (column_more packed rs r _ _ _ are.events
    (kept_there packed others other.events.items k r _ there from.events c.index.ensures)
    c.in_ok-push.ensures.items)
    (column_more (λ q. ids_of q.body) rs r _ _ _ are.ids
    (same_there (λ q. ids_of q.body) others other.ids k r _ there from.ids c.at.ensures)
    c.in_ok-push-2.ensures)
    (column_more (λ q. numbers_of q.body) rs r _ _ _ are.numbers
    (kept_there (λ q. numbers_of q.body) others other.numbers.items k r _ there from.numbers
    c.index-2.ensures)
    c.in_ok-push-3.ensures.items)
    (column_more (λ q. q.seq) rs r _ _ _ are.seqs
    (kept_there (λ q. q.seq) others other.seqs.items k r _ there from.seqs c.index-3.ensures)
    c.in_ok-push-4.ensures.items)
    c.len-place.result at (option_copied c.find.result) (option_copied c.find-2.result)
    (ok_always c.copy_list.result
    (sym (at_get claim others k r there) ∙ sym (c.find.ensures claim others from.claims)))
    (ok_always c.copy_list.result
    (sym (at_get listed_deps others k r there) ∙ sym (c.find-2.ensures listed_deps others from.lists)))
    (ok_always c.copy_list.result c.in_ok-copy_claim.ensures) c.copy_list.ensures
