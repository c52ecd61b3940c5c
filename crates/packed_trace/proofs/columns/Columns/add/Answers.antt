use Rattle.std.proofs.Common.{◌≡◌, ap, length, refl, rules, sym}
use Rattle.packed_trace.specs.declared.act.Act.{Act}
use Rattle.packed_trace.specs.declared.act.PackedEvent.{PackedEvent}
use Rattle.packed_trace.specs.Packed.{ids_of, numbers_of, packed}
use Rattle.packed_trace.proofs.ColumnLemmas.{added, column_more, ok_always}
use Rattle.packed_trace.proofs.columns.Columns.add.Goals as goal

pub returns : goal.returns
returns c = λ rs are.
    let r = c.args.event in
    let old = c.args.self.now in
    let parts = c.of-act.ensures in
    let event : Act → PackedEvent = λ act. record { act = act; thread = r.thread; seen = r.seen } in
    let at : c.len-place.result ≡ length old.events.items = search rules in
    added rs r old c.push.new.self c.push-2.new.self c.push-3.new.self c.push-4.new.self
    c.add_claim.new.claims c.add_list.new.lists c.add_list.result are
    (column_more packed rs r _ _ _ are.events (ap event parts.act) c.in_ok-push.ensures.items)
    (column_more (λ q. ids_of q.body) rs r _ _ _ are.ids parts.ids c.in_ok-push-2.ensures)
    (column_more (λ q. numbers_of q.body) rs r _ _ _ are.numbers parts.numbers c.in_ok-push-3.ensures.items)
    (column_more (λ q. q.seq) rs r _ _ _ are.seqs refl c.in_ok-push-4.ensures.items)
    c.len-place.result at c.of-act.result.claim c.of-act.result.list
    (ok_always c.add_list.result (sym parts.claim)) (ok_always c.add_list.result (sym parts.list))
    (ok_always c.add_list.result c.in_ok-add_claim.ensures) c.add_list.ensures
