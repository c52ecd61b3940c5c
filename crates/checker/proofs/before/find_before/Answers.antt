use Rattle.std.proofs.Common.{◌≡◌, ◌∙◌, length, sym, ap, arith}
use Rattle.std.proofs.Math.Seq.{take-append_seam}
use Rattle.ompt_events.specs.Places.{seen_at}
use Rattle.checker.specs.Schedule.{Awaits}
use Rattle.checker.specs.Counter.{OrderedView, MakesBelow, AreEarlierInThread, AreRaisedTo}
use Rattle.checker.proofs.ListsLemmas.{names_length, length_within}
use Rattle.checker.proofs.BeforeLemmas.{all_kept, found_bounds}
use Rattle.checker.proofs.before.find_before.Goals as goal

pub raise_to_makers-requires-clause-reached : goal.raise_to_makers-requires-clause-reached
raise_to_makers-requires-clause-reached c =
    let rs = c.args.ordered.now.ledger.run.records in
    let made = c.run-run.ensures.is_ordered.ledger in
    let names =
    names_length rs c.args.at c.seen.result c.requires (rw c.run-run.ensures.value at c.seen.ensures) in
    let most = length_within rs c.args.at c.seen.result made.reached names in
    let entries = made.entries in
    let same = ap (λ (o : OrderedView). length o.ledger.places) c.ordered.view_is in
    omega (arith, most, entries, same)

pub returns : goal.returns
returns c =
    let rs = c.args.ordered.now.ledger.run.records in
    let i = c.args.at in
    let own = c.in_ok-found.found.items in
    let makers = c.raise_to_makers.new.bounds in
    let here = c.raise_to_awaited.new.bounds in
    let all = c.raise_to_all_awaited.new.bounds in
    let run = c.run-run.ensures.value in
    let len : length all ≡ length own =
    c.raise_to_all_awaited.auto.bounds ∙ c.raise_to_awaited.auto.bounds ∙ c.raise_to_makers.auto.bounds
    ∙ ap length c.as_mut_slice-bounds.ensures.value in
    let same = ap (λ (o : OrderedView). o.ledger.run.records) c.ordered.view_is in
    let seen = rw run at c.seen.ensures in
    let earlier : AreEarlierInThread rs i own = rw run at c.in_ok-found.ensures.earlier in
    let to_makers : AreRaisedTo rs (MakesBelow rs (seen_at rs i)) own makers =
    rw (same, seen, c.as_mut_slice-bounds.ensures.value) at c.raise_to_makers.ensures in
    let to_awaited : AreRaisedTo rs (Awaits rs i) makers here = rw same at c.raise_to_awaited.ensures in
    let threads = all_kept rs own all len (rw run at c.in_ok-found.ensures.all) in
    let whole : c.in_ok-found.found.len ≡ length all = c.in_ok-found.found.ok.0 ∙ sym len in
    rw (whole, take-append_seam)
    (found_bounds c.args.ordered.now i own makers here all c.run-run.ensures.is_ordered c.requires threads
    earlier to_makers to_awaited c.raise_to_all_awaited.ensures.kept
    c.raise_to_all_awaited.ensures.closed c.raise_to_all_awaited.ensures.before)
