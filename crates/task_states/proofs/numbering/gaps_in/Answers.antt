use Rattle.std.proofs.Common.{◌≡◌, ◌<◌, ◌∙◌, length, sym, ap, arith, rules, get_or}
use Rattle.std.proofs.lemmas.List.{get_or-replicate}
use Rattle.std.proofs.lemmas.Option.{get_or_from_slice_get, same_Some}
use Rattle.std.specs.Prelude.{◌==◌, not, option_map}
use Rattle.ompt_events.specs.declared.records.Record.{Record}
use Rattle.ompt_events.specs.Causes.{HasSeqGap}
use Rattle.ompt_events.proofs.ListLemmas.{get_within}
use Rattle.ompt_events.proofs.PlaceLemmas.{thread_get}
use Rattle.ompt_events.proofs.ShownLemmas.{noted}
use Rattle.task_states.proofs.ListingLemmas.{none_yet}
use Rattle.task_states.proofs.NumberingLemmas.{counted_more, other_number, all_gaps}
use Rattle.task_states.proofs.numbering.gaps_in.Goals as goal

pub loop-at-init : goal.loop-at-init
loop-at-init c = record {
  threads = search rules;
  counted = λ t below. get_or-replicate 256 t 0 0 below;
  places = none_yet (HasSeqGap c.args.trace.now.records) c.none-shown.result c.none-shown.ensures;
}

pub loop-at-preserved : goal.loop-at-preserved
loop-at-preserved c =
    let rs = c.args.trace.now.records in
    let i = c.loop-at.at in
    let counts = c.loop-at.counts in
    let within : i < length rs = omega (arith, c.loop-at-test.true, c.len-at-end.ensures.value) in
    let there = get_within rs i within in
    let r = there.0 in
    let read : r ≡ get_or rs i r = sym (get_or_from_slice_get rs i r r there.1) in
    let own : r.thread ≡ c.from-thread.result =
    same_Some r.thread c.thread.result (sym (thread_get rs i r there.1) ∙ c.thread.ensures)
    ∙ sym c.from-thread.ensures in
    let number : r.seq ≡ c.seq.result =
    same_Some r.seq c.seq.result (sym (ap (option_map (λ (q : Record). q.seq)) there.1) ∙ c.seq.ensures) in
    let below : c.thread.result < 256 = search rules in
    let low : r.thread < 256 = omega (arith, own, below, c.from-thread.ensures) in
    let threads = c.loop-at.invariant.threads in
    let inside : r.thread < length counts = omega (arith, low, threads) in
    let count = get_or counts c.from-thread.result 0 in
    let counted = ap (λ t. get_or counts t 0) (sym own) ∙ c.loop-at.invariant.counted r.thread low in
    record {
      threads = search rules;
      counted = rw (sym own) (counted_more rs i r counts within read inside c.loop-at.invariant.counted);
      places =
          noted (HasSeqGap rs) i (not (c.seq.result == count)) c.loop-at.shown c.note.new.self
          (other_number rs i r c.seq.result count within read number counted) c.in_ok-note.ensures
          c.loop-at.invariant.places;
    }

pub returns : goal.returns
returns c =
    let rs = c.args.trace.now.records in
    let all : length rs ≡ c.loop-at.at =
    omega (arith, c.loop-at-test.false, c.loop-at.auto.at-end, c.len-at-end.ensures.value) in
    all_gaps rs c.loop-at.at c.loop-at.shown all c.loop-at.invariant.places
