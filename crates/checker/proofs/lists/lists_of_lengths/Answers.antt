use Rattle.std.proofs.Common.{◌≡◌, ◌∙◌, ◌+◌, ◌-◌, length, ap, arith}
use Rattle.checker.specs.Merge.{named_length}
use Rattle.checker.proofs.ListsLemmas.{length_within, names_length}
use Rattle.checker.proofs.lists.lists_of_lengths.Goals as goal

pub loop-step-init : goal.loop-step-init
loop-step-init c =
    let rs = c.args.makers.now.run.records in
    let count = c.len-count.ensures.value ∙ ap (λ r. length r.records) c.run-run.ensures.value in
    let new = rw count at c.in_ok-lists.ensures.lists in
    record {
      keys = c.in_ok-lists.ensures.keys ∙ ap (λ l. length l + 1) c.places.ensures;
      lists = λ from is. let end : from ≡ length rs = omega (arith, is) in rw end (new (named_length rs));
      rising = rw count at c.in_ok-lists.ensures.rising;
    }

pub put_first-requires-clause-key : goal.put_first-requires-clause-key
put_first-requires-clause-key c =
    let rs = c.args.makers.now.run.records in
    let at = c.len-count.result - 1 - c.loop-step.step in
    let inside = c.loop-step-test.true in
    let count = c.len-count.ensures.value ∙ ap (λ r. length r.records) c.run-run.ensures.value in
    let ledger = c.run-run.ensures.is_ledger in
    let names =
    names_length rs at c.seen.result (omega (arith, inside, count))
    (rw c.run-run.ensures.value at c.seen.ensures) in
    let most = length_within rs at c.seen.result ledger.reached names in
    let len = c.loop-step.invariant.keys in
    let entries = ledger.entries in
    omega (arith, most, len, entries)

pub loop-step-preserved : goal.loop-step-preserved
loop-step-preserved c =
    let rs = c.args.makers.now.run.records in
    let at = c.len-count.result - 1 - c.loop-step.step in
    let inside = c.loop-step-test.true in
    let count = c.len-count.ensures.value ∙ ap (λ r. length r.records) c.run-run.ensures.value in
    let names =
    names_length rs at c.seen.result (omega (arith, inside, count))
    (rw c.run-run.ensures.value at c.seen.ensures) in
    let was = c.loop-step.invariant.lists (at + 1) (omega (arith, inside, count)) in
    let more =
    c.put_first.ensures.lists (named_length rs) (length rs) names c.loop-step.invariant.rising was in
    record {
      keys = c.put_first.ensures.keys ∙ c.loop-step.invariant.keys;
      lists = λ from is. let here : from ≡ at = omega (arith, is, inside, count) in rw here more.0;
      rising = more.1;
    }
