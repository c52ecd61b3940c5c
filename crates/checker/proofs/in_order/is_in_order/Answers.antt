use Rattle.std.proofs.Common.{◌≡◌, ◌∙◌, ℕ, ◌<◌, ◌≤◌, ◌+◌, List, length, Some, refl, sym, ap, arith}
use Rattle.std.proofs.Common.{below_more}
use Rattle.std.specs.Prelude.{is_some, cond}
use Rattle.ompt_events.specs.declared.records.Record.{Record}
use Rattle.ompt_events.specs.Records.{finish}
use Rattle.ompt_events.specs.Places.{at, thread_at, seen_at}
use Rattle.checker.specs.InOrder.{AreInOrder, FitsBehind}
use Rattle.checker.proofs.LengthLemmas.{known_start, known_more, not_behind, free_of_back}
use Rattle.checker.proofs.ScheduleLemmas.{steps_less, waits_within}
use Rattle.checker.proofs.InOrderLemmas.{no_last, fit_more, entries_by_known, entries_count_more}
use Rattle.checker.proofs.InOrderLemmas.{entries_most}
use Rattle.checker.proofs.InOrderLemmas.{awaited_more, AllFit, fit_once, fit_reached, fit_entered}
use Rattle.checker.proofs.in_order.is_in_order.Goals as goal

pub loop-at-init : goal.loop-at-init
loop-at-init c = record {
  so_far = record {
    count = refl;
    short = omega arith;
    fit = λ i below. absurd (omega (arith, below));
    awaited = λ i place below waits. absurd (omega (arith, below));
    is_known = known_start c.args.run.now.records;
    free = λ k below is. absurd (omega (arith, below));
  };
  lasts = rw c.new-lasts.ensures.items (no_last c.args.run.now.records c.args.run.now.family.tasks);
}

pub loop-at-preserved : goal.loop-at-preserved
loop-at-preserved c =
    let rs = c.args.run.now.records in
    let i = c.loop-at.at in
    let within : i < length rs = rw c.len-at-end.ensures.value at c.loop-at-test.true in
    let was = c.loop-at.invariant.so_far in
    let own : thread_at rs i ≡ Some c.from-thread.result =
    c.thread.ensures ∙ ap Some (sym c.from-thread.ensures) in
    let seen : seen_at rs i ≡ c.from-seen.result = sym c.seen.ensures ∙ sym c.from-seen.ensures in
    let more = c.if-seen-known.false in
    let fits : FitsBehind rs i c.loop-at.entries =
    c.fits_behind.ensures c.if-not-fits_behind.false rs i (sym seen) c.known_after-after.ensures in
    let behind =
    entries_by_known rs i c.known_after-after.result c.loop-at.entries c.known_after-after.ensures fits in
    let next : c.max-entries.result
    ≡ cond (is_some (at finish rs i)) (c.loop-at.entries + 1) c.loop-at.entries =
    c.max-entries.ensures ∙ behind in
    let follows = c.in_ok-follows_awaited.ensures.follows c.if-not-branch.false in
    record {
      so_far = record {
        count = entries_count_more rs i c.loop-at.entries c.max-entries.result within was.count next;
        short =
            let step = entries_most rs i c.loop-at.entries c.max-entries.result next in
            let before = was.short in omega (arith, step, before);
        fit = fit_more rs i c.loop-at.entries was.count fits was.fit;
        awaited = awaited_more rs i was.awaited (λ place waits. (follows place waits).0);
        is_known = known_more rs i c.from-thread.result c.known_after-after.result c.loop-at.known own
            (let low = c.from-thread.ensures in omega (arith, low)) c.known_after-after.ensures
            (omega (arith, more, seen)) was.is_known;
        free =
            below_more _ _ was.free (not_behind rs i c.from-thread.result c.loop-at.known c.requires own
            (omega (arith, more, seen))
            (λ (place, waits, less). let low = (follows place waits).1 in omega (arith, low, less))
            was.is_known);
      };
      lasts = c.in_ok-follows_awaited.ensures.lasts;
    }

all_fit : (rs : List Record) (n entries : ℕ) (known : List ℕ) → length rs ≤ n → AreInOrder rs n entries known
    → AllFit rs
all_fit rs n entries known end are i below = are.fit i (omega (arith, end, below))

pub returns-clause-steps : goal.returns-clause-steps
returns-clause-steps c = λ _.
    let rs = c.args.run.now.records in
    let fit =
    all_fit rs c.loop-at.at c.loop-at.entries c.loop-at.known
    (let end = rw c.len-at-end.ensures.value at c.loop-at-test.false in omega (arith, end))
    c.loop-at.invariant.so_far in
    steps_less rs c.requires
    (λ i place waits.
    c.loop-at.invariant.so_far.awaited i place
    (let within = waits_within rs i place waits in
    let end = rw c.len-at-end.ensures.value at c.loop-at-test.false in omega (arith, within, end))
    waits)
    (fit_entered rs fit)

pub returns-clause-once : goal.returns-clause-once
returns-clause-once c =
    λ _.
    fit_once c.args.run.now.records
    (all_fit c.args.run.now.records c.loop-at.at c.loop-at.entries c.loop-at.known
    (let end = rw c.len-at-end.ensures.value at c.loop-at-test.false in omega (arith, end))
    c.loop-at.invariant.so_far)

pub returns-clause-reached : goal.returns-clause-reached
returns-clause-reached c =
    λ _.
    fit_reached c.args.run.now.records
    (all_fit c.args.run.now.records c.loop-at.at c.loop-at.entries c.loop-at.known
    (let end = rw c.len-at-end.ensures.value at c.loop-at-test.false in omega (arith, end))
    c.loop-at.invariant.so_far)

pub returns-clause-rise : goal.returns-clause-rise
returns-clause-rise c =
    λ _.
    free_of_back c.args.run.now.records c.loop-at.at c.loop-at.invariant.so_far.free
    (let end = rw c.len-at-end.ensures.value at c.loop-at-test.false in omega (arith, end))
