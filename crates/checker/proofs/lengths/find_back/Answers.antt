use Rattle.std.proofs.Common.{◌≡◌, ◌<◌, ◌∙◌, Some, length, sym, ap, arith, below_more}
use Rattle.std.proofs.lemmas.Bool.{false≢true}
use Rattle.ompt_events.specs.Places.{thread_at, seen_at}
use Rattle.ompt_events.specs.Causes.{IsBehind}
use Rattle.checker.proofs.LengthLemmas.{known_start, known_more, behind_known, behind_awaited, not_behind}
use Rattle.checker.proofs.LengthLemmas.{first_back, free_of_back}
use Rattle.task_tree.specs.Runs.{RunView}
use Rattle.checker.specs.Entries.{MakersView, IsLedger}
use Rattle.checker.specs.Schedule.{EachAwaitsOne}
use Rattle.checker.proofs.lengths.find_back.Goals as goal
use Rattle.checker.proofs.lengths.find_back.Goals.{then-precedes_awaited-via-then-precedes_awaited}
use Rattle.checker.proofs.lengths.find_back.Goals.{then-precedes_awaited-via-else-precedes_awaited+then-seen-known}

facts_of : (ledger : MakersView) (run : RunView) → run ≡ ledger.run → IsLedger ledger
    → EachAwaitsOne run.records
facts_of ledger run same is = rw same is.suspended.facts

pub loop-at-init : goal.loop-at-init
loop-at-init c = record {
  known = known_start c.run-run.result.now.records;
  free = λ k below is. absurd (omega (arith, below));
}

pub returns-then-precedes_awaited : goal.returns-then-precedes_awaited
returns-then-precedes_awaited c =
    let rs = c.run-run.result.now.records in
    let i = c.loop-at.at in
    let within : i < length rs = rw c.len-at-end.ensures.value at c.loop-at-test.true in
    let own : thread_at rs i ≡ Some c.from-thread.result =
    c.thread.ensures ∙ ap Some (sym c.from-thread.ensures) in
    let seen : seen_at rs i ≡ c.from-seen.result = sym c.seen.ensures ∙ sym c.from-seen.ensures in
    let behind : IsBehind rs i = elim c.then-precedes_awaited.branch [
      | then-precedes_awaited-via-then-precedes_awaited w ↦
          behind_awaited rs i
          (facts_of c.args.makers.now c.run-run.result.now c.run-run.ensures.value
          c.run-run.ensures.is_ledger)
          c.loop-at.invariant.free (c.precedes_awaited.ensures.0 w.if-precedes_awaited.true)
      | then-precedes_awaited-via-else-precedes_awaited+then-seen-known w ↦
          let less = w.if-seen-known.true in
          behind_known rs i c.from-thread.result c.loop-at.known within own (omega (arith, less, seen))
          c.loop-at.invariant.known
    ] in
    rw (← c.run-run.ensures.value) (first_back rs i within behind c.loop-at.invariant.free)

pub loop-at-preserved : goal.loop-at-preserved
loop-at-preserved c =
    let rs = c.run-run.result.now.records in
    let i = c.loop-at.at in
    let own : thread_at rs i ≡ Some c.from-thread.result =
    c.thread.ensures ∙ ap Some (sym c.from-thread.ensures) in
    let seen : seen_at rs i ≡ c.from-seen.result = sym c.seen.ensures ∙ sym c.from-seen.ensures in
    let more = c.if-seen-known.false in
    let facts =
    (facts_of c.args.makers.now c.run-run.result.now c.run-run.ensures.value
    c.run-run.ensures.is_ledger) in
    record {
      known =
          known_more rs i c.from-thread.result c.known_after-after.result c.loop-at.known own
          (let low = c.from-thread.ensures in omega (arith, low)) c.known_after-after.ensures
          (omega (arith, more, seen)) c.loop-at.invariant.known;
      free =
          below_more _ _ c.loop-at.invariant.free (not_behind rs i c.from-thread.result c.loop-at.known facts
          own (omega (arith, more, seen))
          (λ back. false≢true (sym c.if-precedes_awaited.false ∙ c.precedes_awaited.ensures.1 back))
          c.loop-at.invariant.known);
    }

pub returns : goal.returns
returns c =
    let end = rw c.len-at-end.ensures.value at c.loop-at-test.false in
    rw (← c.run-run.ensures.value)
    (free_of_back c.run-run.result.now.records c.loop-at.at c.loop-at.invariant.free (omega (arith, end)))
