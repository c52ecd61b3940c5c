use Rattle.std.proofs.Common.{◌≡◌, ◌+◌, ◌≤◌, ◌∙◌, ◌<◌, take, length, arith, sym, ap, true, false}
use Rattle.std.specs.Prelude.{is_some}
use Rattle.ompt_events.specs.Limits.{max_tasks}
use Rattle.ompt_events.specs.Traces.{FitsIn, tasks_in}
use Rattle.ompt_events.proofs.TraceLemmas.{IsTraceOf-more, IsTraceOf-unfit, tasks_in-made, tasks_in-other}
use Rattle.ompt_events.proofs.trace.first_refused.Goals as goal
use Rattle.ompt_events.proofs.trace.first_refused.Goals.{then-is_some+else-tasks-ge-MAX_TASKS, else-is_some}

pub loop-at-preserved : goal.loop-at-preserved
loop-at-preserved c =
    let rs = c.args.records.now in
    let at = c.loop-at.at in
    let read = c.index-records-at.is in
    let within : at < length rs = c.loop-at-test.true in
    let fits : FitsIn c.args.version c.index-records-at.result =
    c.fits_in.ensures.0 c.if-not-fits_in.false in
    elim c.if-is_some.branch [
      | then-is_some+else-tasks-ge-MAX_TASKS w ↦
          let more : tasks_in (take (at + 1) rs) ≡ tasks_in (take at rs) + 1 =
          tasks_in-made rs at c.index-records-at.result within read
          (ap is_some (sym c.made.ensures) ∙ sym c.is_some.ensures ∙ w.if-is_some.true) in
          let few : tasks_in (take (at + 1) rs) ≤ max_tasks = omega arith in
          record {
            counted = omega arith;
            sound =
                IsTraceOf-more c.args.version rs at c.index-records-at.result within read
                c.loop-at.invariant.sound c.if-at-ge-MAX_RECORDS.false fits c.read_numbers.ensures few;
          }
      | else-is_some w ↦
          let same : tasks_in (take (at + 1) rs) ≡ tasks_in (take at rs) =
          tasks_in-other rs at c.index-records-at.result within read
          (ap is_some (sym c.made.ensures) ∙ sym c.is_some.ensures ∙ w.if-is_some.false) in
          let few : tasks_in (take (at + 1) rs) ≤ max_tasks =
          rw same c.loop-at.invariant.sound.is_trace.few_tasks in
          record {
            counted = omega arith;
            sound =
                IsTraceOf-more c.args.version rs at c.index-records-at.result within read
                c.loop-at.invariant.sound c.if-at-ge-MAX_RECORDS.false fits c.read_numbers.ensures few;
          }
    ]

pub returns-then-not-fits_in : goal.returns-then-not-fits_in
returns-then-not-fits_in c = record {
  within = c.loop-at-test.true;
  before = c.loop-at.invariant.sound;
  refused =
      IsTraceOf-unfit c.args.version c.args.records.now c.loop-at.at c.index-records-at.result
      c.loop-at-test.true c.index-records-at.is
      (λ fits.
      let is : false ≡ true = sym c.if-not-fits_in.true ∙ c.fits_in.ensures.1 fits in cc);
}
