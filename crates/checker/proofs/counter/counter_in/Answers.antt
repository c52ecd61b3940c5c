use Rattle.std.proofs.Common.{◌≡◌, ◌∙◌, length, ap, sym, arith}
use Rattle.std.proofs.lemmas.Bool.{false≢true}
use Rattle.task_tree.specs.Runs.{RunView}
use Rattle.checker.specs.Readings.{by_task}
use Rattle.checker.proofs.MissedLemmas.{unfinished_by, required_within}
use Rattle.checker.proofs.CounterLemmas.{task_counter}
use Rattle.checker.proofs.ReadingLemmas.{of_tasks}
use Rattle.checker.proofs.counter.counter_in.Goals as goal

-- no task must be complete past the last record
pub returns-then-at-len-clause-counter : goal.returns-then-at-len-clause-counter
returns-then-at-len-clause-counter c = λ _ missed.
    let rs = c.args.clear.now.run.records in
    let same : c.len.result ≡ length rs =
    c.len.ensures.value
    ∙ ap (λ (r : RunView). length r.records) (c.run.ensures.value ∙ c.sound.ensures.run) in
    let within = required_within (by_task rs) c.args.at c.args.task (of_tasks rs) missed.required in
    let past = c.if-at-len.true in
    absurd (omega (arith, same, within, past))

pub returns-then-not-branch-clause-counter : goal.returns-then-not-branch-clause-counter
returns-then-not-branch-clause-counter c = λ _ missed.
    let is = unfinished_by (by_task c.args.clear.now.run.records) c.args.at c.args.task missed in
    false≢true (sym c.if-not-branch.true ∙ c.in_ok-is_unfinished.ensures.unfinished.1 is)

pub returns-clause-counter : goal.returns-clause-counter
returns-clause-counter c =
    let clear = c.sound.ensures.is_clear in
    let counter = c.in_ok-counter_of.ensures in
    task_counter c.args.clear.now c.args.at c.args.task c.in_ok-counter_of.field-0 clear counter.linearization
    counter.earliest (c.in_ok-is_unfinished.ensures.unfinished.0 c.if-not-branch.false)
