use Rattle.std.proofs.Common.{◌∙◌, Some, refl, sym, subst, arith, inl, inr}
use Rattle.std.proofs.lemmas.Bool.{false≢true}
use Rattle.std.proofs.lemmas.Result.{IfOk-weaker}
use Rattle.std.specs.Prelude.{◌≡◌, ◌↔◌, IfOk, IsTrue, slice_get}
use Rattle.ompt_events.specs.declared.cause.Cause.TheVariants.{EntryTwice, LengthAhead}
use Rattle.task_tree.specs.Runs.{RunView}
use Rattle.task_tree.specs.Own.{OwnView}
use Rattle.task_tree.proofs.ShownLemmas.{own_long}
use Rattle.wait_coverage.specs.Waits.{IsCoveredUnfinished}
use Rattle.checker.specs.Readings.{by_task}
use Rattle.checker.specs.Verdicts.{IsCoveredUnfinishedBy, IsUnfinished}
use Rattle.checker.specs.Starts.{IsPredecessorUnfinished}
use Rattle.checker.proofs.VerdictLemmas.{covered_unfinished, late_unfinished, unfinished_cases}
use Rattle.checker.proofs.ReadingLemmas.{unfinished_reported}
use Rattle.checker.proofs.counter.is_unfinished.Goals as goal

pub number-requires : goal.number-requires
number-requires c =
    let view = c.args.clear.now in
    rw (
      c.own.ensures.value,
      c.sound-sound.ensures.own,
      own_long view.run.records view.own c.sound-sound.ensures.is_clear.one.of_file,
    )
    c.requires

pub of-requires-clause-once : goal.of-requires-clause-once
of-requires-clause-once c =
    rw c.sound-sound.ensures.run
    (c.sound-sound.ensures.is_clear.well_formed EntryTwice (13, omega arith, refl))

pub of-requires-clause-reached : goal.of-requires-clause-reached
of-requires-clause-reached c =
    rw c.sound-sound.ensures.run
    (c.sound-sound.ensures.is_clear.well_formed LengthAhead (14, omega arith, refl))

pub returns-then-branch-clause-unfinished : goal.returns-then-branch-clause-unfinished
returns-then-branch-clause-unfinished c =
    let view = c.args.clear.now in
    let Stands : OwnView → Type 0 = λ own. slice_get own.places c.number.result ≡ Some c.args.at in
    let Tells : OwnView → Type 0 =
    λ own.
    IsTrue c.in_ok-covers_unfinished.field-0
    ↔ IsCoveredUnfinished own.run.records c.number.result c.args.task in
    let stands = subst Stands (c.own.ensures.value ∙ c.sound-sound.ensures.own) c.number.ensures.value in
    let known = c.known-known.ensures.own in
    let tells =
    unfinished_reported view c.number.result c.args.at c.args.task c.in_ok-covers_unfinished.field-0
    c.sound-sound.ensures.is_clear stands
    (subst Tells known (c.in_ok-covers_unfinished.ensures.unfinished c.known-known.ensures.done)) in (
      (λ _. covered_unfinished (by_task view.run.records) c.args.at c.args.task (tells.0 c.if-branch.true)),
      (λ _. refl),
    )

pub returns-clause-unfinished : goal.returns-clause-unfinished
returns-clause-unfinished c =
    let view = c.args.clear.now in
    let rs = view.run.records in
    let at = c.args.at in
    let task = c.args.task in
    let Stands : OwnView → Type 0 = λ own. slice_get own.places c.number.result ≡ Some at in
    let Tells : OwnView → Type 0 =
    λ own.
    IsTrue c.in_ok-covers_unfinished.field-0 ↔ IsCoveredUnfinished own.run.records c.number.result task in
    let TellsLate : RunView → Type 0 =
    λ run. IfOk c.is_late.result (λ found. IsTrue found ↔ IsPredecessorUnfinished run.records at task) in
    let stands = subst Stands (c.own.ensures.value ∙ c.sound-sound.ensures.own) c.number.ensures.value in
    let known = c.known-known.ensures.own in
    let tells =
    unfinished_reported view c.number.result at task c.in_ok-covers_unfinished.field-0
    c.sound-sound.ensures.is_clear stands
    (subst Tells known (c.in_ok-covers_unfinished.ensures.unfinished c.known-known.ensures.done)) in
    let closed : IsCoveredUnfinishedBy (by_task rs) at task → ⊥ =
    λ is. false≢true (sym c.if-branch.false ∙ tells.1 is) in
    IfOk-weaker c.is_late.result (λ found. IsTrue found ↔ IsPredecessorUnfinished rs at task)
    (λ found. IsTrue found ↔ IsUnfinished (by_task rs) at task)
    (λ found late. (
      (λ yes. late_unfinished (by_task rs) at task (late.0 yes)),
      (λ is. elim (unfinished_cases (by_task rs) at task is) [
        | inl is_unfinished ↦ absurd (closed is_unfinished)
        | inr is_late ↦ late.1 is_late
      ]),
    ))
    (subst TellsLate (c.in_ok-precedence.ensures.file ∙ c.sound-sound.ensures.run) c.is_late.ensures.late)
