use Rattle.std.proofs.Common.{◌≡◌, ◌∙◌, ℕ, Some, None, refl, sym, subst, arith}
use Rattle.std.proofs.lemmas.Option.{none-some, same_Some}
use Rattle.std.specs.Prelude.{slice_get}
use Rattle.ompt_events.specs.Records.{started, wait_completed}
use Rattle.ompt_events.specs.Places.{at}
use Rattle.ompt_events.proofs.TurnLemmas.{start_starts}
use Rattle.task_tree.proofs.SubjectLemmas.{call_task, call_none}
use Rattle.task_tree.proofs.OwnRunLemmas.{own_says}
use Rattle.task_tree.proofs.ShownLemmas.{own_long}
use Rattle.checker.specs.Starts.{PrecedenceView, IsPrecededByNone}
use Rattle.checker.proofs.LateLemmas.{dependent_start, dependent_wait, preceded_by_none}
use Rattle.checker.proofs.starts.Precedence.dependent_at.Goals as goal

pub number-number-requires : goal.number-number-requires
number-number-requires c =
    let within = rw (← c.self.view_is) at c.requires.within in
    let long = own_long c.self.inside.file.now.records c.self.inside.own.now c.self.invariant.of_file in
    omega (arith, within, long)

-- the same task starts at the record's number
pub returns-in_err-index-in-Some : goal.returns-in_err-index-in-Some
returns-in_err-index-in-Some c =
    let own = c.self.inside.own.now in
    let file = c.self.inside.file.now.records in
    let none =
    call_none own.run.family.tasks (at started own.run.records c.number-number.result) None
    (rw c.run.ensures.value at c.in_err-index-in-Some.ensures) refl in
    let (task, there, explicit, start) = c.in-Some.ensures in
    let says =
    own_says started file own c.self.invariant.of_file c.number-number.result c.args.at
    c.number-number.ensures.value in
    absurd (none-some task (sym none ∙ says ∙ start_starts file c.args.at task start))

pub returns-in_err-index-in-None : goal.returns-in_err-index-in-None
returns-in_err-index-in-None c =
    let own = c.self.inside.own.now in
    let file = c.self.inside.file.now.records in
    let none =
    call_none own.run.family.tasks (at wait_completed own.run.records c.number-number.result) None
    (rw c.run-in-None.ensures.value at c.in_err-index-in-None.ensures) refl in
    let says =
    own_says wait_completed file own c.self.invariant.of_file c.number-number.result c.args.at
    c.number-number.ensures.value in
    let P : PrecedenceView → Type 0 = λ v. IsPrecededByNone v.file.records c.args.at in
    rw c.from_residual-in_err-index-in-None.ensures
    (subst P c.self.view_is
    (preceded_by_none file c.args.at c.in-None.ensures
    (λ task completes. none-some task (sym none ∙ says ∙ completes))))

pub returns-in_ok-index-in-Some : goal.returns-in_ok-index-in-Some
returns-in_ok-index-in-Some c =
    let own = c.self.inside.own.now in
    let file = c.self.inside.file.now in
    let known = c.self.invariant in
    let found =
    call_task own.run.family.tasks (at started own.run.records c.number-number.result)
    (Some c.in_ok-index-in-Some.index) c.in_ok-index-in-Some.index
    (rw c.run.ensures.value at c.in_ok-index-in-Some.ensures) refl in
    let starts = c.in-Some.ensures in
    let says =
    own_says started file.records own known.of_file c.number-number.result c.args.at
    c.number-number.ensures.value in
    let same =
    same_Some found.0 starts.0
    (sym found.1 ∙ says ∙ start_starts file.records c.args.at starts.0 starts.3) in
    let P : ℕ → Type 0 = λ t. slice_get own.run.family.tasks c.in_ok-index-in-Some.index ≡ Some t in
    let bound = (rw (← c.self.view_is) at c.start_bound-bound.ensures) c.in-Some._first starts in
    rw (← c.self.view_is)
    (dependent_start file.records own file.family.tasks c.args.at c.in-Some._first
    c.in_ok-index-in-Some.index c.start_bound-bound.result known.file.trace known.of_file known.is_own
    starts (subst P same found.2) bound)

pub returns-in_ok-index-in-None : goal.returns-in_ok-index-in-None
returns-in_ok-index-in-None c =
    let own = c.self.inside.own.now in
    let file = c.self.inside.file.now in
    let known = c.self.invariant in
    let found =
    call_task own.run.family.tasks (at wait_completed own.run.records c.number-number.result)
    (Some c.in_ok-index-in-None.index) c.in_ok-index-in-None.index
    (rw c.run-in-None.ensures.value at c.in_ok-index-in-None.ensures) refl in
    let says =
    own_says wait_completed file.records own known.of_file c.number-number.result c.args.at
    c.number-number.ensures.value in
    rw (← c.self.view_is, c.seen-bound.ensures)
    (dependent_wait file.records own c.args.at c.in_ok-index-in-None.index found.0 known.file.trace
    known.of_file known.is_own found.2 (sym says ∙ found.1))
