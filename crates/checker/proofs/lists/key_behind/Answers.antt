use Rattle.std.proofs.Common.{◌+◌, ◌∙◌, ap, sym, Some, refl, arith}
use Rattle.std.proofs.lemmas.Option.{slice_get_within}
use Rattle.ompt_events.specs.Records.{created}
use Rattle.ompt_events.specs.Places.{at as says_at}
use Rattle.task_tree.proofs.SubjectLemmas.{call_task, call_none}
use Rattle.checker.proofs.ListsLemmas.{no_some}
use Rattle.checker.proofs.SuspensionLemmas.{created_key, slot_key, no_key}
use Rattle.checker.proofs.lists.key_behind.Goals as goal

pub returns-in-Some-clause-key : goal.returns-in-Some-clause-key
returns-in-Some-clause-key c =
    λ i awaits. (
      c.in-Some.index,
      refl,
      created_key c.args.run.now.records c.args.run.now.family.tasks c.args.suspensions.now.rows.items i
          c.args.at c.in-Some.index c.task_count-tasks.ensures.is_run.family.makers.apart
          c.in-Some.ensures awaits,
    )

pub returns-in-Some-clause-low : goal.returns-in-Some-clause-low
returns-in-Some-clause-low c =
    let tasks = c.args.run.now.family.tasks in
    let called =
    call_task tasks (says_at created c.args.run.now.records c.args.at) (Some c.in-Some.index)
    c.in-Some.index c.in-Some.ensures refl in
    let inside = slice_get_within tasks c.in-Some.index called.0 called.2 in
    omega (arith, inside)

pub returns-in_err-slot-clause-key : goal.returns-in_err-slot-clause-key
returns-in_err-slot-clause-key c = λ i awaits.
    absurd (no_key c.args.run.now.records c.args.run.now.family c.args.suspensions.now i c.args.at
    c.task_count-tasks.ensures.is_run.family c.requires.known
    (call_none c.args.run.now.family.tasks (says_at created c.args.run.now.records c.args.at) c.created.result
    c.created.ensures (no_some c.created.result c.in_default.not-Some))
    c.in_err-slot.ensures awaits)

pub returns-clause-key : goal.returns-clause-key
returns-clause-key c = λ i awaits.
    let rs = c.args.run.now.records in
    let tasks = c.args.run.now.family.tasks in
    let count = c.task_count-tasks.ensures.value in (
      c.task_count-tasks.result + c.in_ok-slot.slot,
      refl,
      slot_key rs tasks c.args.suspensions.now.rows.items i c.args.at c.in_ok-slot.slot c.requires.known.facts
          c.task_count-tasks.ensures.is_run.family.makers.apart c.in_ok-slot.ensures awaits
          ∙ ap (λ n. Some (n + c.in_ok-slot.slot)) (sym count),
    )
