use Rattle.std.proofs.Common.{length, ◌∙◌, ap, Some, refl, sym, subst, arith}
use Rattle.std.proofs.lemmas.Option.{slice_get_within}
use Rattle.ompt_events.specs.Places.{at as says_at}
use Rattle.task_tree.specs.Subjects.{Calls}
use Rattle.task_tree.proofs.SubjectLemmas.{call_task}
use Rattle.checker.specs.Schedule.{awaited, IsAwaitedAt}
use Rattle.checker.specs.declared.schedule.Awaited.{Awaited}
use Rattle.checker.specs.declared.schedule.Awaited.TheVariants.{Turn}
use Rattle.checker.proofs.ScheduleLemmas.{key_creation, key_turn}
use Rattle.checker.proofs.SuspensionLemmas.{slot_within}
use Rattle.checker.proofs.lists.key_at.Goals as goal

pub returns-in-Creation-clause-key : goal.returns-in-Creation-clause-key
returns-in-Creation-clause-key c =
    let P : Awaited → Type 0 = IsAwaitedAt c.args.run.now c.args.at in
    sym (key_creation c.args.run.now.records c.args.run.now.family.tasks c.args.suspensions.now.rows.items
    c.args.at c.in-Creation.index c.task_count-tasks.ensures.is_run.family.makers.apart
    (subst P c.in-Creation.is c.in_ok-index.ensures))

pub returns-in-Creation-clause-low : goal.returns-in-Creation-clause-low
returns-in-Creation-clause-low c =
    let P : Awaited → Type 0 = IsAwaitedAt c.args.run.now c.args.at in
    let tasks = c.args.run.now.family.tasks in
    let calls : Calls tasks (says_at awaited c.args.run.now.records c.args.at) (Some c.in-Creation.index) =
    subst P c.in-Creation.is c.in_ok-index.ensures in
    let called =
    call_task tasks (says_at awaited c.args.run.now.records c.args.at) (Some c.in-Creation.index)
    c.in-Creation.index calls refl in
    let inside = slice_get_within tasks c.in-Creation.index called.0 called.2 in
    omega (arith, inside)

pub returns-in-Turn-clause-key : goal.returns-in-Turn-clause-key
returns-in-Turn-clause-key c =
    let P : Awaited → Type 0 = IsAwaitedAt c.args.run.now c.args.at in
    let is : IsAwaitedAt c.args.run.now c.args.at (Turn c.in-Turn.begin) =
    subst P c.in-Turn.is c.in_ok-index.ensures in
    let count = c.task_count-tasks.ensures.value in
    let slot = c.slot_of.ensures in
    ap Some (omega (arith, count, slot))
    ∙ sym
    (key_turn c.args.run.now.records c.args.run.now.family.tasks c.args.suspensions.now.rows.items
    c.args.at c.in-Turn.begin.index c.in-Turn.begin.turn c.requires.known.facts
    c.task_count-tasks.ensures.is_run.family.makers.apart is.0 is.1)

pub slot_of-requires-clause-has : goal.slot_of-requires-clause-has
slot_of-requires-clause-has c =
    let P : Awaited → Type 0 = IsAwaitedAt c.args.run.now c.args.at in
    let is : IsAwaitedAt c.args.run.now c.args.at (Turn c.in-Turn.begin) =
    subst P c.in-Turn.is c.in_ok-index.ensures in
    c.requires.known.room c.args.at c.in-Turn.begin.index c.in-Turn.begin.turn is.0 is.1

pub slot_of-requires-clause-within : goal.slot_of-requires-clause-within
slot_of-requires-clause-within c =
    let P : Awaited → Type 0 = IsAwaitedAt c.args.run.now c.args.at in
    let is : IsAwaitedAt c.args.run.now c.args.at (Turn c.in-Turn.begin) =
    subst P c.in-Turn.is c.in_ok-index.ensures in
    slot_within c.args.suspensions.now.rows.items c.in-Turn.begin.index c.in-Turn.begin.turn
    (length c.args.suspensions.now.places.items)
    (c.requires.known.room c.args.at c.in-Turn.begin.index c.in-Turn.begin.turn is.0 is.1)
    c.requires.known.within

pub returns-in-Turn-clause-low : goal.returns-in-Turn-clause-low
returns-in-Turn-clause-low c =
    let P : Awaited → Type 0 = IsAwaitedAt c.args.run.now c.args.at in
    let is : IsAwaitedAt c.args.run.now c.args.at (Turn c.in-Turn.begin) =
    subst P c.in-Turn.is c.in_ok-index.ensures in
    let low =
    slot_within c.args.suspensions.now.rows.items c.in-Turn.begin.index c.in-Turn.begin.turn
    (length c.args.suspensions.now.places.items)
    (c.requires.known.room c.args.at c.in-Turn.begin.index c.in-Turn.begin.turn is.0 is.1)
    c.requires.known.within in
    let count = c.task_count-tasks.ensures.value in
    let slot = c.slot_of.ensures in
    omega (arith, low, count, slot)
