use Rattle.std.proofs.Common.{◌≡◌, ◌∙◌, get_or, sym, ap, subst}
use Rattle.std.proofs.lemmas.Option.{slice_get-get_or}
use Rattle.std.proofs.lemmas.Result.{IfOk-weaker}
use Rattle.std.specs.Prelude.{replicate, slice_get}
use Rattle.ompt_events.specs.Records.{begun_initial, made}
use Rattle.ompt_events.specs.Places.{at}
use Rattle.task_tree.specs.Runs.{RunView}
use Rattle.task_tree.specs.Subjects.{Calls}
use Rattle.teams.specs.Rosters.{AreFirstSlots, own_slot, empty}
use Rattle.teams.proofs.CallLemmas.{called_there, never_called}
use Rattle.teams.proofs.RosterLemmas.{initial_there, not_initial_there}
use Rattle.teams.proofs.rosters.empty_roster.Goals as goal

pub returns-then-is_some : goal.returns-then-is_some
returns-then-is_some c =
    let tables = c.args.tables.now in
    let rs = tables.run.records in
    let tasks = tables.run.family.tasks in
    let place = c.made_at.result in
    let task = get_or tasks c.args.index 0 in
    let is_task = slice_get-get_or tasks c.args.index 0 c.requires in
    let P : RunView → Type 0 = λ r. at made r.records place ≡ slice_get r.family.tasks c.args.index in
    let Q : RunView → Type 0 =
    λ r. Calls r.family.tasks (at begun_initial r.records place) c.begun_initial.result in
    let is_made = subst P c.run-run.ensures.value c.made_at.ensures ∙ is_task in
    let begins =
    called_there tasks (at begun_initial rs place) c.begun_initial.result
    (subst Q c.run-run.ensures.value c.begun_initial.ensures) (sym c.if-is_some.ensures) in
    IfOk-weaker c.same_slots.result (λ slots. slots.items ≡ replicate 1 c.some.result)
    (λ slots. AreFirstSlots rs tasks tables.sizes c.args.index slots.items)
    (λ slots is.
    own_slot task is_task (initial_there rs place task begins.0 is_made begins.1)
    (is ∙ ap (λ s. replicate 1 s) c.some.ensures))
    c.same_slots.ensures

pub returns-else-is_some : goal.returns-else-is_some
returns-else-is_some c =
    let tables = c.args.tables.now in
    let rs = tables.run.records in
    let tasks = tables.run.family.tasks in
    let place = c.made_at.result in
    let size = c.size.result in
    let task = get_or tasks c.args.index 0 in
    let is_task = slice_get-get_or tasks c.args.index 0 c.requires in
    let P : RunView → Type 0 = λ r. at made r.records place ≡ slice_get r.family.tasks c.args.index in
    let Q : RunView → Type 0 =
    λ r. Calls r.family.tasks (at begun_initial r.records place) c.begun_initial.result in
    let is_made = subst P c.run-run.ensures.value c.made_at.ensures ∙ is_task in
    let none =
    never_called tasks (at begun_initial rs place) c.begun_initial.result
    (subst Q c.run-run.ensures.value c.begun_initial.ensures) (sym c.if-is_some.ensures) in
    IfOk-weaker c.same_slots-else-is_some.result (λ slots. slots.items ≡ replicate size c.none.result)
    (λ slots. AreFirstSlots rs tasks tables.sizes c.args.index slots.items)
    (λ slots is.
    empty task size is_task
    (not_initial_there rs place task c.run-run.ensures.are_tables.run.family.once is_made none)
    c.size.ensures (is ∙ ap (λ s. replicate size s) c.none.ensures))
    c.same_slots-else-is_some.ensures
