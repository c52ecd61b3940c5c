use Rattle.std.proofs.Common.{◌∙◌, Some, sym, ap, subst}
use Rattle.std.proofs.lemmas.Option.{same_Some}
use Rattle.std.specs.Prelude.{slice_get}
use Rattle.credit_ledger.proofs.LockLemmas.{if_ok-map}
use Rattle.ompt_events.specs.Places.{at}
use Rattle.ompt_events.specs.Records.{region}
use Rattle.ompt_events.specs.Regions.{barrier_begun}
use Rattle.task_tree.specs.Runs.{RunView}
use Rattle.task_tree.specs.Subjects.{Calls}
use Rattle.task_tree.proofs.SubjectLemmas.{call_index, call_task}
use Rattle.teams.proofs.CallLemmas.{call_same, index_within, read_at}
use Rattle.wait_coverage.specs.Done.{records_of, tasks_of}
use Rattle.wait_coverage.proofs.MeetingLemmas.{met_other, met_more}
use Rattle.wait_coverage.proofs.meetings.meet.Goals as goal

pub returns-in_default : goal.returns-in_default
returns-in_default c =
    let found = barrier_begun (at region (records_of c.args.done.now) c.args.at) in
    let P : RunView → Type 0 =
    λ r. Calls r.family.tasks (barrier_begun (at region r.records c.args.at)) c.barrier_begun.result in
    let calls = subst P c.run.ensures.value c.barrier_begun.ensures in
    met_other c.args.done.now c.args.at c.args.meetings.now.items c.requires.met
    (λ index task team begun is in_team.
    let called = call_index (tasks_of c.args.done.now) found c.barrier_begun.result task calls begun in
    c.in_default.not-Some called.0 called.1)

pub team-requires : goal.team-requires
team-requires c =
    let found = barrier_begun (at region (records_of c.args.done.now) c.args.at) in
    let P : RunView → Type 0 =
    λ r. Calls r.family.tasks (barrier_begun (at region r.records c.args.at)) c.barrier_begun.result in
    let calls = subst P c.run.ensures.value c.barrier_begun.ensures in
    index_within (tasks_of c.args.done.now) c.args.done.now.teams.teams found c.barrier_begun.result
    c.in-Some.index calls c.in-Some.is c.run.ensures.is_done.teams.teams.all

pub returns-in_default-team : goal.returns-in_default-team
returns-in_default-team c =
    let done = c.args.done.now in
    let found = barrier_begun (at region (records_of done) c.args.at) in
    let P : RunView → Type 0 =
    λ r. Calls r.family.tasks (barrier_begun (at region r.records c.args.at)) c.barrier_begun.result in
    let calls = subst P c.run.ensures.value c.barrier_begun.ensures in
    met_other done c.args.at c.args.meetings.now.items c.requires.met
    (λ index task team begun is in_team.
    let mine =
    call_same (tasks_of done) found c.barrier_begun.result c.in-Some.index task calls c.in-Some.is
    begun in
    let same = c.run.ensures.is_done.teams.run.family.makers.apart index c.in-Some.index task is mine in
    c.in_default-team.not-Some team
    (same_Some c.team.result (Some team)
    (sym c.team.ensures ∙ ap (slice_get done.teams.teams) (sym same) ∙ in_team)))

pub returns : goal.returns
returns c =
    let done = c.args.done.now in
    let i = c.args.at in
    let found = barrier_begun (at region (records_of done) i) in
    let P : RunView → Type 0 =
    λ r. Calls r.family.tasks (barrier_begun (at region r.records c.args.at)) c.barrier_begun.result in
    let calls = subst P c.run.ensures.value c.barrier_begun.ensures in
    let teams = c.run.ensures.is_done.teams in
    let known = call_task (tasks_of done) found c.barrier_begun.result c.in-Some.index calls c.in-Some.is in
    let task = known.0 in
    let team = c.in-Some-team.team in
    let in_team = c.team.ensures ∙ ap Some c.in-Some-team.is in
    let reached = c.reach.new.rows.items in
    let row =
    read_at reached team c.index_mut.result.now c.in_ok-reach.ensures.made c.index_mut.ensures.value in
    let families = c.requires.limit task known.1 in
    let begins = teams.numbers.each i c.number.result c.number.ensures task known.1 in
    if_ok-map (
    λ unit raised.
    met_more done i c.in-Some.index task team c.number.result c.args.limit c.args.meetings.now.items
    reached c.index_mut.result.now _
    teams.run.family.makers.apart c.requires.met c.in_ok-reach.ensures.same known.2 in_team row begins
    families (c.requires.least task known.1) raised) c.raise.result c.raise.ensures
