use Rattle.std.proofs.Common.{◌≡◌, Some, None}
use Rattle.ompt_events.specs.Records.{started, discarded, schedule}
use Rattle.ompt_events.specs.Places.{at}
use Rattle.task_tree.specs.Runs.{IsSchedule, IsIndexOf}
use Rattle.task_tree.proofs.SubjectLemmas.{call_task, call_none}
use Rattle.task_states.specs.Progress.{and_move}
use Rattle.task_states.specs.declared.moves.Move.TheVariants as step
use Rattle.task_states.proofs.ProgressLemmas.{come_same}
use Rattle.task_states.proofs.PassLemmas.{discard_move, schedule_moves_at, discard_moves_at, no_moves_at}
use Rattle.task_states.proofs.progress.Progress.read.Goals as goal

pub returns-in-Some-clause-come : goal.returns-in-Some-clause-come
returns-in-Some-clause-come c = λ moves come.
    let run = c.args.origins.now in
    let i = c.args.at in
    let pass = c.args.pass in
    let event = c.in-Some.event in
    let is : IsSchedule run i event.status event.prior event.next =
    rw c.run-run.ensures.value at c.in-Some.ensures in
    let stopped = and_move pass run.records i (Some is.task) (step.Stopped event.status) moves in
    come_same run.records run.family.tasks
    (and_move pass run.records i (at started run.records i) step.Started stopped) _
    c.note_next-started.new.self
    (schedule_moves_at pass run.records i event.status is.task is.follower moves is.says)
    (c.note_next-started.ensures.come stopped (c.note-stopped.ensures.come is.task is.indexed moves come))

pub returns-in_default-discarded-clause-come : goal.returns-in_default-discarded-clause-come
returns-in_default-discarded-clause-come c = λ moves come.
    let run = c.args.origins.now in
    let i = c.args.at in
    let no_schedule : at schedule run.records i ≡ None = rw c.run-run.ensures.value at c.in_default.ensures in
    let calls : IsIndexOf run discarded i c.discarded.result =
    rw c.run-run.ensures.value at c.discarded.ensures in
    come_same run.records run.family.tasks moves _ c.args.self.now
    (no_moves_at c.args.pass run.records i moves c.requires.within no_schedule
    (call_none run.family.tasks _ c.discarded.result calls c.in_default-discarded.is))
    come

pub note-requires-clause-moves : goal.note-requires-clause-moves
note-requires-clause-moves c =
    let run = c.args.origins.now in
    let calls : IsIndexOf run discarded c.args.at c.discarded.result =
    rw c.run-run.ensures.value at c.discarded.ensures in
    discard_move run c.args.at c.in-Some-discarded.index c.discarded.result calls c.in-Some-discarded.is

pub returns-clause-come : goal.returns-clause-come
returns-clause-come c = λ moves come.
    let run = c.args.origins.now in
    let i = c.args.at in
    let calls : IsIndexOf run discarded i c.discarded.result =
    rw c.run-run.ensures.value at c.discarded.ensures in
    let (task, says, stands) =
    call_task run.family.tasks (at discarded run.records i) c.discarded.result c.in-Some-discarded.index
    calls c.in-Some-discarded.is in
    come_same run.records run.family.tasks
    (and_move c.args.pass run.records i (Some task) step.Discarded moves) _ c.note.new.self
    (discard_moves_at c.args.pass run.records i task moves says)
    (c.note.ensures.come task stands moves come)
