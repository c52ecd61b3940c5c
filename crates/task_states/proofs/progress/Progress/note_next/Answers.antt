use Rattle.std.proofs.Common.{◌≡◌, None}
use Rattle.ompt_events.specs.Records.{started}
use Rattle.ompt_events.specs.Places.{at}
use Rattle.task_tree.proofs.SubjectLemmas.{call_task, call_none}
use Rattle.task_states.specs.declared.moves.Move.TheVariants.{Started}
use Rattle.task_states.proofs.ProgressLemmas.{come_none}
use Rattle.task_states.proofs.PassLemmas.{start_move}
use Rattle.task_states.proofs.progress.Progress.note_next.Goals as goal

pub note-requires-clause-moves : goal.note-requires-clause-moves
note-requires-clause-moves c =
    start_move c.args.origins.now c.args.at c.in-Some.index c.args.next c.requires.is_run c.requires.starts
    c.in-Some.is

pub returns-clause-come : goal.returns-clause-come
returns-clause-come c = λ moves come.
    let (task, says, stands) =
    call_task c.args.origins.now.family.tasks _ c.args.next c.in-Some.index c.requires.starts
    c.in-Some.is in
    rw says (c.note.ensures.come task stands moves come)

pub returns-in_default-clause-come : goal.returns-in_default-clause-come
returns-in_default-clause-come c = λ moves come.
    let run = c.args.origins.now in
    let none : at started run.records c.args.at ≡ None =
    call_none run.family.tasks (at started run.records c.args.at) c.args.next c.requires.starts
    c.in_default.is in
    rw none
    (come_none c.args.pass run.records run.family.tasks c.args.at Started moves c.args.self.now come)
