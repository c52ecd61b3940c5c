use Rattle.std.proofs.Common.{◌∙◌, subst}
use Rattle.ompt_events.specs.States.{all_moves_of}
use Rattle.task_tree.specs.Runs.{RunView}
use Rattle.task_states.specs.Progress.{HasCome}
use Rattle.task_states.proofs.StateLemmas.{refused_all}
use Rattle.task_states.proofs.refusals.refused_moves.Goals as goal

pub returns-clause-shown : goal.returns-clause-shown
returns-clause-shown c =
    let run = c.args.run.now in
    let progress = c.in_ok-progress.progress in
    let P : RunView → Type 0 = λ r. HasCome r.records r.family.tasks (all_moves_of r.records) progress in
    refused_all run.records run.family progress c.in_ok-shown.shown c.len.ensures.is_run.family
    (subst P c.in_ok-schedules.ensures.run c.in_ok-progress.ensures.come)
    (c.in_ok-progress.ensures.marks ∙ c.len.ensures.value) (rw c.marks.ensures at c.in_ok-shown.ensures)
