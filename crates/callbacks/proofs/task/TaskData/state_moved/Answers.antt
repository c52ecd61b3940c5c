use Rattle.std.proofs.Common.{◌∙◌, ap, Some}
use Rattle.ompt_events.specs.declared.state.State.{State}
use Rattle.ompt_events.specs.States as states
use Rattle.ompt_events.specs.States.{state_after}
use Rattle.task_states.specs.Progress.{the_move}
use Rattle.callbacks.specs.Tasks.{nature}
use Rattle.callbacks.proofs.task.TaskData.state_moved.Goals as goal

pub returns : goal.returns
returns c =
    c.after_move.ensures 0
    ∙ ap (λ (n : states.Nature). state_after n (Some c.state.result) (0, the_move c.args.step))
    c.nature.ensures
    ∙ ap (λ (s : State). state_after (nature c.args.self.now) (Some s) (0, the_move c.args.step))
    c.state.ensures
