use Rattle.task_states.proofs.NestingLemmas.{initial_at}
use Rattle.task_states.proofs.nesting.is_initial.Goals as goal

pub returns : goal.returns
returns c =
    λ task stands.
    rw c.is_some.ensures
    (initial_at c.args.run.now c.args.index task c.made_at.result c.begun_initial.result
    c.requires.is_run c.made_at.ensures stands c.begun_initial.ensures)
