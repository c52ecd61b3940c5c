use Rattle.task_states.proofs.HomeLemmas.{explicit_start_is}
use Rattle.task_states.proofs.homes.explicit_start.Goals as goal

pub returns-then-is_explicit : goal.returns-then-is_explicit
returns-then-is_explicit c =
    explicit_start_is c.args.run.now c.args.at c.in_ok-index.index c.started.result c.requires.is_run
    c.started.ensures c.in_ok-index.was
    (λ task is. (c.is_explicit.ensures task is).0 c.if-is_explicit.true)
