use Rattle.std.proofs.lemmas.Result.{err_from_is_err_and}
use Rattle.task_states.proofs.states.find_states.Goals as goal

pub returns-in_err-exclude-clause-fault : goal.returns-in_err-exclude-clause-fault
returns-in_err-exclude-clause-fault c =
    let p =
    err_from_is_err_and c.from_residual-in_err-exclude.result c.from_residual-in_err-exclude.ensures.1 in
    let rs = c.args.schedules.now.records in
    rw (p.1, p.2) (c.in_err-exclude.ensures.fault rs (rw c.refused.ensures c.in_ok-progress.ensures.refused))

pub returns-clause-ordered : goal.returns-clause-ordered
returns-clause-ordered c =
    c.in_ok-exclude.ensures.free c.args.schedules.now.records
    (rw c.refused.ensures c.in_ok-progress.ensures.refused)
