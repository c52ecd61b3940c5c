use Rattle.std.proofs.lemmas.Result.{err_from_is_err_and}
use Rattle.ompt_events.specs.declared.cause.Cause.TheVariants.{CreatedTwice}
use Rattle.task_tree.proofs.RootlessLemmas.{free_memory}
use Rattle.task_tree.proofs.rootless.rootless_records.Goals as goal

pub returns-in_err-tables-clause-memory_alone : goal.returns-in_err-tables-clause-memory_alone
returns-in_err-tables-clause-memory_alone c =
    let p = err_from_is_err_and c.from_residual.result c.from_residual.ensures.1 in
    rw (p.1, p.2)
    (free_memory c.args.trace.now.records CreatedTwice c.in_err-tables.field-0.0 c.requires
    c.in_err-tables.ensures.fault)
