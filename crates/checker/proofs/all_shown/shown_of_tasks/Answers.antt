use Rattle.std.proofs.lemmas.Result.{err_from_is_err_and}
use Rattle.checker.proofs.AllShownLemmas.{families_memory}
use Rattle.checker.proofs.all_shown.shown_of_tasks.Goals as goal

pub returns-in_err-families-clause-memory_alone : goal.returns-in_err-families-clause-memory_alone
returns-in_err-families-clause-memory_alone c =
    let p = err_from_is_err_and c.from_residual.result c.from_residual.ensures.1 in
    rw (p.1, p.2)
    (families_memory c.args.trace.now.records c.args.cause c.in_err-families.field-0.0 c.requires.late
    c.requires.clear c.in_err-families.ensures.fault)
