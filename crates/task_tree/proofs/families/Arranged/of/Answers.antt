use Rattle.std.proofs.lemmas.Result.{err_from_is_err_and}
use Rattle.task_tree.proofs.ArrangedLemmas.{memory_arranged}
use Rattle.task_tree.proofs.families.Arranged.of.Goals as goal

pub returns-in_err-family-clause-memory_alone : goal.returns-in_err-family-clause-memory_alone
returns-in_err-family-clause-memory_alone c =
    let rs = c.args.trace.now.records in
    let p =
    err_from_is_err_and c.from_residual-in_err-family.result c.from_residual-in_err-family.ensures.1 in
    rw (p.1, p.2)
    (memory_arranged rs c.in_ok-trace.trace.records c.in_err-family.field-0.0 c.in_ok-trace.ensures.records
    c.requires.once c.requires.rooted c.in_err-family.ensures.fault)
