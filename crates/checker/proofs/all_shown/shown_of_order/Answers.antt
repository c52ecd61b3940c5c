use Rattle.std.proofs.Common.{arith}
use Rattle.std.proofs.lemmas.Result.{err_from_is_err_and}
use Rattle.ompt_events.specs.declared.cause.Cause.TheVariants.{NoOrder}
use Rattle.checker.proofs.AllShownLemmas.{ledger_memory}
use Rattle.checker.proofs.all_shown.shown_of_order.Goals as goal

pub returns-in_err-makers-clause-memory_alone : goal.returns-in_err-makers-clause-memory_alone
returns-in_err-makers-clause-memory_alone c =
    let p = err_from_is_err_and c.from_residual.result c.from_residual.ensures.1 in
    rw (p.1, p.2)
    (ledger_memory c.args.run.now.records NoOrder c.in_err-makers.field-0.0 (omega arith) c.requires.clear
    c.in_err-makers.ensures.fault)
