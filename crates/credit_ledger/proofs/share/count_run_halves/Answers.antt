use Rattle.std.proofs.Common.{arith, ◌+◌}
use Rattle.credit_ledger.proofs.RunLemmas.{run-le, length-start_share-take, length-start_share-more}
use Rattle.credit_ledger.proofs.share.count_run_halves.Goals as goal

pub overflow_add-halves : goal.overflow_add-halves
overflow_add-halves c = omega (arith, run-le c.args.runs.now c.loop-run.run-index)

pub overflow_add-halves-in-loop-run : goal.overflow_add-halves-in-loop-run
overflow_add-halves-in-loop-run c =
    omega (
      arith,
      length-start_share-more c.args.runs.now c.loop-run.run-index c.loop-run-test.true,
      length-start_share-take c.args.runs.now (c.loop-run.run-index + 1),
    )
