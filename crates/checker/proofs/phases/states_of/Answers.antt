use Rattle.std.proofs.lemmas.Result.{err_from_is_err_and}
use Rattle.checker.proofs.PhaseLemmas.{states_clear}
use Rattle.checker.proofs.phases.states_of.Goals as goal

pub in_run-requires-clause-own : goal.in_run-requires-clause-own
in_run-requires-clause-own c = rw (c.run-run.ensures.value, c.own-own.ensures.value) c.own-own.ensures.is_own

pub in_run-requires-clause-gap : goal.in_run-requires-clause-gap
in_run-requires-clause-gap c = rw c.run-run.ensures.value c.requires.gap

pub returns-in_err-states-clause-fault : goal.returns-in_err-states-clause-fault
returns-in_err-states-clause-fault c =
    let p = err_from_is_err_and c.from_residual.result c.from_residual.ensures.1 in
    rw (p.1, p.2) (rw c.run-run.ensures.value at c.in_err-states.ensures.fault)

pub returns-clause-states : goal.returns-clause-states
returns-clause-states c =
    let view = c.args.runs.now in
    let states = c.in_ok-states.ensures in
    record {
      of_run = rw c.run-run.ensures.value at states.run;
      of_own = rw c.own-own.ensures.value at states.own;
      are = states.states;
      clear =
          states_clear view.run.records view.own c.own-own.ensures.is_own
          (rw c.run-run.ensures.value at states.current) (rw c.run-run.ensures.value at states.stay)
          (rw c.run-run.ensures.value at states.gapless) (rw c.run-run.ensures.value at states.ordered)
          (rw c.own-own.ensures.value at states.closed);
    }
