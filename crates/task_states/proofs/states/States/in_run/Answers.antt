use Rattle.std.proofs.Common.{◌∙◌}
use Rattle.ompt_events.specs.declared.cause.Cause.TheVariants.{NotCurrent}
use Rattle.std.proofs.lemmas.Result.{err_from_is_err_and}
use Rattle.task_states.proofs.StateLemmas.{fault_current, fault_moved, fault_gap, fault_status, fault_region}
use Rattle.task_states.proofs.StateLemmas.{are_states}
use Rattle.task_states.proofs.states.States.in_run.Goals as goal

pub returns-in_err-exclude-clause-fault : goal.returns-in_err-exclude-clause-fault
returns-in_err-exclude-clause-fault c =
    let p =
    err_from_is_err_and c.from_residual-in_err-exclude.result c.from_residual-in_err-exclude.ensures.1 in
    let rs = c.args.run.now.records in
    rw (p.1, p.2)
    (fault_current rs c.in_err-exclude.field-0.0
    (c.in_err-exclude.ensures.fault rs (c.first.ensures.found rs NotCurrent c.in_ok-misfits.ensures)))

pub returns-in_err-schedules-clause-fault : goal.returns-in_err-schedules-clause-fault
returns-in_err-schedules-clause-fault c =
    let p =
    err_from_is_err_and c.from_residual-in_err-schedules.result
    c.from_residual-in_err-schedules.ensures.1 in
    rw (p.1, p.2)
    (fault_moved c.args.run.now.records c.in_err-schedules.field-0.0
    (c.in_ok-exclude.ensures.free c.args.run.now.records
    (c.first.ensures.found c.args.run.now.records NotCurrent c.in_ok-misfits.ensures))
    c.in_err-schedules.ensures.fault)

pub returns-in_err-exclude-2-clause-fault : goal.returns-in_err-exclude-2-clause-fault
returns-in_err-exclude-2-clause-fault c =
    let p =
    err_from_is_err_and c.from_residual-in_err-exclude-2.result c.from_residual-in_err-exclude-2.ensures.1 in
    let rs = c.args.run.now.records in
    rw (p.1, p.2)
    (fault_gap rs c.in_err-exclude-2.field-0.0 (c.in_ok-exclude.ensures.free c.args.run.now.records
    (c.first.ensures.found c.args.run.now.records NotCurrent c.in_ok-misfits.ensures))
    c.in_ok-schedules.ensures.free (c.in_err-exclude-2.ensures.fault rs c.requires.gap))

pub returns-in_err-states-clause-fault : goal.returns-in_err-states-clause-fault
returns-in_err-states-clause-fault c =
    let p =
    err_from_is_err_and c.from_residual-in_err-states.result c.from_residual-in_err-states.ensures.1 in
    rw (p.1, p.2)
    (fault_status c.args.run.now.records c.in_err-states.field-0.0
    (c.in_ok-exclude.ensures.free c.args.run.now.records
    (c.first.ensures.found c.args.run.now.records NotCurrent c.in_ok-misfits.ensures))
    c.in_ok-schedules.ensures.free
    (c.in_ok-exclude-2.ensures.free c.args.run.now.records c.requires.gap)
    (rw c.in_ok-schedules.ensures.run at c.in_err-states.ensures.fault))

pub returns-in_err-regions-clause-fault : goal.returns-in_err-regions-clause-fault
returns-in_err-regions-clause-fault c =
    let p =
    err_from_is_err_and c.from_residual-in_err-regions.result c.from_residual-in_err-regions.ensures.1 in
    rw (p.1, p.2)
    (fault_region c.args.run.now.records c.args.own.now c.in_err-regions.field-0.0 c.requires.own
    c.run-records.ensures.is_own.places (c.in_ok-exclude.ensures.free c.args.run.now.records
    (c.first.ensures.found c.args.run.now.records NotCurrent c.in_ok-misfits.ensures))
    c.in_ok-schedules.ensures.free
    (c.in_ok-exclude-2.ensures.free c.args.run.now.records c.requires.gap)
    (rw c.in_ok-schedules.ensures.run at c.in_ok-states.ensures.ordered)
    c.in_err-regions.ensures.fault)

pub invariant_of-result : goal.invariant_of-result
invariant_of-result c =
    rw (c.again.ensures, c.run.ensures.value, c.in_ok-schedules.ensures.run)
    (are_states c.in_ok-schedules.schedules c.args.run.now c.args.own.now c.in_ok-states.states.items
    c.in_ok-regions.regions c.in_ok-schedules.ensures.run c.run.ensures.is_run c.requires.own
    c.in_ok-states.ensures.all c.in_ok-states.ensures.states c.in_ok-regions.ensures.own
    c.in_ok-regions.ensures.regions)

pub returns-clause-states : goal.returns-clause-states
returns-clause-states c =
    rw (c.again.ensures, c.run.ensures.value, c.in_ok-schedules.ensures.run)
    (are_states c.in_ok-schedules.schedules c.args.run.now c.args.own.now c.in_ok-states.states.items
    c.in_ok-regions.regions c.in_ok-schedules.ensures.run c.run.ensures.is_run c.requires.own
    c.in_ok-states.ensures.all c.in_ok-states.ensures.states c.in_ok-regions.ensures.own
    c.in_ok-regions.ensures.regions)

pub returns-clause-run : goal.returns-clause-run
returns-clause-run c = c.again.ensures ∙ c.run.ensures.value ∙ c.in_ok-schedules.ensures.run
