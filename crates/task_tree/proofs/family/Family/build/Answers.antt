use Rattle.std.proofs.Common.{[], ◌∷◌}
use Rattle.std.proofs.lemmas.Result.{err_from_is_err_and}
use Rattle.ompt_events.specs.declared.cause.Cause.TheVariants.{CreatedTwice, Rootless}
use Rattle.ompt_events.proofs.FaultLemmas.{fault_next}
use Rattle.task_tree.proofs.FamilyLemmas.{in_file_order}
use Rattle.task_tree.proofs.family.Family.build.Goals as goal

pub returns-in_err-exclude-clause-fault : goal.returns-in_err-exclude-clause-fault
returns-in_err-exclude-clause-fault c =
    let p =
    err_from_is_err_and c.from_residual-in_err-exclude.result c.from_residual-in_err-exclude.ensures.1 in
    let rs = c.args.trace.now.records in
    rw (p.1, p.2)
    (fault_next rs CreatedTwice (Rootless ∷ []) c.in_err-exclude.field-0.0 c.in_ok-tables.ensures.tables.once
    (c.in_err-exclude.ensures.fault rs
    (c.first.ensures.found rs Rootless c.in_ok-unrooted.ensures)))

pub returns-clause-order : goal.returns-clause-order
returns-clause-order c =
    let tables = c.in_ok-tables.tables in
    in_file_order c.args.trace.now.records tables.tasks tables.places.items
    c.in_ok-tables.ensures.tables.makers
    c.in_ok-tables.ensures.tables.once
