use Rattle.std.proofs.Common.{[], ◌∷◌}
use Rattle.std.proofs.lemmas.Result.{err_from_is_err_and}
use Rattle.ompt_events.specs.declared.cause.Cause.TheVariants.{EntryTwice, LengthAhead}
use Rattle.ompt_events.specs.Causes.{IsFreeOf}
use Rattle.ompt_events.specs.Faults.{FindsFirst}
use Rattle.ompt_events.proofs.FaultLemmas.{fault_next}
use Rattle.checker.proofs.EntryLemmas.{repeat_fault}
use Rattle.checker.proofs.makers.Makers.in_run.Goals as goal

pub returns-in_err-exclude-clause-fault : goal.returns-in_err-exclude-clause-fault
returns-in_err-exclude-clause-fault c =
    let p =
    err_from_is_err_and c.from_residual-in_err-exclude.result c.from_residual-in_err-exclude.ensures.1 in
    let rs = c.args.run.now.records in
    let finds : FindsFirst rs EntryTwice c.first.result =
    c.first.ensures.found rs EntryTwice c.in_ok-places.ensures.repeats in
    rw (p.1, p.2) (repeat_fault rs c.in_err-exclude.field-0.0 (c.in_err-exclude.ensures.fault rs finds))

pub returns-in_err-exclude-2-clause-fault : goal.returns-in_err-exclude-2-clause-fault
returns-in_err-exclude-2-clause-fault c =
    let p =
    err_from_is_err_and c.from_residual-in_err-exclude-2.result c.from_residual-in_err-exclude-2.ensures.1 in
    let rs = c.args.run.now.records in
    let repeats : FindsFirst rs EntryTwice c.first.result =
    c.first.ensures.found rs EntryTwice c.in_ok-places.ensures.repeats in
    let once : IsFreeOf rs EntryTwice = c.in_ok-exclude.ensures.free rs repeats in
    let ahead : FindsFirst rs LengthAhead c.first-3.result =
    c.first-3.ensures.found rs LengthAhead c.in_ok-find_ahead.ensures in
    rw (p.1, p.2)
    (fault_next rs EntryTwice (LengthAhead ∷ []) c.in_err-exclude-2.field-0.0 once
    (c.in_err-exclude-2.ensures.fault rs ahead))
