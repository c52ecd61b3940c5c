use Rattle.std.proofs.Common.{[], ◌∷◌, refl}
use Rattle.std.proofs.lemmas.Result.{err_from_is_err_and}
use Rattle.ompt_events.specs.declared.cause.Cause.TheVariants.{SeqGap}
use Rattle.checker.proofs.PhaseLemmas.{beyond, fault_shown, least_more, none_clear}
use Rattle.checker.proofs.phases.families_of.Goals as goal

pub returns-in_err-exclude-clause-least : goal.returns-in_err-exclude-clause-least
returns-in_err-exclude-clause-least g c =
    let rs = c.args.trace.now.records in
    let p = err_from_is_err_and c.from_residual.result c.from_residual.ensures.1 in
    rw (p.1, p.2)
    (least_more rs [] (SeqGap ∷ []) (beyond SeqGap) c.in_err-exclude.field-0.0 refl (none_clear rs)
    (fault_shown rs (SeqGap ∷ []) c.in_err-exclude.field-0.0 refl
    (c.in_err-exclude.ensures.fault rs c.gap_and_families-gap.ensures.gap)))
