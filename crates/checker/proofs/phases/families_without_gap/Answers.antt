use Rattle.std.proofs.Common.{[], ◌∷◌, refl}
use Rattle.std.proofs.lemmas.Result.{err_from_is_err_and}
use Rattle.ompt_events.specs.declared.cause.Cause.TheVariants.{SeqGap, CreatedTwice, Rootless}
use Rattle.checker.proofs.PhaseLemmas.{beyond, fault_shown, least_more, one_clear, only_clear}
use Rattle.checker.proofs.phases.families_without_gap.Goals as goal

pub returns-in_err-families-clause-least : goal.returns-in_err-families-clause-least
returns-in_err-families-clause-least c =
    let rs = c.args.trace.now.records in
    let p = err_from_is_err_and c.from_residual.result c.from_residual.ensures.1 in
    rw (p.1, p.2)
    (least_more rs (SeqGap ∷ []) (CreatedTwice ∷ Rootless ∷ []) (beyond Rootless)
    c.in_err-families.field-0.0 refl (only_clear rs SeqGap c.requires.gapless)
    (fault_shown rs (CreatedTwice ∷ Rootless ∷ []) c.in_err-families.field-0.0 refl
    (rw c.in_err-families.was at c.requires.fault)))

pub returns-clause-clear : goal.returns-clause-clear
returns-clause-clear c =
    let rs = c.args.trace.now.records in
    let file = (rw c.in_ok-families.was at c.requires.families).file in
    one_clear rs SeqGap (CreatedTwice ∷ Rootless ∷ []) c.requires.gapless
    (one_clear rs CreatedTwice (Rootless ∷ []) file.once (only_clear rs Rootless file.rooted))
