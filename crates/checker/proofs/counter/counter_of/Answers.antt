use Rattle.std.proofs.Common.{[], ◌∷◌, refl, arith}
use Rattle.std.proofs.lemmas.Result.{err_from_is_err_and}
use Rattle.ompt_events.specs.declared.cause.Cause.TheVariants.{EntryTwice, LengthAhead}
use Rattle.checker.proofs.AwaitsOneLemmas.{sound_awaits_one}
use Rattle.checker.proofs.PhaseLemmas.{fault_shown, memory_alone, one_clear, only_clear}
use Rattle.checker.proofs.counter.counter_of.Goals as goal

pub in_run-requires : goal.in_run-requires
in_run-requires c =
    rw c.run.ensures.value (sound_awaits_one c.sound.result.now.run c.run.ensures.is_sound.sound)

pub returns-in_err-makers-clause-memory_alone : goal.returns-in_err-makers-clause-memory_alone
returns-in_err-makers-clause-memory_alone c =
    let rs = c.args.clear.now.run.records in
    let clear = c.sound.ensures.is_clear.well_formed in
    let p = err_from_is_err_and c.from_residual.result c.from_residual.ensures.1 in
    rw (p.1, p.2)
    (memory_alone rs (EntryTwice ∷ LengthAhead ∷ []) c.in_err-makers.field-0.0
    (one_clear rs EntryTwice (LengthAhead ∷ []) (clear EntryTwice (13, omega arith, refl))
    (only_clear rs LengthAhead (clear LengthAhead (14, omega arith, refl))))
    (fault_shown rs (EntryTwice ∷ LengthAhead ∷ []) c.in_err-makers.field-0.0 refl
    (rw (c.run.ensures.value, c.sound.ensures.run) at c.in_err-makers.ensures.fault)))
