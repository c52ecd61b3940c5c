use Rattle.std.proofs.Common.{List, sym, subst}
use Rattle.std.specs.Prelude.{◌↔◌}
use Rattle.ompt_events.specs.declared.records.Record.{Record}
use Rattle.ompt_events.specs.declared.cause.Cause.TheVariants.{RegionNesting}
use Rattle.ompt_events.specs.Causes.{IsFreeOf}
use Rattle.checker.specs.Readings.{by_task}
use Rattle.checker.specs.Verdicts.{IsVerdict}
use Rattle.checker.specs.Counter.{IsCounterBy}
use Rattle.checker.proofs.RelabelledVerdictLemmas.{IsNestable, nestable_verdicts, nestable_counters}
use Rattle.checker.proofs.laws.version_3_keeps_the_verdict.Goals as goal

pub returns-clause-verdict : goal.returns-clause-verdict
returns-clause-verdict c = λ rs relabelled trace none same inside verdict.
    let known : IsNestable rs = record {
      trace = trace;
      well_formed = none;
      inside = subst (λ (l : List Record). IsFreeOf l RegionNesting) same inside;
    } in
    subst (λ (l : List Record). IsVerdict rs verdict ↔ IsVerdict l verdict) (sym same)
    (nestable_verdicts rs verdict known)

pub returns-clause-counter : goal.returns-clause-counter
returns-clause-counter c = λ rs relabelled trace none same inside i task found.
    let known : IsNestable rs = record {
      trace = trace;
      well_formed = none;
      inside = subst (λ (l : List Record). IsFreeOf l RegionNesting) same inside;
    } in
    subst
    (λ (l : List Record). IsCounterBy (by_task rs) i task found ↔ IsCounterBy (by_task l) i task found)
    (sym same) (nestable_counters rs i task found known)
