use Rattle.std.proofs.Common.{◌∙◌, List, sym, subst}
use Rattle.ompt_events.specs.declared.records.Record.{Record}
use Rattle.ompt_events.specs.Traces.{IsTraceOf}
use Rattle.certificate.proofs.UpgradeLemmas.{trace_of_three}
use Rattle.certificate.proofs.upgrading.to_version_3.Goals as goal

pub from_parts-requires : goal.from_parts-requires
from_parts-requires c =
    let old : List Record = c.into_records.result.items in
    let is_second : IsTraceOf 2 old =
    subst (λ v. IsTraceOf v old) (sym c.version.ensures ∙ c.if-version-ne2.false)
    c.into_records.ensures.is_trace in
    subst (IsTraceOf 3) (sym c.relabelled.ensures) (trace_of_three old is_second)
