use Rattle.std.proofs.Common.{◌∙◌, subst, sym, ap}
use Rattle.ompt_events.specs.Traces.{IsTraceOf}
use Rattle.callbacks.specs.Gathered.{gathered, version_of}
use Rattle.callbacks.proofs.ThreadLaws.{gathered_trace}
use Rattle.callbacks.proofs.gathering.joined.Goals as goal

pub from_parts-requires : goal.from_parts-requires
from_parts-requires c =
    subst (λ v. IsTraceOf v c.concatenated-records.result.items) (sym c.version_of.ensures)
    (subst (IsTraceOf (version_of c.args.nests))
    (sym (c.concatenated-records.ensures ∙ ap gathered c.into_buffers.ensures.buffers))
    (gathered_trace c.args.nests c.args.closed c.into_buffers.ensures.are_closed c.requires.of_kind
    c.requires.within))
