use Rattle.std.proofs.Common.{◌∙◌, Some, sym, ap}
use Rattle.ompt_events.specs.Records.{made}
use Rattle.packed_trace.proofs.ColumnLemmas.{said_there}
use Rattle.packed_trace.proofs.trace.PackedTrace.made.Goals as goal

pub returns-then-creates : goal.returns-then-creates
returns-then-creates c =
    sym
    (said_there made c.args.self.now.records c.args.at (Some c.second_id.result) c.requires
    (λ body is.
    rw (c.if-creates.true) at (c.creates.ensures.made body (c.act-act.ensures.act body is))
    ∙ ap Some (c.second_id.ensures body is)))
