use Rattle.std.proofs.Common.{ap, sym, ◌∙◌}
use Rattle.lines.specs.declared.cause.ReadCause.TheVariants.{Memory}
use Rattle.lines.specs.Objects.{object_data}
use Rattle.lines.specs.RecordLines.{bounded, record_fits}
use Rattle.lines.proofs.LooseLemmas.{read_loosely-ok, unbounded-is}
use Rattle.lines.proofs.RecordLemmas.{ok_not_err}
use Rattle.lines.proofs.record_lines.record_in.Goals as goal

pub returns : goal.returns
returns c =
    let read = read_loosely-ok _ c.in-Ok-body.found (c.in-Ok-body.ensures (ok_not_err _ Memory)) in
    λ _.
    c.within.ensures read.0 read.2
    ∙ ap (bounded record_fits)
    (sym
    (unbounded-is c.args.version (object_data c.args.object.now) c.in-Ok.found c.in-Ok-id.found
    c.in-Ok-id-2.found read.0 c.in-Ok.ensures c.in-Ok-id.ensures c.in-Ok-id-2.ensures read.1))
