use Rattle.lines.specs.declared.cause.ReadCause.TheVariants.{Memory}
use Rattle.lines.proofs.RecordLemmas.{ok_not_err}
use Rattle.certificate.proofs.TraceLemmas.{header_says-known}
use Rattle.certificate.proofs.reading.take_header.Goals as goal

pub begin-requires : goal.begin-requires
begin-requires g c =
    header_says-known c.args.newest c.args.text.now _ c.requires
    (c.in_ok-header.ensures (ok_not_err _ Memory))
