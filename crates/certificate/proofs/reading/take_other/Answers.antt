use Rattle.lines.specs.declared.cause.ReadCause.TheVariants.{Memory}
use Rattle.lines.proofs.RecordLemmas.{ok_not_err}
use Rattle.lines.proofs.SoundLemmas.{line_says-sound}
use Rattle.certificate.proofs.reading.take_other.Goals as goal

pub keep-requires : goal.keep-requires
keep-requires g c =
    rw (← c.version.ensures)
    (line_says-sound _ c.args.text.now _ (c.in_ok-record.ensures (ok_not_err _ Memory)))
