use Rattle.std.proofs.Common.{sym, ap, ◌∙◌, take}
use Rattle.lines.proofs.SoundLemmas.{line_says-sound}
use Rattle.certificate.specs.Files.{with_record}
use Rattle.certificate.proofs.TraceLemmas.{text_adds-record}
use Rattle.certificate.proofs.reading.take_front.Goals as goal

pub keep-requires : goal.keep-requires
keep-requires g c =
    rw (← c.version.ensures)
    (line_says-sound _ (take c.in_ok-event.len c.all.result.now) _ (sym c.in_ok-event.ensures.says))

pub returns-clause-kept : goal.returns-clause-kept
returns-clause-kept g c = λ newest sure.
    c.keep.ensures sure
    ∙ ap (with_record c.args.kept.now)
    (sym (rw (c.version.ensures, c.all.ensures.bytes) at c.in_ok-event.ensures.says))
    ∙ sym
    (text_adds-record newest c.args.line c.args.kept.now (take c.in_ok-event.len c.args.window.now)
    (λ first. c.if-line-eq1.false first))
