use Rattle.std.proofs.Common.{sym, ◌∙◌}
use Rattle.std.proofs.lemmas.Result.{err_from_is_err_and}
use Rattle.lines.specs.declared.cause.ReadCause.TheVariants.{Memory}
use Rattle.lines.proofs.RecordLemmas.{ok_not_err}
use Rattle.certificate.specs.Files.{traces}
use Rattle.certificate.proofs.ReadingLemmas.{IsBetween-keeps, IsBetween-line, IsAfter-no_line}
use Rattle.certificate.proofs.ReadingLemmas.{IsAfter-text_fault, IsAfter-none_first, IsAfter-none}
use Rattle.certificate.proofs.ReadingLemmas.{IsOfText-from, IsOfText-not_spent, breaks_told-text}
use Rattle.certificate.proofs.TraceLemmas.{traces-text_causes, Grows-text, version-text}
use Rattle.certificate.proofs.CountLemmas.{TakesTurns-other}
use Rattle.certificate.proofs.reading.read_other_line.Goals as goal

pub returns-in_err-len-clause-after : goal.returns-in_err-len-clause-after
returns-in_err-len-clause-after g c =
    let p = err_from_is_err_and c.from_residual.result c.from_residual.ensures.1 in
    rw (p.1, p.2) (
    λ known now.
    IsAfter-no_line (traces c.args.newest) known c.args.line c.args.kept.now c.next_line.new.window
    (g.S.Source.remaining c.next_line.new.source) _ c.in_err-len.ensures.fault
    (IsBetween-keeps (traces c.args.newest) known c.args.line c.args.kept.now c.args.window.now
    c.next_line.new.window (g.S.Source.remaining c.args.source.now)
    (g.S.Source.remaining c.next_line.new.source) c.in_err-len.ensures.bytes now))

pub returns-in_err-take_text-in-Some-clause-after : goal.returns-in_err-take_text-in-Some-clause-after
returns-in_err-take_text-in-Some-clause-after g c =
    let p =
    err_from_is_err_and c.from_residual-in_err-take_text-in-Some.result
    c.from_residual-in_err-take_text-in-Some.ensures.1 in
    let shows = rw c.in-Some.is at c.in_ok-len.ensures.found in
    rw (p.1, p.2) (
    λ known now.
    IsAfter-text_fault (traces c.args.newest) (traces-text_causes c.args.newest) known c.args.line
    c.args.kept.now c.next_line.new.window c.in-Some.len
    (g.S.Source.remaining c.next_line.new.source) _ c.front.ensures.size shows.1 shows.0
    (rw c.front.ensures.bytes at c.in_err-take_text-in-Some.ensures)
    (IsBetween-keeps (traces c.args.newest) known c.args.line c.args.kept.now c.args.window.now
    c.next_line.new.window (g.S.Source.remaining c.args.source.now)
    (g.S.Source.remaining c.next_line.new.source) c.in_ok-len.ensures.bytes now))

pub returns-in_ok-take_text-in-Some-clause-after : goal.returns-in_ok-take_text-in-Some-clause-after
returns-in_ok-take_text-in-Some-clause-after g c =
    let shows = rw c.in-Some.is at c.in_ok-len.ensures.found in
    rw c.skip.ensures (
    λ known now.
    IsBetween-line (traces c.args.newest) known c.args.line c.args.kept.now c.take_text.new.kept
    c.next_line.new.window c.in-Some.len (g.S.Source.remaining c.next_line.new.source) shows.1
    shows.0
    (rw c.front.ensures.bytes at (c.in_ok-take_text-in-Some.ensures (ok_not_err _ Memory)))
    (IsBetween-keeps (traces c.args.newest) known c.args.line c.args.kept.now c.args.window.now
    c.next_line.new.window (g.S.Source.remaining c.args.source.now)
    (g.S.Source.remaining c.next_line.new.source) c.in_ok-len.ensures.bytes now))

pub returns-in_ok-take_text-in-Some-clause-grows : goal.returns-in_ok-take_text-in-Some-clause-grows
returns-in_ok-take_text-in-Some-clause-grows g c =
    λ _.
    Grows-text c.args.newest c.args.line c.args.kept.now c.take_text.new.kept _
    (c.in_ok-take_text-in-Some.ensures (ok_not_err _ Memory))

pub returns-in-None-clause-after : goal.returns-in-None-clause-after
returns-in-None-clause-after g c =
    λ known now.
    IsAfter-none_first (traces c.args.newest) known c.args.line c.args.kept.now c.next_line.new.window
    (g.S.Source.remaining c.next_line.new.source) c.if-line-eq1.true
    (rw c.in-None.is at c.in_ok-len.ensures.found)
    (IsBetween-keeps (traces c.args.newest) known c.args.line c.args.kept.now c.args.window.now
    c.next_line.new.window (g.S.Source.remaining c.args.source.now)
    (g.S.Source.remaining c.next_line.new.source) c.in_ok-len.ensures.bytes now)

pub returns-in-None-2-clause-after : goal.returns-in-None-2-clause-after
returns-in-None-2-clause-after g c =
    λ known now.
    IsAfter-none (traces c.args.newest) known c.args.line c.args.kept.now c.next_line.new.window
    (g.S.Source.remaining c.next_line.new.source) c.if-line-eq1.false
    (rw c.in-None.is at c.in_ok-len.ensures.found)
    (IsBetween-keeps (traces c.args.newest) known c.args.line c.args.kept.now c.args.window.now
    c.next_line.new.window (g.S.Source.remaining c.args.source.now)
    (g.S.Source.remaining c.next_line.new.source) c.in_ok-len.ensures.bytes now)

pub returns-in_err-take_text-in-Some-clause-turns : goal.returns-in_err-take_text-in-Some-clause-turns
returns-in_err-take_text-in-Some-clause-turns g c =
    let p =
    err_from_is_err_and c.from_residual-in_err-take_text-in-Some.result
    c.from_residual-in_err-take_text-in-Some.ensures.1 in
    let is =
    IsOfText-from (traces c.args.newest) (traces-text_causes c.args.newest) c.args.line c.args.kept.now
    c.front.result.now c.in_err-take_text-in-Some.field-0.0 c.in_err-take_text-in-Some.ensures in
    rw (p.1, p.2) (TakesTurns-other _ _ _ _ _ (IsOfText-not_spent _ is) c.in_ok-len.ensures.turns)

pub returns-in_err-take_text-in-Some-clause-breaks : goal.returns-in_err-take_text-in-Some-clause-breaks
returns-in_err-take_text-in-Some-clause-breaks g c =
    let p =
    err_from_is_err_and c.from_residual-in_err-take_text-in-Some.result
    c.from_residual-in_err-take_text-in-Some.ensures.1 in
    let is =
    IsOfText-from (traces c.args.newest) (traces-text_causes c.args.newest) c.args.line c.args.kept.now
    c.front.result.now c.in_err-take_text-in-Some.field-0.0 c.in_err-take_text-in-Some.ensures in
    rw (p.1, p.2)
    (◌∙◌ {b = g.S.Source.breaks c.args.source.now} c.in_ok-len.ensures.breaks
    (sym (breaks_told-text _ (g.S.Source.breaks c.args.source.now) is)))

pub returns-in_ok-take_text-in-Some-clause-version : goal.returns-in_ok-take_text-in-Some-clause-version
returns-in_ok-take_text-in-Some-clause-version g c =
    λ low.
    version-text c.args.newest c.args.line c.args.kept.now c.take_text.new.kept _
    (c.in_ok-take_text-in-Some.ensures (ok_not_err _ Memory)) low
