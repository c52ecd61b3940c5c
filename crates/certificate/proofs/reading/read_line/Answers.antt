use Rattle.std.proofs.Common.{sym}
use Rattle.std.proofs.lemmas.Result.{err_from_is_err_and}
use Rattle.lines.specs.declared.cause.ReadCause.TheVariants.{Memory}
use Rattle.lines.proofs.RecordLemmas.{ok_not_err}
use Rattle.certificate.specs.Files.{traces}
use Rattle.certificate.proofs.ReadingLemmas.{IsBetween-line, IsAfter-text_fault}
use Rattle.certificate.proofs.ReadingLemmas.{IsOfText-from, IsOfText-not_spent, breaks_told-text}
use Rattle.certificate.proofs.TraceLemmas.{traces-text_causes, Grows-text, version-text}
use Rattle.certificate.proofs.CountLemmas.{TakesTurns-none, TakesTurns-other}
use Rattle.certificate.proofs.reading.read_line.Goals as goal

pub returns-in_err-taken-in-Some-clause-after : goal.returns-in_err-taken-in-Some-clause-after
returns-in_err-taken-in-Some-clause-after g c =
    let p = err_from_is_err_and c.from_residual.result c.from_residual.ensures.1 in
    let took = c.in-Some.ensures in
    rw (p.1, p.2) (
    λ known now.
    IsAfter-text_fault (traces c.args.newest) (traces-text_causes c.args.newest) known c.args.line
    c.args.kept.now c.args.window.now c.in-Some.len (g.S.Source.remaining c.args.source.now) _ took.few
    took.line took.short (rw c.in_err-taken-in-Some.was at (took.kept c.args.newest)) now)

pub returns-in_err-taken-in-Some-clause-turns : goal.returns-in_err-taken-in-Some-clause-turns
returns-in_err-taken-in-Some-clause-turns g c =
    let p = err_from_is_err_and c.from_residual.result c.from_residual.ensures.1 in
    let is =
    IsOfText-from (traces c.args.newest) (traces-text_causes c.args.newest) c.args.line c.args.kept.now
    _ c.in_err-taken-in-Some.field-0.0
    (rw c.in_err-taken-in-Some.was at (c.in-Some.ensures.kept c.args.newest)) in
    rw (p.1, p.2)
    (TakesTurns-other _ _ _ _ _ (IsOfText-not_spent _ is)
    (TakesTurns-none c.args.turns.now (g.S.Source.agains c.args.source.now) c.requires.turns))

pub returns-in_ok-taken-in-Some-clause-after : goal.returns-in_ok-taken-in-Some-clause-after
returns-in_ok-taken-in-Some-clause-after g c =
    let took = c.in-Some.ensures in
    rw c.skip.ensures (
    λ known now.
    IsBetween-line (traces c.args.newest) known c.args.line c.args.kept.now c.take_front.new.kept
    c.args.window.now c.in-Some.len (g.S.Source.remaining c.args.source.now) took.line took.short
    (rw c.in_ok-taken-in-Some.was at (took.kept c.args.newest) (ok_not_err _ Memory)) now)

pub returns-in_ok-taken-in-Some-clause-grows : goal.returns-in_ok-taken-in-Some-clause-grows
returns-in_ok-taken-in-Some-clause-grows g c =
    λ _.
    Grows-text c.args.newest c.args.line c.args.kept.now c.take_front.new.kept _
    (rw c.in_ok-taken-in-Some.was at (c.in-Some.ensures.kept c.args.newest) (ok_not_err _ Memory))

pub returns-in_ok-taken-in-Some-clause-turns : goal.returns-in_ok-taken-in-Some-clause-turns
returns-in_ok-taken-in-Some-clause-turns g c =
    TakesTurns-none c.args.turns.now (g.S.Source.agains c.args.source.now) c.requires.turns

pub returns-in_err-taken-in-Some-clause-breaks : goal.returns-in_err-taken-in-Some-clause-breaks
returns-in_err-taken-in-Some-clause-breaks g c =
    let p = err_from_is_err_and c.from_residual.result c.from_residual.ensures.1 in
    let is =
    IsOfText-from (traces c.args.newest) (traces-text_causes c.args.newest) c.args.line c.args.kept.now
    _ c.in_err-taken-in-Some.field-0.0
    (rw c.in_err-taken-in-Some.was at (c.in-Some.ensures.kept c.args.newest)) in
    rw (p.1, p.2) (sym (breaks_told-text _ (g.S.Source.breaks c.args.source.now) is))

pub returns-in_ok-taken-in-Some-clause-version : goal.returns-in_ok-taken-in-Some-clause-version
returns-in_ok-taken-in-Some-clause-version g c =
    λ low.
    version-text c.args.newest c.args.line c.args.kept.now c.take_front.new.kept _
    (rw c.in_ok-taken-in-Some.was at (c.in-Some.ensures.kept c.args.newest) (ok_not_err _ Memory)) low
