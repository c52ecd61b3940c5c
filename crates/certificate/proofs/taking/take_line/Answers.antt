use Rattle.std.proofs.Common.{arith}
use Rattle.std.proofs.lemmas.Result.{err_from_is_err_and}
use Rattle.certificate.proofs.TakingLemmas.{taken-on, refused-on, told-limit, told-no_memory, told-nothing}
use Rattle.certificate.proofs.TakingLemmas.{taken-all}
use Rattle.certificate.proofs.taking.take_line.Goals as goal

pub returns-in_err-event-clause-after : goal.returns-in_err-event-clause-after
returns-in_err-event-clause-after g c =
    let p = err_from_is_err_and c.from_residual.result c.from_residual.ensures.1 in
    rw (p.1, p.2) (
    λ known now.
    told-nothing known c.args.line c.args.version c.args.reader.now.window c.record.new.self.window
    (g.S.Source.remaining c.args.source.now) (g.S.Source.remaining c.record.new.source) _ _
    c.in_err-event.ensures.bytes c.in_err-event.ensures.fault now)

pub returns-clause-after : goal.returns-clause-after
returns-clause-after g c =
    λ known now.
    taken-all known c.args.line c.args.version c.args.reader.now.window c.record.new.self.window
    (g.S.Source.remaining c.args.source.now) (g.S.Source.remaining c.record.new.source) _
    c.in_ok-event.ensures.bytes (rw c.in-None.is at c.in_ok-event.ensures.found) now

pub returns-then-line-gt-LAST_RECORD_LINE-clause-after :
    goal.returns-then-line-gt-LAST_RECORD_LINE-clause-after
returns-then-line-gt-LAST_RECORD_LINE-clause-after g c =
    λ known now.
    told-limit known c.args.line c.args.version (c.in-Some.event, c.in-Some.len) c.args.reader.now.window
    c.record.new.self.window (g.S.Source.remaining c.args.source.now)
    (g.S.Source.remaining c.record.new.source) _ c.in_ok-event.ensures.bytes
    (rw c.in-Some.is at c.in_ok-event.ensures.found)
    (omega (arith, c.if-line-gt-LAST_RECORD_LINE.true)) now

pub returns-in-Ok-true-clause-after : goal.returns-in-Ok-true-clause-after
returns-in-Ok-true-clause-after g c =
    rw c.skip.ensures.window (
    λ known now.
    taken-on known c.args.line c.args.version (c.in-Some.event, c.in-Some.len) c.args.reader.now.window
    c.record.new.self.window (g.S.Source.remaining c.args.source.now)
    (g.S.Source.remaining c.record.new.source) _ _ c.in_ok-event.ensures.bytes
    (rw c.in-Some.is at c.in_ok-event.ensures.found) c.read_numbers.ensures
    (omega (arith, c.if-line-gt-LAST_RECORD_LINE.false))
    (c.in-Ok-true.ensures.taken c.in-Ok-true.field-0-test) now)

pub returns-in-Ok-false-clause-after : goal.returns-in-Ok-false-clause-after
returns-in-Ok-false-clause-after g c =
    λ known now.
    refused-on known c.args.line c.args.version (c.in-Some.event, c.in-Some.len) c.args.reader.now.window
    c.record.new.self.window (g.S.Source.remaining c.args.source.now)
    (g.S.Source.remaining c.record.new.source) _ _ c.in_ok-event.ensures.bytes
    (rw c.in-Some.is at c.in_ok-event.ensures.found) c.read_numbers.ensures
    (omega (arith, c.if-line-gt-LAST_RECORD_LINE.false))
    (c.in-Ok-false.ensures.refused c.in-Ok-false.field-0-test) now

pub returns-in-Some-clause-after : goal.returns-in-Some-clause-after
returns-in-Some-clause-after g c =
    λ known now.
    told-no_memory known c.args.line c.args.version (c.in-Some.event, c.in-Some.len) c.args.reader.now.window
    c.record.new.self.window (g.S.Source.remaining c.args.source.now)
    (g.S.Source.remaining c.record.new.source) _ c.in_ok-event.ensures.bytes
    (rw c.in-Some.is at c.in_ok-event.ensures.found) now
