use Rattle.std.proofs.Common.{arith, ap, ◌∙◌, Ok}
use Rattle.certificate.proofs.EndLemmas.{waiting_long, waiting_unended, waiting_no_header, waiting_none}
use Rattle.certificate.proofs.EndLemmas.{waiting_fault}
use Rattle.certificate.proofs.reading_on.end.Goals as goal

pub returns-then-len-gt-MAX_LINE-clause-after : goal.returns-then-len-gt-MAX_LINE-clause-after
returns-then-len-gt-MAX_LINE-clause-after c =
    λ known kept waiting room left now len none few end.
    waiting_long known c.args.line kept waiting left (omega (arith, c.if-len-gt-MAX_LINE.true)) none now

pub returns-in-Ok-false-clause-after : goal.returns-in-Ok-false-clause-after
returns-in-Ok-false-clause-after c =
    λ known kept waiting room left now len none few end.
    waiting_unended known c.args.line kept waiting left (omega (arith, c.if-len-gt0.true))
    (omega (arith, c.if-len-gt-MAX_LINE.false)) none
    (end (c.in-Ok-false.is ∙ ap Ok c.in-Ok-false.field-0-test)) now

pub returns-in-Ok-false-2-clause-after : goal.returns-in-Ok-false-2-clause-after
returns-in-Ok-false-2-clause-after c =
    λ known kept waiting room left now len none few end.
    waiting_no_header known c.args.line kept waiting left c.if-line-eq1.true
    (omega (arith, c.if-len-gt0.false)) (end (c.in-Ok-false.is ∙ ap Ok c.in-Ok-false.field-0-test)) now

pub returns-in-Ok-false-3-clause-after : goal.returns-in-Ok-false-3-clause-after
returns-in-Ok-false-3-clause-after c =
    λ known kept waiting room left now len none few end.
    waiting_none known c.args.line kept waiting left c.if-line-eq1.false (omega (arith, c.if-len-gt0.false))
    (end (c.in-Ok-false.is ∙ ap Ok c.in-Ok-false.field-0-test)) now

pub returns-in-Err-clause-after : goal.returns-in-Err-clause-after
returns-in-Err-clause-after c =
    λ known kept waiting room left now len none few end.
    waiting_fault known c.args.line room kept c.in-Err.cause waiting left (rw c.in-Err.is at c.requires.fault)
    few none now
