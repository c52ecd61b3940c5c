use Rattle.std.proofs.Common.{◌≡◌, ◌≤◌, arith, ap, ◌∙◌, subst, Ok, Some}
use Rattle.lines.specs.declared.cause.ReadCause.TheVariants.{Memory}
use Rattle.certificate.specs.Files.{long_traces}
use Rattle.certificate.specs.Taking.{HasTakenUntil, IsFaultlessUpTo}
use Rattle.certificate.specs.declared.taking.TheConstants.{LAST_RECORD_LINE}
use Rattle.certificate.proofs.CountLemmas.{TakesTurns-none, TakesTurns-more, TakesTurns-other}
use Rattle.certificate.proofs.ReadingLemmas.{IsBetween-start}
use Rattle.certificate.proofs.TakingLemmas.{told-no_window}
use Rattle.certificate.proofs.taking.read_each.Goals as goal

pub returns-in_default-clause-fault : goal.returns-in_default-clause-fault
returns-in_default-clause-fault g c = told-no_window (g.S.Source.remaining c.args.source.now)

pub returns-in_default-clause-turns : goal.returns-in_default-clause-turns
returns-in_default-clause-turns g c =
    (0, TakesTurns-other (Some Memory) _ _ _ _ (λ same. cc) (TakesTurns-none 0 _ (omega arith)))

pub lines-init : goal.lines-init
lines-init g c =
    let call = c.in-Ok-begin.ensures in
    record {
      low = omega arith;
      taking =
          call.after (g.S.Source.remaining c.args.source.now)
          (rw c.in-Ok.ensures.0
          (IsBetween-start long_traces (g.S.Source.remaining c.args.source.now)));
      turns = rw c.in-Ok.ensures.1 at call.turns;
      breaks = call.breaks;
    }

pub returns-in-Ok-Refused-clause-until : goal.returns-in-Ok-Refused-clause-until
returns-in-Ok-Refused-clause-until g c =
    let known = g.S.Source.remaining c.args.source.now in
    let now = c.lines.invariant in
    let low : 2 ≤ c.lines.line = now.low in
    let high : c.lines.line ≤ LAST_RECORD_LINE =
    c.in-Ok-Refused.ensures.numbered (ap Ok c.in-Ok-Refused.field-0-is) in
    let until =
    rw c.in-Ok-Refused.field-0-is
    at (c.in-Ok-Refused.ensures.after known now.taking) in
    λ line same.
    let is : c.lines.line ≡ line = cc in
    subst (λ n. (2 ≤ n) × (n ≤ LAST_RECORD_LINE) × IsFaultlessUpTo n known) is (low, high, until.0)

pub returns-in-Ok-Refused-clause-refused : goal.returns-in-Ok-Refused-clause-refused
returns-in-Ok-Refused-clause-refused g c =
    let known = g.S.Source.remaining c.args.source.now in
    let now = c.lines.invariant in
    let until =
    rw c.in-Ok-Refused.field-0-is
    at (c.in-Ok-Refused.ensures.after known now.taking) in
    λ line same.
    let is : c.lines.line ≡ line = cc in
    subst
    (λ n. HasTakenUntil n known
    (λ version rs event. g.T.Taker.has_refused version rs event c.take_line.new.taker)) is until.1

pub returns-in-Ok-Refused-clause-turns : goal.returns-in-Ok-Refused-clause-turns
returns-in-Ok-Refused-clause-turns g c = (
  c.take_line.new.reader.turns,
  TakesTurns-more _ 0 c.lines.reader.turns c.take_line.new.reader.turns _ _ _ c.lines.invariant.turns
      c.in-Ok-Refused.ensures.turns,
)

pub returns-in-Ok-End-clause-all : goal.returns-in-Ok-End-clause-all
returns-in-Ok-End-clause-all g c =
    λ _.
    rw c.in-Ok-End.field-0-is
    at (c.in-Ok-End.ensures.after (g.S.Source.remaining c.args.source.now) c.lines.invariant.taking)

pub returns-in-Ok-End-clause-turns : goal.returns-in-Ok-End-clause-turns
returns-in-Ok-End-clause-turns g c = (
  c.take_line.new.reader.turns,
  TakesTurns-more _ 0 c.lines.reader.turns c.take_line.new.reader.turns _ _ _ c.lines.invariant.turns
      c.in-Ok-End.ensures.turns,
)

pub returns-in-Err-take_line-clause-turns : goal.returns-in-Err-take_line-clause-turns
returns-in-Err-take_line-clause-turns g c = (
  c.take_line.new.reader.turns,
  TakesTurns-more _ 0 c.lines.reader.turns c.take_line.new.reader.turns _ _ _ c.lines.invariant.turns
      c.in-Err-take_line.ensures.turns,
)

pub lines-preserved : goal.lines-preserved
lines-preserved g c =
    let now = c.lines.invariant in
    let call = c.in-Ok-Taken.ensures in
    record {
      low = omega arith;
      taking =
          rw c.in-Ok-Taken.field-0-is
          at (call.after (g.S.Source.remaining c.args.source.now) now.taking);
      turns =
          TakesTurns-more _ 0 c.lines.reader.turns c.take_line.new.reader.turns _ _ _ now.turns call.turns;
      breaks = call.breaks ∙ now.breaks;
    }

pub unreachable-requires : goal.unreachable-requires
unreachable-requires g c =
    let known = g.S.Source.remaining c.args.source.now in
    elim c.lines-test.branch [
      | goal.else-lines-test w ↦ omega (arith, w.lines-test.false)
      | goal.then-lines-test+in-Ok-Taken+else-line-lt4294967295 w ↦
          let next =
          rw w.in-Ok-Taken.field-0-is at (w.in-Ok-Taken.ensures.after known c.lines.invariant.taking) in
          omega (arith, next.line, next.numbered)
    ]
