use Rattle.std.proofs.Common.{length, refl, arith, ap, ◌∙◌, Some, Ok}
use Rattle.scripts.specs.Scripts.{ScriptView}
use Rattle.lines.specs.declared.cause.ReadCause.TheVariants.{Memory}
use Rattle.certificate.specs.ScriptFiles.{scripts}
use Rattle.certificate.proofs.CountLemmas.{TakesTurns-none, TakesTurns-more, TakesTurns-other}
use Rattle.certificate.proofs.ReadingLemmas.{IsAnswerIn-no_window, IsBetween-start}
use Rattle.certificate.proofs.TraceLemmas.{Grows-counted}
use Rattle.certificate.proofs.script_reading.read_script.Goals as goal

pub returns-in_default-clause-file : goal.returns-in_default-clause-file
returns-in_default-clause-file g c = IsAnswerIn-no_window scripts (g.S.Source.remaining c.args.source.now)

pub returns-in_default-clause-turns : goal.returns-in_default-clause-turns
returns-in_default-clause-turns g c =
    (0, TakesTurns-other (Some Memory) _ _ _ _ (λ same. cc) (TakesTurns-none 0 _ (omega arith)))

pub lines-init : goal.lines-init
lines-init g c = record {
  low = omega arith;
  first = λ _. c.new-script.ensures;
  between =
      rw (c.in-Ok.ensures, c.new-script.ensures)
      (IsBetween-start scripts (g.S.Source.remaining c.args.source.now));
  turns = TakesTurns-none 0 _ (omega arith);
  breaks = refl;
  counted = ap (λ (v : ScriptView). length v.steps) c.new-script.ensures;
  room = omega (arith, ap (λ (v : ScriptView). length v.steps) c.new-script.ensures);
}

pub returns-in-Ok-false-clause-turns : goal.returns-in-Ok-false-clause-turns
returns-in-Ok-false-clause-turns g c = (
  c.read_line.new.turns,
  TakesTurns-more _ 0 c.lines.turns c.read_line.new.turns _ _ _ c.lines.invariant.turns
      c.in-Ok-false.ensures.turns,
)

pub returns-in-Err-clause-turns : goal.returns-in-Err-clause-turns
returns-in-Err-clause-turns g c = (
  c.read_line.new.turns,
  TakesTurns-more _ 0 c.lines.turns c.read_line.new.turns _ _ _ c.lines.invariant.turns
      c.in-Err.ensures.turns,
)

pub lines-preserved : goal.lines-preserved
lines-preserved g c =
    let now = c.lines.invariant in
    let call = c.in-Ok-true.ensures in
    let counted =
    Grows-counted c.lines.line c.lines.script.steps c.read_line.new.script.steps now.low now.counted now.room
    (call.grows (ap Ok c.in-Ok-true.field-0-test)) in
    record {
      low = omega arith;
      first = λ same. absurd (let low = now.low in omega arith);
      between =
          rw c.in-Ok-true.field-0-test at (call.after (g.S.Source.remaining c.args.source.now) now.between);
      turns = TakesTurns-more _ 0 c.lines.turns c.read_line.new.turns _ _ _ now.turns call.turns;
      breaks = call.breaks ∙ now.breaks;
      counted = counted.0;
      room = counted.1;
    }
