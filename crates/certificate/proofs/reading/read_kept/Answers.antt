use Rattle.std.proofs.Common.{length, refl, arith, ap, ◌∙◌, Some, Ok, Err}
use Rattle.ompt_events.specs.Traces.{TraceView}
use Rattle.lines.specs.declared.cause.ReadCause.TheVariants.{Memory}
use Rattle.certificate.specs.Formats.{fault_in}
use Rattle.certificate.specs.Files.{traces}
use Rattle.certificate.proofs.CountLemmas.{TakesTurns-none, TakesTurns-more, TakesTurns-other}
use Rattle.certificate.proofs.ReadingLemmas.{IsAnswerIn-no_window, IsBetween-start}
use Rattle.certificate.proofs.TraceLemmas.{IsAnswerTo-from, Grows-counted}
use Rattle.certificate.proofs.reading.read_kept.Goals as goal

pub returns-in_default-clause-file : goal.returns-in_default-clause-file
returns-in_default-clause-file g c =
    IsAnswerTo-from c.args.newest (g.S.Source.remaining c.args.source.now) (Err (fault_in 1 Memory))
    (g.S.Source.remaining c.args.source.now)
    (IsAnswerIn-no_window (traces c.args.newest) (g.S.Source.remaining c.args.source.now))

pub returns-in-Ok-false-clause-file : goal.returns-in-Ok-false-clause-file
returns-in-Ok-false-clause-file g c =
    IsAnswerTo-from c.args.newest (g.S.Source.remaining c.args.source.now)
    (Ok c.read_line.new.kept) (g.S.Source.remaining c.read_line.new.source)
    (rw c.in-Ok-false.field-0-test
    at (c.in-Ok-false.ensures.after (g.S.Source.remaining c.args.source.now) c.lines.invariant.between))

pub returns-in-Err-clause-file : goal.returns-in-Err-clause-file
returns-in-Err-clause-file g c =
    IsAnswerTo-from c.args.newest (g.S.Source.remaining c.args.source.now)
    (Err (fault_in c.lines.line c.in-Err.cause)) (g.S.Source.remaining c.read_line.new.source)
    (c.in-Err.ensures.after (g.S.Source.remaining c.args.source.now) c.lines.invariant.between)

pub returns-in_default-clause-turns : goal.returns-in_default-clause-turns
returns-in_default-clause-turns g c =
    (0, TakesTurns-other (Some Memory) _ _ _ _ (λ same. cc) (TakesTurns-none 0 _ (omega arith)))

pub lines-init : goal.lines-init
lines-init g c = record {
  low = omega arith;
  version =
      let low = c.requires.0 in omega (arith, low, ap (λ (t : TraceView). t.version) c.new-kept.ensures);
  between =
      rw (c.in-Ok.ensures, c.new-kept.ensures)
      (IsBetween-start (traces c.args.newest) (g.S.Source.remaining c.args.source.now));
  turns = TakesTurns-none 0 _ (omega arith);
  breaks = refl;
  counted = ap (λ (t : TraceView). length t.records) c.new-kept.ensures;
  room = omega (arith, ap (λ (t : TraceView). length t.records) c.new-kept.ensures);
}

pub returns-in-Ok-false-clause-turns : goal.returns-in-Ok-false-clause-turns
returns-in-Ok-false-clause-turns g c = (
  c.read_line.new.turns,
  TakesTurns-more _ 0 c.lines.turns c.read_line.new.turns _ _ _ c.lines.invariant.turns
      c.in-Ok-false.ensures.turns,
)

pub returns-in-Err-clause-turns : goal.returns-in-Err-clause-turns
returns-in-Err-clause-turns g c = (
  c.read_line.new.turns,
  TakesTurns-more _ 0 c.lines.turns c.read_line.new.turns _ _ _ c.lines.invariant.turns
      c.in-Err.ensures.turns,
)

pub lines-preserved : goal.lines-preserved
lines-preserved g c =
    let now = c.lines.invariant in
    let call = c.in-Ok-true.ensures in
    let counted =
    Grows-counted c.lines.line c.lines.kept.records c.read_line.new.kept.records now.low now.counted
    now.room (call.grows (ap Ok c.in-Ok-true.field-0-test)) in
    record {
      low = omega arith;
      version = call.version now.version;
      between =
          rw c.in-Ok-true.field-0-test at (call.after (g.S.Source.remaining c.args.source.now) now.between);
      turns = TakesTurns-more _ 0 c.lines.turns c.read_line.new.turns _ _ _ now.turns call.turns;
      breaks = call.breaks ∙ now.breaks;
      counted = counted.0;
      room = counted.1;
    }
