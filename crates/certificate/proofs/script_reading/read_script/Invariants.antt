use Rattle.std.proofs.Common.{◌≡◌, ◌-◌, ◌≤◌, length}
use Rattle.std.specs.Prelude.{None}
use Rattle.ompt_events.specs.Limits.{max_records}
use Rattle.certificate.specs.Counts.{TakesTurns}
use Rattle.certificate.specs.Reading.{IsBetween}
use Rattle.certificate.specs.ScriptFiles.{scripts}
use Rattle.scripts.specs.Scripts.{empty_script}
use Rattle.certificate.proofs.script_reading.read_script.Given as goal

abbrev pub invariant-lines : goal.invariant-lines
invariant-lines g l = record {
  low : 1 ≤ l.line;
  first : l.line ≡ 1 → l.script ≡ empty_script;
  between : IsBetween scripts (g.S.Source.remaining l.fn.source) l.line l.script l.window
      (g.S.Source.remaining l.source);
  turns : TakesTurns None 0 l.turns (g.S.Source.agains l.fn.source) (g.S.Source.agains l.source);
  breaks : g.S.Source.breaks l.source ≡ g.S.Source.breaks l.fn.source;
  counted : length l.script.steps ≡ l.line - 2;
  room : length l.script.steps ≤ max_records;
}
