use Rattle.std.proofs.Common.{◌≡◌, ◌-◌, ◌≤◌, length}
use Rattle.std.specs.Prelude.{None}
use Rattle.ompt_events.specs.Limits.{max_records}
use Rattle.certificate.specs.Counts.{TakesTurns}
use Rattle.certificate.specs.Files.{traces}
use Rattle.certificate.specs.Reading.{IsBetween}
use Rattle.certificate.proofs.reading.read_kept.Given as goal

abbrev pub invariant-lines : goal.invariant-lines
invariant-lines g l = record {
  low : 1 ≤ l.line;
  version : l.kept.version ≤ l.newest;
  between : IsBetween (traces l.newest) (g.S.Source.remaining l.fn.source) l.line l.kept l.window
      (g.S.Source.remaining l.source);
  turns : TakesTurns None 0 l.turns (g.S.Source.agains l.fn.source) (g.S.Source.agains l.source);
  breaks : g.S.Source.breaks l.source ≡ g.S.Source.breaks l.fn.source;
  counted : length l.kept.records ≡ l.line - 2;
  room : length l.kept.records ≤ max_records;
}
