use Rattle.std.proofs.Common.{◌+◌, ◌≡◌, ◌-◌, ◌≤◌, length}
use Rattle.std.specs.Prelude.{None}
use Rattle.std.specs.Io.KnownBytes.{Keeps, prepend_known}
use Rattle.certificate.specs.Limits.{max_turns}
use Rattle.lines.specs.Limits.{max_line}
use Rattle.certificate.specs.Counts.{TakesTurns}
use Rattle.certificate.proofs.reading.next_line.Given as goal

abbrev pub invariant-search : goal.invariant-search
invariant-search g l = record {
  bytes : Keeps (prepend_known l.fn.window (g.S.Source.remaining l.fn.source))
      (prepend_known l.window (g.S.Source.remaining l.source));
  turns : TakesTurns None l.fn.turns l.turns (g.S.Source.agains l.fn.source) (g.S.Source.agains l.source);
  left : l.turns ≤ max_turns;
  breaks : g.S.Source.breaks l.source ≡ g.S.Source.breaks l.fn.source;
}

abbrev pub decreases-search : goal.decreases-search
decreases-search g l = max_line + 1 - length l.window
