use Rattle.std.proofs.Common.{◌≡◌, ◌≤◌}
use Rattle.std.specs.Prelude.{None}
use Rattle.certificate.specs.Counts.{TakesTurns}
use Rattle.certificate.specs.Taking.{IsTaking}
use Rattle.certificate.proofs.taking.read_each.Given as goal

abbrev pub invariant-lines : goal.invariant-lines
invariant-lines g l = record {
  low : 2 ≤ l.line;
  taking : IsTaking (g.S.Source.remaining l.fn.source) l.line l.version l.reader.window
      (g.S.Source.remaining l.source) (λ version rs. g.T.Taker.has_taken version rs l.taker);
  turns : TakesTurns None 0 l.reader.turns (g.S.Source.agains l.fn.source) (g.S.Source.agains l.source);
  breaks : g.S.Source.breaks l.source ≡ g.S.Source.breaks l.fn.source;
}
