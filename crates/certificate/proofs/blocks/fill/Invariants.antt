use Rattle.std.proofs.Common.{◌≡◌, ◌-◌, ◌≤◌, length}
use Rattle.std.specs.Prelude.{None}
use Rattle.std.specs.Io.KnownBytes.{Keeps, prepend_known}
use Rattle.certificate.specs.Limits.{max_turns}
use Rattle.certificate.specs.Counts.{TakesTurns}
use Rattle.certificate.proofs.blocks.fill.Given as goal

abbrev pub invariant-asks : goal.invariant-asks
invariant-asks g l = record {
  bytes : Keeps (prepend_known l.fn.block.waiting (g.S.Source.remaining l.fn.source))
      (prepend_known l.block.waiting (g.S.Source.remaining l.source));
  limit : l.block.limit ≡ l.fn.block.limit;
  turns : TakesTurns None l.fn.turns l.turns (g.S.Source.agains l.fn.source) (g.S.Source.agains l.source);
  left : l.turns ≤ max_turns;
  breaks : g.S.Source.breaks l.source ≡ g.S.Source.breaks l.fn.source;
}

abbrev pub decreases-asks : goal.decreases-asks
decreases-asks g l = l.fn.block.limit - length l.block.waiting
