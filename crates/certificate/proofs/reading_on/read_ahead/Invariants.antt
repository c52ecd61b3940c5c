use Rattle.std.proofs.Common.{◌≤◌, ◌+◌}
use Rattle.certificate.specs.Ahead.{IsRoundReady, Waits, HasMet, rounds_left}
use Rattle.certificate.specs.ReadingOn.{room_of}
use Rattle.certificate.proofs.reading_on.read_ahead.Given as goal

abbrev pub invariant-rounds : goal.invariant-rounds
invariant-rounds g l = record {
  ready : IsRoundReady l.front l.ahead;
  waits : Waits (g.S.Source.remaining l.fn.source) (g.S.Source.remaining l.source)
      (room_of l.hands.workers l.hands.block) l.front.waiting l.ahead;
  room : l.front.limit + l.front.limit ≤ room_of l.hands.workers l.hands.block;
  met : HasMet l.ahead 0 (g.S.Source.agains l.fn.source) (g.S.Source.breaks l.fn.source)
      (g.S.Source.agains l.source) (g.S.Source.breaks l.source);
}

abbrev pub decreases-rounds : goal.decreases-rounds
decreases-rounds g l = rounds_left l.front.waiting l.ahead
