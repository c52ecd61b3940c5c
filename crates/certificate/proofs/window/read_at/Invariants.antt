use Rattle.std.proofs.Common.{◌+◌, ◌≡◌, ◌-◌, ◌≤◌, length, take}
use Rattle.std.specs.Io.KnownBytes.{Keeps}
use Rattle.certificate.specs.Limits.{max_turns}
use Rattle.certificate.specs.Counts.{count_more}
use Rattle.certificate.proofs.window.read_at.Given as goal

-- each answer so far was `Again`
abbrev pub invariant-turns : goal.invariant-turns
invariant-turns g l = record {
  len : length l.bytes.items ≡ length l.fn.bytes.items;
  front : take l.at l.bytes.items ≡ take l.at l.fn.bytes.items;
  rest : Keeps (g.S.Source.remaining l.fn.source) (g.S.Source.remaining l.source);
  later : l.fn.turns ≤ l.turns;
  within : l.turns ≤ max_turns + 1;
  counted : g.S.Source.agains l.source ≡ count_more (g.S.Source.agains l.fn.source) (l.turns - l.fn.turns);
  breaks : g.S.Source.breaks l.source ≡ g.S.Source.breaks l.fn.source;
}

abbrev pub decreases-turns : goal.decreases-turns
decreases-turns g l = max_turns + 1 - l.turns
