use Rattle.std.proofs.Common.{ℕ, ◌≡◌, ◌+◌, ◌-◌, ◌≤◌, length, take}
use Rattle.std.specs.Io.KnownBytes.{Appends}
use Rattle.certificate.specs.Limits.{max_turns}
use Rattle.certificate.specs.Counts.{count_more}
use Rattle.certificate.proofs.writing.send.Given as goal

abbrev pub invariant-bytes : goal.invariant-bytes
invariant-bytes g l = record {
  sent : Appends (g.S.Sink.contents l.fn.sink) (g.S.Sink.contents l.sink) (take l.at l.bytes);
  within : l.at ≤ length l.bytes;
  few : l.turns ≤ max_turns;
  counted : (start : ℕ) → g.S.Sink.stalls l.fn.sink ≡ count_more start l.fn.before
      → g.S.Sink.stalls l.sink ≡ count_more start l.turns;
  breaks : g.S.Sink.breaks l.sink ≡ g.S.Sink.breaks l.fn.sink;
}

abbrev pub decreases-bytes : goal.decreases-bytes
decreases-bytes g l = (length l.bytes - l.at) + (max_turns - l.turns)
