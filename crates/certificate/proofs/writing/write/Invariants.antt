use Rattle.std.proofs.Common.{◌≡◌, ◌≤◌, ◌∷◌, ◌++◌, List, ℕ, map, take}
use Rattle.std.specs.Io.KnownBytes.{Appends}
use Rattle.certificate.specs.Limits.{max_turns}
use Rattle.certificate.specs.Counts.{count_more}
use Rattle.lines.specs.Texts.{header_line, line_of}
use Rattle.certificate.specs.TraceTexts.{ended_lines}
use Rattle.certificate.proofs.writing.write.Given as goal

-- what went out and what waits are the header and the lines of the records so far
abbrev pub invariant-records : goal.invariant-records
invariant-records g l = record {
  sent : List ℕ;
  out : Appends (g.S.Sink.contents l.fn.sink) (g.S.Sink.contents l.sink) sent;
  text : sent ++ l.block.items
      ≡ ended_lines (header_line l.trace.version ∷ map line_of (take l.event-index l.trace.records));
  few : l.turns ≤ max_turns;
  counted : g.S.Sink.stalls l.sink ≡ count_more (g.S.Sink.stalls l.fn.sink) l.turns;
  breaks : g.S.Sink.breaks l.sink ≡ g.S.Sink.breaks l.fn.sink;
}
