-- The text of a trace: a header with its version, and then a line for each record.
use Rattle.std.specs.Prelude.{ℕ, List, [], ◌∷◌, ◌++◌, map, flat_map}
use Rattle.ompt_events.specs.Traces.{TraceView}
use Rattle.lines.specs.Texts.{header_line, line_of}

-- the lines, each ended by a line feed
abbrev pub ended_lines : List (List ℕ) → List ℕ
ended_lines lines = flat_map (λ line. line ++ 10 ∷ []) lines

-- the text of a trace
abbrev pub trace_text : TraceView → List ℕ
trace_text trace = ended_lines (header_line trace.version ∷ map line_of trace.records)
