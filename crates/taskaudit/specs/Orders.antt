-- The order that shows a verdict, its lines, to the byte, and a trace with its records in an order.
use Rattle.std.specs.Prelude.{ℕ, ◌++◌, List, Option, Some, None, codes, decimal, slice_get}
use Rattle.std.specs.List.{filter_map, flat_map}
use Rattle.std.specs.Option.{option_map_or}
use Rattle.ompt_events.specs.declared.records.Record.{Record}
use Rattle.ompt_events.specs.Traces.{TraceView}
use Rattle.checker.specs.declared.verdict.Verdict.{Verdict}
use Rattle.checker.specs.declared.verdict.Verdict.TheVariants.{Yes, No, Malformed}

-- the line of the record at the place i: its thread, a space and its seq
abbrev pub place_line : List Record → ℕ → List ℕ
place_line rs i =
    decimal (option_map_or (λ r. r.thread) (slice_get rs i) 0)
    ++ (codes " " ++ (decimal (option_map_or (λ r. r.seq) (slice_get rs i) 0) ++ codes "\n"))

-- the lines of the records at the places, one after another
abbrev pub order_lines : List Record → List ℕ → List ℕ
order_lines rs order = flat_map (place_line rs) order

-- the order that shows a verdict: of a yes its own, of a no the one that was found for it
abbrev pub order_shown : Verdict → Option (List ℕ) → Option (List ℕ)
order_shown (Yes order) counter = Some order
order_shown (No i why) counter = counter
order_shown (Malformed i cause) counter = None

-- the records at the places, one after another
abbrev pub records_at : List Record → List ℕ → List Record
records_at rs order = filter_map (slice_get rs) order

-- the trace of the same version with its records in this order
abbrev pub in_order : TraceView → List ℕ → TraceView
in_order trace order = record { version = trace.version; records = records_at trace.records order }
