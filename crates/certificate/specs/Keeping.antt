-- What holds of the records that are kept while a file is read.
use Rattle.std.specs.Prelude.{ℕ, ◌≡◌, ◌++◌, List, [], ◌∷◌, length, true, false, Option, Some, None}
use Rattle.ompt_events.specs.declared.records.Record.{Record}
use Rattle.ompt_events.specs.Traces.{TraceView, IsTraceOf, tasks_in}
use Rattle.lines.specs.declared.cause.ReadCause.{ReadCause}
use Rattle.lines.specs.declared.cause.ReadCause.TheVariants.{Memory, Limit}
use Rattle.certificate.specs.Files.{has_room}

-- a trace, with the number of its records, and of the tasks that it makes
pub record IsTraceKept (trace : TraceView) (count tasks : ℕ) : Type 0 where
  pub is_trace : IsTraceOf trace.version trace.records
  pub all : count ≡ length trace.records
  pub counted : tasks ≡ tasks_in trace.records

-- the trace and one record more
abbrev pub and_record : TraceView → Record → TraceView
and_record trace r = record { version = trace.version; records = trace.records ++ r ∷ [] }

-- there is room for each of these records, after those before it
abbrev pub HaveRoom : List Record → List Record → Type 0
HaveRoom before [] = Unit {0}
HaveRoom before (r ∷ rs) = (has_room before r ≡ true) × HaveRoom (before ++ r ∷ []) rs

-- why none of these records is kept after those: there is none, memory ran out, or the first has no
-- room
abbrev pub IsWhyNot : Option ReadCause → List Record → List Record → Type 0
IsWhyNot None before rest = rest ≡ []
IsWhyNot (Some Memory) before rest = Unit {0}
IsWhyNot (Some Limit) before rest =
    (r : Record) × (later : List Record) × (rest ≡ r ∷ later) × (has_room before r ≡ false)
IsWhyNot _ before rest = ⊥

-- of these records the first ones, this many, are kept after those of a trace, and this is why no more
pub record KeepsFirst (old : TraceView) (rs : List Record) (count : ℕ) (why : Option ReadCause)
    (new : TraceView) : Type 0 where
  pub first : List Record
  pub rest : List Record
  pub parts : rs ≡ first ++ rest
  pub counted : count ≡ length first
  pub room : HaveRoom old.records first
  pub kept : why ≡ None → new ≡ record { version = old.version; records = old.records ++ first }
  pub why_not : IsWhyNot why (old.records ++ first) rest
