-- The place of a record is its position, from 0, in the list of records in file order.
use Rattle.std.specs.Prelude.{ℕ, ◌==◌, Bool, false, List, length, filter, Option, slice_get, option_map}
use Rattle.std.specs.Prelude.{option_and_then}
use Rattle.std.specs.List.{range_with_len}
use Rattle.std.specs.Option.{option_map_or}
use Rattle.ompt_events.specs.declared.records.Record.{Record}
use Rattle.ompt_events.specs.declared.records.Body.{Body}
use Rattle.ompt_events.specs.Records.{running}

-- what the record at a place says, read by f; nothing past the end
abbrev pub at : {X : Type 0} → (Body → Option X) → List Record → ℕ → Option X
at f rs i = option_and_then (λ (r : Record). f r.body) (slice_get rs i)

-- the thread that made the record
abbrev pub thread_at : List Record → ℕ → Option ℕ
thread_at rs i = option_map (λ (r : Record). r.thread) (slice_get rs i)

-- the ledger length that the record names
abbrev pub seen_at : List Record → ℕ → ℕ
seen_at rs i = option_map_or (λ (r : Record). r.seen) (slice_get rs i) 0

-- whether regions may lie inside others there, as the record has it; not past the end
abbrev pub nests_at : List Record → ℕ → Bool
nests_at rs i = option_map_or (λ (r : Record). r.nests) (slice_get rs i) false

-- all places
abbrev pub places : List Record → List ℕ
places rs = range_with_len 0 (length rs)

-- whether a record is one of the task's own: the task runs there, as the record has it
abbrev pub is_own : List Record → ℕ → ℕ → Bool
is_own rs task i = option_map_or (λ t. t == task) (at running rs i) false

-- the places of the task's own records that are earlier than i, in order
abbrev pub own_before : List Record → ℕ → ℕ → List ℕ
own_before rs task i = filter (is_own rs task) (range_with_len 0 i)
