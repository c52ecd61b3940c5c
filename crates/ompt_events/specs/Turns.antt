-- In which turn of a task a record is, and the tasks' own order of records. A task runs in turns: turn 0
-- from its start, or from its begin where it is a root, and one more each time that it resumes. An untied
-- task may resume on another thread (OpenMP 5.2, 12.1 and 12.9: untied tasks, task scheduling), so its
-- records go by turns, and not by the order in which the file has them.
use Rattle.std.specs.Prelude.{ℕ, suc, max, ◌≡◌, ◌==◌, ◌&&◌, Bool, false, List, Option, None, if◌then◌else◌}
use Rattle.std.specs.Prelude.{take, slice_get, filter, fold}
use Rattle.std.specs.List.{range_with_len, filter_map, flat_map, position_or_len}
use Rattle.std.specs.Option.{option_map_or}
use Rattle.ompt_events.specs.declared.records.Record.{Record}
use Rattle.ompt_events.specs.Records.{running, told_turns, begun_turn}
use Rattle.ompt_events.specs.Places.{at, places}

-- no record has turns
abbrev pub TellsNoTurns : List Record → Type 0
TellsNoTurns rs = (i : ℕ) → at told_turns rs i ≡ None

-- the turn in which the task is after a record of its thread
abbrev pub turn_after : ℕ → ℕ → Record → ℕ
turn_after task turn r =
    option_map_or (λ (b : ℕ × ℕ). if b.0 == task then b.1 else turn) (begun_turn r.body) turn

-- the same after these records of one thread: the turn that the task began last
abbrev pub turn_in : ℕ → List Record → ℕ
turn_in task rs = fold (turn_after task) 0 rs

-- the turn of the task that the record at the place is of, and 0 where it is of none
abbrev pub turn_of : List Record → Record → ℕ → ℕ
turn_of rs r i =
    option_map_or (λ task. turn_in task (filter (λ q. q.thread == r.thread) (take i rs))) (running r.body) 0

abbrev pub turn_at : List Record → ℕ → ℕ
turn_at rs i = option_map_or (λ (r : Record). turn_of rs r i) (slice_get rs i) 0

-- how many turns there are: one more than the greatest that begins
abbrev pub turns_in : List Record → ℕ
turns_in rs =
    suc (fold (λ most (r : Record). max most (option_map_or (λ (b : ℕ × ℕ). b.1) (begun_turn r.body) 0)) 0 rs)

-- all places, by turn and then in file order
abbrev pub own_places : List Record → List ℕ
own_places rs =
    flat_map (λ turn. filter (λ i. turn_at rs i == turn) (places rs)) (range_with_len 0 (turns_in rs))

-- the records in that order: in it the records of each task are in the task's own order
abbrev pub in_own_order : List Record → List Record
in_own_order rs = filter_map (slice_get rs) (own_places rs)

-- the number, in that order, of the record at the place
abbrev pub own_place : List Record → ℕ → ℕ
own_place rs i = position_or_len (λ k. k == i) (own_places rs)

-- the place begins this turn of the task
abbrev pub is_turn : ℕ → ℕ → Option (ℕ × ℕ) → Bool
is_turn task turn found = option_map_or (λ (b : ℕ × ℕ). (b.0 == task) && (b.1 == turn)) found false
