-- Which parallel regions the tasks of a thread have begun there (OpenMP 5.2, 19.5.2.3).
use Rattle.std.specs.Prelude.{ℕ, ◌≡◌, ◌==◌, ◌&&◌, Bool, false, List, Option, Some}
use Rattle.std.specs.declared.cmp.Ordering.{Ordering}
use Rattle.std.specs.List.{list_any}
use Rattle.std.specs.Option.{option_map_or}
use Rattle.std.specs.BTreeSet.{BTreeSet, contains}
use Rattle.std.specs.Ordering.{nat_cmp, ordering_then}
use Rattle.ompt_events.specs.declared.records.Record.{Record}
use Rattle.ompt_events.specs.declared.records.Body.{Body}
use Rattle.ompt_events.specs.Records.{forked}

-- the task begins this parallel region, or any region, by a record with this body
abbrev pub begins_it : ℕ → ℕ → Body → Bool
begins_it task parallel body =
    option_map_or (λ (f : ℕ × ℕ). (f.0 == task) && (f.1 == parallel)) (forked body) false

abbrev pub begins_one : ℕ → Body → Bool
begins_one task body = option_map_or (λ (f : ℕ × ℕ). f.0 == task) (forked body) false

-- the same by one of the thread's records, where there is a task
abbrev pub has_begun : List Record → Option ℕ → ℕ → Bool
has_begun own found parallel =
    option_map_or (λ task. list_any (λ (r : Record). begins_it task parallel r.body) own) found false

abbrev pub has_begun_one : List Record → Option ℕ → Bool
has_begun_one own found =
    option_map_or (λ task. list_any (λ (r : Record). begins_one task r.body) own) found false

-- the order of a set of tasks with regions
abbrev pub pair_cmp : ℕ × ℕ → ℕ × ℕ → Ordering
pair_cmp x y = ordering_then (nat_cmp x.0 y.0) (nat_cmp x.1 y.1)

-- the set has each region that the records begin, with the task that begins it, and nothing else
abbrev pub AreBegun : List Record → BTreeSet (ℕ × ℕ) → Type 0
AreBegun own pairs =
    (task parallel : ℕ) → contains pair_cmp pairs (task, parallel) ≡ has_begun own (Some task) parallel
