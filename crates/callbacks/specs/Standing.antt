-- The state of a thread while it records, and which records may come next there.
use Rattle.std.specs.Prelude.{ℕ, ◌==◌, ◌&&◌, ◌||◌, Bool, true, false, not, List, [], ◌∷◌, Option, Some, None}
use Rattle.std.specs.Prelude.{option_map, is_some, is_none, if◌then◌else◌, fold, drop, slice_get}
use Rattle.std.specs.Option.{option_map_or}
use Rattle.ompt_events.specs.declared.records.Record.{Record}
use Rattle.ompt_events.specs.declared.records.Body.{Body}
use Rattle.ompt_events.specs.declared.records.Body.TheVariants.{ImplicitTask}
use Rattle.ompt_events.specs.declared.records.Membership.{Membership}
use Rattle.ompt_events.specs.declared.names.Endpoint.TheVariants.{Begin, End}
use Rattle.ompt_events.specs.declared.deps.Dep.{Dep}
use Rattle.ompt_events.specs.Flags as flag
use Rattle.ompt_events.specs.Flags.{has_flag}
use Rattle.ompt_events.specs.Records.{begun_initial, created_with_deps, dependences, ended_root, flags}
use Rattle.ompt_events.specs.Records.{forked, joined, made, running}
use Rattle.ompt_events.specs.States.{is_task}
use Rattle.ompt_events.specs.Threads.{Walk, at_start, uncovered, after_body}
use Rattle.callbacks.specs.Begun.{has_begun, has_begun_one}

-- the walk of the thread; of each open root, the innermost first, whether it is an initial task or a member
-- of a team; and the task that was created with dependences, which come next
pub record Standing : Type 0 where
  pub walk : Walk
  pub initial : List Bool
  pub awaited : Option ℕ

-- a thread that has recorded nothing
abbrev pub standing_at_start : Standing
standing_at_start = record { walk = at_start; initial = []; awaited = None }

-- of each open root whether it is an initial task, after a record
abbrev pub initial_after : List Bool → Body → List Bool
initial_after initial (ImplicitTask Begin actual index given parallel task) =
    has_flag given.0 flag.initial ∷ initial
initial_after initial (ImplicitTask End actual index given parallel task) = drop 1 initial
initial_after initial _ = initial

-- the state of the thread after a record: its roots and its task follow the rules of a thread's walk
-- (OpenMP 5.2, 12.9), and a creation with dependences awaits them
abbrev pub next_standing : Bool → Standing → Body → Standing
next_standing nests s body = record {
  walk = after_body nests s.walk body;
  initial = initial_after s.initial body;
  awaited = created_with_deps body;
}

-- the same where a root begins and runs, or ends, whatever is awaited
abbrev pub with_root : Standing → ℕ → ℕ → Standing
with_root s bits task = record {
  walk = record {
    roots = task ∷ s.walk.roots;
    outer = s.walk.current ∷ s.walk.outer;
    current = Some task;
  };
  initial = has_flag bits flag.initial ∷ s.initial;
  awaited = s.awaited;
}

abbrev pub without_root : Bool → Standing → Standing
without_root nests s = record {
  walk = record {
    roots = drop 1 s.walk.roots;
    outer = drop 1 s.walk.outer;
    current = uncovered nests s.walk;
  };
  initial = drop 1 s.initial;
  awaited = s.awaited;
}

-- the state of the thread after its records
abbrev pub standing_of : List Record → Standing
standing_of own = fold (λ s (r : Record). next_standing r.nests s r.body) standing_at_start own

-- the innermost open root
abbrev pub innermost : Standing → Option ℕ
innermost s = slice_get s.walk.roots 0

-- ---- what may come next

abbrev pub is_same : Option ℕ → Option ℕ → Bool
is_same None None = true
is_same (Some a) (Some b) = a == b
is_same None (Some b) = false
is_same (Some a) None = false

-- dependences come right after the creation of their task, and nothing else comes there (cause DepsPlace)
abbrev pub is_in_place : Standing → Body → Bool
is_in_place s body = is_same s.awaited (option_map (λ (d : ℕ × List Dep). d.0) (dependences body))

-- the record, if it must be of the running task, is of the task that the thread runs (cause NotCurrent)
abbrev pub runs_its_task : Standing → Body → Bool
runs_its_task s body = option_map_or (λ task. is_task task s.walk.current) (running body) true

-- a root that ends is the innermost open one (cause NotCurrent)
abbrev pub ends_innermost : Standing → Body → Bool
ends_innermost s body = option_map_or (λ task. is_task task (innermost s)) (ended_root body) true

-- where no region may lie inside another one: a parallel region is begun by the innermost open root, which
-- is an initial task; no member of a team begins inside another one, and no initial task inside any root
-- (cause NestedParallel)
abbrev pub is_outside : Standing → Body → Bool
is_outside s body =
    option_map_or (λ (f : ℕ × ℕ). is_task f.0 (innermost s) && is_initial) (forked body) true
    && not (is_some (joined body) && is_member)
    && not (is_some (begun_initial body) && is_some (innermost s))
  where
    is_initial : Bool
    is_initial = option_map_or (λ b. b) (slice_get s.initial 0) false

    is_member : Bool
    is_member = option_map_or not (slice_get s.initial 0) false

-- in such a trace no task is made that is to run on a device (cause TargetTask)
abbrev pub is_on_host : Body → Bool
is_on_host body =
    not (is_some (made body) && option_map_or (λ bits. has_flag bits flag.target) (flags body) false)

-- where regions may lie inside others: a root that begins inside another one is of a region that the current
-- task has begun on this thread (cause RegionNesting)
abbrev pub begins_own_region : List Record → Body → Bool
begins_own_region own body =
    is_none (innermost (standing_of own))
    || (option_map_or (λ (m : Membership). has_begun own current m.parallel) (joined body) true
    && (is_none (begun_initial body) || has_begun_one own current))
  where
    current : Option ℕ
    current = (standing_of own).walk.current

-- the thread's records show no reason against a record with this body, in a trace where regions may lie
-- inside others or in one where they may not
abbrev pub fits : Standing → Body → Bool
fits s body = is_in_place s body && runs_its_task s body && ends_innermost s body

abbrev pub allows : Bool → List Record → Body → Bool
allows nests own body =
    fits (standing_of own) body
    && (if nests then begins_own_region own body else is_outside (standing_of own) body && is_on_host body)
