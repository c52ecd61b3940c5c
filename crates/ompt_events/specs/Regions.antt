-- Synchronisation regions: which begin an end belongs to (OpenMP 5.2, 19.5.2.13).
use Rattle.std.specs.Prelude.{ℕ, ◌≡◌, ◌≢◌, ◌==◌, Bool, true, false, List, [], ◌∷◌, Option, Some, None, length}
use Rattle.std.specs.Prelude.{filter, fold, drop, slice_get, option_map, if◌then◌else◌}
use Rattle.std.specs.Option.{option_map_or}
use Rattle.ompt_events.specs.declared.records.Record.{Record}
use Rattle.ompt_events.specs.declared.records.Body.{Body}
use Rattle.ompt_events.specs.declared.records.Body.TheVariants.{SyncRegion}
use Rattle.ompt_events.specs.declared.names.Endpoint.{Endpoint}
use Rattle.ompt_events.specs.declared.names.Endpoint.TheVariants.{Begin, End, BeginEnd}
use Rattle.ompt_events.specs.declared.names.SyncKind.{SyncKind}
use Rattle.ompt_events.specs.declared.names.SyncKind.TheVariants.{Barrier, BarrierImplicit, BarrierExplicit}
use Rattle.ompt_events.specs.declared.names.SyncKind.TheVariants.{BarrierImplementation, Taskwait, Taskgroup}
use Rattle.ompt_events.specs.declared.names.SyncKind.TheVariants.{BarrierImplicitWorkshare}
use Rattle.ompt_events.specs.declared.names.SyncKind.TheVariants.{BarrierImplicitParallel, BarrierTeams}
use Rattle.ompt_events.specs.Records.{region}
use Rattle.ompt_events.specs.Places.{at, own_before}

-- the open regions after a record at the place i: a begin opens one, an end closes the innermost,
-- and a begin and end in one leave them as they are
abbrev pub after_region : List ℕ → ℕ → Option (ℕ × SyncKind × Endpoint) → List ℕ
after_region opened i None = opened
after_region opened i (Some (task, kind, Begin)) = i ∷ opened
after_region opened i (Some (task, kind, End)) = drop 1 opened
after_region opened i (Some (task, kind, BeginEnd)) = opened

-- the task's regions that are open just before the place i: the places of their begins, the innermost first
abbrev pub open_regions : List Record → ℕ → ℕ → List ℕ
open_regions rs task i = fold (λ opened k. after_region opened k (at region rs k)) [] (own_before rs task i)

-- the kind of the region that begins or ends there
abbrev pub kind_at : List Record → ℕ → Option SyncKind
kind_at rs i = option_map (λ (r : ℕ × SyncKind × Endpoint). r.1) (at region rs i)

-- the end at i of a region of this kind, of the task, belongs to the begin
pub record EndsRegion (rs : List Record) (i task : ℕ) (kind : SyncKind) (begin : ℕ) : Type 0 where
  pub ends : at region rs i ≡ Some (task, kind, End)
  pub innermost : slice_get (open_regions rs task i) 0 ≡ Some begin
  pub same_kind : kind_at rs begin ≡ Some kind

-- a region of this kind, of the task, ends at i; it began at the place begin, which is i itself for a begin
-- and end in one
pub data IsRegion (rs : List Record) (i task : ℕ) (kind : SyncKind) : ℕ → Type 0 where
  ended : {begin : ℕ} → EndsRegion rs i task kind begin → IsRegion rs i task kind begin
  at_once : at region rs i ≡ Some (task, kind, BeginEnd) → IsRegion rs i task kind i

-- an end that belongs to no begin: the task has no open region, or its innermost one is of another kind
pub record EndsNoRegion (rs : List Record) (i task : ℕ) (kind : SyncKind) : Type 0 where
  pub ends : at region rs i ≡ Some (task, kind, End)
  pub none : (begin : ℕ) → slice_get (open_regions rs task i) 0 ≡ Some begin → kind_at rs begin ≢ Some kind

-- the kinds of barrier that wait for the tasks of the parallel region (OpenMP 5.2, 15.3)
abbrev pub is_barrier : SyncKind → Bool
is_barrier Barrier = true
is_barrier BarrierImplicit = true
is_barrier BarrierExplicit = true
is_barrier BarrierImplicitWorkshare = true
is_barrier BarrierImplicitParallel = true
is_barrier _ = false

-- any kind that is called a barrier
abbrev pub is_called_barrier : SyncKind → Bool
is_called_barrier BarrierImplementation = true
is_called_barrier BarrierTeams = true
is_called_barrier kind = is_barrier kind

-- the kinds of region whose end waits for tasks (15.3, 15.4 and 15.5)
abbrev pub waits_for_tasks : SyncKind → Bool
waits_for_tasks Taskwait = true
waits_for_tasks Taskgroup = true
waits_for_tasks kind = is_barrier kind

-- a region ends that waits for tasks; a begin and end in one is an end too
abbrev pub ends_wait : Body → Bool
ends_wait (SyncRegion kind Begin parallel task) = false
ends_wait (SyncRegion kind endpoint parallel task) = waits_for_tasks kind
ends_wait _ = false

-- the task that begins a barrier, whether or not it ends there too
abbrev pub barrier_begun : Option (ℕ × SyncKind × Endpoint) → Option ℕ
barrier_begun None = None
barrier_begun (Some (task, kind, End)) = None
barrier_begun (Some (task, kind, endpoint)) = if is_barrier kind then Some task else None

-- whether the task begins a barrier there
abbrev pub begins_barrier : List Record → ℕ → ℕ → Bool
begins_barrier rs task i = option_map_or (λ t. t == task) (barrier_begun (at region rs i)) false

-- the places at which the task begins its barriers, in its order
abbrev pub barrier_begins : List Record → ℕ → List ℕ
barrier_begins rs task = filter (begins_barrier rs task) (own_before rs task (length rs))

-- the task's barrier begin with this number, from 0, is at the place start
abbrev pub IsBarrierBegin : List Record → ℕ → ℕ → ℕ → Type 0
IsBarrierBegin rs task number start = slice_get (barrier_begins rs task) number ≡ Some start
