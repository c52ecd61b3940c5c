-- What a list of records must be to be a trace.
use Rattle.std.specs.Prelude.{ℕ, ◌≡◌, ◌==◌, ◌≤◌, ◌<◌, ◌+◌, ◌^◌, ◌⊎◌, ◌&&◌, ⊤, List, length, take, All}
use Rattle.std.specs.Prelude.{count_by, is_some, IfSome, ltb}
use Rattle.std.specs.Int.RustNames.{bit_and}
use Rattle.bitflags.specs.Sets.{known_bits}
use Rattle.ompt_events.specs.declared.records.Record.{Record}
use Rattle.ompt_events.specs.declared.records.Body.{Body}
use Rattle.ompt_events.specs.declared.records.Claim.{Claim}
use Rattle.ompt_events.specs.declared.records.Turns.{Turns}
use Rattle.ompt_events.specs.declared.records.Body.TheVariants.{ThreadBegin, ThreadEnd, ParallelBegin}
use Rattle.ompt_events.specs.declared.records.Body.TheVariants.{ParallelEnd, ImplicitTask, TaskCreate}
use Rattle.ompt_events.specs.declared.records.Body.TheVariants.{Dependences, TaskSchedule, SyncRegion, Cancel}
use Rattle.ompt_events.specs.declared.names.Endpoint.TheVariants.{BeginEnd}
use Rattle.ompt_events.specs.declared.deps.Dep.{Dep}
use Rattle.ompt_events.specs.Names.{demands_next}
use Rattle.ompt_events.specs.Records.{made, started, claim, finish, flags, cancellation, dependences}
use Rattle.ompt_events.specs.Records.{told_turns}
use Rattle.ompt_events.specs.Flags.{task_flags, cancel_flags}
use Rattle.ompt_events.specs.Limits.{max_records, max_tasks, max_threads, max_depth, max_dependences}

-- what clauses see of a trace: the version of its file, and its records in file order
pub record TraceView : Type 0 where
  pub version : ℕ
  pub records : List Record

-- each bit that is set has a name in the table
abbrev pub AreNamed : List (List ℕ × ℕ) → ℕ → Type 0
AreNamed table bits = bit_and bits (known_bits table) ≡ bits

-- there is a next task exactly where the status demands one
abbrev pub HasItsNext : Body → Type 0
HasItsNext (TaskSchedule status turns prior next claimed) = is_some next ≡ demands_next status
HasItsNext _ = ⊤

-- an initial or implicit task begins or ends, but not both at once
abbrev pub BeginsOrEnds : Body → Type 0
BeginsOrEnds (ImplicitTask BeginEnd actual index given parallel task) = ⊥
BeginsOrEnds _ = ⊤

-- a record that can be in a trace, as far as it alone shows
pub record IsSound (body : Body) : Type 0 where
  pub named_flags : IfSome (flags body) (AreNamed task_flags)
  pub named_cancellation : IfSome (cancellation body) (AreNamed cancel_flags)
  pub begins_or_ends : BeginsOrEnds body
  -- a claim exactly where a task is finished
  pub claimed : is_some (claim body) ≡ is_some (finish body)
  pub short_path : IfSome (claim body) (λ c. length c.path ≤ max_depth)
  pub few_dependences : IfSome (dependences body) (λ (d : ℕ × List Dep). length d.1 ≤ max_dependences)
  pub next : HasItsNext body

-- ---- numbers within the ranges of their types

abbrev pub ClaimInRange : Claim → Type 0
ClaimInRange c = (c.kept < 2 ^ 32) × (c.root < 2 ^ 64) × All (λ n. n < 2 ^ 32) c.path

abbrev pub TurnsInRange : Turns → Type 0
TurnsInRange t = (t.prior < 2 ^ 32) × (t.next < 2 ^ 32)

abbrev pub BodyInRange : Body → Type 0
BodyInRange (ThreadBegin kind) = ⊤
BodyInRange ThreadEnd = ⊤
BodyInRange (ParallelBegin requested task parallel) =
    (requested < 2 ^ 32) × (task < 2 ^ 64) × (parallel < 2 ^ 64)
BodyInRange (ParallelEnd task parallel) = (task < 2 ^ 64) × (parallel < 2 ^ 64)
BodyInRange (ImplicitTask endpoint actual index given parallel task) =
    (actual < 2 ^ 32) × (index < 2 ^ 32) × (parallel < 2 ^ 64) × (task < 2 ^ 64)
BodyInRange (TaskCreate deps given task child) = (task < 2 ^ 64) × (child < 2 ^ 64)
BodyInRange (Dependences task list) = (task < 2 ^ 64) × All (λ d. d.var < 2 ^ 64) list
BodyInRange (TaskSchedule status turns prior next claimed) =
    IfSome turns TurnsInRange × (prior < 2 ^ 64) × IfSome next (λ n. n < 2 ^ 64) × IfSome claimed ClaimInRange
BodyInRange (SyncRegion kind endpoint parallel task) = IfSome parallel (λ n. n < 2 ^ 64) × (task < 2 ^ 64)
BodyInRange (Cancel given task claimed) = (task < 2 ^ 64) × IfSome claimed ClaimInRange

pub record IsInRange (r : Record) : Type 0 where
  pub thread : r.thread < max_threads
  pub seq : r.seq < 2 ^ 32
  pub seen : r.seen < 2 ^ 32
  pub body : BodyInRange r.body

-- ---- traces

-- how many tasks the records make
abbrev pub tasks_in : List Record → ℕ
tasks_in rs = count_by (λ r. is_some (made r.body)) rs

-- the records are a trace
pub record IsTrace (rs : List Record) : Type 0 where
  pub few_records : length rs ≤ max_records
  pub few_tasks : tasks_in rs ≤ max_tasks
  pub sound : All (λ r. IsSound r.body) rs
  pub in_range : All IsInRange rs

-- the versions of the file format
abbrev pub IsKnown : ℕ → Type 0
IsKnown version = (version ≡ 1) ⊎ ((version ≡ 2) ⊎ (version ≡ 3))

-- turns are recorded from version 2 on, and there where a task runs next
abbrev pub HasItsTurns : ℕ → Body → Type 0
HasItsTurns version body = is_some (told_turns body) ≡ (ltb 1 version && is_some (started body))

-- a body that a record can have in a trace of this version, as far as it alone shows
abbrev pub IsSoundIn : ℕ → Body → Type 0
IsSoundIn version body = IsSound body × HasItsTurns version body

-- regions may lie inside others in version 3
abbrev pub NestsIn : ℕ → Record → Type 0
NestsIn version r = r.nests ≡ (version == 3)

-- a record that can be in a trace of this version, as far as it alone shows
abbrev pub FitsIn : ℕ → Record → Type 0
FitsIn version r = IsSoundIn version r.body × NestsIn version r

-- the records are a trace of this version
pub record IsTraceOf (version : ℕ) (rs : List Record) : Type 0 where
  pub known : IsKnown version
  pub is_trace : IsTrace rs
  pub turns : All (λ r. HasItsTurns version r.body) rs
  pub nesting : All (NestsIn version) rs

-- the records before i are a trace of this version, and with the one at i they are none
pub record IsFirstRefused (version : ℕ) (rs : List Record) (i : ℕ) : Type 0 where
  pub within : i < length rs
  pub before : IsTraceOf version (take i rs)
  pub refused : IsTraceOf version (take (i + 1) rs) → ⊥
