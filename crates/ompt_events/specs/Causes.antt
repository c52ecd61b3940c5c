-- Why no run within the model can produce a list of records. Each cause is a fact about the list alone, and
-- assumes that no lower-numbered cause occurs.
use Rattle.std.specs.Prelude.{true, false, None, ℕ, ◌≡◌, ◌≢◌, ◌<◌, ◌≤◌, ◌+◌, ◌==◌, List, [], length, take}
use Rattle.std.specs.Prelude.{Some}
use Rattle.std.specs.Prelude.{Contains, count_by, slice_get, is_some, if◌then◌else◌}
use Rattle.ompt_events.specs.declared.records.Record.{Record}
use Rattle.ompt_events.specs.declared.records.Claim.{Claim}
use Rattle.ompt_events.specs.declared.records.Turns.{Turns}
use Rattle.ompt_events.specs.declared.records.Part.{Part}
use Rattle.ompt_events.specs.declared.cause.Cause.{Cause}
use Rattle.ompt_events.specs.declared.cause.Cause.TheVariants.{SeqGap, CreatedTwice, Rootless, NotCurrent}
use Rattle.ompt_events.specs.declared.cause.Cause.TheVariants.{Moved, TurnGap, StatusOrder, RegionOrder}
use Rattle.ompt_events.specs.declared.cause.Cause.TheVariants.{TeamShort, NestedParallel, RegionNesting}
use Rattle.ompt_events.specs.declared.cause.Cause.TheVariants.{DepsPlace, ShareWrong, EntryTwice}
use Rattle.ompt_events.specs.declared.cause.Cause.TheVariants.{LengthAhead}
use Rattle.ompt_events.specs.declared.cause.Cause.TheVariants.{LengthBack, NoOrder, TargetTask}
use Rattle.ompt_events.specs.declared.names.SyncKind.{SyncKind}
use Rattle.ompt_events.specs.declared.names.Endpoint.{Endpoint}
use Rattle.ompt_events.specs.declared.deps.Dep.{Dep}
use Rattle.ompt_events.specs.CauseNames.{cause_number}
use Rattle.ompt_events.specs.Flags as flag
use Rattle.ompt_events.specs.Flags.{has_flag}
use Rattle.ompt_events.specs.declared.records.Membership.{Membership}
use Rattle.ompt_events.specs.Records.{made, created, created_with_deps, dependences, started, told_turns}
use Rattle.ompt_events.specs.Records.{begun_turn, begun_root, finish, claim, flags, named, forked}
use Rattle.ompt_events.specs.Records.{region_named, joined, begun_initial, region}
use Rattle.ompt_events.specs.Places.{at, thread_at, nests_at, seen_at}
use Rattle.ompt_events.specs.Tree.{IsRoot, IsExplicit, IsRooted, HasPath, children}
use Rattle.ompt_events.specs.Turns.{turn_at, in_own_order, own_place}
use Rattle.ompt_events.specs.Threads.{Walk, walk_of, MisfitsAt}
use Rattle.ompt_events.specs.States.{Move, all_moves_of, nature_of, state_of}
use Rattle.ompt_events.specs.Regions.{EndsNoRegion, IsRegion, IsBarrierBegin, is_barrier, is_called_barrier}
use Rattle.ompt_events.specs.Teams.{IsMember, IsInitial, IsTeammate, members, members_before}
use Rattle.ompt_events.specs.HappensBefore.{IsProgramStep, IsFinishing}
use Rattle.ompt_events.specs.Linearization.{IsGrounded}

-- the record's `seq` isn't the number of earlier records of its thread
abbrev pub HasSeqGap : List Record → ℕ → Type 0
HasSeqGap rs i =
    (r : Record) × (slice_get rs i ≡ Some r) × (r.seq ≢ count_by (λ q. q.thread == r.thread) (take i rs))

-- a record earlier in file order makes the same task
abbrev pub IsMadeAgain : List Record → ℕ → Type 0
IsMadeAgain rs i = (task k : ℕ) × (k < i) × (at made rs k ≡ Some task) × (at made rs i ≡ Some task)

-- a record earlier in file order begins the same parallel region
abbrev pub IsForkedAgain : List Record → ℕ → Type 0
IsForkedAgain rs i =
    (parallel k own other : ℕ) × (k < i) × (at forked rs k ≡ Some (other, parallel))
    × (at forked rs i ≡ Some (own, parallel))

-- a task is named there
abbrev pub IsNamedAt : List Record → ℕ → ℕ → Type 0
IsNamedAt rs i task = (r : Record) × (slice_get rs i ≡ Some r) × Contains (named r.body) task

-- some record makes the task
abbrev pub IsMade : List Record → ℕ → Type 0
IsMade rs task = (k : ℕ) × (at made rs k ≡ Some task)

-- some record begins the parallel region
abbrev pub IsForked : List Record → ℕ → Type 0
IsForked rs parallel = (k task : ℕ) × (at forked rs k ≡ Some (task, parallel))

-- a task without a root
pub data HasNoRoot (rs : List Record) (i : ℕ) : Type 0 where
  -- a task is named that no record makes
  unmade : (task : ℕ) → IsNamedAt rs i task → (IsMade rs task → ⊥) → HasNoRoot rs i
  -- a task is created whose chain of parents reaches no root
  unrooted : (task : ℕ) → at created rs i ≡ Some task → (IsRooted rs task → ⊥) → HasNoRoot rs i
  -- a parallel region ends, or a member of its team begins, that no record begins
  no_region : (parallel : ℕ) → at region_named rs i ≡ Some parallel → (IsForked rs parallel → ⊥)
      → HasNoRoot rs i

-- the first record of its thread that speaks for a task which the thread does not run
pub record IsNotCurrent (rs : List Record) (i : ℕ) : Type 0 where
  pub misfits : MisfitsAt rs i
  pub first : (k : ℕ) → k < i → thread_at rs k ≡ thread_at rs i → MisfitsAt rs k → ⊥

-- an explicit task runs next that ran next earlier in file order on another thread, and no turns are
-- recorded
abbrev pub IsMoved : List Record → ℕ → Type 0
IsMoved rs i =
    (task k : ℕ) × IsExplicit rs task × (at started rs i ≡ Some task) × (k < i)
    × (at started rs k ≡ Some task) × (thread_at rs k ≢ thread_at rs i) × (at told_turns rs i ≡ None)

-- the record begins this turn of the task; turn 0 of a root begins where the root does
pub data BeginsTurn (rs : List Record) (i task : ℕ) : ℕ → Type 0 where
  runs : {turn : ℕ} → at begun_turn rs i ≡ Some (task, turn) → BeginsTurn rs i task turn
  is_root : at begun_root rs i ≡ Some task → BeginsTurn rs i task 0

-- turns are recorded at the record, and the task runs next in this turn
abbrev pub TellsStart : List Record → ℕ → ℕ → ℕ → Type 0
TellsStart rs i task turn = (at told_turns rs i ≢ None) × (at begun_turn rs i ≡ Some (task, turn))

-- the turns that the record has are not those of its tasks
pub data HasTurnGap (rs : List Record) (i : ℕ) : Type 0 where
  -- the prior task is in another turn
  other_turn : (told : Turns) → at told_turns rs i ≡ Some told → told.prior ≢ turn_at rs i → HasTurnGap rs i
  -- a record earlier in file order began the same turn of the next task
  begun_again : (task turn k : ℕ) → TellsStart rs i task turn → k < i → at begun_turn rs k ≡ Some (task, turn)
      → HasTurnGap rs i
  -- an earlier record of the thread began a later turn of it
  falling : (task turn k later : ℕ) → TellsStart rs i task turn → k < i → thread_at rs k ≡ thread_at rs i
      → at begun_turn rs k ≡ Some (task, later) → turn < later → HasTurnGap rs i
  -- turn 0 of a root begins where the root does, and nowhere else
  of_root : (task : ℕ) → TellsStart rs i task 0 → IsRoot rs task → HasTurnGap rs i
  -- no record begins the turn before
  missing : (task turn : ℕ) → TellsStart rs i task (turn + 1) → ((k : ℕ) → BeginsTurn rs k task turn → ⊥)
      → HasTurnGap rs i

-- of a task's moves this record makes the first that its state does not allow
pub record HasNoState (rs : List Record) (i : ℕ) : Type 0 where
  pub task : ℕ
  pub number : ℕ
  pub move : Move
  pub made_there : slice_get (all_moves_of rs task) number ≡ Some (i, move)
  pub allowed : is_some (state_of (nature_of rs task) (take number (all_moves_of rs task))) ≡ true
  pub not_allowed : state_of (nature_of rs task) (take (number + 1) (all_moves_of rs task)) ≡ None

-- a region ends that isn't open
abbrev pub HasNoBegin : List Record → ℕ → Type 0
HasNoBegin rs i = (task : ℕ) × (kind : SyncKind) × EndsNoRegion rs i task kind

-- an explicit task begins or ends a barrier (OpenMP 5.2, 15.3: it may not)
abbrev pub HasBarrier : List Record → ℕ → Type 0
HasBarrier rs i =
    (task : ℕ) × (kind : SyncKind) × (endpoint : Endpoint)
    × (at region rs i ≡ Some (task, kind, endpoint)) × (is_called_barrier kind ≡ true) × IsExplicit rs task

-- a team or one of its barriers lacks a member (OpenMP 5.2, 10.1 and 15.3)
pub data IsShort (rs : List Record) (i : ℕ) : Type 0 where
  -- the member's number isn't one of its team
  outside : (m : Membership) → at joined rs i ≡ Some m → m.actual ≤ m.index → IsShort rs i
  -- an earlier member of the team has the same number
  same_index : (m e : Membership) → at joined rs i ≡ Some m → Contains (members_before rs m.parallel i) e
      → e.index ≡ m.index → IsShort rs i
  -- an earlier member names another size of the team
  other_size : (m e : Membership) → at joined rs i ≡ Some m → Contains (members_before rs m.parallel i) e
      → e.actual ≢ m.actual → IsShort rs i
  -- the team has fewer members than its size
  few : (m : Membership) → at joined rs i ≡ Some m → length (members rs m.parallel) < m.actual → IsShort rs i
  -- a barrier ends that a member of the team doesn't begin: the member has no barrier of the same number
  -- (15.3)
  missed : (task member begin number : ℕ) (kind : SyncKind) → IsRegion rs i task kind begin
      → is_barrier kind ≡ true
      → IsBarrierBegin rs task number begin → IsTeammate rs task member
      → ((start : ℕ) → IsBarrierBegin rs member number start → ⊥) → IsShort rs i

-- the walk of the record's thread before it
abbrev pub IsWalkAt : List Record → ℕ → Walk → Type 0
IsWalkAt rs i walk = (r : Record) × (slice_get rs i ≡ Some r) × (walk ≡ walk_of r.thread (take i rs))

-- a parallel region inside another, where none may be
pub data IsNested (rs : List Record) (i : ℕ) : Type 0 where
  -- a parallel region begins by a task that isn't initial
  forked_inside : (task parallel : ℕ) → nests_at rs i ≡ false → at forked rs i ≡ Some (task, parallel)
      → (IsInitial rs task → ⊥) → IsNested rs i
  -- a member of a team begins while another is the thread's innermost open root
  joined_inside : (m : Membership) (walk : Walk) (outer : ℕ) → nests_at rs i ≡ false
      → at joined rs i ≡ Some m → IsWalkAt rs i walk → slice_get walk.roots 0 ≡ Some outer
      → IsMember rs outer → IsNested rs i
  -- an initial task begins while the thread has an open root
  initial_inside : (task : ℕ) (walk : Walk) → nests_at rs i ≡ false → at begun_initial rs i ≡ Some task
      → IsWalkAt rs i walk → walk.roots ≢ [] → IsNested rs i

-- an earlier record of the same thread begins the parallel region, by the task that runs there before i
abbrev pub HasBegun : List Record → ℕ → Walk → ℕ → Type 0
HasBegun rs i walk parallel =
    (k task : ℕ) × (k < i) × (thread_at rs k ≡ thread_at rs i) × (walk.current ≡ Some task)
    × (at forked rs k ≡ Some (task, parallel))

-- a root begins inside another one, on a thread whose current task has not begun its region there
-- (OpenMP 5.2, 10.1: the thread that encounters a parallel construct becomes the primary thread of its team)
pub data IsMisnested (rs : List Record) (i : ℕ) : Type 0 where
  -- a member of a team begins, whose region the current task has not begun
  other_region : (m : Membership) (walk : Walk) → nests_at rs i ≡ true → at joined rs i ≡ Some m
      → IsWalkAt rs i walk → walk.roots ≢ [] → (HasBegun rs i walk m.parallel → ⊥) → IsMisnested rs i
  -- an initial task begins, and the current task has begun no region
  other_league : (task : ℕ) (walk : Walk) → nests_at rs i ≡ true → at begun_initial rs i ≡ Some task
      → IsWalkAt rs i walk → walk.roots ≢ [] → ((parallel : ℕ) → HasBegun rs i walk parallel → ⊥)
      → IsMisnested rs i

-- the thread's next record after the one at a is that at b
pub record IsNextInThread (rs : List Record) (a b : ℕ) : Type 0 where
  pub later : a < b
  pub within : b < length rs
  pub same_thread : thread_at rs a ≡ thread_at rs b
  pub next : (k : ℕ) → a < k → k < b → thread_at rs k ≢ thread_at rs a

-- a task is created with dependences at a, and they follow at b
pub record AreFollowed (rs : List Record) (a b : ℕ) : Type 0 where
  pub task : ℕ
  pub items : List Dep
  pub is_created : at created_with_deps rs a ≡ Some task
  pub listed : at dependences rs b ≡ Some (task, items)
  pub next : IsNextInThread rs a b

-- a list of dependences that doesn't follow its creation, or is missing there
pub data HasMisplacedDeps (rs : List Record) (i : ℕ) : Type 0 where
  stray : is_some (at dependences rs i) ≡ true → ((a : ℕ) → AreFollowed rs a i → ⊥) → HasMisplacedDeps rs i
  missing : is_some (at created_with_deps rs i) ≡ true → ((b : ℕ) → AreFollowed rs i b → ⊥)
      → HasMisplacedDeps rs i

-- the claim is right: the task is at this path below its root, and has this many children
pub record IsRightClaim (rs : List Record) (task : ℕ) (claimed : Claim) : Type 0 where
  pub stands : HasPath rs claimed.root task claimed.path
  pub kept : claimed.kept ≡ length (children rs task)

-- a task is finished with a claim that isn't right
abbrev pub HasWrongShare : List Record → ℕ → Type 0
HasWrongShare rs i =
    (task : ℕ) × (part : Part) × (claimed : Claim) × (at finish rs i ≡ Some (task, part))
    × (at claim rs i ≡ Some claimed) × (IsRightClaim rs task claimed → ⊥)

-- an earlier finishing record in file order names the same entry
abbrev pub RepeatsEntry : List Record → ℕ → Type 0
RepeatsEntry rs i = (k : ℕ) × (k < i) × IsFinishing rs k × IsFinishing rs i × (seen_at rs k ≡ seen_at rs i)

-- the ledger length after all records
abbrev pub entries_in : List Record → ℕ
entries_in rs = count_by (λ r. is_some (finish r.body)) rs

-- how many entries the records before the place make
abbrev pub entries_before : List Record → ℕ → ℕ
entries_before rs i = entries_in (take i rs)

-- the record names a greater length than the ledger ever has
pub data IsAhead (rs : List Record) (i : ℕ) : Type 0 where
  entry : IsFinishing rs i → entries_in rs ≤ seen_at rs i → IsAhead rs i
  ledger_length : entries_in rs < seen_at rs i → IsAhead rs i

-- the ledger length that is known after the record
abbrev pub known_after : List Record → ℕ → ℕ
known_after rs i = if is_some (at finish rs i) then seen_at rs i + 1 else seen_at rs i

-- a length is less than one known at a step before
abbrev pub IsBehind : List Record → ℕ → Type 0
IsBehind rs i = (k : ℕ) × IsProgramStep rs k i × (seen_at rs i < known_after rs k)

-- the record is in no list that has, before each of its records, all that happens before it
pub record HasNoOrder (rs : List Record) (i : ℕ) : Type 0 where
  pub within : i < length rs
  pub never : (order : List ℕ) → IsGrounded rs order → Contains order i → ⊥

-- a task is made that is to run on a device (OpenMP 5.2, 13.8), where the file does not admit one
abbrev pub MakesTarget : List Record → ℕ → Type 0
MakesTarget rs i =
    (task bits : ℕ) × (nests_at rs i ≡ false) × (at made rs i ≡ Some task) × (at flags rs i ≡ Some bits)
    × (has_flag bits flag.target ≡ true)

-- The record has the cause.
pub data HasCause (rs : List Record) (i : ℕ) : Cause → Type 0 where
  seq_gap : HasSeqGap rs i → HasCause rs i SeqGap
  created_twice : IsMadeAgain rs i → HasCause rs i CreatedTwice
  forked_twice : IsForkedAgain rs i → HasCause rs i CreatedTwice
  rootless : HasNoRoot rs i → HasCause rs i Rootless
  not_current : IsNotCurrent rs i → HasCause rs i NotCurrent
  moved : IsMoved rs i → HasCause rs i Moved
  turn_gap : HasTurnGap rs i → HasCause rs i TurnGap
  status_order : HasNoState rs i → HasCause rs i StatusOrder
  region_order : HasNoBegin rs i → HasCause rs i RegionOrder
  barrier_order : HasBarrier rs i → HasCause rs i RegionOrder
  team_short : IsShort rs i → HasCause rs i TeamShort
  nested_parallel : IsNested rs i → HasCause rs i NestedParallel
  region_nesting : IsMisnested rs i → HasCause rs i RegionNesting
  deps_place : HasMisplacedDeps rs i → HasCause rs i DepsPlace
  share_wrong : HasWrongShare rs i → HasCause rs i ShareWrong
  entry_twice : RepeatsEntry rs i → HasCause rs i EntryTwice
  length_ahead : IsAhead rs i → HasCause rs i LengthAhead
  length_back : IsBehind rs i → HasCause rs i LengthBack
  no_order : HasNoOrder rs i → HasCause rs i NoOrder
  target_task : MakesTarget rs i → HasCause rs i TargetTask

-- The trace shows the cause at the record. Three causes are read in the tasks' own order: those of regions,
-- of the barriers of a team, and of the tree that claims speak of. All others are read in file order.
abbrev pub Shows : List Record → ℕ → Cause → Type 0
Shows rs i RegionOrder = HasCause (in_own_order rs) (own_place rs i) RegionOrder
Shows rs i TeamShort = HasCause (in_own_order rs) (own_place rs i) TeamShort
Shows rs i ShareWrong = HasCause (in_own_order rs) (own_place rs i) ShareWrong
Shows rs i cause = HasCause rs i cause

-- no record has the cause
abbrev pub IsFreeOf : List Record → Cause → Type 0
IsFreeOf rs cause = (i : ℕ) → HasCause rs i cause → ⊥

-- the first record in file order that has the cause
pub record IsFirstWith (rs : List Record) (cause : Cause) (i : ℕ) : Type 0 where
  pub within : i < length rs
  pub has : HasCause rs i cause
  pub first : (k : ℕ) → k < i → HasCause rs k cause → ⊥

-- of the causes that are searched for this is the one with the least number, at its first record
pub record IsMalformed (rs : List Record) (sought : List Cause) (i : ℕ) (cause : Cause) : Type 0 where
  pub sought_for : Contains sought cause
  pub found : IsFirstWith rs cause i
  pub least : (other : Cause) → Contains sought other → cause_number other < cause_number cause
      → IsFreeOf rs other

-- ---- the same, by what the trace shows

-- no record shows the cause
abbrev pub ShowsNowhere : List Record → Cause → Type 0
ShowsNowhere rs cause = (i : ℕ) → Shows rs i cause → ⊥

-- the first record in file order that shows the cause
pub record IsFirstShown (rs : List Record) (cause : Cause) (i : ℕ) : Type 0 where
  pub within : i < length rs
  pub shown : Shows rs i cause
  pub first : (k : ℕ) → k < i → Shows rs k cause → ⊥

-- of the causes that are searched for the trace shows this one, which has the least number, first at this
-- record
pub record IsShownMalformed (rs : List Record) (sought : List Cause) (i : ℕ) (cause : Cause) : Type 0 where
  pub sought_for : Contains sought cause
  pub found : IsFirstShown rs cause i
  pub least : (other : Cause) → Contains sought other → cause_number other < cause_number cause
      → ShowsNowhere rs other
