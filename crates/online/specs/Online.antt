-- Records that can be looked at one after another, in an order in which a program may have made them.
use Rattle.std.specs.Prelude.{ℕ, ◌≡◌, ◌≢◌, ◌<◌, ◌≤◌, ◌+◌, ◌⊎◌, ◌==◌, Bool, true, false, List, length, take}
use Rattle.std.specs.Prelude.{Option, Some, None, Contains, slice_get, option_map, filter, fold}
use Rattle.std.specs.Prelude.{[], ◌∷◌, ◌++◌, is_some}
use Rattle.ompt_events.specs.declared.records.Record.{Record}
use Rattle.ompt_events.specs.declared.records.Membership.{Membership}
use Rattle.ompt_events.specs.declared.records.Part.{Part}
use Rattle.ompt_events.specs.declared.records.Part.TheVariants.{Event}
use Rattle.ompt_events.specs.declared.names.SyncKind.{SyncKind}
use Rattle.ompt_events.specs.declared.deps.Dep.{Dep}
use Rattle.ompt_events.specs.declared.cause.Cause.{Cause}
use Rattle.ompt_events.specs.declared.cause.Cause.TheVariants.{SeqGap, CreatedTwice, NotCurrent, Moved}
use Rattle.ompt_events.specs.declared.cause.Cause.TheVariants.{TurnGap}
use Rattle.ompt_events.specs.declared.cause.Cause.TheVariants.{RegionOrder, NestedParallel, RegionNesting}
use Rattle.ompt_events.specs.declared.cause.Cause.TheVariants.{EntryTwice, LengthBack, TargetTask}
use Rattle.ompt_events.specs.Records.{made, created, discarded, fulfilled, finish, running, dependences}
use Rattle.ompt_events.specs.Records.{created_with_deps, wait_completed, region_named, named}
use Rattle.ompt_events.specs.Records.{begun_turn, suspended_turn}
use Rattle.ompt_events.specs.Places.{at, seen_at}
use Rattle.ompt_events.specs.Tree.{IsExplicit, IsChild, children_before}
use Rattle.ompt_events.specs.Teams.{members, IsTeammate}
use Rattle.ompt_events.specs.Regions.{IsRegion, is_barrier, IsBarrierBegin}
use Rattle.ompt_events.specs.HappensBefore.{IsFinishing, IsStart, IsResumption}
use Rattle.ompt_events.specs.Coverage.{IsFamily}
use Rattle.ompt_events.specs.Violations.{IsRequired}
use Rattle.ompt_events.specs.Completion.{IsCompleteAt}
use Rattle.ompt_events.specs.Causes.{HasCause, entries_in, entries_before, IsNamedAt, IsMade, IsForked}
use Rattle.ompt_events.specs.Causes.{AreFollowed}

-- each record stands behind what it has seen, and behind the creation or the suspension with which it goes on
pub record IsInOrder (rs : List Record) : Type 0 where
  -- a finishing record makes the next entry
  pub enters : (i : ℕ) → IsFinishing rs i → seen_at rs i ≡ entries_before rs i
  -- no record names more entries than are before it
  pub names : (i : ℕ) → i < length rs → seen_at rs i ≤ entries_before rs i
  -- a task is created before it starts, is discarded or is fulfilled
  pub starts : (a b task : ℕ) → at created rs a ≡ Some task → IsStart rs b task → a < b
  pub discards : (a b task : ℕ) → at created rs a ≡ Some task → at discarded rs b ≡ Some task → a < b
  pub fulfils : (a b task : ℕ) → at created rs a ≡ Some task → at fulfilled rs b ≡ Some task → a < b
  -- a task is suspended before it resumes
  pub resumes : (a b : ℕ) → IsResumption rs a b → a < b

-- the records are in order, and each task is named at the record that makes it or behind it
pub record IsWatchable (rs : List Record) : Type 0 where
  pub in_order : IsInOrder rs
  pub named : (i task : ℕ) → IsNamedAt rs i task → (k : ℕ) × (k ≤ i) × (at made rs k ≡ Some task)

-- the causes that a watchable record shows together with those before it, so that none after it matters
abbrev pub is_told_at_once : Cause → Bool
is_told_at_once SeqGap = true
is_told_at_once CreatedTwice = true
is_told_at_once NotCurrent = true
is_told_at_once Moved = true
is_told_at_once TurnGap = true
is_told_at_once RegionOrder = true
is_told_at_once NestedParallel = true
is_told_at_once RegionNesting = true
is_told_at_once EntryTwice = true
is_told_at_once LengthBack = true
is_told_at_once TargetTask = true
is_told_at_once _ = false

-- those of them that no later record takes away; one may begin a turn that was missing
abbrev pub stays_told : Cause → Bool
stays_told TurnGap = false
stays_told cause = is_told_at_once cause

-- ---- what must be complete

-- no record of a task stands behind one that finishes the task's body, or the task whole
abbrev pub EndsLast : List Record → Type 0
EndsLast rs =
    (task e k : ℕ) (part : Part) → at finish rs e ≡ Some (task, part) → part ≢ Event
    → at running rs k ≡ Some task → k ≤ e

-- the records have all members of the task's team, as many as its size
abbrev pub HasWholeTeam : List Record → ℕ → Type 0
HasWholeTeam rs task =
    (parallel : ℕ) (m : Membership) → Contains (members rs parallel) m → m.member ≡ task
    → m.actual ≤ length (members rs parallel)

-- each barrier begin that counts for the end at i stands before the place n
abbrev pub AreBegun : List Record → ℕ → ℕ → Type 0
AreBegun rs n i =
    (own begin member number start : ℕ) (kind : SyncKind) → IsRegion rs i own kind begin
    → is_barrier kind ≡ true → IsBarrierBegin rs own number begin → IsTeammate rs own member
    → IsBarrierBegin rs member number start → start < n

-- where a barrier ends at i, the records have the whole team, and each member's barrier begin of that number
abbrev pub HasTeamBegun : List Record → ℕ → Type 0
HasTeamBegun rs i =
    (own begin number : ℕ) (kind : SyncKind) → IsRegion rs i own kind begin → is_barrier kind ≡ true
    → IsBarrierBegin rs own number begin
    → HasWholeTeam rs own
    × ((member : ℕ) → IsTeammate rs own member → (start : ℕ) × IsBarrierBegin rs member number start)

-- where a barrier ends at i, each teammate's barrier begin of its number stands there or before, or all is
-- complete at i that the teammate created before it, and what comes of that
abbrev pub IsBarrierSettled : List Record → ℕ → Type 0
IsBarrierSettled rs i =
    (own begin member number start : ℕ) (kind : SyncKind) → IsRegion rs i own kind begin
    → is_barrier kind ≡ true → IsBarrierBegin rs own number begin → IsTeammate rs own member
    → IsBarrierBegin rs member number start
    → (start ≤ i) ⊎ ((first task : ℕ) → Contains (children_before rs member start) first
    → IsFamily rs first task → IsCompleteAt rs task i)

-- the lists of dependences of the task, and of its siblings with smaller numbers, stand before the place n
abbrev pub AreListed : List Record → ℕ → ℕ → Type 0
AreListed rs n task =
    (parent number sibling smaller k : ℕ) (list : List Dep) → IsChild rs parent number task
    → IsChild rs parent smaller sibling → smaller ≤ number → at dependences rs k ≡ Some (sibling, list)
    → k < n

-- the creations of these tasks that have dependences are followed by the lists
abbrev pub HasLists : List Record → ℕ → Type 0
HasLists rs task =
    (parent number sibling smaller a : ℕ) → IsChild rs parent number task → IsChild rs parent smaller sibling
    → smaller ≤ number → at created_with_deps rs a ≡ Some sibling → (b : ℕ) × AreFollowed rs a b

-- what the task depends on must be complete at i: it starts there, or is a taskwait that is complete there
abbrev pub IsDependentAt : List Record → ℕ → ℕ → Type 0
IsDependentAt rs i task = (IsExplicit rs task × IsStart rs i task) ⊎ (at wait_completed rs i ≡ Some task)

-- ---- tests of a record by those before it

-- each record passes the test with those before it
abbrev pub EachRecord : (List Record → Record → Type 0) → List Record → Type 0
EachRecord Test rs = (i : ℕ) (r : Record) → slice_get rs i ≡ Some r → Test (take i rs) r

-- the task whose dependences the thread must list next: its last record creates that task with dependences
abbrev pub awaited_by : ℕ → List Record → Option ℕ
awaited_by thread rs =
    fold (λ (before : Option ℕ) (r : Record). created_with_deps r.body) None
    (filter (λ (r : Record). r.thread == thread) rs)

-- the record lists the dependences of the task that its thread awaits, and none where that awaits none
abbrev pub ListsAwaited : List Record → Record → Type 0
ListsAwaited before r =
    option_map (λ (d : ℕ × List Dep). d.0) (dependences r.body) ≡ awaited_by r.thread before

-- the tests by which records are watchable
pub record ComesAfter (before : List Record) (r : Record) : Type 0 where
  -- a finishing record makes the next entry, and none names more entries than are before it
  pub enters : is_some (finish r.body) ≡ true → r.seen ≡ entries_in before
  pub names : r.seen ≤ entries_in before
  -- each task that it names is made before, or there
  pub known : (task : ℕ) → Contains (named r.body) task → IsMade before task ⊎ (made r.body ≡ Some task)
  -- the task that it suspends has not begun its next turn before
  pub suspends : (task turn k : ℕ) → suspended_turn r.body ≡ Some (task, turn)
      → at begun_turn before k ≢ Some (task, turn + 1)

-- the tests that exclude causes
pub record PassesAfter (before : List Record) (r : Record) : Type 0 where
  -- with the records before it, it has none of the causes that are told at once
  pub clear : (cause : Cause) → is_told_at_once cause ≡ true
      → HasCause (before ++ r ∷ []) (length before) cause → ⊥
  -- and it lists what its thread awaits
  pub in_place : ListsAwaited before r

-- each parallel region that a record names is begun by one of them, which may stand behind it
abbrev pub AreForked : List Record → Type 0
AreForked rs = (i parallel : ℕ) → at region_named rs i ≡ Some parallel → IsForked rs parallel

-- no thread awaits dependences after the last record
abbrev pub NoneAwaited : List Record → Type 0
NoneAwaited rs = (thread : ℕ) → awaited_by thread rs ≡ None

-- the record's task was not finished before, whole or its body
abbrev pub IsUnfinishedAfter : List Record → Record → Type 0
IsUnfinishedAfter before r =
    (task e : ℕ) (part : Part) → running r.body ≡ Some task → at finish before e ≡ Some (task, part)
    → part ≢ Event → ⊥

-- with the records before it, all is complete that must be complete there
abbrev pub IsCompleteAfter : List Record → Record → Type 0
IsCompleteAfter before r =
    (task : ℕ) → IsRequired (before ++ r ∷ []) (length before) task
    → IsCompleteAt (before ++ r ∷ []) task (length before)

-- the tests of completeness
pub record IsSettledAfter (before : List Record) (r : Record) : Type 0 where
  pub unfinished : IsUnfinishedAfter before r
  -- where a task must wait for its predecessors, all lists that count for them are there
  pub listed : (dependent : ℕ) → IsDependentAt (before ++ r ∷ []) (length before) dependent
      → HasLists (before ++ r ∷ []) dependent
  pub complete : IsCompleteAfter before r
