-- The items that children depend on, as records leave them.
use Rattle.std.specs.Prelude.{ℕ, ◌≡◌, ◌≢◌, ◌<◌, ◌+◌, ◌⊎◌, Bool, false, List, [], ◌∷◌, ◌++◌, length, Option}
use Rattle.std.specs.Prelude.{Some, None, Contains, ⊤}
use Rattle.std.specs.Prelude.{slice_get, nat_eq, if◌then◌else◌}
use Rattle.std.specs.HashMap.{get}
use Rattle.ompt_events.specs.declared.records.Record.{Record}
use Rattle.ompt_events.specs.declared.records.Part.{Part}
use Rattle.ompt_events.specs.declared.records.Part.TheVariants.{Body, Event}
use Rattle.ompt_events.specs.declared.deps.Dep.{Dep}
use Rattle.ompt_events.specs.declared.names.DepKind.{DepKind}
use Rattle.ompt_events.specs.declared.cause.Cause.TheVariants.{CreatedTwice}
use Rattle.ompt_events.specs.Names.{conflict}
use Rattle.ompt_events.specs.Records.{creation, dependences, created_with_deps, finish, ended_root}
use Rattle.ompt_events.specs.Records.{begun_turn, wait_completed}
use Rattle.ompt_events.specs.Places.{at, seen_at}
use Rattle.ompt_events.specs.Tree.{IsParent, IsChild, children}
use Rattle.ompt_events.specs.Completion.{IsFinished, IsCompleteAt}
use Rattle.ompt_events.specs.Dependences.{IsPredecessor}
use Rattle.ompt_events.specs.Causes.{AreFollowed, IsFreeOf}
use Rattle.callbacks.specs.Logs.{known_from}
use Rattle.online.specs.Online.{IsWatchable, EachRecord, ListsAwaited, HasLists, IsDependentAt}
use Rattle.online.specs.declared.uses.Use.{Use}
use Rattle.online.specs.declared.items.Items.{Items}
use Rattle.online.specs.Uses.{Listing, IsUses, numbers_of, location_of}

-- a use of this kind stands for an item of that one: what clashes with the item clashes with the use
abbrev pub Admits : Option DepKind → DepKind → Type 0
Admits (Some own) kind = conflict own kind ≡ false
Admits None kind = ⊤

-- each item of the list has a use that stands for it
abbrev pub AreUses : List Use → List Dep → Type 0
AreUses uses list =
    (item : Dep) → Contains list item
    → (used : Use) × Contains uses used × (used.location ≡ item.var) × Admits used.kind item.kind

-- the use at the index is of the location
abbrev pub IsUseAt : List Use → ℕ → ℕ → Type 0
IsUseAt uses index location =
    (used : Use) × (slice_get uses index ≡ Some used) × (used.location ≡ location)

-- the use stands for the same items and one of this kind
pub record IsWider (old new : Use) (kind : DepKind) : Type 0 where
  pub location : new.location ≡ old.location
  pub same : (other : DepKind) → Admits old.kind other → Admits new.kind other
  pub own : Admits new.kind kind

-- the uses stand for the same lists with an item more
abbrev pub AddsItem : List Use → List Use → Dep → Type 0
AddsItem old new item = (list : List Dep) → AreUses old list → AreUses new (list ++ item ∷ [])

-- the task is complete by the entries below the length
abbrev pub IsFinishedBelow : List Record → ℕ → ℕ → Type 0
IsFinishedBelow rs task limit = IsFinished rs (λ k. seen_at rs k < limit) task

-- the task's body has ended: it creates no more children
abbrev pub HasEnded : List Record → ℕ → Type 0
HasEnded rs task =
    ((k : ℕ) × (part : Part) × (at finish rs k ≡ Some (task, part)) × (part ≢ Event))
    ⊎ ((k : ℕ) × (at ended_root rs k ≡ Some task))

-- the lists of the records are these, in the order in which their tasks were created; these tasks are
-- complete, and these create no more children; and by parent the child whose list is missing is known
pub record AreListings (rs : List Record) (history : List Listing) (ends : List (ℕ × ℕ)) (gone : List ℕ)
    (awaited : ℕ → Option ℕ) : Type 0 where
  -- each list of a child is among the lists
  pub listed : (k task parent : ℕ) (list : List Dep) → at dependences rs k ≡ Some (task, list)
      → IsParent rs parent task
      → (i : ℕ) × (x : Listing) × (slice_get history i ≡ Some x) × (x.task ≡ task) × (x.parent ≡ parent)
      × AreUses x.uses list
  -- and each of the lists is of a record
  pub known : (i : ℕ) (x : Listing) → slice_get history i ≡ Some x
      → (k : ℕ) × (list : List Dep) × (at dependences rs k ≡ Some (x.task, list))
  pub ordered : (i j parent earlier later : ℕ) (x y : Listing) → i < j → slice_get history i ≡ Some x
      → slice_get history j ≡ Some y → IsChild rs parent earlier x.task → IsChild rs parent later y.task
      → earlier < later
  -- a child whose list is missing is the last that its parent created
  pub awaits : (parent child : ℕ) → awaited parent ≡ Some child
      → (number : ℕ) × IsChild rs parent number child × (number + 1 ≡ length (children rs parent))
      × ((k : ℕ) (list : List Dep) → at dependences rs k ≡ Some (child, list) → ⊥)
  -- no other list is missing
  pub followed : (a child : ℕ) → at created_with_deps rs a ≡ Some child
      → ((b : ℕ) × AreFollowed rs a b) ⊎ ((parent : ℕ) × (awaited parent ≡ Some child))
  pub over : (task end : ℕ) → Contains ends (task, end) → IsFinishedBelow rs task end
  pub ended : (parent : ℕ) → Contains gone parent → HasEnded rs parent

-- by parent the child whose list is missing
abbrev pub awaited_of : Items → ℕ → Option ℕ
awaited_of items parent = get nat_eq items.awaited parent

-- the items are what the records leave
abbrev pub IsItemsOf : List Record → Items → Type 0
IsItemsOf rs items =
    (history : List Listing) × (ends : List (ℕ × ℕ)) × (gone : List ℕ) × IsUses history ends gone items.uses
    × AreListings rs history ends gone (awaited_of items)

-- ---- what a step says of all records

-- the record creates a child, and its list follows or not
pub record Creates (rs : List Record) (r : Record) (parent child : ℕ) (has_list : Bool) : Type 0 where
  pub watchable : IsWatchable (rs ++ r ∷ [])
  pub once : IsFreeOf (rs ++ r ∷ []) CreatedTwice
  pub creates : creation r.body ≡ Some (parent, child)
  pub has_deps : created_with_deps r.body ≡ (if has_list then Some child else None)

-- the record lists the dependences of a child, whose parent's body has not ended
pub record Lists (rs : List Record) (r : Record) (parent task : ℕ) (list : List Dep) : Type 0 where
  pub once : IsFreeOf (rs ++ r ∷ []) CreatedTwice
  pub in_place : EachRecord ListsAwaited (rs ++ r ∷ [])
  pub lists : dependences r.body ≡ Some (task, list)
  pub goes_on : HasEnded rs parent → ⊥

-- the record creates no task and lists no dependences
pub record DoesNeither (rs : List Record) (r : Record) : Type 0 where
  pub watchable : IsWatchable (rs ++ r ∷ [])
  pub once : IsFreeOf (rs ++ r ∷ []) CreatedTwice
  pub creates_none : creation r.body ≡ None
  pub lists_none : dependences r.body ≡ None

-- where the old items are those of some records, the new ones are those with such a record more
abbrev pub TakesCreation : Items → Items → ℕ → ℕ → Bool → Type 0
TakesCreation old new parent child has_list =
    (rs : List Record) (r : Record) → Creates rs r parent child has_list → IsItemsOf rs old
    → IsItemsOf (rs ++ r ∷ []) new

abbrev pub TakesList : Items → Items → ℕ → ℕ → List Dep → Type 0
TakesList old new parent task list =
    (rs : List Record) (r : Record) → Lists rs r parent task list → IsItemsOf rs old
    → IsItemsOf (rs ++ r ∷ []) new

abbrev pub TakesOther : Items → Type 0
TakesOther items =
    (rs : List Record) (r : Record) → DoesNeither rs r → IsItemsOf rs items → IsItemsOf (rs ++ r ∷ []) items

-- where the old items are those of some records, so are the new ones
abbrev pub TakesCompletion : Items → Items → ℕ → ℕ → Type 0
TakesCompletion old new task limit =
    (rs : List Record) → IsFinishedBelow rs task limit → IsItemsOf rs old → IsItemsOf rs new

abbrev pub TakesEnd : Items → Items → ℕ → Type 0
TakesEnd old new parent = (rs : List Record) → HasEnded rs parent → IsItemsOf rs old → IsItemsOf rs new

abbrev pub KeepsItems : Items → Items → Type 0
KeepsItems old new = (rs : List Record) → IsItemsOf rs old → IsItemsOf rs new

-- no record finishes a part of the task
abbrev pub IsUntouched : List Record → ℕ → Type 0
IsUntouched rs task = (k : ℕ) (part : Part) → at finish rs k ≢ Some (task, part)

-- all predecessors of the task are complete by the entries below the length
abbrev pub IsReadyOf : Items → ℕ → ℕ → Type 0
IsReadyOf items task limit =
    (rs : List Record) → IsItemsOf rs items → IsFreeOf rs CreatedTwice → IsUntouched rs task
    → (predecessor : ℕ) → IsPredecessor rs task predecessor → IsFinishedBelow rs predecessor limit

-- the lists of dependences that count for the task are there
abbrev pub HasListsOf : Items → ℕ → ℕ → Type 0
HasListsOf items parent task =
    (rs : List Record) → IsItemsOf rs items → IsFreeOf rs CreatedTwice → IsParent rs parent task
    → HasLists rs task

-- ---- one step for each record

-- what other tests tell of the record, and of the parent that is given with it
pub record MayBeRead (rs : List Record) (r : Record) (parent : Option ℕ) : Type 0 where
  pub watchable : IsWatchable (rs ++ r ∷ [])
  pub once : IsFreeOf (rs ++ r ∷ []) CreatedTwice
  pub in_place : EachRecord ListsAwaited (rs ++ r ∷ [])
  -- the parent of a task whose dependences are listed there is given, and its body has not ended
  pub lists : (task : ℕ) (list : List Dep) → dependences r.body ≡ Some (task, list)
      → (p : ℕ) × (parent ≡ Some p) × IsParent rs p task × (HasEnded rs p → ⊥)
  -- so is that of a task whose predecessors must be complete there, and no part of that task is finished
  -- before
  pub parent_of : (dependent : ℕ) → IsDependentAt (rs ++ r ∷ []) (length rs) dependent
      → (p : ℕ) × (parent ≡ Some p) × IsParent rs p dependent
  pub untouched : (dependent : ℕ) → IsDependentAt (rs ++ r ∷ []) (length rs) dependent
      → IsUntouched rs dependent
  -- the record finishes no part of a task that starts there
  pub apart : (task : ℕ) (part : Part) → finish r.body ≡ Some (task, part)
      → begun_turn r.body ≢ Some (task, 0)
  -- where the event of a task is finished, its body was before
  pub fulfils : (task : ℕ) → finish r.body ≡ Some (task, Event)
      → (k : ℕ) × (at finish rs k ≡ Some (task, Body))

-- the items are what the records leave with this one; and where a task must wait for its predecessors there,
-- all lists that count for it are there, and they are complete
pub record IsRead (rs : List Record) (r : Record) (items : Items) : Type 0 where
  pub kept : IsItemsOf (rs ++ r ∷ []) items
  pub listed : (dependent : ℕ) → IsDependentAt (rs ++ r ∷ []) (length rs) dependent
      → HasLists (rs ++ r ∷ []) dependent
  pub complete : (dependent predecessor : ℕ) → IsDependentAt (rs ++ r ∷ []) (length rs) dependent
      → IsPredecessor (rs ++ r ∷ []) dependent predecessor
      → IsCompleteAt (rs ++ r ∷ []) predecessor (length rs)

-- where the old items are those of some records, the record is read
abbrev pub Reads : Items → Items → Record → Option ℕ → Type 0
Reads old new r parent =
    (rs : List Record) → MayBeRead rs r parent → IsItemsOf rs old → IsRead rs r new

-- the task that is complete, where this part of it is finished last
abbrev pub completed_by : Option (ℕ × Part) → Option ℕ
completed_by (Some (task, Body)) = None
completed_by (Some (task, _)) = Some task
completed_by None = None

-- the task whose body ends, where this part of it is finished, or as the root that ends
abbrev pub ended_by : Option (ℕ × Part) → Option ℕ → Option ℕ
ended_by (Some (task, Event)) root = None
ended_by (Some (task, _)) root = Some task
ended_by None root = root

-- a task that the record completes is taken out
abbrev pub TakesFinish : Items → Items → Record → Type 0
TakesFinish old new r =
    (rs : List Record)
    → ((task : ℕ) → completed_by (finish r.body) ≡ Some task → IsFinishedBelow rs task (r.seen + 1))
    → IsItemsOf rs old → IsItemsOf rs new

-- what the children use of a task whose body the record ends is taken out
abbrev pub TakesEndOf : Items → Items → Record → Type 0
TakesEndOf old new r =
    (rs : List Record)
    → ((task : ℕ) → ended_by (finish r.body) (ended_root r.body) ≡ Some task → HasEnded rs task)
    → IsItemsOf rs old → IsItemsOf rs new

-- nothing is kept of a task that the record completes, and no location that children use of one whose body it
-- ends
pub record LetsGo (r : Record) (items : Items) : Type 0 where
  pub tasks : (task : ℕ) → completed_by (finish r.body) ≡ Some task → numbers_of items.uses task ≡ None
  pub locations : (task location : ℕ) → ended_by (finish r.body) (ended_root r.body) ≡ Some task
      → location_of items.uses task location ≡ None

-- the lists that count for the task are there, and its predecessors are complete by the entries below the
-- length
abbrev pub MayGoOn : Items → ℕ → ℕ → ℕ → Type 0
MayGoOn items parent task limit = HasListsOf items parent task × IsReadyOf items task limit

-- so it is with a taskwait with dependences that is complete at the record
abbrev pub PassesWait : Items → Record → Option ℕ → Type 0
PassesWait items r parent =
    (task p : ℕ) → wait_completed r.body ≡ Some task → parent ≡ Some p → MayGoOn items p task r.seen

-- and with a task that starts there, for which the record's own entry counts too
abbrev pub PassesStart : Items → Record → Option ℕ → Type 0
PassesStart items r parent =
    (task p : ℕ) → begun_turn r.body ≡ Some (task, 0) → parent ≡ Some p
    → MayGoOn items p task (known_from r.seen r.body)
