-- The lists of dependences of the tasks that are not complete, and which of them precedes another (OpenMP
-- 5.2, 15.9.5: the depend clause).
use Rattle.std.specs.Prelude.{ℕ, ◌≡◌, ◌<◌, ◌≤◌, ◌⊎◌, true, List, Option, Some, None, Contains, is_some}
use Rattle.std.specs.Prelude.{nat_eq}
use Rattle.std.specs.HashMap.{get}
use Rattle.ompt_events.specs.declared.records.Record.{Record}
use Rattle.ompt_events.specs.declared.deps.Dep.{Dep}
use Rattle.ompt_events.specs.Names.{conflict}
use Rattle.ompt_events.specs.Records.{dependences, finish}
use Rattle.ompt_events.specs.Places.{at}
use Rattle.ompt_events.specs.Tree.{IsParent, IsChild}
use Rattle.online.specs.declared.lists.Found.{Found}
use Rattle.online.specs.declared.lists.KeptList.{KeptList}
use Rattle.online.specs.declared.lists.Lists.{Lists}
use Rattle.online.specs.declared.replay.Replay.{Replay}
use Rattle.online.specs.Groups.{put}
use Rattle.online.specs.Items.{completed_by}
use Rattle.online.specs.Tasks.{value_of}

-- the list of this task, if it is kept
abbrev pub list_of : Lists → ℕ → Option KeptList
list_of lists = get nat_eq lists.kept

-- the record at its place lists it, and the task has its parent
pub record IsListOf (rs : List Record) (task : ℕ) (kept : KeptList) : Type 0 where
  pub lists : at dependences rs kept.place ≡ Some (task, kept.items.items)
  pub parent : IsParent rs kept.parent task

-- each list that is kept is one of these records
abbrev pub AreListsOf : List Record → Lists → Type 0
AreListsOf rs lists = (task : ℕ) (kept : KeptList) → list_of lists task ≡ Some kept → IsListOf rs task kept

-- of two children of a task, the one whose list comes first was created first
abbrev pub AreListsInOrder : List Record → Type 0
AreListsInOrder rs =
    (k l parent earlier later task other : ℕ) (list second : List Dep) → k < l
    → at dependences rs k ≡ Some (task, list) → at dependences rs l ≡ Some (other, second)
    → IsChild rs parent earlier task → IsChild rs parent later other → earlier < later

-- ---- one record more

-- the list of the task is kept, and else nothing changes
pub record NotesList (old new : Lists) (task place parent : ℕ) (list : List Dep) : Type 0 where
  pub kept : KeptList
  pub at_place : kept.place ≡ place
  pub of_parent : kept.parent ≡ parent
  pub has : kept.items.items ≡ list
  pub noted : (other : ℕ) → list_of new other ≡ put (list_of old) task (Some kept) other

-- the list of this task, if there is one, is kept no more, and else nothing changes
abbrev pub DropsList : Lists → Lists → Option ℕ → Type 0
DropsList old new None = (task : ℕ) → list_of new task ≡ list_of old task
DropsList old new (Some gone) = (task : ℕ) → list_of new task ≡ put (list_of old) gone None task

-- the record at this place is taken, where its task has this parent if it lists dependences
pub record TakesLists (old new : Lists) (r : Record) (parent : Option ℕ) (place : ℕ) : Type 0 where
  pub noted : (task p : ℕ) (list : List Dep) → dependences r.body ≡ Some (task, list) → parent ≡ Some p
      → NotesList old new task place p list
  pub dropped : dependences r.body ≡ None → DropsList old new (completed_by (finish r.body))

-- ---- which task precedes another

-- the two items use one location, and the earlier one conflicts with the other
abbrev pub Clash : Dep → Dep → Type 0
Clash earlier item = (earlier.var ≡ item.var) × (conflict earlier.kind item.kind ≡ true)

abbrev pub HasClash : List Dep → Dep → Type 0
HasClash earlier item = (other : Dep) × Contains earlier other × Clash other item

abbrev pub HaveClash : List Dep → List Dep → Type 0
HaveClash earlier items = (item : Dep) × Contains items item × HasClash earlier item

-- the first list comes before the second one, both are of children of one task, and they clash
abbrev pub Precedes : KeptList → KeptList → Type 0
Precedes first second =
    (first.place < second.place) × (first.parent ≡ second.parent)
    × HaveClash first.items.items second.items.items

-- the task with this list is live, and precedes the one with the second list
abbrev pub IsBefore : Replay → KeptList → ℕ × KeptList → Type 0
IsBefore replay second (task, list) =
    (is_some (value_of replay.tasks task) ≡ true) × Precedes list second

-- the found task is live, and precedes the other one by their lists
pub record IsFoundBefore (lists : Lists) (replay : Replay) (task found : ℕ) : Type 0 where
  pub own : KeptList
  pub of_task : list_of lists task ≡ Some own
  pub other : KeptList
  pub of_found : list_of lists found ≡ Some other
  pub before : IsBefore replay own (found, other)

-- of all such tasks it is the one whose list comes first
pub record IsFirstBefore (lists : Lists) (replay : Replay) (task found : ℕ) : Type 0 where
  pub is : IsFoundBefore lists replay task found
  pub first : (other : ℕ) → (next : IsFoundBefore lists replay task other)
      → is.other.place ≤ next.other.place

-- it is what was found first, or what is found now, whichever list comes first
pub record IsEarlier (first : Option Found) (found result : Found) : Type 0 where
  pub one : (first ≡ Some result) ⊎ (result ≡ found)
  pub most : result.place ≤ found.place
  pub before : (f : Found) → first ≡ Some f → result.place ≤ f.place
