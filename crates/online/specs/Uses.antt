-- The uses of locations by siblings, list by list.
use Rattle.std.specs.Prelude.{ℕ, ◌≡◌, ◌≢◌, ◌<◌, ◌≤◌, ◌⊎◌, ◌==◌, Bool, true, false, List, [], ◌∷◌, ◌++◌}
use Rattle.std.specs.Prelude.{Option, Some, Contains, if◌then◌else◌, nat_eq, slice_get, option_map, not}
use Rattle.std.specs.Prelude.{option_and_then}
use Rattle.std.specs.declared.hash.FoldHasher.{FoldHasher}
use Rattle.std.specs.declared.hash.BuildHasherDefault.{BuildHasherDefault}
use Rattle.std.specs.HashMap.{get, HashMap}
use Rattle.ompt_events.specs.declared.names.DepKind.{DepKind}
use Rattle.ompt_events.specs.Names.{conflict}
use Rattle.online.specs.declared.groups.Group.{Group}
use Rattle.online.specs.declared.uses.Use.{Use}
use Rattle.online.specs.declared.uses.Location.{Location}
use Rattle.online.specs.declared.uses.UseTable.{UseTable}
use Rattle.online.specs.Groups.{IsOver, Grouping, AreCounted, times, group_at, put}

-- the list of dependences of one task
pub record Listing : Type 0 where
  pub parent : ℕ
  pub task : ℕ
  pub uses : List Use

-- whether tasks with these kinds of use need not wait for each other; a use of more than one kind is waited
-- for by all
abbrev pub can_share : Option DepKind → Option DepKind → Bool
can_share (Some a) (Some b) = not (conflict a b)
can_share _ _ = false

-- two siblings use one location, and the later one must wait
pub record Clashes (x y : Listing) : Type 0 where
  pub siblings : x.parent ≡ y.parent
  pub first : Use
  pub of_first : Contains x.uses first
  pub second : Use
  pub of_second : Contains y.uses second
  pub same_location : first.location ≡ second.location
  pub apart : can_share first.kind second.kind ≡ false

-- the task must wait for the other one, whose list stands before its own
pub record IsNeeded (history : List Listing) (task needed : ℕ) : Type 0 where
  pub before : Listing
  pub own : Listing
  pub first : ℕ
  pub second : ℕ
  pub earlier : first < second
  pub at_first : slice_get history first ≡ Some before
  pub at_second : slice_get history second ≡ Some own
  pub of_needed : before.task ≡ needed
  pub of_task : own.task ≡ task
  pub clashes : Clashes before own

-- a use may stand in a group of this kind
abbrev pub Fits : Option DepKind → Option DepKind → Type 0
Fits group kind = (group ≡ kind) ⊎ (can_share group kind ≡ true)

-- the task's use is in the location's last group, or before it
abbrev pub IsPlaced : Grouping → Location → ℕ → Option DepKind → Type 0
IsPlaced all location task kind =
    (Contains (all.members location.last) task × Fits location.kind kind)
    ⊎ Contains (all.earlier location.last) task

-- the groups are those of the lists in their order, but for the locations of parents that create no more
-- children
pub record IsTable (history : List Listing) (ends : List (ℕ × ℕ)) (gone : List ℕ) (all : Grouping)
    (groups : ℕ → Option Group) (next : ℕ) (numbers : ℕ → Option (List ℕ))
    (locations : ℕ → ℕ → Option Location) : Type 0 where
  pub counted : AreCounted ends all groups next
  -- each use is at its location
  pub placed : (i : ℕ) (x : Listing) (used : Use) → slice_get history i ≡ Some x → Contains x.uses used
      → (Contains gone x.parent → ⊥)
      → (l : Location) × (locations x.parent used.location ≡ Some l) × IsPlaced all l x.task used.kind
  pub known_last : (parent location : ℕ) (l : Location) → locations parent location ≡ Some l → l.last < next
  -- what a task waits for is before one of its groups
  pub waits : (task needed : ℕ) (own : List ℕ) → numbers task ≡ Some own → IsNeeded history task needed
      → (n : ℕ) × Contains own n × Contains (all.earlier n) needed
  -- the task is counted in each of its groups
  pub pending : (task : ℕ) (own : List ℕ) → numbers task ≡ Some own
      → (n : ℕ) → times n own ≤ times task (all.unfinished n)
  pub known_own : (task n : ℕ) (own : List ℕ) → numbers task ≡ Some own → Contains own n → n < next
  -- each task with a list is kept, or complete
  pub kept : (i : ℕ) (x : Listing) → slice_get history i ≡ Some x
      → ((own : List ℕ) × (numbers x.task ≡ Some own)) ⊎ ((end : ℕ) × Contains ends (x.task, end))

-- the groups of the task, if it is kept
abbrev pub numbers_of : UseTable → ℕ → Option (List ℕ)
numbers_of table task = option_map (λ v. v.items) (get nat_eq table.tasks task)

-- the locations that the children of a task use
abbrev pub Locations : Type 0
Locations = HashMap ℕ Location (BuildHasherDefault FoldHasher)

-- the last group of a location
abbrev pub last_in : Locations → ℕ → Option Location
last_in family location = get nat_eq family location

abbrev pub location_in : Option Locations → ℕ → Option Location
location_in family location = option_and_then (λ (f : Locations). get nat_eq f location) family

-- the locations that the children of a task use
abbrev pub family_at : HashMap ℕ Locations (BuildHasherDefault FoldHasher) → ℕ → Option Locations
family_at families parent = get nat_eq families parent

abbrev pub location_of : UseTable → ℕ → ℕ → Option Location
location_of table parent location = location_in (family_at table.families parent) location

-- the table is what the lists leave, in their order, if these tasks are complete by these lengths
abbrev pub IsUses : List Listing → List (ℕ × ℕ) → List ℕ → UseTable → Type 0
IsUses history ends gone table =
    (all : Grouping)
    × IsTable history ends gone all (group_at table.groups) table.groups.next (numbers_of table)
    (location_of table)

-- no list of the task is among them
abbrev pub IsUnlisted : List Listing → ℕ → Type 0
IsUnlisted history task = (i : ℕ) (x : Listing) → slice_get history i ≡ Some x → x.task ≢ task

-- ---- what a step says of each history

-- the locations where those of the parent are these
abbrev pub with_family : ℕ → Locations → (ℕ → ℕ → Option Location) → ℕ → ℕ → Option Location
with_family parent family locations p location =
    if parent == p then get nat_eq family location else locations p location

-- the list of the task up to one of its uses
abbrev pub listing : ℕ → ℕ → List Use → Listing
listing parent task uses = record { parent = parent; task = task; uses = uses }

-- the group with the number is the last of the use's location, and the use may stand in it: what clashes with
-- the use is before it
pub record HasRoom (all : Grouping) (family : Locations) (used : Use) (n : ℕ) : Type 0 where
  pub location : Location
  pub found : get nat_eq family used.location ≡ Some location
  pub last : location.last ≡ n
  pub fits : Fits location.kind used.kind
  pub apart : (u : ℕ) (kind : Option DepKind) → Contains (all.members n) u → Fits location.kind kind
      → can_share kind used.kind ≡ false → ⊥

-- where the old groups and locations are those of some lists, so are the new ones, and there is room for the
-- use
abbrev pub HasFound : (ℕ → Option Group) → ℕ → Locations → (ℕ → Option Group) → ℕ → Locations → Use → ℕ
    → Type 0
HasFound old next family new more after used n =
    (history : List Listing) (ends : List (ℕ × ℕ)) (gone : List ℕ) (all : Grouping)
    (numbers : ℕ → Option (List ℕ)) (locations : ℕ → ℕ → Option Location) (parent : ℕ)
    → IsTable history ends gone all old next numbers (with_family parent family locations)
    → (now : Grouping)
    × IsTable history ends gone now new more numbers (with_family parent after locations)
    × HasRoom now after used n

-- a list of the lists goes on from some uses with others, and so do the numbers of its groups
abbrev pub HasPlaced : (ℕ → Option Group) → ℕ → Locations → (ℕ → Option Group) → ℕ → Locations → List Use
    → List ℕ → Type 0
HasPlaced old next family new more after used placed =
    (history : List Listing) (ends : List (ℕ × ℕ)) (gone : List ℕ) (all : Grouping)
    (numbers : ℕ → Option (List ℕ)) (locations : ℕ → ℕ → Option Location) (parent task : ℕ) (uses : List Use)
    (own : List ℕ) → IsUnlisted history task → (Contains gone parent → ⊥)
    → IsTable (history ++ listing parent task uses ∷ []) ends gone all old next (put numbers task (Some own))
    (with_family parent family locations)
    → (now : Grouping)
    × IsTable (history ++ listing parent task (uses ++ used) ∷ []) ends gone now new more
    (put numbers task (Some (own ++ placed))) (with_family parent after locations)

-- the table is what the lists leave with one list more
abbrev pub HasListed : UseTable → UseTable → ℕ → ℕ → List Use → Type 0
HasListed old new parent task uses =
    (history : List Listing) (ends : List (ℕ × ℕ)) (gone : List ℕ) → IsUses history ends gone old
    → IsUnlisted history task → (Contains gone parent → ⊥)
    → IsUses (history ++ listing parent task uses ∷ []) ends gone new

-- the table is what the lists leave where the task is complete by the length
abbrev pub HasCompleted : UseTable → UseTable → ℕ → ℕ → Type 0
HasCompleted old new task limit =
    (history : List Listing) (ends : List (ℕ × ℕ)) (gone : List ℕ) → IsUses history ends gone old
    → IsUses history (ends ++ (task, limit) ∷ []) gone new

-- the table is what the lists leave where the task creates no more children
abbrev pub HasEnded : UseTable → UseTable → ℕ → Type 0
HasEnded old new parent =
    (history : List Listing) (ends : List (ℕ × ℕ)) (gone : List ℕ) → IsUses history ends gone old
    → IsUses history ends (parent ∷ gone) new

-- the table is what the same lists leave
abbrev pub KeepsUses : UseTable → UseTable → Type 0
KeepsUses old new =
    (history : List Listing) (ends : List (ℕ × ℕ)) (gone : List ℕ) → IsUses history ends gone old
    → IsUses history ends gone new

-- the tasks that are kept and the locations stay
abbrev pub KeepsTables : UseTable → UseTable → Type 0
KeepsTables old new =
    ((task : ℕ) → numbers_of new task ≡ numbers_of old task)
    × ((parent location : ℕ) → location_of new parent location ≡ location_of old parent location)

-- each task that must be complete before the task is so by the length, unless the task is complete
abbrev pub IsReadyBy : UseTable → ℕ → ℕ → Type 0
IsReadyBy table task limit =
    (history : List Listing) (ends : List (ℕ × ℕ)) (gone : List ℕ) → IsUses history ends gone table
    → ((end : ℕ) → Contains ends (task, end) → ⊥) → (needed : ℕ) → IsNeeded history task needed
    → IsOver ends needed limit
