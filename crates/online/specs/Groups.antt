-- Groups of tasks that use one location and do not wait for each other, each behind the group before it.
use Rattle.std.specs.Prelude.{ℕ, ◌≡◌, ◌≢◌, ◌<◌, ◌≤◌, ◌⊎◌, ◌==◌, List, [], ◌∷◌, ◌++◌, length, Option, Some}
use Rattle.std.specs.Prelude.{None, Contains}
use Rattle.std.specs.Prelude.{if◌then◌else◌, nat_eq, ◌+◌}
use Rattle.std.specs.HashMap.{get}
use Rattle.online.specs.declared.groups.Group.{Group}
use Rattle.online.specs.declared.groups.Groups.{Groups}

-- the task is complete by the entries below the length; the list has tasks, each with a length from which on
-- it is
abbrev pub IsOver : List (ℕ × ℕ) → ℕ → ℕ → Type 0
IsOver ends task length = (end : ℕ) × Contains ends (task, end) × (end ≤ length)

-- what a table of groups is compared with: the tasks of each group, the tasks that use the location before
-- them, and those of its tasks that still count as not complete
pub record Grouping : Type 0 where
  pub members : ℕ → List ℕ
  pub earlier : ℕ → List ℕ
  pub unfinished : ℕ → List ℕ

-- a function with another value at one number
abbrev pub put : {X : Type 0} → (ℕ → X) → ℕ → X → ℕ → X
put f n x q = if n == q then x else f q

-- the group with the number, if it is kept
abbrev pub group_at : Groups → ℕ → Option Group
group_at groups n = get nat_eq groups.table n

-- the task is in the group, or before it
abbrev pub IsUpTo : Grouping → ℕ → ℕ → Type 0
IsUpTo all n task = Contains (all.members n) task ⊎ Contains (all.earlier n) task

-- each kept group has the counts and the lengths of its tasks
pub record AreCounted (ends : List (ℕ × ℕ)) (all : Grouping) (groups : ℕ → Option Group) (next : ℕ)
    : Type 0 where
  -- so many of its tasks are not complete
  pub counted : (n : ℕ) (g : Group) → groups n ≡ Some g → g.left ≡ length (all.unfinished n)
  -- each other task is complete by its greatest length
  pub finished : (n : ℕ) (g : Group) (task : ℕ) → groups n ≡ Some g → Contains (all.members n) task
      → Contains (all.unfinished n) task ⊎ IsOver ends task g.greatest
  -- each task before it is complete by the length `floor`, or is up to the group before it
  pub chained : (n : ℕ) (g : Group) (task : ℕ) → groups n ≡ Some g → Contains (all.earlier n) task
      → IsOver ends task g.floor ⊎ ((b : ℕ) × (g.before ≡ Some b) × IsUpTo all b task)
  -- their numbers have been given out
  pub known : (n : ℕ) (g : Group) → groups n ≡ Some g → n < next
  pub known_before : (n : ℕ) (g : Group) (b : ℕ) → groups n ≡ Some g → g.before ≡ Some b → b < next

-- how often a number is in a list
abbrev pub times : ℕ → List ℕ → ℕ
times n [] = 0
times n (x ∷ xs) = if x == n then times n xs + 1 else times n xs

-- a list without one occurrence of a number
abbrev pub without : ℕ → List ℕ → List ℕ
without n [] = []
without n (x ∷ xs) = if x == n then xs else x ∷ without n xs

-- an empty group begins behind all that is up to the group before it
abbrev pub behind : Grouping → Option ℕ → List ℕ
behind all None = []
behind all (Some b) = all.members b ++ all.earlier b

abbrev pub with_group : Grouping → ℕ → Option ℕ → Grouping
with_group all n before = record {
  members = put all.members n [];
  earlier = put all.earlier n (behind all before);
  unfinished = put all.unfinished n [];
}

-- the task enters the group
abbrev pub with_member : Grouping → ℕ → ℕ → Grouping
with_member all n task = record {
  members = put all.members n (task ∷ all.members n);
  earlier = all.earlier;
  unfinished = put all.unfinished n (task ∷ all.unfinished n);
}

-- one use of the task in the group is over
abbrev pub with_left : Grouping → ℕ → ℕ → Grouping
with_left all n task = record {
  members = all.members;
  earlier = all.earlier;
  unfinished = put all.unfinished n (without task (all.unfinished n));
}

-- ---- what a step says of each way of counting

-- where the old groups have the counts of some tasks, the new ones have them with a task more in this group
abbrev pub HasEntered : (ℕ → Option Group) → (ℕ → Option Group) → ℕ → Type 0
HasEntered old new n =
    (ends : List (ℕ × ℕ)) (all : Grouping) (next task : ℕ) → AreCounted ends all old next
    → AreCounted ends (with_member all n task) new next

-- the new ones have them with a use less, of a task that is complete by the length
abbrev pub HasLeft : (ℕ → Option Group) → (ℕ → Option Group) → ℕ → ℕ → Type 0
HasLeft old new n limit =
    (ends : List (ℕ × ℕ)) (all : Grouping) (next task : ℕ) → Contains (all.unfinished n) task
    → IsOver ends task limit → AreCounted ends all old next → AreCounted ends (with_left all n task) new next

-- the new ones have the same counts
abbrev pub KeepsCounts : (ℕ → Option Group) → (ℕ → Option Group) → Type 0
KeepsCounts old new =
    (ends : List (ℕ × ℕ)) (all : Grouping) (next : ℕ) → AreCounted ends all old next
    → AreCounted ends all new next

-- all tasks before the group are complete by the length
abbrev pub IsClearAt : (ℕ → Option Group) → ℕ → ℕ → Type 0
IsClearAt groups n limit =
    (ends : List (ℕ × ℕ)) (all : Grouping) (next task : ℕ) → AreCounted ends all groups next
    → Contains (all.earlier n) task → IsOver ends task limit

-- the counts are the same but for uses of this task, of which there may be less
pub record IsLessOf (task : ℕ) (all less : Grouping) : Type 0 where
  pub members : less.members ≡ all.members
  pub earlier : less.earlier ≡ all.earlier
  pub others : (other n : ℕ) → task ≢ other → times other (less.unfinished n) ≡ times other (all.unfinished n)

-- where the old groups have the counts of some tasks, a use of this task is left in each of these groups, and
-- the task is complete by the length, the new ones have counts in which only uses of this task are less
abbrev pub HasLeftAll : (ℕ → Option Group) → (ℕ → Option Group) → List ℕ → ℕ → Type 0
HasLeftAll old new numbers limit =
    (ends : List (ℕ × ℕ)) (all : Grouping) (next task : ℕ) → IsOver ends task limit
    → ((n : ℕ) → times n numbers ≤ times task (all.unfinished n)) → AreCounted ends all old next
    → (less : Grouping) × IsLessOf task all less × AreCounted ends less new next

-- all tasks before one of the groups are complete by the length
abbrev pub AreClearAt : (ℕ → Option Group) → List ℕ → ℕ → Type 0
AreClearAt groups numbers limit = (n : ℕ) → Contains numbers n → IsClearAt groups n limit
