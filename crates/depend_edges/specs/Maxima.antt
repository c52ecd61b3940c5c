-- The greatest lengths of the tasks that use a location.
use Rattle.std.specs.Prelude.{ℕ, ◌≡◌, ◌<◌, ◌≤◌, ◌⊎◌, true, List, Some, Contains, slice_get}
use Rattle.std.specs.Option.{option_map_or}
use Rattle.std.specs.Ordering.{nat_cmp}
use Rattle.std.specs.BTreeMap.{BTreeMap, get}
use Rattle.ompt_events.specs.declared.deps.Dep.{Dep}
use Rattle.ompt_events.specs.declared.names.DepKind.{DepKind}
use Rattle.ompt_events.specs.declared.names.DepKind.TheVariants.{In, Out, Inout, Mutexinoutset, Inoutset}
use Rattle.ompt_events.specs.Names.{conflict}
use Rattle.depend_edges.specs.declared.maxima.Maxima.{Maxima}

-- the greatest length of a task that uses the location in this way
abbrev pub maximum : Maxima → DepKind → ℕ
maximum maxima In = maxima.readers
maximum maxima Out = maxima.writers
maximum maxima Inout = maxima.writers
maximum maxima Mutexinoutset = maxima.mutexes
maximum maxima Inoutset = maxima.sets

-- the same by location, 0 if no task uses it
abbrev pub maximum_at : BTreeMap ℕ Maxima → ℕ → DepKind → ℕ
maximum_at map var kind = option_map_or (λ (maxima : Maxima). maximum maxima kind) (get nat_cmp map var) 0

-- the two kinds conflict with the same kinds
abbrev pub ConflictAlike : DepKind → DepKind → Type 0
ConflictAlike a b = (kind : DepKind) → conflict a kind ≡ conflict b kind

-- a length is entered for the kind
pub record IsKindRaised (old new : Maxima) (kind : DepKind) (task_length : ℕ) : Type 0 where
  pub rises : (other : DepKind) → maximum old other ≤ maximum new other
  pub entered : task_length ≤ maximum new kind
  pub only : (other : DepKind) → (maximum new other ≡ maximum old other)
      ⊎ ((maximum new other ≡ task_length) × ConflictAlike kind other)

-- the greatest length of those that conflict with the kind
pub record IsGreatestConflicting (maxima : Maxima) (kind : DepKind) (greatest : ℕ) : Type 0 where
  pub bound : (other : DepKind) → conflict other kind ≡ true → maximum maxima other ≤ greatest
  pub reached : (other : DepKind) × (conflict other kind ≡ true) × (maximum maxima other ≡ greatest)

-- a length is entered for the first n items
pub record AreLengthsEntered (old new : BTreeMap ℕ Maxima) (items : List Dep) (n task_length : ℕ) : Type 0
  where
    pub rises : (var : ℕ) (kind : DepKind) → maximum_at old var kind ≤ maximum_at new var kind
    pub entered : (k : ℕ) (item : Dep) → k < n → slice_get items k ≡ Some item
        → task_length ≤ maximum_at new item.var item.kind
    pub only : (var : ℕ) (kind : DepKind) → (maximum_at new var kind ≡ maximum_at old var kind)
        ⊎ ((item : Dep) × Contains items item × (item.var ≡ var) × ConflictAlike item.kind kind
        × (maximum_at new var kind ≡ task_length))

-- the greatest length of those that conflict with one of the first n items, 0 if there is none
pub record IsGreatest (map : BTreeMap ℕ Maxima) (items : List Dep) (n greatest : ℕ) : Type 0 where
  pub bound : (k : ℕ) (item : Dep) (kind : DepKind) → k < n → slice_get items k ≡ Some item
      → conflict kind item.kind ≡ true → maximum_at map item.var kind ≤ greatest
  pub reached : (greatest ≡ 0) ⊎ ((item : Dep) × (kind : DepKind) × Contains items item
      × (conflict kind item.kind ≡ true) × (maximum_at map item.var kind ≡ greatest))
