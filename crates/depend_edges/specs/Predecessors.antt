-- The siblings that are selected as predecessors.
use Rattle.std.specs.Prelude.{ℕ, ◌≡◌, ◌<◌, List, Some, Contains, slice_get}
use Rattle.ompt_events.specs.declared.records.Record.{Record}
use Rattle.ompt_events.specs.declared.deps.Dep.{Dep}
use Rattle.depend_edges.specs.Items.{ClashesWith}

-- the items of a task conflict with those of the sibling of this number, which is one of the first n
pub record IsSelected (rs : List Record) (items : List Dep) (siblings : List ℕ)
    (n task number : ℕ) : Type 0 where
  pub below : number < n
  pub stands : slice_get siblings number ≡ Some task
  pub clashes : ClashesWith rs task items

-- all such siblings, in their order
pub record AreSelected (rs : List Record) (items : List Dep) (siblings : List ℕ) (n : ℕ)
    (found : List ℕ) : Type 0 where
  pub all : (task number : ℕ) → IsSelected rs items siblings n task number → Contains found task
  pub only : (a task : ℕ) → slice_get found a ≡ Some task
      → (number : ℕ) × IsSelected rs items siblings n task number
  pub rising : (a b before behind : ℕ) → a < b → slice_get found a ≡ Some before
      → slice_get found b ≡ Some behind
      → (number greater : ℕ) × (number < greater) × (slice_get siblings number ≡ Some before)
      × (slice_get siblings greater ≡ Some behind)
