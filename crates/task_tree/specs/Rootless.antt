-- Which records name a task without a root, by what is known of tasks and regions.
use Rattle.std.specs.Prelude.{ℕ, ◌≡◌, ◌<◌, ◌⊎◌, List, Option, Some, None, Contains, IsSomeAnd, slice_get}
use Rattle.std.specs.List.{Any}
use Rattle.ompt_events.specs.declared.records.Record.{Record}
use Rattle.ompt_events.specs.declared.records.Body.{Body}
use Rattle.ompt_events.specs.Records.{named, created, region_named}
use Rattle.task_tree.specs.declared.roots.Standing.{Standing}

-- each known root is in the list of tasks
abbrev pub AreRootsMade : List ℕ → List (Option Standing) → Type 0
AreRootsMade tasks roots =
    (index : ℕ) (standing : Standing) → slice_get roots index ≡ Some (Some standing)
    → Contains tasks standing.root

-- a task is named that was not noted as made
abbrev pub NamesUnmade : List ℕ → Body → Type 0
NamesUnmade tasks body = Any (λ task. Contains tasks task → ⊥) (named body)

-- a task is created of which no root is known
abbrev pub CreatesUnrooted : List ℕ → List (Option Standing) → Body → Type 0
CreatesUnrooted tasks roots body =
    IsSomeAnd (created body) (λ task. (index : ℕ) → slice_get tasks index ≡ Some task
    → slice_get roots index ≡ Some None)

-- a task is named, and its slot is empty
abbrev pub IsMissing : Option ℕ → Option ℕ → Type 0
IsMissing None slot = ⊥
IsMissing (Some task) slot = slot ≡ None

-- a region is named that was not noted as begun
abbrev pub NamesNoRegion : List ℕ → Body → Type 0
NamesNoRegion regions body = IsSomeAnd (region_named body) (λ region. Contains regions region → ⊥)

abbrev pub IsRootless : List ℕ → List ℕ → List (Option Standing) → Body → Type 0
IsRootless tasks regions roots body =
    NamesUnmade tasks body ⊎ (CreatesUnrooted tasks roots body ⊎ NamesNoRegion regions body)

-- all that the body names was noted
abbrev pub NamesKnown : List ℕ → List ℕ → Body → Type 0
NamesKnown tasks regions body = (NamesUnmade tasks body → ⊥) × (NamesNoRegion regions body → ⊥)

-- each of the first n records is so
abbrev pub AllNameKnown : List Record → ℕ → List ℕ → List ℕ → Type 0
AllNameKnown rs n tasks regions =
    (i : ℕ) (r : Record) → i < n → slice_get rs i ≡ Some r → NamesKnown tasks regions r.body
