-- Which records put a parallel region inside another, by the walk of their thread.
use Rattle.std.specs.Prelude.{ℕ, ◌≡◌, ◌⊎◌, List, Some, None, true, is_some, IsSomeAnd, slice_get}
use Rattle.ompt_events.specs.declared.records.Record.{Record}
use Rattle.ompt_events.specs.declared.records.Membership.{Membership}
use Rattle.ompt_events.specs.Records.{forked, joined, begun_initial, begun_root, ended_root}
use Rattle.ompt_events.specs.Places.{at}
use Rattle.ompt_events.specs.Teams.{IsInitial, IsMember}
use Rattle.ompt_events.specs.Threads.{Walk}
use Rattle.task_tree.specs.Runs.{RunView, IsIndexOf}
use Rattle.task_tree.specs.declared.run.ThreadEvent.{ThreadEvent}
use Rattle.task_tree.specs.declared.run.ThreadEvent.TheVariants.{RootBegin, RootEnd}

-- a root begins or ends there
abbrev pub IsRootEvent : RunView → ℕ → ThreadEvent → Type 0
IsRootEvent run i (RootBegin index) = IsIndexOf run begun_root i (Some index)
IsRootEvent run i (RootEnd index) = IsIndexOf run ended_root i (Some index)
IsRootEvent run i _ = ⊥

-- none does
abbrev pub IsNoRootEvent : RunView → ℕ → Type 0
IsNoRootEvent run i = IsIndexOf run begun_root i None × IsIndexOf run ended_root i None

-- the task at the index is a member of a team
abbrev pub IsMemberIndex : RunView → ℕ → Type 0
IsMemberIndex run index =
    (task : ℕ) × (slice_get run.family.tasks index ≡ Some task) × IsMember run.records task

-- a task that isn't initial begins a parallel region
abbrev pub ForksInside : List Record → ℕ → Type 0
ForksInside rs i = IsSomeAnd (at forked rs i) (λ (p : ℕ × ℕ). IsInitial rs p.0 → ⊥)

-- a member of a team begins while another is the innermost open root
abbrev pub JoinsInside : RunView → Walk → ℕ → Type 0
JoinsInside run walk i =
    IsSomeAnd (at joined run.records i)
    (λ (m : Membership). IsSomeAnd (slice_get walk.roots 0) (IsMemberIndex run))

-- an initial task begins while a root is open
abbrev pub InitialInside : RunView → Walk → ℕ → Type 0
InitialInside run walk i =
    (is_some (at begun_initial run.records i) ≡ true) × (is_some (slice_get walk.roots 0) ≡ true)

abbrev pub BeginsInside : RunView → Walk → ℕ → Type 0
BeginsInside run walk i = JoinsInside run walk i ⊎ InitialInside run walk i
