-- The walk of a thread by indices of tasks: its open roots, the innermost first, what ran when each of them
-- began, and the task that runs.
use Rattle.std.specs.Prelude.{ℕ, ◌≡◌, ◌≢◌, ◌⊎◌, Bool, true, ◌∷◌, Some, IsSomeAnd, if◌then◌else◌, drop}
use Rattle.std.specs.Prelude.{slice_get}
use Rattle.ompt_events.specs.declared.names.Status.TheVariants.{TaskwaitComplete}
use Rattle.ompt_events.specs.Names.{demands_next}
use Rattle.ompt_events.specs.Threads.{Walk, uncovered}
use Rattle.ompt_events.specs.Tree.{IsExplicit}
use Rattle.task_tree.specs.Lineage.{parent_index}
use Rattle.task_tree.specs.Runs.{RunView}
use Rattle.task_tree.specs.declared.run.Schedule.{Schedule}
use Rattle.task_tree.specs.declared.run.ThreadEvent.{ThreadEvent}
use Rattle.task_tree.specs.declared.run.ThreadEvent.TheVariants.{Scheduled, RootBegin, RootEnd, Running}

-- a root begins and runs, or ends; a schedule runs its next task, where its status demands one
abbrev pub after_event : Bool → Walk → ThreadEvent → Walk
after_event nests walk (Scheduled event) =
    if demands_next event.status then record { roots = walk.roots; outer = walk.outer; current = event.next }
    else walk
after_event nests walk (RootBegin root) =
    record { roots = root ∷ walk.roots; outer = walk.current ∷ walk.outer; current = Some root }
after_event nests walk (RootEnd root) =
    record { roots = drop 1 walk.roots; outer = drop 1 walk.outer; current = uncovered nests walk }
after_event nests walk (Running task) = walk

-- no record creates the task at the index
abbrev pub IsNotCreated : RunView → ℕ → Type 0
IsNotCreated run index =
    (task : ℕ) → slice_get run.family.tasks index ≡ Some task → IsExplicit run.records task → ⊥

-- the prior task of a schedule must run there, and doesn't
abbrev pub PriorMisfits : Walk → Schedule → Type 0
PriorMisfits walk event = (demands_next event.status ≡ true) × (walk.current ≢ Some event.prior)

-- a root runs next that isn't the innermost open one
abbrev pub NextMisfits : RunView → Walk → Schedule → Type 0
NextMisfits run walk event =
    IsSomeAnd event.next (λ next. IsNotCreated run next × (slice_get walk.roots 0 ≢ Some next))

-- a taskwait with dependences is complete whose parent isn't the current task
abbrev pub ParentMisfits : RunView → Walk → Schedule → Type 0
ParentMisfits run walk event =
    (event.status ≡ TaskwaitComplete)
    × IsSomeAnd (parent_index run.family event.prior) (λ parent. walk.current ≢ Some parent)

-- a root ends that doesn't run, or isn't the innermost open one
abbrev pub EndMisfits : Walk → ℕ → Type 0
EndMisfits walk root = (walk.current ≢ Some root) ⊎ (slice_get walk.roots 0 ≢ Some root)

-- the event speaks for a task that a thread with this walk doesn't run
abbrev pub EventMisfits : RunView → Walk → ThreadEvent → Type 0
EventMisfits run walk (Scheduled event) =
    PriorMisfits walk event ⊎ (NextMisfits run walk event ⊎ ParentMisfits run walk event)
EventMisfits run walk (RootBegin root) = ⊥
EventMisfits run walk (RootEnd root) = EndMisfits walk root
EventMisfits run walk (Running task) = walk.current ≢ Some task
