-- What the task_schedule events show: where each explicit task runs, and whether the event of any task is
-- fulfilled early.
use Rattle.std.specs.Prelude.{ℕ, ◌≡◌, ◌<◌, ◌==◌, Bool, List, Option, Some, None, true, false, if◌then◌else◌}
use Rattle.std.specs.Prelude.{length, slice_get}
use Rattle.ompt_events.specs.declared.records.Record.{Record}
use Rattle.ompt_events.specs.Records.{started}
use Rattle.ompt_events.specs.Places.{at}
use Rattle.ompt_events.specs.Tree.{IsExplicit}
use Rattle.ompt_events.specs.States.{home_of, has_moved, is_early}
use Rattle.task_tree.specs.Runs.{RunView, IsRun}
use Rattle.task_states.specs.declared.homes.Home.{Home}
use Rattle.task_states.specs.declared.homes.Home.TheVariants.{Nowhere, On, Many}

-- where a task runs, for each value of the code's type: whether it has moved, and its home, if it has one
abbrev pub home_told : Bool → Option ℕ → Home
home_told true home = Many
home_told false None = Nowhere
home_told false (Some thread) = On thread

abbrev pub home_at : List Record → ℕ → Home
home_at rs task = home_told (has_moved rs task) (home_of rs task)

-- that the task moved, if turns are recorded; else none
abbrev pub told_move : Bool → Option Home
told_move told = if told then Some Many else None

-- where a task runs that now runs on this thread; none where it ran on another one and no turns are recorded
abbrev pub home_after : Home → ℕ → Bool → Option Home
home_after Nowhere thread told = Some (On thread)
home_after (On before) thread told = if before == thread then Some (On before) else told_move told
home_after Many thread told = told_move told

-- where a task runs that now runs on this thread, whether or not it may
abbrev pub met_home : Home → ℕ → Home
met_home Nowhere thread = On thread
met_home (On before) thread = if before == thread then On before else Many
met_home Many thread = Many

-- the task with this index is explicit, and runs next at the place i
pub record IsExplicitStart (rs : List Record) (tasks : List ℕ) (i index : ℕ) : Type 0 where
  pub task : ℕ
  pub starts : at started rs i ≡ Some task
  pub explicit : IsExplicit rs task
  pub indexed : slice_get tasks index ≡ Some task

-- by index of each explicit task where it runs
abbrev pub AreRunOn : List Record → List ℕ → List Home → Type 0
AreRunOn rs tasks homes =
    (index task : ℕ) → slice_get tasks index ≡ Some task → IsExplicit rs task
    → slice_get homes index ≡ Some (home_at rs task)

-- none of the first n records fulfils a task's event before the task's body has ended
abbrev pub IsNeverEarly : List Record → ℕ → Type 0
IsNeverEarly rs n = (i task : ℕ) → i < n → is_early rs task i ≡ false

-- the homes, and whether any event is fulfilled early, are those of the run
pub record AreSchedules (run : RunView) (homes : List Home) (any_early : Bool) : Type 0 where
  pub of_run : IsRun run
  pub all : length homes ≡ length run.family.tasks
  pub run_on : AreRunOn run.records run.family.tasks homes
  pub early : any_early ≡ false → IsNeverEarly run.records (length run.records)
