-- What a script keeps besides its steps.
use Rattle.std.specs.Prelude.{ℕ, ◌≡◌, ◌<◌, ◌≤◌, Bool, true, false, List, Option, None, Some, get_or, length}
use Rattle.std.specs.List.{list_all}
use Rattle.std.specs.Ordering.{nat_cmp}
use Rattle.std.specs.BTreeMap.{BTreeMap, get}
use Rattle.ompt_events.specs.Limits.{max_threads}
use Rattle.scripts.specs.declared.script.Step.{Step}
use Rattle.scripts.specs.declared.tally.Tally.{Tally}
use Rattle.scripts.specs.declared.lives.Life.{Life}
use Rattle.scripts.specs.Scripts.{life, step_count, task_count, is_earlier, is_made, may_be_named, IsScript}
use Rattle.scripts.specs.Scripts.{IsShortScript}

-- the table has what has become of each task
abbrev pub AreLives : List Step → BTreeMap ℕ Life → Type 0
AreLives steps lives = (task : ℕ) → get nat_cmp lives task ≡ life steps task

-- whether a call that makes this task may name each of the tasks, by the table
abbrev pub all_may_be_named : BTreeMap ℕ Life → Option ℕ → List ℕ → Bool
all_may_be_named lives made tasks =
    list_all (λ task. may_be_named (is_made made task) (get nat_cmp lives task)) tasks

-- the numbers of steps by thread, and the number of tasks
pub record IsTally (steps : List Step) (tally : Tally) : Type 0 where
  pub threads : length tally.steps ≡ max_threads
  pub counted : (thread : ℕ) → thread < max_threads → get_or tally.steps thread 0 ≡ step_count steps thread
  pub beyond : (thread : ℕ) → max_threads ≤ thread → step_count steps thread ≡ 0
  pub tasks : tally.tasks ≡ task_count steps

-- the result of a search for a step that is named, if one is
abbrev pub IsStepFound : List Step → Option (ℕ × ℕ) → Option (Option (ℕ × ℕ)) → Type 0
IsStepFound steps named None = is_earlier steps named ≡ false
IsStepFound steps named (Some found) = (is_earlier steps named ≡ true) × (found ≡ named)

-- the steps are a script of a size that it may have, and the rest is of them
pub record IsScriptKept (steps : List Step) (lives : BTreeMap ℕ Life) (tally : Tally) : Type 0 where
  pub script : IsScript steps
  pub short : IsShortScript steps
  pub are_lives : AreLives steps lives
  pub is_tally : IsTally steps tally
