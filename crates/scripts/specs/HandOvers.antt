-- When each task goes from step to step with the length of the ledger, and when a step that waits for another
-- one comes after it.
use Rattle.std.specs.Prelude.{ℕ, ◌≡◌, ◌<◌, ◌≤◌, Bool, true, false, List, Option, Some, take, slice_get}
use Rattle.std.specs.Prelude.{option_and_then}
use Rattle.std.specs.Option.{option_map_or}
use Rattle.ompt_events.specs.declared.records.Record.{Record}
use Rattle.scripts.specs.declared.script.Step.{Step}
use Rattle.scripts.specs.Scripts.{step_count}
use Rattle.scripts.specs.RunCalls.{names_it, reads_ledger}
use Rattle.scripts.specs.Progress.{thread_records}

-- the record of the step at this place. Among the records of its thread it has the number that the step has
-- among the thread's steps
abbrev pub step_record : List Step → List Record → ℕ → Option Record
step_record steps rs at =
    option_and_then
    (λ (s : Step). slice_get (thread_records rs s.thread) (step_count (take at steps) s.thread))
    (slice_get steps at)

-- whether the step at this place names the task
abbrev pub is_use : List Step → ℕ → ℕ → Bool
is_use steps task at = option_map_or (λ (s : Step). names_it s.body task) (slice_get steps at) false

-- the steps at both places name the task, and none between them does
pub record IsNextUse (steps : List Step) (task first next : ℕ) : Type 0 where
  pub below : first < next
  pub used : is_use steps task first ≡ true
  pub used_next : is_use steps task next ≡ true
  pub between : (at : ℕ) → first < at → at < next → is_use steps task at ≡ false

-- wherever a step is the next one that names a task, its record names at least the ledger length that the
-- record of the step before names
abbrev pub ArePassedOn : List Step → List Record → Type 0
ArePassedOn steps rs =
    (task first next : ℕ) (q r : Record) → IsNextUse steps task first next
    → step_record steps rs first ≡ Some q → step_record steps rs next ≡ Some r → q.seen ≤ r.seen

-- the step at a place names the earlier step at another place by its `after`: by that one's thread and its
-- number there
pub record ComesAfter (steps : List Step) (first at : ℕ) : Type 0 where
  pub before : Step
  pub step : Step
  pub below : first < at
  pub is_before : slice_get steps first ≡ Some before
  pub is_step : slice_get steps at ≡ Some step
  pub named : step.after ≡ Some (before.thread, step_count (take first steps) before.thread)

-- whether the step at this place uses the ledger
abbrev pub is_reader : List Step → ℕ → Bool
is_reader steps at = option_map_or (λ (s : Step). reads_ledger s.body) (slice_get steps at) false

-- wherever a step comes after another one and uses the ledger, its record names at least the ledger length
-- that the record of the other one names. The record of a step that does not use the ledger names what its
-- thread knew before
abbrev pub AreAwaited : List Step → List Record → Type 0
AreAwaited steps rs =
    (first at : ℕ) (q r : Record) → ComesAfter steps first at → is_reader steps at ≡ true
    → step_record steps rs first ≡ Some q → step_record steps rs at ≡ Some r → q.seen ≤ r.seen
