-- What a script is. Its line 1 is a header; step number i, from 0, is on line i + 2.
use Rattle.std.specs.Prelude.{ℕ, ◌≡◌, ◌≤◌, ◌+◌, ◌==◌, ◌&&◌, ◌||◌, Bool, true, false, not, List, [], ◌∷◌}
use Rattle.std.specs.Prelude.{length, take, Option, Some, None, is_some, option_map, option_and_then}
use Rattle.std.specs.Prelude.{if◌then◌else◌, fold, count_by, slice_get, nat_lt, nat_le}
use Rattle.std.specs.List.{list_any, list_all}
use Rattle.std.specs.Option.{option_map_or}
use Rattle.ompt_events.specs.declared.records.Body.{Body}
use Rattle.ompt_events.specs.declared.records.Part.{Part}
use Rattle.ompt_events.specs.declared.records.Part.TheVariants as part
use Rattle.ompt_events.specs.Records.{made, named, finish, ended_root, claim, told_turns}
use Rattle.ompt_events.specs.Limits.{max_records, max_tasks}
use Rattle.scripts.specs.declared.script.Step.{Step}
use Rattle.scripts.specs.declared.lives.Life.{Life}
use Rattle.scripts.specs.declared.lives.Life.TheVariants.{Live, Over}
use Rattle.scripts.specs.declared.fault.ScriptFault.{ScriptFault}
use Rattle.scripts.specs.declared.fault.ScriptFault.TheVariants.{Memory, Full, Misplaced}

-- the view of a script: whether regions may lie inside others in the trace of its run, how many records each
-- recorder of the run may have, and its steps
pub record ScriptView : Type 0 where
  pub nests : Bool
  pub capacity : ℕ
  pub steps : List Step

-- the script without a step, whose run has a trace of version 2
abbrev pub empty_script : ScriptView
empty_script = record { nests = false; capacity = max_records; steps = [] }

-- ---- what becomes of a task

-- whether it is a call for a recorder: it has no claim and no turns
abbrev pub is_call : Body → Bool
is_call body = not (is_some (claim body)) && not (is_some (told_turns body))

-- the task that the call finishes, by a discard too, unless it finishes the body alone (status `detach`)
abbrev pub finished : Body → Option ℕ
finished body = option_and_then whole (finish body)
  where
    whole : ℕ × Part → Option ℕ
    whole (task, part.Body) = None
    whole (task, part.Whole) = Some task
    whole (task, part.Event) = Some task

-- the task that the call ends: it finishes it, or an initial or implicit task ends
abbrev pub ended : Body → Option ℕ
ended body = if is_some (ended_root body) then ended_root body else finished body

-- the task that the call makes or ends, and what becomes of it
abbrev pub fate : Body → Option (ℕ × Life)
fate body = if is_some (made body) then option_map (λ task. (task, Live)) (made body)
    else option_map (λ task. (task, Over)) (ended body)

-- what has become of a task after a call; None as long as no call makes it
abbrev pub life_after : Option Life → Body → ℕ → Option Life
life_after life body task =
    option_map_or (λ (f : ℕ × Life). if f.0 == task then Some f.1 else life) (fate body) life

-- the same after these steps
abbrev pub life : List Step → ℕ → Option Life
life steps task = fold (λ before (s : Step). life_after before s.body task) None steps

-- ---- which call may come where

-- how many of the steps the thread has, and how many tasks the steps make
abbrev pub step_count : List Step → ℕ → ℕ
step_count steps thread = count_by (λ (s : Step). s.thread == thread) steps

abbrev pub task_count : List Step → ℕ
task_count steps = count_by (λ (s : Step). is_some (made s.body)) steps

-- the step named by its thread and its number there is one of these; or none is named
abbrev pub is_earlier : List Step → Option (ℕ × ℕ) → Bool
is_earlier steps None = true
is_earlier steps (Some (thread, number)) = nat_lt number (step_count steps thread)

-- whether a number is in the list twice
abbrev pub has_twice : List ℕ → Bool
has_twice [] = false
has_twice (x ∷ xs) = list_any (λ y. y == x) xs || has_twice xs

-- whether it is the task that a call makes
abbrev pub is_made : Option ℕ → ℕ → Bool
is_made made task = option_map_or (λ t. t == task) made false

-- whether a call may name a task of which this has become: where the call makes it, no earlier one did;
-- else an earlier one made it and none ended it
abbrev pub may_be_named : Bool → Option Life → Bool
may_be_named true None = true
may_be_named false (Some Live) = true
may_be_named _ _ = false

-- whether a call may follow the steps: its `after` names one of them, it names no task twice, and it may
-- name each task that it names
abbrev pub may_follow : List Step → Option (ℕ × ℕ) → Body → Bool
may_follow steps after body = is_call body && is_earlier steps after && not (has_twice (named body))
    && list_all (λ task. may_be_named (is_made (made body) task) (life steps task)) (named body)

-- the same but for its `after`: whether a call names no task twice, and may name each that it names
abbrev pub may_name : List Step → Body → Bool
may_name steps body = is_call body && not (has_twice (named body))
    && list_all (λ task. may_be_named (is_made (made body) task) (life steps task)) (named body)

-- the steps are a script, whatever their number
pub record IsScript (steps : List Step) : Type 0 where
  pub lines : (i : ℕ) (s : Step) → slice_get steps i ≡ Some s → s.line ≡ i + 2
  pub follows : (i : ℕ) (s : Step) → slice_get steps i ≡ Some s
      → may_follow (take i steps) s.after s.body ≡ true

-- they are as many as a script may have at most, and so are the tasks that they make
pub record IsShortScript (steps : List Step) : Type 0 where
  pub few_steps : length steps ≤ max_records
  pub few_tasks : task_count steps ≤ max_tasks

-- ---- one call more

-- the step that a call is after the steps
abbrev pub step_of : List Step → ℕ → Option (ℕ × ℕ) → Body → Step
step_of steps thread after body =
    record { line = length steps + 2; thread = thread; after = after; body = body }

-- whether there are as many steps as there may be, or the call makes a task and there are as many tasks as
-- there may be
abbrev pub is_full : List Step → Body → Bool
is_full steps body =
    nat_le max_records (length steps) || (is_some (made body) && nat_le max_tasks (task_count steps))

-- why the call cannot be added
abbrev pub step_fault : List Step → Option (ℕ × ℕ) → Body → ScriptFault
step_fault steps after body =
    if may_follow steps after body then (if is_full steps body then Full else Memory) else Misplaced
