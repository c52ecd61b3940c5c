-- The live tasks, by their ids.
use Rattle.std.specs.Prelude.{ℕ, ◌≡◌, ◌==◌, Option, nat_eq, if◌then◌else◌}
use Rattle.std.specs.HashMap.{get}
use Rattle.callbacks.specs.Tasks.{TaskView}
use Rattle.online.specs.declared.tasks.Tasks.{Tasks}

-- what is kept of the task with this id, if it is live
abbrev pub value_of : Tasks → ℕ → Option TaskView
value_of tasks task = get nat_eq tasks.values task

-- of this task something else is kept, and of each other what was
abbrev pub IsChanged : Tasks → Tasks → ℕ → (Option TaskView → Option TaskView) → Type 0
IsChanged old new task change =
    (id : ℕ) → value_of new id ≡ (if task == id then change (value_of old task) else value_of old id)
