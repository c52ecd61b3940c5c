use Rattle.std.proofs.Common.{List, take}
use Rattle.ompt_events.specs.declared.records.Record.{Record}
use Rattle.task_tree.specs.Family.{IsFamilyOf}
use Rattle.task_tree.specs.Paths.{ArePaths}
use Rattle.task_tree.proofs.paths.find_paths.Given as goal

-- the paths of the tasks so far
abbrev pub invariant-loop-index : goal.invariant-loop-index
invariant-loop-index l =
    (records : List Record) → IsFamilyOf records l.family
    → ArePaths records (take l.index l.family.tasks) l.paths.items
