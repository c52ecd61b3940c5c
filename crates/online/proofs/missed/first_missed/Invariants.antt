use Rattle.std.specs.Prelude.{nat_eq}
use Rattle.std.specs.HashMap.{get}
use Rattle.online.specs.Missed.{IsPartOfTable}
use Rattle.online.proofs.missed.first_missed.Given as goal

abbrev pub invariant-loop-task : goal.invariant-loop-task
invariant-loop-task l = IsPartOfTable (get nat_eq l.table) (get nat_eq l.initial.table)
