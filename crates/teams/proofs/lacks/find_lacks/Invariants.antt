use Rattle.teams.specs.Lacks.{AreLacks, AreSeen}
use Rattle.teams.proofs.lacks.find_lacks.Given as goal

-- the members so far are noted, and it is known which of them show a lack
abbrev pub invariant-loop-number : goal.invariant-loop-number
invariant-loop-number l = record {
  lacks : AreLacks l.tables.run.records l.number l.lacks.items;
  seen : AreSeen l.tables.run.records l.number l.tables.run.family.tasks l.seen;
}
