use Rattle.teams.specs.Begins.{AreBeginsNumbered}
use Rattle.teams.specs.Teams.{AreBarrierBegins}
use Rattle.teams.proofs.begins.find_begins.Given as goal

-- the barriers that begin at the records so far
abbrev pub invariant-loop-at : goal.invariant-loop-at
invariant-loop-at l = record {
  begins : AreBarrierBegins l.run.records l.at l.run.family.tasks l.begins.items;
  numbers : AreBeginsNumbered l.run.records l.at l.numbers.items;
}
