use Rattle.teams.specs.Rosters.{AreFirstRosters}
use Rattle.teams.proofs.rosters.empty_rosters.Given as goal

-- the rosters so far
abbrev pub invariant-loop-index : goal.invariant-loop-index
invariant-loop-index l =
    AreFirstRosters l.tables.run.records l.tables.run.family.tasks l.tables.sizes l.index l.rosters.items
