use Rattle.std.proofs.Common.{◌≤◌, length}
use Rattle.teams.specs.Rosters.{AreTeamsBelow}
use Rattle.teams.proofs.rosters.roster_count.Given as goal

-- the numbers of the teams of the tasks so far are below the count
abbrev pub invariant-loop-index : goal.invariant-loop-index
invariant-loop-index l = record {
  few : l.count ≤ length l.teams;
  below : AreTeamsBelow l.teams l.index l.count;
}
