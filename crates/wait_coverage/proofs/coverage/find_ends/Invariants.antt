use Rattle.teams.specs.Teams.{own_of}
use Rattle.wait_coverage.specs.Coverage.{AreWaitEnds, AreWaits}
use Rattle.wait_coverage.proofs.coverage.find_ends.Given as goal

-- the ends so far, and what each waits for
abbrev pub invariant-loop-place : goal.invariant-loop-place
invariant-loop-place l = record {
  ends : AreWaitEnds (own_of l.teams) l.place l.ends.items;
  waits : AreWaits (own_of l.teams) l.ends.items l.waits.items;
}
