use Rattle.teams.specs.Tables.{tables_own}
use Rattle.teams.specs.Short.{IsMissedNowhere}
use Rattle.teams.proofs.short.find_missed.Given as goal

-- no barrier that a member misses ends at a place so far
abbrev pub invariant-loop-place : goal.invariant-loop-place
invariant-loop-place l = IsMissedNowhere (tables_own l.tables) l.place
