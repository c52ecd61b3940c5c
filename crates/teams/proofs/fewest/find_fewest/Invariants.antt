use Rattle.teams.specs.Fewest.{AreFewest}
use Rattle.teams.proofs.fewest.find_fewest.Given as goal

-- the least numbers of the tasks so far
abbrev pub invariant-loop-index : goal.invariant-loop-index
invariant-loop-index l = AreFewest l.teams l.begins l.index l.fewest.items
