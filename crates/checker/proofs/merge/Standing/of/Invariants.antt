use Rattle.std.specs.Prelude.{take}
use Rattle.checker.specs.Merge.{ArePlaced}
use Rattle.checker.proofs.merge.Standing.of.Given as goal

-- so many of the list stand
abbrev pub invariant-loop-index : goal.invariant-loop-index
invariant-loop-index l =
    ArePlaced l.run.records l.standing.placed.items l.standing.heads.items l.standing.links.items
    (take l.index l.order)
