use Rattle.std.proofs.Common.{[], ◌∷◌}
use Rattle.lines.specs.InFront.{AreMembersInFront}
use Rattle.lines.proofs.others.past_first_others.Given as goal

-- no member so far is known
abbrev pub invariant-others : goal.invariant-others
invariant-others l = AreMembersInFront (44 ∷ l.fn.inside) [] (44 ∷ l.between)
