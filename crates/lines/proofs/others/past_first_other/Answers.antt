use Rattle.std.proofs.Common.{[], ◌∷◌, subst}
use Rattle.lines.specs.InFront.{AreMembersInFront}
use Rattle.lines.proofs.InFrontLemmas.{AreMembersInFront-other}
use Rattle.lines.proofs.others.past_first_other.Goals as goal

pub returns : goal.returns
returns c =
    subst (λ end. AreMembersInFront (44 ∷ c.args.inside.now) [] end) c.in_ok-behind.ensures.is
    (AreMembersInFront-other _ _ _ c.in_ok-value.ensures c.in_ok-rest.ensures)
