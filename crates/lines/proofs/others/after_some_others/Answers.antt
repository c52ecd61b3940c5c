use Rattle.lines.proofs.InFrontLemmas.{AreMembersInFront-both, AreMembersInFront-none, TakesPast-some}
use Rattle.lines.proofs.others.after_some_others.Goals as goal

pub others-init : goal.others-init
others-init c = AreMembersInFront-none c.args.rest.now

pub others-preserved : goal.others-preserved
others-preserved c =
    AreMembersInFront-both _ _ _ _ _ c.others.invariant c.in_ok-between.ensures

pub returns-in-Some : goal.returns-in-Some
returns-in-Some c =
    TakesPast-some _ _ _ _ (AreMembersInFront-both _ _ _ _ _ c.others.invariant c.in_ok-between.ensures)
    c.in-Some.ensures
