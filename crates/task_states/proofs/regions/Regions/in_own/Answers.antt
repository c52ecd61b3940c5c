use Rattle.std.proofs.Common.{sym, subst}
use Rattle.task_tree.specs.Own.{OwnView}
use Rattle.task_states.specs.Regions.{AreRegions}
use Rattle.task_states.proofs.regions.Regions.in_own.Goals as goal

pub invariant_of-result : goal.invariant_of-result
invariant_of-result c =
    let P : OwnView → Type 0 =
    λ own. AreRegions (record { own = own; begins = c.in_ok-begins.begins.items }) in
    subst P (sym c.again.ensures) (record {
      own = c.run-run.ensures.is_own;
      begins = c.in_ok-begins.ensures.linked;
    })

pub returns-clause-regions : goal.returns-clause-regions
returns-clause-regions c =
    let P : OwnView → Type 0 =
    λ own. AreRegions (record { own = own; begins = c.in_ok-begins.begins.items }) in
    subst P (sym c.again.ensures) (record {
      own = c.run-run.ensures.is_own;
      begins = c.in_ok-begins.ensures.linked;
    })
