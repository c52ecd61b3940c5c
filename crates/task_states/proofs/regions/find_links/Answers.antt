use Rattle.std.proofs.Common.{ℕ, Option, refl, subst}
use Rattle.ompt_events.specs.declared.cause.Cause.TheVariants.{RegionOrder}
use Rattle.task_tree.specs.Own.{FindsFirstPlace}
use Rattle.task_states.proofs.RegionLemmas.{linked_all}
use Rattle.task_states.proofs.regions.find_links.Goals as goal

pub returns-in-Some-clause-fault : goal.returns-in-Some-clause-fault
returns-in-Some-clause-fault c =
    let P : Option ℕ → Type 0 = FindsFirstPlace c.args.own.now RegionOrder in
    (refl, subst P c.in-Some.is c.in_ok-links.ensures.earliest)

pub returns-in-None-clause-free : goal.returns-in-None-clause-free
returns-in-None-clause-free c =
    let P : Option ℕ → Type 0 = FindsFirstPlace c.args.own.now RegionOrder in
    subst P c.in-None.is c.in_ok-links.ensures.earliest

pub returns-in-None-clause-linked : goal.returns-in-None-clause-linked
returns-in-None-clause-linked c =
    let P : Option ℕ → Type 0 = FindsFirstPlace c.args.own.now RegionOrder in
    linked_all c.args.own.now.run.records _ c.in_ok-links.links.opened.items
    (subst P c.in-None.is c.in_ok-links.ensures.earliest) c.in_ok-links.ensures.linked
