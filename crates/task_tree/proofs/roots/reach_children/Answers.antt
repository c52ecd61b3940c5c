use Rattle.std.proofs.Common.{◌∙◌, take, arith}
use Rattle.std.proofs.lemmas.List.{take_more, take_all}
use Rattle.task_tree.specs.Roots.{none, more}
use Rattle.task_tree.proofs.RootLemmas.{spreads_keeps}
use Rattle.task_tree.proofs.roots.reach_children.Goals as goal

pub loop-child-init : goal.loop-child-init
loop-child-init c = none

pub reach-requires : goal.reach-requires
reach-requires c =
    (spreads_keeps c.args.tasks.now c.args.standing c.args.roots.now.items c.args.order.now.items
    (take c.loop-child.child-index c.args.children.now) c.loop-child.roots.items c.loop-child.order.items
    c.loop-child.invariant).same_length
    ∙ c.requires

pub loop-child-preserved : goal.loop-child-preserved
loop-child-preserved c =
    rw (take_more c.args.children.now c.loop-child.child-index 0 c.loop-child-test.true)
    (more _ c.loop-child.invariant c.in_ok-near.ensures)

pub returns : goal.returns
returns c =
    rw (take_all c.loop-child.child-index c.args.children.now (omega (arith, c.loop-child-test.false)))
    at c.loop-child.invariant
