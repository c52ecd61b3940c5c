use Rattle.std.proofs.Common.{◌≡◌, ◌∙◌, length, sym, arith}
use Rattle.ompt_events.specs.Records.{begun_root}
use Rattle.ompt_events.specs.Places.{at}
use Rattle.task_tree.proofs.RootLemmas.{reach_start, seeded_other, seeded_more}
use Rattle.task_tree.proofs.roots.reach_roots.Goals as goal
use Rattle.task_tree.proofs.roots.reach_roots.Goals.{in-Some+in_ok-reach, in_default}

pub loop-at-init : goal.loop-at-init
loop-at-init c = record {
  reach =
      reach_start c.args.trace.now.records c.args.tasks.now c.args.roots.now.items c.args.order.now.items
      c.requires.roots c.requires.order;
  seeded = λ i task index low. absurd (omega arith);
}

pub reach-requires : goal.reach-requires
reach-requires c = c.loop-at.invariant.reach.all

pub loop-at-preserved : goal.loop-at-preserved
loop-at-preserved c =
    let rs = c.args.trace.now.records in
    let i = c.loop-at.at in
    let says : at begun_root rs i ≡ c.begun_root.result = sym c.begun_root.ensures in
    elim c.match-begun_root.branch [
      | in-Some+in_ok-reach w ↦
          rw (w.roots-is, w.order-is)
          (seeded_more rs i w.in-Some.root c.args.tasks.now c.loop-at.roots.items
          c.loop-at.order.items w.reach.new.roots.items w.reach.new.order.items
          c.loop-at.invariant (says ∙ w.in-Some.is) w.in_ok-reach.ensures)
      | in_default w ↦
          rw (w.roots-is, w.order-is)
          (seeded_other rs i c.args.tasks.now c.loop-at.roots.items c.loop-at.order.items
          c.loop-at.invariant (says ∙ w.in_default.is))
    ]

pub returns : goal.returns
returns c =
    let all : c.loop-at.at ≡ length c.args.trace.now.records =
    omega (arith, c.loop-at-test.false, c.loop-at.auto.at-end, c.len-at-end.ensures.value) in
    rw all at c.loop-at.invariant
