use Rattle.std.proofs.Common.{◌≡◌, ◌∙◌, length, sym, ap, arith}
use Rattle.depend_edges.proofs.LatestLemmas.{latest_at_next}
use Rattle.depend_edges.proofs.latest.take_children.Goals as goal

pub returns-clause-latest : goal.returns-clause-latest
returns-clause-latest c =
    let run = c.args.lengths.now.edges.run in
    let children = rw c.run.ensures.value at c.children-siblings.ensures in
    let all : length c.children-siblings.result.now ≡ c.loop-number.number =
    omega (arith, c.loop-number.auto.number-end, c.loop-number-test.false) in
    latest_at_next run.records run.family.tasks c.args.lengths.now.own c.loop-number.latest.items c.args.up
    c.loop-number.number c.requires.within (λ parent is_up. ap length (sym (children parent is_up)) ∙ all)
    c.loop-number.invariant.latest
