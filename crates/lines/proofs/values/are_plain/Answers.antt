use Rattle.std.proofs.Common.{arith, get_or}
use Rattle.std.proofs.lemmas.Bool.{leb-true}
use Rattle.json.specs.declared.tape.Node.TheVariants.{Object}
use Rattle.lines.proofs.MeaningLemmas.{ranged-more, counted-more, opening-bound, plain-all}
use Rattle.lines.proofs.values.are_plain.Goals as goal

pub nodes-preserved : goal.nodes-preserved
nodes-preserved c =
    let now = c.nodes.invariant in
    record {
      ranged =
          ranged-more c.args.nodes.now c.nodes.node-index _ c.nodes-test.true
          (c.is_plain.ensures c.if-not-is_plain.false) now.ranged;
      counted =
          rw c.opens-opened.ensures
          (counted-more c.args.nodes.now c.nodes.node-index _ c.nodes.opened c.nodes-test.true
          now.counted);
      bounded =
          omega (
            arith,
            now.bounded,
            c.opens-opened.ensures,
            opening-bound (get_or c.args.nodes.now c.nodes.node-index (Object 0)),
          );
    }

pub returns : goal.returns
returns c =
    λ few.
    plain-all c.args.nodes.now c.nodes.node-index c.nodes.opened c.nodes-test.false
    c.nodes.invariant.ranged c.nodes.invariant.counted (leb-true c.nodes.opened 127 few)
