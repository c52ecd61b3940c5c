use Rattle.std.proofs.Common.{◌+◌, Some, arith, take, get_or, ◌∙◌, ap}
use Rattle.std.specs.Prelude.{reverse}
use Rattle.credit_ledger.specs.Links.{spot_of}
use Rattle.credit_ledger.specs.Trees.{child}
use Rattle.credit_ledger.proofs.RunLemmas.{run-le}
use Rattle.credit_ledger.proofs.TreeLemmas.{place-more}
use Rattle.credit_ledger.proofs.UpdateLemmas.{place-within}
use Rattle.credit_ledger.proofs.GrowLemmas.{IsGrown-same, IsGrown-through}
use Rattle.credit_ledger.proofs.tree.Tree.make.Goals as goal

pub runs-init : goal.runs-init
runs-init c =
    let here =
    c.in_ok-make_root.ensures.grown.kept (reverse (take c.args.start.depth c.args.runs.now))
    c.args.start.index c.requires.start.1 in
    record {
      grown = c.in_ok-make_root.ensures.grown;
      place = here;
      within =
          place-within c.make_root.new.self c.in_ok-make_root.ensures.grown.linked
          c.in_ok-make_root.ensures.made (reverse (take c.args.start.depth c.args.runs.now))
          c.args.start.index here;
      depth = c.requires.start.0;
      spot =
          λ less.
          c.in_ok-make_root.ensures.spots c.args.start.index (get_or c.args.runs.now c.args.start.depth 0)
          ∙ c.requires.start.2 less;
    }

pub returns-in_err-reserve-clause-grown : goal.returns-in_err-reserve-clause-grown
returns-in_err-reserve-clause-grown c =
    IsGrown-through c.args.self.now c.runs.self c.reserve.new.self c.runs.invariant.grown
    (IsGrown-same c.runs.self c.reserve.new.self c.reserve.ensures.nodes c.reserve.ensures.links
    c.runs.invariant.grown.linked)

pub add_child-index-requires-clause-small : goal.add_child-index-requires-clause-small
add_child-index-requires-clause-small c = omega (arith, c.requires.small, run-le c.args.runs.now c.runs.depth)

pub add_child-index-requires-clause-missing : goal.add_child-index-requires-clause-missing
add_child-index-requires-clause-missing c =
    ap (λ links. spot_of links c.runs.index (get_or c.args.runs.now c.runs.depth 0)) c.reserve.ensures.links
    ∙ c.runs.invariant.spot (omega arith)

pub runs-preserved : goal.runs-preserved
runs-preserved c =
    let reserved =
    IsGrown-same c.runs.self c.reserve.new.self c.reserve.ensures.nodes c.reserve.ensures.links
    c.runs.invariant.grown.linked in
    let grown =
    IsGrown-through c.runs.self c.reserve.new.self c.add_child-index.new.self reserved
    c.add_child-index.ensures.grown in
    record {
      grown =
          IsGrown-through c.args.self.now c.runs.self c.add_child-index.new.self c.runs.invariant.grown grown;
      place =
          place-more (child c.add_child-index.new.self) c.args.runs.now c.runs.depth c.runs.index
          (Some c.add_child-index.result) (omega arith)
          (grown.kept (reverse (take c.runs.depth c.args.runs.now)) c.runs.index c.runs.invariant.place)
          c.add_child-index.ensures.made;
      within = c.add_child-index.ensures.inside;
      depth = omega arith;
      spot = λ less. c.add_child-index.ensures.fresh (get_or c.args.runs.now (c.runs.depth + 1) 0);
    }
