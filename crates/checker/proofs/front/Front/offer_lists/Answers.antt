use Rattle.std.proofs.Common.{◌∙◌, Some, ap, arith, inl, inr}
use Rattle.std.proofs.lemmas.Bool.{cases_lt}
use Rattle.checker.proofs.FrontLemmas.{more_then}
use Rattle.checker.proofs.front.Front.offer_lists.Goals as goal

pub loop-key-preserved : goal.loop-key-preserved
loop-key-preserved c = record {
  more =
      more_then c.args.self.now.run.now.records c.args.self.now.placed.now c.args.ready.now c.loop-key.ready
      c.offer_list.new.ready c.loop-key.invariant.more c.in_ok-offer_list.ensures.more;
  offered = λ of lists i k from below is may. elim (cases_lt k c.loop-key.key) [
    | inl earlier ↦
        c.in_ok-offer_list.ensures.more.kept i (c.loop-key.invariant.offered of lists i k from earlier is may)
    | inr later ↦
        c.in_ok-offer_list.ensures.offered of lists i (is ∙ ap Some (omega (arith, below, later))) may
  ];
}

pub returns-clause-offered : goal.returns-clause-offered
returns-clause-offered c =
    λ of lists i k from below is may.
    c.loop-key.invariant.offered of lists i k from
    (let end = c.loop-key-test.false in omega (arith, below, end)) is may
