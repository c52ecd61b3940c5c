use Rattle.checker.proofs.MergingLemmas.{none_standing}
use Rattle.checker.proofs.merge.Standing.none.Goals as goal

pub returns : goal.returns
returns c =
    none_standing c.args.run.now.records c.in_ok-firsts.field-0.firsts.items
    c.in_ok-firsts.field-0.nexts.items c.in_ok-none_placed.field-0.items
    (rw c.len.ensures.value at c.in_ok-none_placed.ensures) c.in_ok-firsts.ensures.lists
    c.in_ok-firsts.ensures.keys c.in_ok-firsts.ensures.rising
