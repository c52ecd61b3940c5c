use Rattle.std.proofs.Common.{rules}
use Rattle.checker.proofs.InOrderLemmas.{last_more}
use Rattle.checker.proofs.in_order.keep_end.Goals as goal

pub overflow_cast-at : goal.overflow_cast-at
overflow_cast-at c =
    let within = c.requires.within in
    let few = c.requires.few in
    search (rules, within, few)

pub returns : goal.returns
returns c =
    last_more c.args.run.now.records c.args.run.now.family.tasks c.make_room.new.lasts.items c.args.at
    c.args.end.index c.args.end.turn c.requires.end c.in_ok-make_room.ensures.lasts
