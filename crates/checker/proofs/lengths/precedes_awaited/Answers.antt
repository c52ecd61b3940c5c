use Rattle.checker.proofs.LengthLemmas.{awaited_within, precedes_is, precedes_none}
use Rattle.checker.proofs.lengths.precedes_awaited.Goals as goal

pub seen-requires-in-Some : goal.seen-requires-in-Some
seen-requires-in-Some c =
    awaited_within c.args.run.now.records c.args.at c.in-Some.place c.awaited_at.result c.awaited_at.ensures
    c.in-Some.is

pub returns-in-Some : goal.returns-in-Some
returns-in-Some c =
    precedes_is c.args.run.now.records c.args.at c.in-Some.place c.seen.result c.seen-in-Some.result
    c.awaited_at.result c.awaited_at.ensures c.in-Some.is c.seen.ensures c.seen-in-Some.ensures

pub returns-in-None : goal.returns-in-None
returns-in-None c =
    precedes_none c.args.run.now.records c.args.at c.awaited_at.result c.awaited_at.ensures c.in-None.is
