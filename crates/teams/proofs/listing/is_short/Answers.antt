use Rattle.std.proofs.Common.{length}
use Rattle.teams.proofs.LackLemmas.{short_member, short_barrier}
use Rattle.teams.proofs.listing.is_short.Goals as goal

pub returns-then-lacks-number : goal.returns-then-lacks-number
returns-then-lacks-number c =
    let rs = c.args.tables.now.run.records in
    short_member rs (length rs) c.args.number c.args.lacks.now c.requires.lacks c.requires.within
    c.if-lacks-number.true

pub returns-else-lacks-number : goal.returns-else-lacks-number
returns-else-lacks-number c =
    let rs = c.args.tables.now.run.records in
    short_barrier rs (length rs) c.args.number c.args.lacks.now c.is_missed.result c.requires.lacks
    c.requires.within c.if-lacks-number.false c.is_missed.ensures
