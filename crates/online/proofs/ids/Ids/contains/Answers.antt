use Rattle.online.proofs.SpanLemmas.{nearest_in, none_in}
use Rattle.std.proofs.Common.{sym}
use Rattle.online.proofs.ids.Ids.contains.Goals as goal

pub returns-in-Some : goal.returns-in-Some
returns-in-Some c =
    nearest_in c.args.self.now.spans c.in-Some.ensures.ordered c.args.self.now.apart c.args.id
    c.in-Some.field-0-0 c.in-Some.last c.in-Some.ensures.nearest

pub returns-in-None : goal.returns-in-None
returns-in-None c =
    sym (none_in c.args.self.now.spans c.in-None.ensures.ordered c.args.id c.in-None.ensures.nearest)
