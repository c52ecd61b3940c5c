use Rattle.std.proofs.Common.{arith}
use Rattle.teams.proofs.CallLemmas.{read_at}
use Rattle.wait_coverage.proofs.unfinished.Known.limit.Goals as goal

pub returns-clause-limit : goal.returns-clause-limit
returns-clause-limit c =
    let inside = c.self.inside in
    let below = rw (← c.self.view_is) at c.requires in
    let count = c.self.invariant.count in
    rw (← c.self.view_is)
    (c.self.invariant.known c.args.number c.index.result.now
    (read_at inside.nodes.items c.args.number c.index.result.now (omega (arith, below, count))
    c.index.ensures))

pub returns-clause-least : goal.returns-clause-least
returns-clause-least c =
    let inside = c.self.inside in
    let below = rw (← c.self.view_is) at c.requires in
    let count = c.self.invariant.count in
    rw (← c.self.view_is)
    (c.self.invariant.least c.args.number c.index.result.now
    (read_at inside.nodes.items c.args.number c.index.result.now (omega (arith, below, count))
    c.index.ensures))
