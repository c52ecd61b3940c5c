use Rattle.std.proofs.Common.{◌<◌, rules}
use Rattle.depend_edges.proofs.PlacementLemmas.{next_is}
use Rattle.depend_edges.proofs.placement.previous.Goals as goal

pub returns : goal.returns
returns c =
    let low : c.thread-thread.result < 256 = search rules in
    rw c.get.ensures
    (next_is c.args.run.now.records c.args.at c.thread-thread.result c.args.last.now
    c.index-last-thread.result c.requires.within c.thread-thread.ensures low c.requires.last
    c.index-last-thread.is)
