use Rattle.online.proofs.ReplayEnds.{replayed_unfinished}
use Rattle.online.proofs.ReplayFollows.{replayed_follows}
use Rattle.online.proofs.ReplayOrder.{replayed_comes}
use Rattle.online.proofs.ReplayThreads.{replayed_placed}
use Rattle.online.proofs.laws.replayed_records_follow_each_other.Goals as goal

pub returns-clause-comes : goal.returns-clause-comes
returns-clause-comes c = replayed_comes

pub returns-clause-placed : goal.returns-clause-placed
returns-clause-placed c = replayed_placed

pub returns-clause-unfinished : goal.returns-clause-unfinished
returns-clause-unfinished c nests rs values replayed i r is = replayed_unfinished nests rs values i r
    replayed is

pub returns-clause-follows : goal.returns-clause-follows
returns-clause-follows c = replayed_follows
