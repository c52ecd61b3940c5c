use Rattle.online.proofs.WatchEnd.{none_awaited, watched_clear, watched_complete, watched_linear}
use Rattle.online.proofs.WatchEnd.{watched_greedy}
use Rattle.online.proofs.watch.Watch.may_end.Goals as goal

pub returns-clause-clear : goal.returns-clause-clear
returns-clause-clear c listed rs kept =
    watched_clear rs c.args.self.now kept (c.are_begun.ensures c.if-not-are_begun.false rs kept.regions)
    (c.are_whole.ensures c.if-not-are_whole.false rs kept.rosters)
    (c.have_begun_all.ensures c.if-not-have_begun_all.false rs kept.waits kept.teams)
    (none_awaited rs c.args.self.now.items kept.items (c.are_listed.ensures listed))

pub returns-clause-complete : goal.returns-clause-complete
returns-clause-complete c listed rs kept =
    watched_complete rs c.args.self.now kept
    (none_awaited rs c.args.self.now.items kept.items (c.are_listed.ensures listed))

pub returns-clause-order : goal.returns-clause-order
returns-clause-order c listed rs kept =
    (watched_linear rs c.args.self.now kept, watched_greedy rs c.args.self.now kept)
