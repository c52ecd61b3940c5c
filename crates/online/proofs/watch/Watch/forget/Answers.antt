use Rattle.online.proofs.WatchSteps.{watch_forgets}
use Rattle.online.proofs.watch.Watch.forget.Goals as goal

pub returns-in-Some : goal.returns-in-Some
returns-in-Some c rs kept =
    watch_forgets rs c.args.self.now c.forget.new.self kept (c.forget.ensures rs kept.lengths)
