use Rattle.std.proofs.Common.{rules, ◌≡◌, Some}
use Rattle.online.specs.declared.watch.Test.TheVariants.{Waits, Predecessors}
use Rattle.taskaudit.proofs.watching.Watching.find_missed.Goals as goal

pub returns-in-Some-Waits : goal.returns-in-Some-Waits
returns-in-Some-Waits c =
    let failed : c.args.self.now.failed ≡ Some Waits = search rules in
    rw failed c.find_waited_for.ensures

pub returns-in-Some-Predecessors : goal.returns-in-Some-Predecessors
returns-in-Some-Predecessors c =
    let failed : c.args.self.now.failed ≡ Some Predecessors = search rules in
    rw failed c.find_predecessor.ensures
