use Rattle.std.proofs.Common.{sym}
use Rattle.std.proofs.lemmas.Result.{on_ok_weaker}
use Rattle.online.proofs.ItemStepLemmas.{finish_taken}
use Rattle.online.proofs.items.Items.complete_finished.Goals as goal

pub returns-in-Some-clause-finished : goal.returns-in-Some-clause-finished
returns-in-Some-clause-finished c =
    on_ok_weaker c.complete.result
    (finish_taken c.args.self.now c.complete.new.self c.args.record.now c.in-Some.task c.from.result
    (sym c.in-Some.ensures) c.from.ensures)
    c.complete.ensures.completed
