use Rattle.std.proofs.Common.{sym}
use Rattle.std.specs.Prelude.{IsTrue}
use Rattle.std.proofs.lemmas.Result.{IfOk-weaker}
use Rattle.online.specs.Items.{PassesWait}
use Rattle.online.proofs.ItemStepLemmas.{wait_passed}
use Rattle.online.proofs.items.Items.passes_wait.Goals as goal

pub returns-in-Some-Some-clause-ready : goal.returns-in-Some-Some-clause-ready
returns-in-Some-Some-clause-ready c =
    let found = c.in-Some-Some in
    IfOk-weaker c.may_go_on.result _ (λ ready. IsTrue ready → PassesWait c.args.self.now c.args.record.now
    c.args.parent)
    (λ ready may yes.
    wait_passed c.args.self.now c.args.record.now c.args.parent found.parent found.task c.from.result
    (sym found.ensures) found.is-1 c.from.ensures (may yes))
    c.may_go_on.ensures.ready
