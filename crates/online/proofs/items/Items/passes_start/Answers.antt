use Rattle.std.proofs.Common.{◌∙◌, sym}
use Rattle.std.proofs.lemmas.Option.{none-some}
use Rattle.std.specs.Prelude.{IsTrue}
use Rattle.std.proofs.lemmas.Result.{IfOk-weaker}
use Rattle.online.specs.Items.{PassesStart}
use Rattle.online.proofs.ItemStepLemmas.{start_passed}
use Rattle.online.proofs.items.Items.passes_start.Goals as goal

pub returns-in-Some-Some-clause-ready : goal.returns-in-Some-Some-clause-ready
returns-in-Some-Some-clause-ready c =
    let found = c.in-Some-Some in
    IfOk-weaker c.may_go_on.result _ (λ ready. IsTrue ready → PassesStart c.args.self.now c.args.record.now
    c.args.parent)
    (λ ready may yes.
    start_passed c.args.self.now c.args.record.now c.args.parent found.parent found.task c.known_after.result
    ((c.started.ensures found.task).0 found.is-0) found.is-1 c.known_after.ensures (may yes))
    c.may_go_on.ensures.ready

-- where no task starts
pub returns-in_default-2-clause-ready : goal.returns-in_default-2-clause-ready
returns-in_default-2-clause-ready c = λ passed task p begins given.
    absurd (none-some task (sym c.in_default.is-0 ∙ (c.started.ensures task).1 begins))
