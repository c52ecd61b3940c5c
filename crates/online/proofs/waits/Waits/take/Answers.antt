use Rattle.std.proofs.Common.{◌∙◌, sym}
use Rattle.online.proofs.WaitStepLemmas.{no_region, covers_nothing}
use Rattle.std.proofs.lemmas.Result.{IfOk-weaker}
use Rattle.online.proofs.waits.Waits.take.Goals as goal

pub returns-in-None-clause-complete : goal.returns-in-None-clause-complete
returns-in-None-clause-complete c =
    let r = c.args.«record».now in
    IfOk-weaker c.take_task.result _ _
    (λ taken step yes rs follows room waits is.
    covers_nothing rs r (no_region r (sym c.region.ensures ∙ c.in-None.is)))
    c.take_task.ensures
