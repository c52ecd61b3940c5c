use Rattle.std.proofs.Common.{◌∙◌, sym}
use Rattle.std.proofs.lemmas.Result.{IfOk-weaker}
use Rattle.online.proofs.MissedLemmas.{some_weaker}
use Rattle.online.proofs.WatchMissed.{missed_found}
use Rattle.online.proofs.watch.Watch.missed.Goals as goal

pub returns : goal.returns
returns c =
    IfOk-weaker c.missed.result _ _
    (λ found.
    some_weaker _ _ found
    (λ task.
    missed_found c.args.self.now c.args.«record».now c.in-Some.task task c.in-Some.kind c.in-Some.endpoint
    (sym c.region.ensures ∙ c.in-Some.is) (c.knows_children.ensures c.if-not-knows_children.false)))
    c.missed.ensures
