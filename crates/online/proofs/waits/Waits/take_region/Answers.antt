use Rattle.std.proofs.Common.{◌∙◌, ap, sym}
use Rattle.ompt_events.specs.declared.names.WaitKind.TheVariants.{Barrier}
use Rattle.std.proofs.Common.{Some, None}
use Rattle.std.proofs.lemmas.Result.{IfOk-weaker}
use Rattle.online.proofs.WaitStepLemmas.{kind_of, other_region}
use Rattle.online.proofs.waits.Waits.take_region.Goals as goal

pub returns-in-Some-Barrier-clause-taken : goal.returns-in-Some-Barrier-clause-taken
returns-in-Some-Barrier-clause-taken c =
    IfOk-weaker c.take_barrier.result _ _
    (λ taken takes yes r is.
    takes yes r c.args.kind
    (kind_of c.args.kind (Some Barrier)
    (ap Some (sym c.in-Some-Barrier.field-0-is) ∙ sym c.in-Some-Barrier.is ∙ c.wait_kind.ensures)) is)
    c.take_barrier.ensures.taken

pub returns-in-None-clause-taken : goal.returns-in-None-clause-taken
returns-in-None-clause-taken c = λ yes r is.
    other_region c.args.task c.args.seen c.args.kind c.args.endpoint r c.args.self.now
    (kind_of c.args.kind None (sym c.in-None.is ∙ c.wait_kind.ensures)) is
