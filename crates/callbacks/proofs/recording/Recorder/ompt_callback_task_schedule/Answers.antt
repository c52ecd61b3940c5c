use Rattle.std.proofs.Common.{◌≡◌, subst, Some, MutBor}
use Rattle.std.specs.Prelude.{OnOk, OnErr}
use Rattle.std.proofs.lemmas.Option.{same_Some}
use Rattle.std.proofs.lemmas.Result.{on_ok_weaker}
use Rattle.callbacks.specs.Tasks.{TaskView, after_start}
use Rattle.callbacks.specs.Schedules.{schedule_of}
use Rattle.callbacks.proofs.CreditLemmas.{moves_credit}
use Rattle.callbacks.proofs.recording.Recorder.ompt_callback_task_schedule.Goals as goal

pub returns-in-Some-clause-started : goal.returns-in-Some-clause-started
returns-in-Some-clause-started g c = rw c.in-Some.is (λ n same.
    subst (λ (m : MutBor TaskView). OnOk c.switch.result (c.switch.new.next ≡ after_start m.now))
    (same_Some c.in-Some.next n same) c.switch.ensures.started)

pub returns-in-Some-clause-unchanged : goal.returns-in-Some-clause-unchanged
returns-in-Some-clause-unchanged g c = rw c.in-Some.is (λ n same.
    subst (λ (m : MutBor TaskView). OnErr c.switch.result (c.switch.new.next ≡ m.now))
    (same_Some c.in-Some.next n same) c.switch.ensures.unchanged)

pub returns-in-Some-clause-credit : goal.returns-in-Some-clause-credit
returns-in-Some-clause-credit g c =
    on_ok_weaker c.switch.result (λ allowed part is_part.
    moves_credit c.args.self.now (schedule_of c.args.prior c.args.status (Some c.in-Some.next.now)) part
    allowed is_part) c.switch.ensures.may
