use Rattle.std.proofs.Common.{Some, ap, sym, refl}
use Rattle.ompt_events.specs.declared.records.Body.TheVariants.{ImplicitTask}
use Rattle.ompt_events.specs.declared.names.Endpoint.TheVariants.{Begin, End}
use Rattle.callbacks.specs.declared.fault.CallFault.TheVariants.{WrongState}
use Rattle.callbacks.specs.Tasks.{end_of_root}
use Rattle.scripts.specs.Parts.{refused}
use Rattle.scripts.proofs.RunCallLemmas.{called_alone, unrefused, not_called}
use Rattle.scripts.proofs.calling.implicit_task.Goals as goal
use Rattle.scripts.proofs.calling.implicit_task.Goals.{in-Ok-ompt_callback_implicit_task_end}
use Rattle.scripts.proofs.calling.implicit_task.Goals.{in-Err-ompt_callback_implicit_task_end}

pub returns-in-Ok-clause-called : goal.returns-in-Ok-clause-called
returns-in-Ok-clause-called c =
    let old = c.args.recorder.now in
    let it = c.in-ImplicitTask in
    let body = ImplicitTask Begin it.actual it.index it.flags it.parallel it.task in
    let made = c.in-Ok.ensures in
    rw (it.is, c.in-Begin.is)
    (called_alone old c.ompt_callback_implicit_task_begin.new.self body body c.args.values.now.first
    c.args.values.now.second (Some c.in-Ok.begun) c.args.values.now.second refl refl
    (unrefused _ made.refused) made.made
    refl (ap Some made.task) refl)

pub returns-in-Err-clause-fault : goal.returns-in-Err-clause-fault
returns-in-Err-clause-fault c =
    let it = c.in-ImplicitTask in
    let failed = c.in-Err.ensures in
    rw (it.is, c.in-Begin.is)
    (not_called c.args.recorder.now c.ompt_callback_implicit_task_begin.new.self _ _ c.in-Err.fault
    failed.unchanged failed.fault)

pub returns-after-ompt_callback_implicit_task_end-clause-called :
    goal.returns-after-ompt_callback_implicit_task_end-clause-called
returns-after-ompt_callback_implicit_task_end-clause-called c =
    elim c.match-ompt_callback_implicit_task_end.branch [
      | in-Ok-ompt_callback_implicit_task_end w ↦
          let old = c.args.recorder.now in
          let it = c.in-ImplicitTask in
          let t = c.take_first-value.result in
          let body = ImplicitTask End it.actual it.index it.flags it.parallel it.task in
          let made = w.in-Ok-ompt_callback_implicit_task_end.ensures in
          rw (w.result-is, it.is, c.in-End.is, sym c.take_first-value.ensures.value)
          (called_alone old c.ompt_callback_implicit_task_end.new.self body
          (end_of_root t it.parallel) (Some t)
          c.args.values.now.second c.take_first-value.new.self.first c.take_first-value.new.self.second refl
          refl
          (unrefused _ made.refused) made.made refl c.take_first-value.ensures.taken
          c.take_first-value.ensures.second)
      | in-Err-ompt_callback_implicit_task_end w ↦ rw (w.result-is) tt
    ]

pub returns-after-ompt_callback_implicit_task_end-clause-fault :
    goal.returns-after-ompt_callback_implicit_task_end-clause-fault
returns-after-ompt_callback_implicit_task_end-clause-fault c =
    elim c.match-ompt_callback_implicit_task_end.branch [
      | in-Ok-ompt_callback_implicit_task_end w ↦ rw (w.result-is) tt
      | in-Err-ompt_callback_implicit_task_end w ↦
          let failed = w.in-Err-ompt_callback_implicit_task_end in
          rw (w.result-is, c.in-ImplicitTask.is, c.in-End.is, sym c.take_first-value.ensures.value)
          (not_called c.args.recorder.now c.ompt_callback_implicit_task_end.new.self _ _ failed.fault
          failed.ensures.unchanged failed.ensures.fault)
    ]

pub returns-in-BeginEnd-clause-fault : goal.returns-in-BeginEnd-clause-fault
returns-in-BeginEnd-clause-fault c =
    rw (c.in-ImplicitTask.is, c.in-BeginEnd.is) (refused WrongState refl refl)
