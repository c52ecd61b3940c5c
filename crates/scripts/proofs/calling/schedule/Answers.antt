use Rattle.std.proofs.Common.{◌∙◌, Some, None, ap, sym, refl}
use Rattle.callbacks.specs.Schedules.{schedule_of}
use Rattle.scripts.proofs.RunCallLemmas.{scheduled, not_finished, schedule_entry}
use Rattle.scripts.proofs.calling.schedule.Goals as goal
use Rattle.scripts.proofs.calling.schedule.Goals.{in-Some, in-None}

pub returns-in-Ok-clause-called : goal.returns-in-Ok-clause-called
returns-in-Ok-clause-called g c = elim c.match-take.branch [
  | in-Some w ↦
      let old = c.args.recorder.now in
      let it = c.in-TaskSchedule in
      let t = c.take_first-value.result in
      let call = w.ompt_callback_task_schedule-scheduled in
      let ok = sym w.scheduled-is ∙ c.in-Ok.is in
      let second = sym c.take_first-value.ensures.second ∙ sym c.take.ensures.value ∙ w.in-Some.is in
      let started = rw ok at (call.ensures.started _ refl) in
      rw (w.recorder-is, it.is, sym c.take_first-value.ensures.value, second, w.values-is)
      (scheduled old call.new.self t it.status it.turns it.prior it.next it.claim (Some w.in-Some.next)
      c.in-Ok.back _ (rw ok at call.ensures.stopped) (rw ok at call.ensures.refused)
      (rw ok at call.ensures.back) (ap Some started))
  | in-None w ↦
      let old = c.args.recorder.now in
      let it = c.in-TaskSchedule in
      let t = c.take_first-value.result in
      let call = w.ompt_callback_task_schedule-scheduled-in-None in
      let ok = sym w.scheduled-is ∙ c.in-Ok.is in
      let second = sym c.take_first-value.ensures.second ∙ sym c.take.ensures.value ∙ w.in-None.is in
      rw (w.recorder-is, it.is, sym c.take_first-value.ensures.value, second, w.values-is)
      (scheduled old call.new.self t it.status it.turns it.prior it.next it.claim None
      c.in-Ok.back c.take.new.self (rw ok at call.ensures.stopped) (rw ok at call.ensures.refused)
      (rw ok at call.ensures.back) c.take.ensures.after)
]

pub returns-clause-fault : goal.returns-clause-fault
returns-clause-fault g c = elim c.match-take.branch [
  | in-Some w ↦
      let call = w.ompt_callback_task_schedule-scheduled in
      let failed = sym w.scheduled-is ∙ c.in-Err.is in
      let second = sym c.take_first-value.ensures.second ∙ sym c.take.ensures.value ∙ w.in-Some.is in
      rw (w.recorder-is, c.in-TaskSchedule.is, sym c.take_first-value.ensures.value, second)
      (not_finished c.args.recorder.now call.new.self _ _ _ c.in-Err.fault
      (schedule_entry c.args.recorder.now.thread
      (schedule_of c.take_first-value.result c.in-TaskSchedule.status (Some w.in-Some.next)))
      (rw failed at call.ensures.fault))
  | in-None w ↦
      let call = w.ompt_callback_task_schedule-scheduled-in-None in
      let failed = sym w.scheduled-is ∙ c.in-Err.is in
      let second = sym c.take_first-value.ensures.second ∙ sym c.take.ensures.value ∙ w.in-None.is in
      rw (w.recorder-is, c.in-TaskSchedule.is, sym c.take_first-value.ensures.value, second)
      (not_finished c.args.recorder.now call.new.self _ _ _ c.in-Err.fault
      (schedule_entry c.args.recorder.now.thread
      (schedule_of c.take_first-value.result c.in-TaskSchedule.status None))
      (rw failed at call.ensures.fault))
]
