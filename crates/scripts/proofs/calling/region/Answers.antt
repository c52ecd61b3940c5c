use Rattle.std.proofs.Common.{ℕ, ◌∙◌, Option, Some, ap, sym, refl, subst}
use Rattle.std.specs.Prelude.{◌&&◌, not, false, IfErr}
use Rattle.ompt_events.specs.declared.records.Body.{Body}
use Rattle.ompt_events.specs.declared.records.Body.TheVariants.{SyncRegion}
use Rattle.ompt_events.specs.declared.names.Endpoint.TheVariants.{Begin, End, BeginEnd}
use Rattle.callbacks.specs.declared.fault.CallFault.{CallFault}
use Rattle.callbacks.specs.Tasks.{is_barred, is_innermost_region}
use Rattle.callbacks.specs.Recorders.{refusal_at}
use Rattle.scripts.specs.RunCalls.{call_refusal, recorded_body}
use Rattle.scripts.specs.Parts.{IsCallFault}
use Rattle.scripts.proofs.RunCallLemmas.{looked_by, called, unrefused, not_called, failed, is_id}
use Rattle.scripts.proofs.RunCallLemmas.{region_begun}
use Rattle.scripts.proofs.calling.region.Goals as goal
use Rattle.scripts.proofs.calling.region.Goals.{in-Begin, in-End+in-Ok, in-End+in-Err}
use Rattle.scripts.proofs.calling.region.Goals.{in-BeginEnd+in-Ok-ompt_callback_sync_region_both}
use Rattle.scripts.proofs.calling.region.Goals.{in-BeginEnd+in-Err-ompt_callback_sync_region_both}

pub returns-clause-called : goal.returns-clause-called
returns-clause-called g c = elim c.match-endpoint.branch [
  | in-Begin w ↦
      let old = c.args.recorder.now in
      let it = c.in-SyncRegion in
      let t = c.take_first-value.result in
      let first = sym c.take_first-value.ensures.value in
      let id = is_id t it.task (rw (it.is, first) at c.requires.given.first_is) in
      let call = w.ompt_callback_sync_region_begin-called in
      rw
      (w.recorder-is, w.value-is, w.called-is, it.is, w.in-Begin.is, first, c.take_first-value.ensures.second)
      (region_begun call.result old call.new.self it.kind it.parallel it.task t
      call.new.task c.args.values.now.second
      id call.ensures.refused call.ensures.made call.ensures.task)
  | in-End+in-Ok w ↦
      let old = c.args.recorder.now in
      let it = c.in-SyncRegion in
      let t = c.take_first-value.result in
      let first = sym c.take_first-value.ensures.value in
      let id = is_id t it.task (rw (it.is, first) at c.requires.given.first_is) in
      let call = w.ompt_callback_sync_region_end in
      let made = w.in-Ok.ensures in
      let body : ℕ → Body = λ task. SyncRegion it.kind End it.parallel task in
      let found : ℕ → Option CallFault = λ task.
      refusal_at old (is_innermost_region t it.kind && not (is_barred t it.kind)) false false (body task) in
      rw
      (w.recorder-is, w.value-is, w.called-is, it.is, w.in-End.is, first, c.take_first-value.ensures.second)
      (called old call.new.self w.in-Ok.field-0 (body it.task) (body t.id) (Some t) c.args.values.now.second
      (Some call.new.task) c.args.values.now.second
      (sym (ap found id) ∙ unrefused (found t.id) made.refused) made.made.1
      (looked_by old call.new.self w.in-Ok.field-0 (body t.id) made.made.0 made.made.1 refl)
      (ap body id) (ap Some made.task) refl)
  | in-End+in-Err w ↦ rw (w.called-is) tt
  | in-BeginEnd+in-Ok-ompt_callback_sync_region_both w ↦
      let old = c.args.recorder.now in
      let it = c.in-SyncRegion in
      let t = c.take_first-value.result in
      let first = sym c.take_first-value.ensures.value in
      let id = is_id t it.task (rw (it.is, first) at c.requires.given.first_is) in
      let call = w.ompt_callback_sync_region_both in
      let made = w.in-Ok-ompt_callback_sync_region_both.ensures in
      let body : ℕ → Body = λ task. SyncRegion it.kind BeginEnd it.parallel task in
      let found : ℕ → Option CallFault = λ task.
      refusal_at old (not (is_barred t it.kind)) false false (body task) in
      rw (
        w.recorder-is,
        w.value-is,
        w.called-is,
        it.is,
        w.in-BeginEnd.is,
        first,
        c.take_first-value.ensures.second,
      )
      (called old call.new.self w.in-Ok-ompt_callback_sync_region_both.field-0
      (body it.task) (body t.id) (Some t)
      c.args.values.now.second (Some call.new.task) c.args.values.now.second
      (sym (ap found id) ∙ unrefused (found t.id) made.refused) made.made.1
      (looked_by old call.new.self w.in-Ok-ompt_callback_sync_region_both.field-0 (body t.id) made.made.0
      made.made.1 refl)
      (ap body id)
      (ap Some call.ensures.task) refl)
  | in-BeginEnd+in-Err-ompt_callback_sync_region_both w ↦ rw (w.called-is) tt
]

pub returns-clause-fault : goal.returns-clause-fault
returns-clause-fault g c = elim c.match-endpoint.branch [
  | in-Begin w ↦
      let old = c.args.recorder.now in
      let it = c.in-SyncRegion in
      let t = c.take_first-value.result in
      let first = sym c.take_first-value.ensures.value in
      let id = is_id t it.task (rw (it.is, first) at c.requires.given.first_is) in
      let call = w.ompt_callback_sync_region_begin-called in
      let found : ℕ → Option CallFault = λ task.
      refusal_at old (not (is_barred t it.kind)) false false (SyncRegion it.kind Begin it.parallel task) in
      let refusal = call_refusal old c.args.body.now c.args.values.now.first c.args.values.now.second in
      let told = recorded_body c.args.body.now c.args.values.now.first c.args.values.now.second in
      rw (w.called-is)
      (subst (λ r. IfErr call.result (IsCallFault old refusal told r)) (sym w.recorder-is)
      (rw (it.is, first, w.in-Begin.is)
      (subst (λ task. IfErr call.result (IsCallFault old (found task)
      (SyncRegion it.kind Begin it.parallel it.task)
      call.new.self)) id
      (failed old call.new.self (found t.id) (SyncRegion it.kind Begin it.parallel it.task)
      call.result call.ensures.unchanged call.ensures.fault))))
  | in-End+in-Ok w ↦ rw (w.called-is) tt
  | in-End+in-Err w ↦
      let old = c.args.recorder.now in
      let it = c.in-SyncRegion in
      let t = c.take_first-value.result in
      let first = sym c.take_first-value.ensures.value in
      let id = is_id t it.task (rw (it.is, first) at c.requires.given.first_is) in
      let found : ℕ → Option CallFault = λ task.
      refusal_at old (is_innermost_region t it.kind && not (is_barred t it.kind)) false false
      (SyncRegion it.kind End it.parallel task) in
      let refusal = call_refusal old c.args.body.now c.args.values.now.first c.args.values.now.second in
      let told = recorded_body c.args.body.now c.args.values.now.first c.args.values.now.second in
      rw (w.called-is)
      (subst (λ r. IsCallFault old refusal told r w.in-Err.fault) (sym w.recorder-is)
      (rw (it.is, first, w.in-End.is)
      (subst (λ task. IsCallFault old (found task) (SyncRegion it.kind End it.parallel it.task)
      w.ompt_callback_sync_region_end.new.self w.in-Err.fault) id
      (not_called old w.ompt_callback_sync_region_end.new.self (found t.id)
      (SyncRegion it.kind End it.parallel it.task) w.in-Err.fault
      w.in-Err.ensures.unchanged w.in-Err.ensures.fault))))
  | in-BeginEnd+in-Ok-ompt_callback_sync_region_both w ↦ rw (w.called-is) tt
  | in-BeginEnd+in-Err-ompt_callback_sync_region_both w ↦
      let old = c.args.recorder.now in
      let it = c.in-SyncRegion in
      let t = c.take_first-value.result in
      let first = sym c.take_first-value.ensures.value in
      let id = is_id t it.task (rw (it.is, first) at c.requires.given.first_is) in
      let failed = w.in-Err-ompt_callback_sync_region_both in
      let found : ℕ → Option CallFault = λ task.
      refusal_at old (not (is_barred t it.kind)) false false (SyncRegion it.kind BeginEnd it.parallel task) in
      let refusal = call_refusal old c.args.body.now c.args.values.now.first c.args.values.now.second in
      let told = recorded_body c.args.body.now c.args.values.now.first c.args.values.now.second in
      rw (w.called-is)
      (subst (λ r. IsCallFault old refusal told r failed.fault) (sym w.recorder-is)
      (rw (it.is, first, w.in-BeginEnd.is)
      (subst (λ task. IsCallFault old (found task) (SyncRegion it.kind BeginEnd it.parallel it.task)
      w.ompt_callback_sync_region_both.new.self failed.fault) id
      (not_called old w.ompt_callback_sync_region_both.new.self (found t.id)
      (SyncRegion it.kind BeginEnd it.parallel it.task) failed.fault
      failed.ensures.unchanged failed.ensures.fault))))
]
