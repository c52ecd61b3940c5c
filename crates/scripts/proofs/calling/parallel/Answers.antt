use Rattle.std.proofs.Common.{ℕ, Option, ap, sym, refl}
use Rattle.std.specs.Prelude.{true, false, IfErr}
use Rattle.std.proofs.Common.{subst}
use Rattle.scripts.specs.Parts.{IsCallFault}
use Rattle.ompt_events.specs.declared.records.Body.{Body}
use Rattle.ompt_events.specs.declared.records.Body.TheVariants.{ParallelBegin, ParallelEnd}
use Rattle.callbacks.specs.declared.fault.CallFault.{CallFault}
use Rattle.callbacks.specs.Recorders.{refusal_at, may_fork}
use Rattle.scripts.proofs.RunCallLemmas.{kept, failed, is_id}
use Rattle.scripts.proofs.calling.parallel.Goals as goal
use Rattle.scripts.proofs.calling.parallel.Goals.{in-ParallelBegin, in-ParallelEnd}

pub returns-clause-called : goal.returns-clause-called
returns-clause-called c = elim c.match-body.branch [
  | in-ParallelBegin w ↦
      let old = c.args.recorder.now in
      let it = w.in-ParallelBegin in
      let t = c.take_first-value.result in
      let first = sym c.take_first-value.ensures.value in
      let id = is_id t it.task (rw (it.is, first) at c.requires.given.first_is) in
      let body : ℕ → Body = λ task. ParallelBegin it.requested task it.parallel in
      let found : ℕ → Option CallFault = λ task. refusal_at old (may_fork old t) false false (body task) in
      let made = w.ompt_callback_parallel_begin-called.ensures in
      rw (w.recorder-is, w.called-is, it.is, first, c.take_first-value.ensures.second)
      (kept w.ompt_callback_parallel_begin-called.result old w.ompt_callback_parallel_begin-called.new.self
      (body it.task) (body t.id) t c.args.values.now.second (found t.id) refl refl (ap found id) (ap body id)
      refl refl
      made.refused made.made)
  | in-ParallelEnd w ↦
      let old = c.args.recorder.now in
      let it = w.in-ParallelEnd in
      let t = c.take_first-value.result in
      let first = sym c.take_first-value.ensures.value in
      let id = is_id t it.task (rw (it.is, first) at c.requires.given.first_is) in
      let body : ℕ → Body = λ task. ParallelEnd task it.parallel in
      let found : ℕ → Option CallFault = λ task. refusal_at old true false false (body task) in
      let made = w.ompt_callback_parallel_end-called.ensures in
      rw (w.recorder-is, w.called-is, it.is, first, c.take_first-value.ensures.second)
      (kept w.ompt_callback_parallel_end-called.result old w.ompt_callback_parallel_end-called.new.self
      (body it.task) (body t.id) t c.args.values.now.second (found t.id) refl refl (ap found id) (ap body id)
      refl refl
      made.refused made.made)
]

pub returns-clause-fault : goal.returns-clause-fault
returns-clause-fault c = elim c.match-body.branch [
  | in-ParallelBegin w ↦
      let old = c.args.recorder.now in
      let it = w.in-ParallelBegin in
      let t = c.take_first-value.result in
      let first = sym c.take_first-value.ensures.value in
      let id = is_id t it.task (rw (it.is, first) at c.requires.given.first_is) in
      let call = w.ompt_callback_parallel_begin-called in
      let found : ℕ → Option CallFault = λ task.
      refusal_at old (may_fork old t) false false (ParallelBegin it.requested task it.parallel) in
      let told = ParallelBegin it.requested it.task it.parallel in
      rw (w.recorder-is, w.called-is, it.is, first)
      (subst (λ task. IfErr call.result (IsCallFault old (found task) told call.new.self)) id
      (failed old call.new.self (found t.id) told call.result call.ensures.unchanged call.ensures.fault))
  | in-ParallelEnd w ↦
      let old = c.args.recorder.now in
      let it = w.in-ParallelEnd in
      let t = c.take_first-value.result in
      let first = sym c.take_first-value.ensures.value in
      let id = is_id t it.task (rw (it.is, first) at c.requires.given.first_is) in
      let call = w.ompt_callback_parallel_end-called in
      let found : ℕ → Option CallFault = λ task.
      refusal_at old true false false (ParallelEnd task it.parallel) in
      let told = ParallelEnd it.task it.parallel in
      rw (w.recorder-is, w.called-is, it.is, first)
      (subst (λ task. IfErr call.result (IsCallFault old (found task) told call.new.self)) id
      (failed old call.new.self (found t.id) told call.result call.ensures.unchanged call.ensures.fault))
]
