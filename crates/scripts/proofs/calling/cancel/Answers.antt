use Rattle.std.proofs.Common.{sym}
use Rattle.ompt_events.specs.declared.records.Part.TheVariants.{Whole}
use Rattle.callbacks.specs.Tasks.{entry_of_part}
use Rattle.scripts.proofs.RunCallLemmas.{discarded, cancelled, not_cancelled, not_finished, is_id}
use Rattle.scripts.proofs.RunCallLemmas.{discard_entry}
use Rattle.scripts.proofs.calling.cancel.Goals as goal
use Rattle.scripts.proofs.calling.cancel.Goals.{in-Ok, in-Err}

pub returns-then-contains-clause-called : goal.returns-then-contains-clause-called
returns-then-contains-clause-called g c = elim c.match-ompt_callback_cancel_discarded.branch [
  | in-Ok w ↦
      let old = c.args.recorder.now in
      let it = c.in-Cancel in
      let t = c.take_first-value.result in
      let made = w.in-Ok.ensures in
      rw (w.result-is, it.is, sym c.take_first-value.ensures.value, c.take_first-value.ensures.taken)
      (discarded old c.ompt_callback_cancel_discarded.new.self t it.flags w.in-Ok.field-0
      (entry_of_part old.thread Whole t) it.task it.claim c.args.values.now.second
      c.take_first-value.new.self.second made.made (sym (c.if-contains.ensures tt)) made.refused
      c.take_first-value.ensures.second)
  | in-Err w ↦ rw (w.result-is) tt
]

pub returns-then-contains-clause-fault : goal.returns-then-contains-clause-fault
returns-then-contains-clause-fault g c = elim c.match-ompt_callback_cancel_discarded.branch [
  | in-Ok w ↦ rw (w.result-is) tt
  | in-Err w ↦
      let it = c.in-Cancel in
      let failed = w.in-Err in
      rw (w.result-is, it.is, sym c.take_first-value.ensures.value, sym (c.if-contains.ensures tt))
      (not_finished c.args.recorder.now c.ompt_callback_cancel_discarded.new.self _ _ _ failed.fault
      (discard_entry c.args.recorder.now.thread c.take_first-value.result it.flags
      (sym (c.if-contains.ensures tt)))
      failed.ensures.fault)
]

pub returns-clause-called : goal.returns-clause-called
returns-clause-called g c =
    let it = c.in-Cancel in
    let t = c.take_first-value.result in
    let first = sym c.take_first-value.ensures.value in
    let id = is_id t it.task (rw (it.is, first) at c.requires.given.first_is) in
    let call = c.ompt_callback_cancel-called in
    rw (it.is, first)
    (cancelled call.result c.args.recorder.now call.new.self t it.flags it.task it.claim
    c.args.values.now.second c.take_first-value.new.self.second id
    (sym (c.if-contains.ensures tt)) call.ensures.refused
    call.ensures.made c.take_first-value.ensures.second)

pub returns-clause-fault : goal.returns-clause-fault
returns-clause-fault g c =
    let it = c.in-Cancel in
    let t = c.take_first-value.result in
    let first = sym c.take_first-value.ensures.value in
    let id = is_id t it.task (rw (it.is, first) at c.requires.given.first_is) in
    let call = c.ompt_callback_cancel-called in
    rw (it.is, first)
    (not_cancelled call.result c.args.recorder.now call.new.self t it.flags it.task it.claim
    c.args.values.now.second id (sym (c.if-contains.ensures tt)) call.ensures.unchanged call.ensures.fault)
