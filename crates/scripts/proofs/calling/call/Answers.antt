use Rattle.std.proofs.Common.{refl}
use Rattle.ompt_events.specs.declared.records.Body.TheVariants.{ThreadBegin, ThreadEnd}
use Rattle.scripts.proofs.RunCallLemmas.{thread_called, failed}
use Rattle.scripts.proofs.calling.call.Goals as goal

pub returns-in-ThreadBegin-clause-called : goal.returns-in-ThreadBegin-clause-called
returns-in-ThreadBegin-clause-called g c =
    let call = c.ompt_callback_thread_begin in
    rw (c.in-ThreadBegin.is)
    (thread_called call.result c.args.recorder.now call.new.self (ThreadBegin c.in-ThreadBegin.kind)
    c.args.values.now.first c.args.values.now.second _ refl refl refl refl refl refl call.ensures.refused
    call.ensures.made)

pub returns-in-ThreadBegin-clause-fault : goal.returns-in-ThreadBegin-clause-fault
returns-in-ThreadBegin-clause-fault g c =
    let call = c.ompt_callback_thread_begin in
    rw (c.in-ThreadBegin.is)
    (failed c.args.recorder.now call.new.self _ _ call.result call.ensures.unchanged call.ensures.fault)

pub returns-in-ThreadEnd-clause-called : goal.returns-in-ThreadEnd-clause-called
returns-in-ThreadEnd-clause-called g c =
    let call = c.ompt_callback_thread_end in
    rw (c.in-ThreadEnd.is)
    (thread_called call.result c.args.recorder.now call.new.self ThreadEnd c.args.values.now.first
    c.args.values.now.second _ refl refl refl refl refl refl call.ensures.refused call.ensures.made)

pub returns-in-ThreadEnd-clause-fault : goal.returns-in-ThreadEnd-clause-fault
returns-in-ThreadEnd-clause-fault g c =
    let call = c.ompt_callback_thread_end in
    rw (c.in-ThreadEnd.is)
    (failed c.args.recorder.now call.new.self _ _ call.result call.ensures.unchanged call.ensures.fault)
