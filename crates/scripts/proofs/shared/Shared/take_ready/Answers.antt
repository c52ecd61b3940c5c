use Rattle.scripts.proofs.ProgressLemmas.{left_first, left_second, step_accepted}
use Rattle.scripts.proofs.AwareLemmas.{aware_next}
use Rattle.scripts.proofs.NoteLemmas.{first_is_left, second_is_left}
use Rattle.scripts.proofs.StepLemmas.{run_next}
use Rattle.scripts.proofs.StepLemmas.{fault_same, run_stays, stopped_at}
use Rattle.scripts.proofs.shared.Shared.take_ready.Goals as goal

pub left-left-requires-clause-first : goal.left-left-requires-clause-first
left-left-requires-clause-first g c =
    let ready = c.args.ready in
    left_first g.C.Context.script ready.at ready.step.now c.args.recorder.now c.call.new.recorder
    ready.values.first ready.values.second c.call.new.values.first c.call.new.values.second
    c.requires.next c.in-Ok.ensures.called

pub left-left-requires-clause-second : goal.left-left-requires-clause-second
left-left-requires-clause-second g c =
    let ready = c.args.ready in
    left_second g.C.Context.script ready.at ready.step.now c.args.recorder.now c.call.new.recorder
    ready.values.first ready.values.second c.call.new.values.first c.call.new.values.second
    c.requires.next c.in-Ok.ensures.called

pub returns-in-Ok-clause-accepted : goal.returns-in-Ok-clause-accepted
returns-in-Ok-clause-accepted g c =
    let ready = c.args.ready in
    step_accepted g.C.Context.script ready.at ready.step.now c.args.recorder.now c.call.new.recorder
    ready.values.first ready.values.second c.call.new.values.first c.call.new.values.second
    c.requires.next c.in-Ok.ensures.called

pub returns-in-Ok-clause-taken : goal.returns-in-Ok-clause-taken
returns-in-Ok-clause-taken g c =
    let ready = c.args.ready in
    run_next g.C.Context.script ready.at ready.step.now c.args.recorder.now c.call.new.recorder
    c.left-left.new.recorder ready.values.first ready.values.second c.call.new.values.first
    c.call.new.values.second c.requires.next c.in-Ok.ensures.called c.left-left.ensures.recorder

pub returns-in-Err-clause-same : goal.returns-in-Err-clause-same
returns-in-Err-clause-same g c =
    let same = fault_same c.args.recorder.now c.call.new.recorder _ _ c.in-Err.fault c.in-Err.ensures.fault in
    record { ledger = same.ledger; thread = same.thread; fixed = same.fixed }

pub returns-in-Err-clause-unchanged : goal.returns-in-Err-clause-unchanged
returns-in-Err-clause-unchanged g c =
    let ready = c.args.ready in
    run_stays g.C.Context.script ready.at ready.step.now c.args.recorder.now c.call.new.recorder
    ready.values.first ready.values.second c.in-Err.fault c.requires.next c.in-Err.ensures.fault

pub returns-in-Err-clause-stop : goal.returns-in-Err-clause-stop
returns-in-Err-clause-stop g c =
    let ready = c.args.ready in
    stopped_at g.C.Context.script ready.at ready.step.now c.args.recorder.now c.call.new.recorder
    ready.values.first ready.values.second c.in-Err.fault c.refuse.result c.refuse.ensures c.requires.next
    c.in-Err.ensures.fault

pub left-left-requires-clause-aware : goal.left-left-requires-clause-aware
left-left-requires-clause-aware g c =
    let ready = c.args.ready in
    aware_next g.C.Context.script g.C.Context.seats ready.at ready.step.now c.args.recorder.now
    c.call.new.recorder ready.values.first ready.values.second c.call.new.values.first
    c.call.new.values.second c.requires.next c.requires.met c.requires.heard c.in-Ok.ensures.called

pub left-left-requires-clause-first_use : goal.left-left-requires-clause-first_use
left-left-requires-clause-first_use g c u t used left =
    let ready = c.args.ready in
    first_is_left g.C.Context.script ready.at ready.step.now ready.uses c.args.recorder.now
    c.call.new.recorder ready.values.first ready.values.second c.call.new.values.first
    c.call.new.values.second u t c.requires.next c.in-Ok.ensures.called c.requires.uses used left

pub left-left-requires-clause-second_use : goal.left-left-requires-clause-second_use
left-left-requires-clause-second_use g c u t used left =
    let ready = c.args.ready in
    second_is_left g.C.Context.script ready.at ready.step.now ready.uses c.args.recorder.now
    c.call.new.recorder ready.values.first ready.values.second c.call.new.values.first
    c.call.new.values.second u t c.requires.next c.in-Ok.ensures.called c.requires.uses used left
