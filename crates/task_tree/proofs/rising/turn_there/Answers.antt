use Rattle.std.proofs.Common.{◌≡◌, ◌∙◌, Some, get_or, sym, arith}
use Rattle.std.proofs.lemmas.Option.{same_Some, slice_get_within, slice_get-get_or}
use Rattle.std.specs.Prelude.{slice_get}
use Rattle.ompt_events.specs.Records.{running}
use Rattle.ompt_events.specs.Places.{at}
use Rattle.ompt_events.proofs.ListLemmas.{get_within}
use Rattle.ompt_events.proofs.PlaceLemmas.{thread_index}
use Rattle.task_tree.proofs.SubjectLemmas.{call_task}
use Rattle.task_tree.specs.Rising.{not_begun}
use Rattle.task_tree.proofs.RisingPassLemmas.{there_some, off_thread}
use Rattle.task_tree.proofs.rising.turn_there.Goals as goal

pub returns-in-Some-clause-there : goal.returns-in-Some-clause-there
returns-in-Some-clause-there c turn is =
    let rs = c.args.trace.now.records in
    let tasks = c.args.family.now.tasks in
    let latest = c.args.latest.now in
    let index = c.in-Some.index in
    let some = (get_within rs c.args.at c.requires.within).0 in
    let r = get_or rs c.args.at some in
    let same : c.thread.result ≡ r.thread =
    same_Some c.thread.result r.thread (sym c.thread.ensures ∙ thread_index rs c.args.at some
    c.requires.within) in
    let own =
    call_task tasks (at running rs c.args.at) c.running_at.result index c.running_at.ensures
    c.in-Some.is in
    let inside = slice_get_within tasks index own.0 own.2 in
    let all = c.requires.latest.all in
    let known = get_or latest index not_begun in
    let there : slice_get latest index ≡ Some known =
    slice_get-get_or latest index not_begun (omega (arith, inside, all)) in
    there_some rs c.args.at own.0 turn r known
    (slice_get-get_or rs c.args.at some c.requires.within)
    (c.requires.latest.each index own.0 known own.2 there) own.1 (rw same at (c.turn_on.ensures.on turn is))

pub returns-in-Some-clause-none : goal.returns-in-Some-clause-none
returns-in-Some-clause-none c none order free =
    let rs = c.args.trace.now.records in
    let tasks = c.args.family.now.tasks in
    let latest = c.args.latest.now in
    let index = c.in-Some.index in
    let some = (get_within rs c.args.at c.requires.within).0 in
    let r = get_or rs c.args.at some in
    let same : c.thread.result ≡ r.thread =
    same_Some c.thread.result r.thread (sym c.thread.ensures ∙ thread_index rs c.args.at some
    c.requires.within) in
    let own =
    call_task tasks (at running rs c.args.at) c.running_at.result index c.running_at.ensures
    c.in-Some.is in
    let inside = slice_get_within tasks index own.0 own.2 in
    let all = c.requires.latest.all in
    let known = get_or latest index not_begun in
    let there : slice_get latest index ≡ Some known =
    slice_get-get_or latest index not_begun (omega (arith, inside, all)) in
    let off = rw same at (c.turn_on.ensures.off none) in
    off_thread rs c.args.at own.0 r known
    (slice_get-get_or rs c.args.at some c.requires.within)
    (c.requires.latest.each index own.0 known own.2 there) own.1 off.0 off.1 order free
