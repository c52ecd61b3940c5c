use Rattle.std.proofs.Common.{◌≡◌, ◌∙◌, Some, get_or, sym, ap, arith, subst}
use Rattle.std.proofs.lemmas.Option.{slice_get_within, slice_get-get_or, same_Some}
use Rattle.std.specs.Prelude.{slice_get}
use Rattle.ompt_events.specs.Records.{running}
use Rattle.ompt_events.specs.Places.{at}
use Rattle.ompt_events.proofs.PlaceLemmas.{at_get, thread_get}
use Rattle.ompt_events.proofs.ListLemmas.{get_within}
use Rattle.task_tree.proofs.SubjectLemmas.{call_task}
use Rattle.task_tree.specs.TurnTable.{no_mark, turn_on, AreTurnMarks}
use Rattle.task_tree.proofs.WalkLemmas.{turn_marked}
use Rattle.task_tree.proofs.turn_table.turn_before.Goals as goal

pub returns-in-Some : goal.returns-in-Some
returns-in-Some c thread by_thread marks =
    let rs = c.args.trace.now.records in
    let tasks = c.args.family.now.tasks in
    let i = c.args.at in
    let index = c.in-Some.index in
    let (r, stands) = get_within rs i c.requires.within in
    let own = call_task tasks (at running rs i) c.running_at.result index c.running_at.ensures c.in-Some.is in
    let inside = slice_get_within tasks index own.0 own.2 in
    let all = c.requires.all in
    let mark = get_or c.args.marks.now index no_mark in
    let there : slice_get c.args.marks.now index ≡ Some mark =
    slice_get-get_or c.args.marks.now index no_mark (omega (arith, inside, all)) in
    let thread_is : thread ≡ r.thread = same_Some thread r.thread (sym by_thread ∙ thread_get rs i r stands)
    in
    let same : c.thread.result ≡ r.thread =
    same_Some c.thread.result r.thread (sym c.thread.ensures ∙ thread_get rs i r stands) in
    c.turn_on.ensures ∙ ap (turn_on mark) same
    ∙ turn_marked rs tasks i index own.0 r mark c.args.marks.now stands
    (sym (at_get running rs i r stands) ∙ own.1) own.2 there
    (subst (λ t. AreTurnMarks rs tasks t i c.args.marks.now) thread_is marks)
