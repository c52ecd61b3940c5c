use Rattle.std.proofs.Common.{◌≡◌, ◌∙◌, sym, arith}
use Rattle.std.proofs.lemmas.List.{get_or_default}
use Rattle.std.proofs.lemmas.Option.{slice_get_within}
use Rattle.std.specs.Prelude.{slice_index}
use Rattle.ompt_events.specs.Places.{at}
use Rattle.checker.specs.Schedule.{first_started}
use Rattle.task_tree.proofs.SubjectLemmas.{call_task, call_none}
use Rattle.checker.proofs.StartLemmas.{starts_more, starts_still, starts_other}
use Rattle.checker.proofs.ScheduleLemmas.{first_begun}
use Rattle.checker.proofs.ListsLemmas.{no_some}
use Rattle.checker.proofs.starts.note_start.Goals as goal

pub returns-then-index-len : goal.returns-then-index-len
returns-then-index-len c =
    let run = c.args.run.now in
    let tasks = run.family.tasks in
    let starts = c.args.starts.now.items in
    let found =
    call_task tasks (at first_started run.records c.args.at) c.first_started.result c.in-Some.index
    c.first_started.ensures c.in-Some.is in
    let apart = c.len.ensures.is_run.family.makers.apart in
    let inside = slice_get_within tasks c.in-Some.index found.0 found.2 in
    let all = c.requires.starts.all in
    let read : slice_index starts c.in-Some.index ≡ c.index.result.now =
    get_or_default starts c.in-Some.index 0 c.index.result.now (omega (arith, inside, all))
    ∙ sym c.index.ensures in
    starts_more run.records c.args.at c.in-Some.index found.0 tasks starts c.requires.within apart found.2
    (first_begun run.records c.args.at found.0 found.1) (read ∙ c.if-index-len.true ∙ c.len.ensures.value)
    c.requires.starts

pub returns-else-index-len : goal.returns-else-index-len
returns-else-index-len c =
    let run = c.args.run.now in
    let tasks = run.family.tasks in
    let starts = c.args.starts.now.items in
    let found =
    call_task tasks (at first_started run.records c.args.at) c.first_started.result c.in-Some.index
    c.first_started.ensures c.in-Some.is in
    let apart = c.len.ensures.is_run.family.makers.apart in
    let inside = slice_get_within tasks c.in-Some.index found.0 found.2 in
    let all = c.requires.starts.all in
    let read : slice_index starts c.in-Some.index ≡ c.index.result.now =
    get_or_default starts c.in-Some.index 0 c.index.result.now (omega (arith, inside, all))
    ∙ sym c.index.ensures in
    starts_still run.records c.args.at c.in-Some.index found.0 tasks starts c.requires.within apart found.2
    (first_begun run.records c.args.at found.0 found.1)
    (λ unset. c.if-index-len.false (sym read ∙ unset ∙ sym c.len.ensures.value)) c.requires.starts

pub returns-in_default : goal.returns-in_default
returns-in_default c =
    let run = c.args.run.now in
    let none =
    call_none run.family.tasks (at first_started run.records c.args.at) c.first_started.result
    c.first_started.ensures (no_some c.first_started.result c.in_default.not-Some) in
    starts_other run.records c.args.at run.family.tasks c.args.starts.now.items c.requires.within none
    c.requires.starts
