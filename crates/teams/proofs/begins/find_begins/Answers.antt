use Rattle.std.proofs.Common.{◌<◌, length, arith}
use Rattle.ompt_events.specs.Records.{region}
use Rattle.ompt_events.specs.Places.{at}
use Rattle.ompt_events.specs.Regions.{barrier_begun}
use Rattle.task_tree.proofs.SubjectLemmas.{call_task, call_none}
use Rattle.teams.proofs.BeginLemmas.{begins_other, begins_added, row_few, number_here, numbered_other}
use Rattle.teams.proofs.BeginLemmas.{numbered_more, numbered_all}
use Rattle.teams.proofs.begins.find_begins.Goals as goal
use Rattle.teams.proofs.begins.find_begins.Goals.{in-Some+in_ok-numbers-2, in_default}

pub note_begin-requires-clause-few : goal.note_begin-requires-clause-few
note_begin-requires-clause-few c =
    let run = c.args.run.now in
    let known =
    call_task run.family.tasks (barrier_begun (at region run.records c.loop-at.at)) c.barrier_begun.result
    c.in-Some.index c.barrier_begun.ensures c.in-Some.is in
    let few =
    row_few run.records c.loop-at.at c.in-Some.index known.0 run.family.tasks c.loop-at.begins.items
    c.loop-at.invariant.begins known.2 in
    let many = c.len.ensures.is_run.trace.few_records in
    omega (arith, few, many, c.loop-at-test.true, c.len-at-end.ensures.value)

pub loop-at-preserved : goal.loop-at-preserved
loop-at-preserved c =
    let run = c.args.run.now in
    let n = c.loop-at.at in
    let rows = c.loop-at.begins.items in
    let found = barrier_begun (at region run.records n) in
    let within : n < length run.records = omega (arith, c.loop-at-test.true, c.len-at-end.ensures.value) in
    elim c.match-barrier_begun.branch [
      | in-Some+in_ok-numbers-2 w ↦
          let known =
          call_task run.family.tasks found c.barrier_begun.result w.in-Some.index c.barrier_begun.ensures
          w.in-Some.is in
          rw (w.begins-is, w.numbers-is) (record {
            begins =
                begins_added run.records n w.in-Some.index known.0 run.family.tasks rows
                w.note_begin.new.begins.items c.len.ensures.is_run.family.makers.apart
                c.loop-at.invariant.begins known.2 known.1 w.in_ok-numbers-2.ensures.added;
            numbers =
                numbered_more run.records n w.in_ok-numbers-2.field-0 c.loop-at.numbers.items
                c.loop-at.invariant.numbers within
                (number_here run.records n w.in-Some.index known.0 w.in_ok-numbers-2.field-0
                run.family.tasks rows c.loop-at.invariant.begins within known.2 known.1
                w.in_ok-numbers-2.ensures.number);
          })
      | in_default w ↦
          let none =
          call_none run.family.tasks found c.barrier_begun.result c.barrier_begun.ensures
          w.in_default.is in
          rw (w.begins-is, w.numbers-is) (record {
            begins = begins_other run.records n run.family.tasks rows c.loop-at.invariant.begins none;
            numbers = numbered_other run.records n c.loop-at.numbers.items c.loop-at.invariant.numbers none;
          })
    ]

pub returns-clause-numbers : goal.returns-clause-numbers
returns-clause-numbers c =
    numbered_all c.args.run.now.records c.loop-at.at c.loop-at.numbers.items c.loop-at.invariant.numbers
    (omega (arith, c.loop-at-test.false, c.len-at-end.ensures.value))
