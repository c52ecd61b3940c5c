use Rattle.ompt_events.specs.Records.{started}
use Rattle.ompt_events.specs.Places.{at}
use Rattle.task_tree.proofs.SubjectLemmas.{call_task, call_none}
use Rattle.task_states.specs.declared.turn_edges.Edge.TheVariants.{Begins, Ends}
use Rattle.task_states.proofs.TurnEdgeLemmas.{none_begun, none_ended, no_edge, start_alone, end_alone}
use Rattle.task_states.proofs.progress.edge_move.Goals as goal

pub returns-in_ok-index-in-Begins : goal.returns-in_ok-index-in-Begins
returns-in_ok-index-in-Begins c =
    let run = c.args.run.now in
    let i = c.args.at in
    let (task, says, stands) =
    call_task run.family.tasks (at started run.records i) c.started.result c.in_ok-index-in-Begins.index
    c.started.ensures c.in_ok-index-in-Begins.was in
    rw c.in-Begins.is (record {
      task = task;
      indexed = stands;
      alone = λ turn other here. start_alone run.records i task turn other says here;
    })

pub returns-in_err-index-in-Begins : goal.returns-in_err-index-in-Begins
returns-in_err-index-in-Begins c =
    let run = c.args.run.now in
    let i = c.args.at in
    rw (c.from_residual.ensures, c.in-Begins.is)
    (no_edge run.records Begins i
    (none_begun run.records i
    (call_none run.family.tasks (at started run.records i) c.started.result c.started.ensures
    c.in_err-index-in-Begins.was)))

pub returns-in_ok-event-in-Ends : goal.returns-in_ok-event-in-Ends
returns-in_ok-event-in-Ends c =
    let run = c.args.run.now in
    let i = c.args.at in
    let is = c.in_ok-event-in-Ends.ensures in
    rw c.in-Ends.is (record {
      task = is.task;
      indexed = is.indexed;
      alone =
          λ turn other here.
          end_alone run.records i is.task turn other c.in_ok-event-in-Ends.event.status is.follower
          is.says here;
    })

pub returns-in_err-event-in-Ends : goal.returns-in_err-event-in-Ends
returns-in_err-event-in-Ends c =
    let run = c.args.run.now in
    let i = c.args.at in
    rw (c.from_residual-in_err-event-in-Ends.ensures, c.in-Ends.is)
    (no_edge run.records Ends i (none_ended run.records i c.in_err-event-in-Ends.ensures))
