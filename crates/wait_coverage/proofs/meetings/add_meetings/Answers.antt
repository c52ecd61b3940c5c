use Rattle.std.proofs.Common.{◌≡◌, length, subst, arith}
use Rattle.task_tree.specs.Runs.{RunView}
use Rattle.wait_coverage.proofs.MeetingLemmas.{added_all}
use Rattle.wait_coverage.proofs.meetings.add_meetings.Goals as goal

pub returns : goal.returns
returns c =
    let P : RunView → Type 0 = λ r. c.len-at-end.result ≡ length r.records in
    let all = subst P c.run.ensures.value c.len-at-end.ensures.value in
    let past = c.loop-at-test.false in
    added_all c.args.done.now c.loop-at.at c.loop-at.nodes.items c.loop-at.invariant
    (omega (arith, past, all))
