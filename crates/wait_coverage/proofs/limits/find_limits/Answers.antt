use Rattle.std.proofs.Common.{ℕ, ◌≡◌, ◌∙◌, length, ap, subst, sym, arith, rules}
use Rattle.task_tree.specs.Runs.{RunView}
use Rattle.wait_coverage.specs.Meetings.{AreMet}
use Rattle.ompt_events.proofs.ListLemmas.{get_last}
use Rattle.wait_coverage.proofs.LimitLemmas.{progress_start}
use Rattle.wait_coverage.proofs.limits.find_limits.Goals as goal

pub loop-at-init : goal.loop-at-init
loop-at-init c = record {
  noted =
      progress_start c.args.done.now c.task_count.result c.in_ok-nodes.nodes.items c.in_ok-progress.progress
      c.in_ok-nodes.ensures.items
      (rw c.run-run.ensures.value at c.task_count.ensures.value)
      c.in_ok-progress.ensures.heads c.in_ok-progress.ensures.latest c.in_ok-progress.ensures.families;
  met = search rules;
}

pub meet-requires-clause-limit : goal.meet-requires-clause-limit
meet-requires-clause-limit c =
    let noted = c.node_at-node.ensures in
    let count = c.loop-at.invariant.noted.count in
    (noted.marks c.loop-at.at c.node_at-node.result
    (get_last c.as_slice.result.now c.node_at-node.result c.loop-at.at
    (sym (rw c.as_slice.ensures.value count)))).meets

pub meet-requires-clause-least : goal.meet-requires-clause-least
meet-requires-clause-least c =
    let noted = c.node_at-node.ensures in
    let count = c.loop-at.invariant.noted.count in
    (noted.marks c.loop-at.at c.node_at-node.result
    (get_last c.as_slice.result.now c.node_at-node.result c.loop-at.at
    (sym (rw c.as_slice.ensures.value count)))).least_met

pub returns-clause-met : goal.returns-clause-met
returns-clause-met c =
    let many = c.len-at-end.ensures.value ∙ ap (λ (r : RunView). length r.records) c.run-run.ensures.value in
    let at_end : c.loop-at.at ≡ length c.args.done.now.teams.run.records =
    omega (arith, many, c.loop-at.auto.at-end, c.loop-at-test.false) in
    let P : ℕ → Type 0 = λ n. AreMet c.args.done.now n c.loop-at.meetings.items in
    subst P at_end c.loop-at.invariant.met
