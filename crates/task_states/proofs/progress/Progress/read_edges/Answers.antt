use Rattle.std.proofs.Common.{◌∙◌, ◌+◌, ◌++◌, ap, sym, take, get_or}
use Rattle.std.proofs.lemmas.List.{flat_map_more, take_all, take_more}
use Rattle.std.specs.List.{flat_map}
use Rattle.task_states.specs.TurnEdges.{edge_moves}
use Rattle.task_states.proofs.ProgressLemmas.{come_same}
use Rattle.task_states.proofs.progress.Progress.read_edges.Goals as goal

pub loop-at-preserved : goal.loop-at-preserved
loop-at-preserved c = record {
  all = c.read_edge.ensures.all;
  come = λ turn edges moves come.
      let rs = c.args.origins.now.records in
      let tasks = c.args.origins.now.family.tasks in
      let edge = c.args.edge in
      let ps = c.args.places.now in
      let k = c.loop-at.at-index in
      let place = get_or ps k 0 in
      let low = c.loop-at-test.true in
      come_same rs tasks
      (λ task.
      moves task ++ flat_map (edge_moves edge rs task turn) (take k ps)
      ++ edge_moves edge rs task turn place)
      (λ task. moves task ++ flat_map (edge_moves edge rs task turn) (take (k + 1) ps))
      c.read_edge.new.self
      (λ task.
      ap (λ l. moves task ++ flat_map (edge_moves edge rs task turn) l) (take_more ps k 0 low)
      ∙ sym (flat_map_more (edge_moves edge rs task turn) (moves task) (take k ps) place))
      (c.read_edge.ensures.come turn (edges k 0 low)
      (λ task. moves task ++ flat_map (edge_moves edge rs task turn) (take k ps))
      (c.loop-at.invariant.come turn edges moves come));
  marks = c.read_edge.ensures.marks ∙ c.loop-at.invariant.marks;
}

pub returns-clause-come : goal.returns-clause-come
returns-clause-come c = λ turn edges moves come.
    let rs = c.args.origins.now.records in
    let ps = c.args.places.now in
    come_same rs c.args.origins.now.family.tasks
    (λ task. moves task ++ flat_map (edge_moves c.args.edge rs task turn) (take c.loop-at.at-index ps)) _
    c.loop-at.self
    (λ task.
    ap (λ l. moves task ++ flat_map (edge_moves c.args.edge rs task turn) l)
    (sym (take_all c.loop-at.at-index ps c.loop-at-test.false)))
    (c.loop-at.invariant.come turn edges moves come)
