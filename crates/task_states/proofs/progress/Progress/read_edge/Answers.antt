use Rattle.std.proofs.Common.{◌++◌, ap}
use Rattle.task_states.specs.Progress.{the_nature, the_move}
use Rattle.task_states.specs.TurnEdges.{edge_moves, IsEdgeMove}
use Rattle.task_states.proofs.ProgressLemmas.{and_one, come_same, went_on}
use Rattle.task_states.proofs.progress.Progress.read_edge.Goals as goal

pub returns-clause-come : goal.returns-clause-come
returns-clause-come c = λ turn here moves come.
    let run = c.args.origins.now in
    let i = c.args.at in
    let index = c.in-Some.index in
    let is : IsEdgeMove run c.args.edge i index c.in-Some.step =
    rw c.run.ensures.value at c.in-Some.ensures in
    come_same run.records run.family.tasks (and_one is.task (i, the_move c.in-Some.step) moves)
    (λ task. moves task ++ edge_moves c.args.edge run.records task turn i) c.go_on.new.self
    (λ other. ap (λ l. moves other ++ l) (is.alone turn other here))
    (went_on run.records run.family.tasks index is.task i (the_nature c.nature.result)
    (the_move c.in-Some.step) moves c.args.self.now c.go_on.new.self
    (λ k at_k. c.run.ensures.is_run.family.makers.apart k index is.task at_k is.indexed) is.indexed
    (c.nature.ensures is.task is.indexed) c.go_on.ensures.states c.go_on.ensures.refused
    c.go_on.ensures.marks come)
