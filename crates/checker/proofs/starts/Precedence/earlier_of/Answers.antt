use Rattle.std.proofs.Common.{subst}
use Rattle.ompt_events.proofs.ListLemmas.{get_contains}
use Rattle.checker.specs.Starts.{IsPrecedence}
use Rattle.checker.proofs.LateLemmas.{first_of_late, first_of_done, predecessor_index, predecessor_made}
use Rattle.checker.proofs.starts.Precedence.earlier_of.Goals as goal

pub returns-in-Some : goal.returns-in-Some
returns-in-Some c = λ predecessors n dependent stands are so_far.
    let known : IsPrecedence c.self.inside.edges.now.run c.args.self.now =
    subst (IsPrecedence c.self.inside.edges.now.run) c.self.view_is c.self.invariant in
    let run = c.args.self.now.own.run in
    let is = are.only c.args.task (get_contains predecessors c.args.task n stands) in
    let index =
    predecessor_index run.records run.family.tasks dependent c.args.task known.is_own.run.family.noted
    is in
    let made_there = predecessor_made run.records dependent c.args.task is in
    first_of_late c.args.self.now.file.records run.records predecessors c.args.bound n c.args.task
    c.in-Some.place c.args.first c.earlier.result known.file.family.once stands
    (c.in-Some.ensures index.0 index.1 (made_there.0, made_there.2)) c.earlier.ensures so_far

pub returns-in-None : goal.returns-in-None
returns-in-None c = λ predecessors n dependent stands are so_far.
    let known : IsPrecedence c.self.inside.edges.now.run c.args.self.now =
    subst (IsPrecedence c.self.inside.edges.now.run) c.self.view_is c.self.invariant in
    let run = c.args.self.now.own.run in
    let is = are.only c.args.task (get_contains predecessors c.args.task n stands) in
    let index =
    predecessor_index run.records run.family.tasks dependent c.args.task known.is_own.run.family.noted
    is in
    let made_there = predecessor_made run.records dependent c.args.task is in
    first_of_done c.args.self.now.file.records run.records predecessors c.args.bound n c.args.task
    c.args.first stands (c.in-None.ensures index.0 index.1 (made_there.0, made_there.2)) so_far
