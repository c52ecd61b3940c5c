use Rattle.std.proofs.Common.{ap}
use Rattle.task_tree.specs.Runs.{RunView}
use Rattle.checker.proofs.LateLemmas.{predecessors_at, behind_if, not_among}
use Rattle.checker.proofs.starts.Precedence.is_late_of.Goals as goal

pub returns-then-is_among-clause-late : goal.returns-then-is_among-clause-late
returns-then-is_among-clause-late c =
    let run = c.self.inside.own.now.run in
    let known = c.self.invariant in
    let items = c.in_ok-predecessors.predecessors.items in
    let among = (rw c.deref.ensures.value at c.is_among.ensures).0 c.if-is_among.true in
    let tells = rw (← c.self.view_is) at c.behind_at.ensures in
    rw (← c.self.view_is, c.is_some.ensures) (
    λ dependent there.
    behind_if c.self.inside.file.now.records run.records run.family.tasks items dependent c.args.bound
    c.args.task c.behind_at.result known.is_own.run.family.noted
    (predecessors_at run.records c.self.inside.edges.now.run.records run.family.tasks items c.args.index
    c.task.result dependent (ap (λ (r : RunView). r.records) known.same)
    (rw c.run.ensures.value at c.task.ensures) there c.in_ok-predecessors.ensures.predecessors)
    among tells)

pub returns-clause-late : goal.returns-clause-late
returns-clause-late c =
    let run = c.self.inside.own.now.run in
    let known = c.self.invariant in
    let items = c.in_ok-predecessors.predecessors.items in
    let tells = rw c.deref.ensures.value at c.is_among.ensures in
    rw (← c.self.view_is) (
    λ dependent there. not_among run.records items dependent c.args.bound c.args.task c.is_among.result
    (predecessors_at run.records c.self.inside.edges.now.run.records run.family.tasks items c.args.index
    c.task.result dependent (ap (λ (r : RunView). r.records) known.same)
    (rw c.run.ensures.value at c.task.ensures) there c.in_ok-predecessors.ensures.predecessors)
    tells c.if-is_among.false)
