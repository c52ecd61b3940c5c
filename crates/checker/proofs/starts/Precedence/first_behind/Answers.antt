use Rattle.std.proofs.Common.{Option, subst}
use Rattle.checker.specs.declared.starts.Late.{Late}
use Rattle.checker.specs.Starts.{IsFirstOf}
use Rattle.checker.proofs.LateLemmas.{first_of_none, first_of_all, all_done, get_here}
use Rattle.checker.proofs.starts.Precedence.first_behind.Goals as goal

pub loop-at-init : goal.loop-at-init
loop-at-init c =
    λ task are.
    first_of_none c.args.self.now.file.records c.args.self.now.own.run.records c.args.predecessors.now
    c.args.bound

pub loop-at-preserved : goal.loop-at-preserved
loop-at-preserved c =
    λ task are.
    c.earlier_of-first.ensures c.args.predecessors.now c.loop-at.at task
    (get_here c.args.predecessors.now c.loop-at.at c.loop-at-test.true) are
    (c.loop-at.invariant task are)

pub returns-in-Some : goal.returns-in-Some
returns-in-Some c = λ task are.
    let file = c.args.self.now.file.records in
    let own = c.args.self.now.own.run.records in
    let predecessors = c.args.predecessors.now in
    let P : Option Late → Type 0 = IsFirstOf file own predecessors c.args.bound c.loop-at.at in
    first_of_all file own predecessors c.args.bound c.loop-at.at task c.in-Some.late c.loop-at-test.false are
    (subst P c.in-Some.is (c.loop-at.invariant task are))

pub returns-in-None : goal.returns-in-None
returns-in-None c = λ task are.
    let file = c.args.self.now.file.records in
    let own = c.args.self.now.own.run.records in
    let predecessors = c.args.predecessors.now in
    let P : Option Late → Type 0 = IsFirstOf file own predecessors c.args.bound c.loop-at.at in
    all_done file own predecessors c.args.bound c.loop-at.at task c.loop-at-test.false are
    (subst P c.in-None.is (c.loop-at.invariant task are))
