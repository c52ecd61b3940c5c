use Rattle.std.proofs.Common.{◌∙◌, ◌+◌, ◌++◌, [], ◌∷◌, Bool, ap, sym, subst}
use Rattle.std.specs.Prelude.{if◌then◌else◌, slice_index_or}
use Rattle.task_tree.specs.Runs.{RunView}
use Rattle.checker.specs.Starts.{IsPrecedence, AreLateOf}
use Rattle.checker.proofs.LateLemmas.{predecessors_at, get_here}
use Rattle.checker.proofs.FindingsLemmas.{late_none, late_all, late_next}
use Rattle.checker.proofs.starts.Precedence.all_late_of.Goals.{then-is_some+in_ok-push, else-is_some}
use Rattle.checker.proofs.starts.Precedence.all_late_of.Goals as goal

pub loop-predecessor-init : goal.loop-predecessor-init
loop-predecessor-init c =
    rw c.new-late.ensures.items
    (λ task are. late_none c.args.self.now.own.run.records c.args.bound c.deref-predecessor-items.result.now)

pub loop-predecessor-preserved : goal.loop-predecessor-preserved
loop-predecessor-preserved c = λ task are.
    let file = c.args.self.now.file.records in
    let own = c.args.self.now.own.run.records in
    let tasks = c.deref-predecessor-items.result.now in
    let n = c.loop-predecessor.predecessor-index in
    let known : IsPrecedence c.self.inside.edges.now.run c.args.self.now =
    subst (IsPrecedence c.self.inside.edges.now.run) c.self.view_is c.self.invariant in
    let next =
    late_next file own c.args.bound task n (slice_index_or tasks n 0) tasks
    c.args.self.now.own.run.family.tasks
    c.loop-predecessor.late.items c.behind_at.result known.is_own.run.family.noted are
    (get_here tasks n c.loop-predecessor-test.true) c.behind_at.ensures
    (c.loop-predecessor.invariant task are)
    in
    let P : Bool → Type 0 = λ b. AreLateOf own c.args.bound tasks (n + 1)
    (if b then c.loop-predecessor.late.items ++ slice_index_or tasks n 0 ∷ [] else
    c.loop-predecessor.late.items)
    in
    elim c.if-is_some.branch [
      | then-is_some+in_ok-push w ↦
          rw (w.late-is, w.in_ok-push.ensures.items)
          (subst P (sym c.is_some.ensures ∙ w.if-is_some.true) next)
      | else-is_some w ↦ rw w.late-is (subst P (sym c.is_some.ensures ∙ w.if-is_some.false) next)
    ]

pub returns-clause-late : goal.returns-clause-late
returns-clause-late c =
    let run = c.self.inside.own.now.run in
    let known = c.self.invariant in
    let items = c.in_ok-predecessors.predecessors.items in
    let so_far = rw c.deref-predecessor-items.ensures.value at c.loop-predecessor.invariant in
    let past = rw c.deref-predecessor-items.ensures.value at c.loop-predecessor-test.false in
    let late = rw (← c.self.view_is) at so_far in
    rw (← c.self.view_is) (λ task there.
    let are =
    predecessors_at run.records c.self.inside.edges.now.run.records run.family.tasks items c.args.index
    c.task.result task (ap (λ (r : RunView). r.records) known.same)
    (rw c.run.ensures.value at c.task.ensures) there c.in_ok-predecessors.ensures.predecessors in
    late_all run.records c.args.bound task c.loop-predecessor.predecessor-index items
    c.loop-predecessor.late.items are past (late task are))
