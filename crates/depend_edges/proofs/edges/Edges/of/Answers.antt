use Rattle.std.proofs.Common.{◌≡◌, ◌∙◌, length, sym, ap, arith}
use Rattle.std.proofs.lemmas.Option.{none-some, slice_get_within}
use Rattle.ompt_events.specs.Tree.{children}
use Rattle.task_tree.specs.Family.{IsFamilyOf}
use Rattle.task_tree.proofs.LineageLemmas.{parent_within}
use Rattle.depend_edges.proofs.PredecessorLemmas.{selected_predecessors, no_predecessors, unmade_predecessors}
use Rattle.depend_edges.proofs.PredecessorLemmas.{root_predecessors, siblings_at}
use Rattle.depend_edges.proofs.edges.Edges.of.Goals as goal

pub returns-in_default-clause-predecessors : goal.returns-in_default-clause-predecessors
returns-in_default-clause-predecessors c =
    unmade_predecessors c.args.self.now.run c.args.task c.new.result.items c.run-run.ensures.is_edges.run
    (λ index is.
    none-some index
    (sym c.in_default.is ∙ (c.index_of.ensures index).1 (rw c.run-run.ensures.value is)))
    c.new.ensures.items

pub returns-in_default-parent-clause-predecessors : goal.returns-in_default-parent-clause-predecessors
returns-in_default-parent-clause-predecessors c =
    let here = rw c.run-run.ensures.value at ((c.index_of.ensures c.in-Some.index).0 c.in-Some.is) in
    let none = rw c.run-run.ensures.value at (sym c.parent.ensures ∙ c.in_default-parent.is) in
    root_predecessors c.args.self.now.run c.in-Some.index c.args.task c.new-in_default-parent.result.items
    c.run-run.ensures.is_edges.run here none c.new-in_default-parent.ensures.items

pub returns-in_default-number-clause-predecessors : goal.returns-in_default-number-clause-predecessors
returns-in_default-number-clause-predecessors c =
    let rs = c.args.self.now.run.records in
    let is : IsFamilyOf rs c.family.result.now =
    rw (c.family.ensures.value, c.run-run.ensures.value) c.run-run.ensures.is_edges.run.family in
    no_predecessors rs c.args.task c.new-in_default-number.result.items
    (λ parent number child.
    none-some number (sym c.in_default-number.is ∙ (c.number.ensures rs is number).1 (parent, child)))
    c.new-in_default-number.ensures.items

pub children-siblings-requires : goal.children-siblings-requires
children-siblings-requires c =
    parent_within c.run-run.result.now.records c.run-run.result.now.family c.in-Some.index
    c.in-Some-parent.parent (rw c.run-run.ensures.value c.run-run.ensures.is_edges.run.family)
    (sym c.parent.ensures ∙ c.in-Some-parent.is)

pub items_at-items-requires : goal.items_at-items-requires
items_at-items-requires c =
    slice_get_within c.args.self.now.run.family.tasks c.in-Some.index c.args.task
    (rw c.run-run.ensures.value at ((c.index_of.ensures c.in-Some.index).0 c.in-Some.is))

pub select-requires : goal.select-requires
select-requires c =
    let run = c.args.self.now.run in
    let is : IsFamilyOf run.records c.family.result.now =
    rw (c.family.ensures.value, c.run-run.ensures.value) c.run-run.ensures.is_edges.run.family in
    let here = rw c.run-run.ensures.value at ((c.index_of.ensures c.in-Some.index).0 c.in-Some.is) in
    let up = rw c.run-run.ensures.value at (sym c.parent.ensures ∙ c.in-Some-parent.is) in
    let of = (c.number.ensures run.records is c.in-Some-number.number).0 c.in-Some-number.is in
    let siblings =
    siblings_at run c.in-Some.index c.in-Some-parent.parent of.0 c.in-Some-number.number c.args.task
    c.children-siblings.result.now c.run-run.ensures.is_edges.run here up of.1
    (rw c.run-run.ensures.value at c.children-siblings.ensures) in
    let below = slice_get_within (children run.records of.0) c.in-Some-number.number c.args.task of.1 in
    let long : length c.children-siblings.result.now ≡ length (children run.records of.0) =
    ap length siblings in
    omega (arith, below, long)

pub returns-clause-predecessors : goal.returns-clause-predecessors
returns-clause-predecessors c =
    let run = c.args.self.now.run in
    let is : IsFamilyOf run.records c.family.result.now =
    rw (c.family.ensures.value, c.run-run.ensures.value) c.run-run.ensures.is_edges.run.family in
    let here = rw c.run-run.ensures.value at ((c.index_of.ensures c.in-Some.index).0 c.in-Some.is) in
    let up = rw c.run-run.ensures.value at (sym c.parent.ensures ∙ c.in-Some-parent.is) in
    let of = (c.number.ensures run.records is c.in-Some-number.number).0 c.in-Some-number.is in
    let siblings =
    siblings_at run c.in-Some.index c.in-Some-parent.parent of.0 c.in-Some-number.number c.args.task
    c.children-siblings.result.now c.run-run.ensures.is_edges.run here up of.1
    (rw c.run-run.ensures.value at c.children-siblings.ensures) in
    selected_predecessors run.records c.args.task of.0 c.in-Some-number.number c.items_at-items.result.now
    c.in_ok-found.found.items c.run-run.ensures.is_edges.run.family.once of.1
    (c.items_at-items.ensures c.args.task here) (rw siblings at c.in_ok-found.ensures)
