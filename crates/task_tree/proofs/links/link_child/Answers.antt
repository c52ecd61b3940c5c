use Rattle.std.proofs.Common.{◌∙◌, sym}
use Rattle.task_tree.specs.Links.{unmade}
use Rattle.task_tree.proofs.LinkLemmas.{slot_index, slot_empty, number_read, linked_read, counted_read}
use Rattle.task_tree.proofs.links.link_child.Goals as goal

pub returns-in_default : goal.returns-in_default
returns-in_default c =
    λ tasks above task is_above is_task.
    unmade (slot_empty tasks above c.args.parent is_above (sym c.get.ensures ∙ c.in_default.is))

pub returns-in-Some-get : goal.returns-in-Some-get
returns-in-Some-get c = λ tasks above task is_above is_task.
    let up = sym c.get.ensures ∙ c.in-Some.is in
    rw c.some.ensures
    (linked_read tasks above task c.in-Some.up c.in-Some-get.own _ c.args.counts.now.items
    c.args.links.now.items (slot_index tasks above c.in-Some.up c.args.parent is_above up)
    (slot_index tasks task c.in-Some-get.own c.args.child is_task
    (sym c.get-2.ensures ∙ c.in-Some-get.is))
    (number_read c.args.counts.now.items c.args.parent c.in-Some.up c.index-number.result.now
    c.requires.counts up c.index-number.ensures))

pub returns-in_default-get : goal.returns-in_default-get
returns-in_default-get c = λ tasks above task is_above is_task.
    let up = sym c.get.ensures ∙ c.in-Some.is in
    counted_read tasks above task c.in-Some.up _ c.args.counts.now.items c.args.links.now.items
    (slot_index tasks above c.in-Some.up c.args.parent is_above up)
    (slot_empty tasks task c.args.child is_task (sym c.get-2.ensures ∙ c.in_default-get.is))
    (number_read c.args.counts.now.items c.args.parent c.in-Some.up c.index-number.result.now
    c.requires.counts up c.index-number.ensures)
