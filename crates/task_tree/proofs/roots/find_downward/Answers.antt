use Rattle.std.proofs.Common.{◌≡◌, ◌<◌, ◌≤◌, ◌∙◌, Some, length, arith, rules, refl}
use Rattle.std.specs.Prelude.{slice_get}
use Rattle.std.proofs.lemmas.Option.{slice_get_within, slice_get_read}
use Rattle.task_tree.proofs.RootLemmas.{below_it, task_reached, turn_seeded, spreads_keeps, roots_found}
use Rattle.task_tree.proofs.roots.find_downward.Goals as goal

pub row-requires : goal.row-requires
row-requires c =
    let within : c.reached.next < length c.reached.order.items = search rules in
    let here : slice_get c.reached.order.items c.reached.next ≡ Some c.index-task.result.now =
    slice_get_read c.reached.order.items (length c.reached.order.items) c.reached.next
    c.index-task.result.now refl within c.index-task.ensures in
    let own =
    task_reached c.args.trace.now.records c.args.tasks.now c.reached.roots.items c.reached.order.items
    c.reached.next c.index-task.result.now c.reached.invariant.reach.reach here in
    let inside = slice_get_within c.args.tasks.now c.index-task.result.now.index own.0 own.1 in
    omega (arith, inside, c.requires.rows.all)

pub reached-smaller : goal.reached-smaller
reached-smaller c =
    let within : c.reached.next < length c.reached.order.items = search rules in
    let keeps =
    spreads_keeps c.args.tasks.now (below_it c.index-task.result.now.standing) c.reached.roots.items
    c.reached.order.items c.row.result.now c.reach_children.new.roots.items
    c.reach_children.new.order.items c.in_ok-reach_children.ensures in
    let total = keeps.total in
    omega (arith, within, total)

pub reached-preserved : goal.reached-preserved
reached-preserved c =
    let rs = c.args.trace.now.records in
    let order = c.reached.order.items in
    let entry = c.index-task.result.now in
    let within : c.reached.next < length order = search rules in
    let here : slice_get order c.reached.next ≡ Some entry =
    slice_get_read order (length order) c.reached.next entry refl within c.index-task.ensures in
    let own =
    task_reached rs c.args.tasks.now c.reached.roots.items order c.reached.next entry
    c.reached.invariant.reach.reach here in
    let list = c.row.ensures ∙ c.requires.rows.each entry.index own.0 own.1 in
    let turn =
    turn_seeded rs c.args.tasks.now c.reached.roots.items order c.row.result.now
    c.reach_children.new.roots.items c.reach_children.new.order.items c.reached.next own.0 entry
    c.reached.invariant.reach c.reached.invariant.closed within here own.1 list
    c.in_ok-reach_children.ensures in
    record {
      reach = turn.reach;
      next = let longer = turn.longer in omega (arith, within, longer);
      closed = turn.closed;
    }

pub returns : goal.returns
returns c =
    let all : length c.reached.order.items ≤ c.reached.next = search rules in
    roots_found c.args.trace.now.records c.args.tasks.now c.reached.roots.items c.reached.order.items
    c.reached.next
    c.requires.noted c.reached.invariant.reach c.reached.invariant.closed all
