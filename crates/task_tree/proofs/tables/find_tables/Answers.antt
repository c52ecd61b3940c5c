use Rattle.std.proofs.Common.{rules}
use Rattle.task_tree.proofs.RowLemmas.{links_counted, links_single, rows_children}
use Rattle.task_tree.specs.Rows.{AreChildren}
use Rattle.task_tree.proofs.tables.find_tables.Goals as goal

pub find_rows-requires-clause-counted : goal.find_rows-requires-clause-counted
find_rows-requires-clause-counted c =
    rw (c.as_slice-2.ensures.value, c.as_slice-3.ensures.value)
    (links_counted c.args.trace.now.records c.in_ok-tasks.field-0.tasks _ _ c.in_ok-named.ensures.counts
    c.in_ok-named.ensures.links)

pub find_rows-requires-clause-single : goal.find_rows-requires-clause-single
find_rows-requires-clause-single c =
    rw c.as_slice-3.ensures.value
    (links_single c.args.trace.now.records c.in_ok-tasks.field-0.tasks _
    c.in_ok-tasks.ensures.places.apart c.in_ok-named.ensures.links)

pub find_roots-requires-clause-rows : goal.find_roots-requires-clause-rows
find_roots-requires-clause-rows c =
    rows_children c.args.trace.now.records c.in_ok-tasks.field-0.tasks _ _ c.in_ok-rows.rows
    c.in_ok-tasks.ensures.tasks c.in_ok-tasks.ensures.places.apart c.in_ok-tasks.ensures.free
    c.in_ok-named.ensures.counts c.in_ok-named.ensures.links c.in_ok-rows.ensures.within
    (rw c.as_slice-2.ensures.value at c.in_ok-rows.ensures.offsets)
    (rw (c.as_slice.ensures, c.as_slice-3.ensures.value) at c.in_ok-rows.ensures.filled)

pub returns-clause-tables : goal.returns-clause-tables
returns-clause-tables c =
    let children : AreChildren c.args.trace.now.records c.in_ok-tasks.field-0.tasks c.in_ok-rows.rows =
    rows_children c.args.trace.now.records c.in_ok-tasks.field-0.tasks _ _ c.in_ok-rows.rows
    c.in_ok-tasks.ensures.tasks c.in_ok-tasks.ensures.places.apart c.in_ok-tasks.ensures.free
    c.in_ok-named.ensures.counts c.in_ok-named.ensures.links c.in_ok-rows.ensures.within
    (rw c.as_slice-2.ensures.value at c.in_ok-rows.ensures.offsets)
    (rw (c.as_slice.ensures, c.as_slice-3.ensures.value) at c.in_ok-rows.ensures.filled) in
    search rules
