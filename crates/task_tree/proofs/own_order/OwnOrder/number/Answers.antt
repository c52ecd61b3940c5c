use Rattle.std.proofs.Common.{length, ◌∙◌, ◌<◌, Some, sym, ap, subst}
use Rattle.std.proofs.lemmas.Option.{slice_get-get_or}
use Rattle.std.proofs.lemmas.List.FromFn.{length-range_with_len}
use Rattle.task_tree.specs.OwnOrder.{IsOrder}
use Rattle.task_tree.proofs.own_order.OwnOrder.number.Goals as goal
use Rattle.ompt_events.proofs.ListLemmas.{range_get}

pub returns-in-InFile : goal.returns-in-InFile
returns-in-InFile c =
    let below : c.args.place < c.in-InFile.field-0 =
    rw (← c.self.view_is, c.in-InFile.is, length-range_with_len 0 c.in-InFile.field-0) at c.requires in
    rw (← c.self.view_is, c.in-InFile.is) (range_get c.in-InFile.field-0 c.args.place below)

pub returns-in-Arranged : goal.returns-in-Arranged
returns-in-Arranged c =
    let inverse = subst IsOrder c.in-Arranged.is c.self.invariant in
    let numbers = c.in-Arranged.numbers.items in
    let among : c.args.place < length c.in-Arranged.field-0.items =
    rw (← c.self.view_is, c.in-Arranged.is) at c.requires in
    let below : c.args.place < length numbers = rw (← inverse.all) at among in
    let is = slice_get-get_or numbers c.args.place c.index.result.now below ∙ ap Some (sym c.index.ensures) in
    rw (← c.self.view_is, c.in-Arranged.is) (inverse.there c.args.place c.index.result.now is)
