use Rattle.std.proofs.Common.{length, ◌∙◌, ◌<◌, Some, sym, ap}
use Rattle.std.proofs.lemmas.Option.{slice_get-get_or}
use Rattle.std.proofs.lemmas.List.FromFn.{length-range_with_len}
use Rattle.task_tree.proofs.own_order.OwnOrder.place.Goals as goal
use Rattle.ompt_events.proofs.ListLemmas.{range_get}

pub returns-in-InFile : goal.returns-in-InFile
returns-in-InFile c =
    let below : c.args.number < c.in-InFile.field-0 =
    rw (← c.self.view_is, c.in-InFile.is, length-range_with_len 0 c.in-InFile.field-0) at c.requires in
    rw (← c.self.view_is, c.in-InFile.is) (range_get c.in-InFile.field-0 c.args.number below)

pub returns-in-Arranged : goal.returns-in-Arranged
returns-in-Arranged c =
    let places = c.in-Arranged.places.items in
    let below : c.args.number < length places = rw (← c.self.view_is, c.in-Arranged.is) at c.requires in
    rw (← c.self.view_is, c.in-Arranged.is)
    (slice_get-get_or places c.args.number c.index.result.now below ∙ ap Some (sym c.index.ensures))
