use Rattle.std.proofs.Common.{length, refl}
use Rattle.std.proofs.lemmas.Option.{slice_get_read}
use Rattle.task_states.proofs.TurnEdgeLemmas.{row_noted}
use Rattle.task_states.proofs.turn_edges.note_place.Goals as goal

pub returns : goal.returns
returns c =
    let rows = c.reach.new.rows.items in
    let old = c.index_mut.result.now in
    row_noted c.args.rows.now.items rows c.args.turn c.args.at old c.push.new.self c.in_ok-reach.ensures.same
    (slice_get_read rows (length rows) c.args.turn old refl c.in_ok-reach.ensures.made
    c.index_mut.ensures.value)
    c.in_ok-push.ensures.items
