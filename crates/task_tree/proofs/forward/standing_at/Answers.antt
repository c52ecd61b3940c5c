use Rattle.std.proofs.Common.{◌≡◌, ◌<◌, ◌∙◌, Some, get_or, length, refl, sym, ap, arith}
use Rattle.std.proofs.lemmas.Option.{same_Some, slice_get_within, slice_get-get_or, slice_get_read}
use Rattle.std.specs.Prelude.{slice_index}
use Rattle.task_tree.proofs.ForwardLemmas.{above_shallow, below_stood, made_stood}
use Rattle.task_tree.proofs.forward.standing_at.Goals as goal

pub below-requires : goal.below-requires
below-requires c =
    λ above known.
    let low =
    above_shallow c.args.trace.now.records c.args.index c.in-Some.link.parent c.args.tasks.now
    c.args.roots.now above c.requires.roots (omega (arith, c.requires.within)) known in
    omega (arith, low, c.requires.within, c.requires.places.few, c.requires.few)

pub root_made-requires : goal.root_made-requires
root_made-requires c =
    let maker =
    c.requires.places.each c.args.index (get_or c.args.tasks.now c.args.index 0)
    (slice_get-get_or c.args.tasks.now c.args.index 0 c.requires.within) in
    let read : slice_index c.args.places.now c.args.index ≡ maker.0 =
    same_Some _ _
    (sym
    (slice_get-get_or c.args.places.now c.args.index 0
    (slice_get_within c.args.places.now c.args.index maker.0 maker.1))
    ∙ maker.1) in
    omega (arith, read, maker.2)

pub returns-in-Some : goal.returns-in-Some
returns-in-Some c =
    let within : c.args.index < length c.args.links.now =
    omega (arith, c.requires.within, c.requires.links.all) in
    below_stood c.args.trace.now.records c.args.index c.in-Some.link c.args.tasks.now c.args.links.now
    c.args.roots.now c.below.result c.requires.links c.requires.roots
    (slice_get_read c.args.links.now (length c.args.links.now) c.args.index c.index-links-index.result
    refl within c.index-links-index.is
    ∙ ap Some (sym c.get.ensures ∙ c.in-Some.is))
    c.below.ensures

pub returns-in-None : goal.returns-in-None
returns-in-None c =
    let maker =
    c.requires.places.each c.args.index (get_or c.args.tasks.now c.args.index 0)
    (slice_get-get_or c.args.tasks.now c.args.index 0 c.requires.within) in
    let read : slice_index c.args.places.now c.args.index ≡ maker.0 =
    same_Some _ _
    (sym
    (slice_get-get_or c.args.places.now c.args.index 0
    (slice_get_within c.args.places.now c.args.index maker.0 maker.1))
    ∙ maker.1) in
    let within : slice_index c.args.places.now c.args.index < length c.args.trace.now.records =
    omega (arith, read, maker.2) in
    made_stood c.args.trace.now.records c.args.index (slice_index c.args.places.now c.args.index)
    c.args.tasks.now c.args.places.now c.root_made.result c.requires.places
    (slice_get-get_or c.args.places.now c.args.index 0
    (slice_get_within c.args.places.now c.args.index maker.0 maker.1))
    c.root_made.ensures
