use Rattle.std.proofs.Common.{◌∙◌, ◌<◌, Some, length, refl, subst, ap, rules}
use Rattle.std.proofs.lemmas.Option.{slice_get_read}
use Rattle.task_tree.specs.TurnRows.{IsSlot}
use Rattle.task_tree.proofs.TurnRowLemmas.{slot_within}
use Rattle.task_tree.proofs.turn_rows.has_begun.Goals as goal

-- the slot that was found
there : (c : goal.In-Some)
    → IsSlot c.args.rows.now.offsets.items c.args.begin.index c.args.begin.turn c.in-Some.slot
there c =
    subst (λ l. IsSlot l c.args.begin.index c.args.begin.turn c.in-Some.slot) c.as_slice.ensures.value
    (c.slot_of.ensures c.in-Some.slot c.in-Some.is)

pub index-requires : goal.index-requires
index-requires c =
    let within : c.in-Some.slot < length c.args.rows.now.begun.items =
    slot_within c.args.rows.now.offsets.items (length c.args.rows.now.begun.items) c.args.begin.index
    c.args.begin.turn c.in-Some.slot c.requires.slots (there c) in
    search rules

pub returns-in-Some : goal.returns-in-Some
returns-in-Some c records tasks task are indexed holds =
    let begun = c.args.rows.now.begun.items in
    let slot = c.in-Some.slot in
    let is =
    subst (λ l. IsSlot l c.args.begin.index c.args.begin.turn slot) c.as_slice.ensures.value
    (c.slot_of.ensures slot c.in-Some.is) in
    let within : slot < length begun =
    slot_within c.args.rows.now.offsets.items (length begun) c.args.begin.index c.args.begin.turn slot
    c.requires.slots is in
    are.begins c.args.begin.index task c.args.begin.turn slot is indexed
    (slice_get_read begun (length begun) slot c.index.result.now refl within c.index.ensures
    ∙ ap Some holds)
