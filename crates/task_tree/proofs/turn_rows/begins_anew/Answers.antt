use Rattle.std.proofs.Common.{◌∙◌, Some, false, length, ap}
use Rattle.std.proofs.lemmas.Option.{slice_get-get_or}
use Rattle.task_tree.proofs.TurnRowLemmas.{slot_within, marked_more, anew_here}
use Rattle.task_tree.proofs.turn_rows.begins_anew.Goals as goal

pub bounds-begun-slot : goal.bounds-begun-slot
bounds-begun-slot c =
    slot_within c.args.offsets.now (length c.args.begun.now) c.in-Some.begin.index c.in-Some.begin.turn
    c.in-Some-slot_of.slot c.requires.slots
    (c.slot_of.ensures c.in-Some-slot_of.slot c.in-Some-slot_of.is)

pub bounds-begun-slot-2 : goal.bounds-begun-slot-2
bounds-begun-slot-2 c =
    slot_within c.args.offsets.now (length c.args.begun.now) c.in-Some.begin.index c.in-Some.begin.turn
    c.in-Some-slot_of.slot c.requires.slots
    (c.slot_of.ensures c.in-Some-slot_of.slot c.in-Some-slot_of.is)

pub returns-clause-marked : goal.returns-clause-marked
returns-clause-marked c holds =
    let begin = c.in-Some.begin in
    let start = c.in-Some.ensures in
    let slot = c.in-Some-slot_of.slot in
    let is = c.slot_of.ensures slot c.in-Some-slot_of.is in
    marked_more c.args.trace.now.records c.args.at begin.index start.task begin.turn slot
    c.args.family.now.tasks
    c.args.offsets.now c.args.begun.now c.requires.family.makers.apart c.requires.rising
    (slot_within c.args.offsets.now (length c.args.begun.now) begin.index begin.turn slot c.requires.slots
    is)
    c.requires.before start.starts start.indexed is

pub returns-clause-anew : goal.returns-clause-anew
returns-clause-anew c holds =
    let begin = c.in-Some.begin in
    let start = c.in-Some.ensures in
    let slot = c.in-Some-slot_of.slot in
    let is = c.slot_of.ensures slot c.in-Some-slot_of.is in
    anew_here c.args.trace.now.records c.args.at begin.index start.task begin.turn slot
    c.args.family.now.tasks
    c.args.offsets.now c.args.begun.now c.requires.before start.starts start.indexed is
    (slice_get-get_or c.args.begun.now slot false
    (slot_within c.args.offsets.now (length c.args.begun.now) begin.index begin.turn slot
    c.requires.slots is)
    ∙ ap Some c.if-begun-slot.false)
