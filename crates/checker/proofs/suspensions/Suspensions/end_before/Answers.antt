use Rattle.std.proofs.Common.{◌≡◌, ◌∙◌, ◌<◌, ◌+◌, length, ap, arith, rules}
use Rattle.std.proofs.lemmas.List.{get_or_default}
use Rattle.std.specs.Prelude.{slice_index}
use Rattle.checker.proofs.SuspensionLemmas.{slot_within, end_found}
use Rattle.checker.proofs.suspensions.Suspensions.end_before.Goals as goal

pub slot_of-requires-clause-has : goal.slot_of-requires-clause-has
slot_of-requires-clause-has c =
    c.requires.known.room c.args.at c.args.begin.index c.args.begin.turn c.requires.begins c.requires.later

pub slot_of-requires-clause-within : goal.slot_of-requires-clause-within
slot_of-requires-clause-within c =
    slot_within c.args.self.now.rows.items c.args.begin.index c.args.begin.turn
    (length c.args.self.now.places.items)
    (c.requires.known.room c.args.at c.args.begin.index c.args.begin.turn c.requires.begins c.requires.later)
    c.requires.known.within

pub index-requires : goal.index-requires
index-requires c =
    let low =
    slot_within c.args.self.now.rows.items c.args.begin.index c.args.begin.turn
    (length c.args.self.now.places.items)
    (c.requires.known.room c.args.at c.args.begin.index c.args.begin.turn c.requires.begins c.requires.later)
    c.requires.known.within in
    let is = c.slot_of.ensures in
    let inside : c.slot_of.result < length c.args.self.now.places.items = omega (arith, low, is) in
    search (rules, inside)

pub returns : goal.returns
returns c =
    let low =
    slot_within c.args.self.now.rows.items c.args.begin.index c.args.begin.turn
    (length c.args.self.now.places.items)
    (c.requires.known.room c.args.at c.args.begin.index c.args.begin.turn c.requires.begins c.requires.later)
    c.requires.known.within in
    let is = c.slot_of.ensures in
    let inside : c.slot_of.result < length c.args.self.now.places.items = omega (arith, low, is) in
    let read : c.index.result.now
    ≡ slice_index c.args.self.now.places.items
    (slice_index c.args.self.now.rows.items c.args.begin.index + c.args.begin.turn) =
    c.index.ensures ∙ get_or_default c.args.self.now.places.items c.slot_of.result c.index.result.now 0 inside
    ∙ ap (slice_index c.args.self.now.places.items) is in
    end_found c.args.run.now.records c.args.run.now.family.tasks c.args.self.now c.args.at c.args.begin.index
    c.args.begin.turn c.index.result.now c.other_place.result c.requires.known c.requires.begins
    c.requires.later read
    (rw c.len.ensures.value at c.other_place.ensures)
