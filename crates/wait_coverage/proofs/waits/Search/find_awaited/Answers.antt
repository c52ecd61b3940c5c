use Rattle.std.proofs.Common.{◌<◌, length, get_or, arith, rules}
use Rattle.std.proofs.lemmas.Option.{slice_get-get_or}
use Rattle.wait_coverage.proofs.WaitLemmas.{marked_above, marked_more, marked_all}
use Rattle.wait_coverage.proofs.waits.Search.find_awaited.Goals as goal

pub is_awaited-requires-clause-above : goal.is_awaited-requires-clause-above
is_awaited-requires-clause-above c =
    let here = slice_get-get_or c.args.order.now c.loop-place.place 0 c.loop-place-test.true in
    rw c.as_slice.ensures.value
    (marked_above c.args.self.now c.args.order.now c.loop-place.place
    (get_or c.args.order.now c.loop-place.place 0) c.loop-place.marks.items c.requires here
    c.loop-place.invariant)

pub index_mut-requires : goal.index_mut-requires
index_mut-requires c =
    let here = slice_get-get_or c.args.order.now c.loop-place.place 0 c.loop-place-test.true in
    let inside = c.requires.within c.loop-place.place (get_or c.args.order.now c.loop-place.place 0) here in
    let all = c.loop-place.invariant.all in
    let within : get_or c.args.order.now c.loop-place.place 0 < length c.loop-place.marks.items =
    omega (arith, inside, all) in
    search rules

pub loop-place-preserved : goal.loop-place-preserved
loop-place-preserved c =
    let here = slice_get-get_or c.args.order.now c.loop-place.place 0 c.loop-place-test.true in
    let index = get_or c.args.order.now c.loop-place.place 0 in
    let run = c.args.self.now.teams.run in
    marked_more run.records run.family.tasks c.args.self.now.wait c.args.order.now c.loop-place.place index
    c.loop-place.marks.items c.is_awaited.result here (c.requires.within c.loop-place.place index here)
    c.loop-place.invariant c.is_awaited.ensures

pub returns : goal.returns
returns c =
    let run = c.args.self.now.teams.run in
    marked_all run.records run.family c.args.self.now.wait c.args.order.now c.loop-place.place
    c.loop-place.marks.items c.requires c.loop-place-test.false c.loop-place.invariant
