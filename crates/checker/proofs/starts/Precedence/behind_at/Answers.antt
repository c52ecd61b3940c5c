use Rattle.std.proofs.Common.{◌≡◌, ◌∙◌, Some, sym, arith}
use Rattle.std.proofs.lemmas.Option.{slice_get_within}
use Rattle.std.specs.Prelude.{slice_get}
use Rattle.ompt_events.specs.Records.{created}
use Rattle.ompt_events.specs.Places.{at}
use Rattle.ompt_events.proofs.PlaceLemmas.{at_within}
use Rattle.task_tree.proofs.OwnRunLemmas.{own_says}
use Rattle.checker.proofs.StartLemmas.{done_from}
use Rattle.checker.proofs.starts.Precedence.behind_at.Goals as goal

pub offset_bounds-self-inside-index : goal.offset_bounds-self-inside-index
offset_bounds-self-inside-index c =
    let run = c.self.inside.own.now.run in
    let there : slice_get run.family.tasks c.in_ok-index.index ≡ Some c.args.task =
    rw c.run-run.ensures.value at ((c.index_of.ensures c.in_ok-index.index).0 c.in_ok-index.was) in
    let inside = slice_get_within run.family.tasks c.in_ok-index.index c.args.task there in
    let all = c.self.invariant.lengths.all in
    let fits = c.self.told.1 in
    omega (arith, inside, all, fits)

pub bounds-self-inside-index : goal.bounds-self-inside-index
bounds-self-inside-index c =
    let run = c.self.inside.own.now.run in
    let there : slice_get run.family.tasks c.in_ok-index.index ≡ Some c.args.task =
    rw c.run-run.ensures.value at ((c.index_of.ensures c.in_ok-index.index).0 c.in_ok-index.was) in
    let inside = slice_get_within run.family.tasks c.in_ok-index.index c.args.task there in
    let all = c.self.invariant.lengths.all in
    omega (arith, inside, all)

pub returns-then-self-index : goal.returns-then-self-index
returns-then-self-index c =
    let run = c.self.inside.own.now.run in
    let there : slice_get run.family.tasks c.in_ok-index.index ≡ Some c.args.task =
    rw c.run-run.ensures.value at ((c.index_of.ensures c.in_ok-index.index).0 c.in_ok-index.was) in
    let from =
    done_from run.records run.family.tasks c.self.inside.lengths.now c.in_ok-index.index c.args.task
    c.self.invariant.lengths there c.args.bound c.ranges.bound.fits in
    rw (← c.self.view_is) (λ index is explicit. from.0 (rw c.from.ensures at c.if-self-index.true))

pub place-requires : goal.place-requires
place-requires c =
    let run = c.self.inside.own.now.run in
    let there : slice_get run.family.tasks c.in_ok-index.index ≡ Some c.args.task =
    rw c.run-run.ensures.value at ((c.index_of.ensures c.in_ok-index.index).0 c.in_ok-index.was) in
    let creates : at created run.records c.in_ok-number.number ≡ Some c.args.task =
    ((rw c.run-run.ensures.value at c.created_at.ensures) c.args.task c.in_ok-number.number there).0
    c.in_ok-number.was in
    at_within created run.records c.in_ok-number.number c.args.task creates

pub returns : goal.returns
returns c =
    let run = c.self.inside.own.now.run in
    let known = c.self.invariant in
    let there : slice_get run.family.tasks c.in_ok-index.index ≡ Some c.args.task =
    rw c.run-run.ensures.value at ((c.index_of.ensures c.in_ok-index.index).0 c.in_ok-index.was) in
    let creates : at created run.records c.in_ok-number.number ≡ Some c.args.task =
    ((rw c.run-run.ensures.value at c.created_at.ensures) c.args.task c.in_ok-number.number there).0
    c.in_ok-number.was in
    let from =
    done_from run.records run.family.tasks c.self.inside.lengths.now c.in_ok-index.index c.args.task
    known.lengths there c.args.bound c.ranges.bound.fits in
    let late = rw c.from.ensures at c.if-self-index.false in
    let placed =
    own_says created c.self.inside.file.now.records c.self.inside.own.now known.of_file
    c.in_ok-number.number c.place.result c.place.ensures.value in
    rw (← c.self.view_is)
    (λ index is explicit.
    (λ done. let low = from.1 done in omega (arith, low, late), sym placed ∙ creates))
