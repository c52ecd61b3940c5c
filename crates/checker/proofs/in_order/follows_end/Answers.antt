use Rattle.std.proofs.Common.{◌≡◌, ◌∙◌, Some, get_or, sym}
use Rattle.std.proofs.lemmas.Bool.{false≢true}
use Rattle.std.proofs.lemmas.Option.{slice_get-get_or}
use Rattle.std.specs.Prelude.{slice_get}
use Rattle.checker.specs.declared.in_order.Suspension.{Suspension}
use Rattle.checker.proofs.InOrderLemmas.{end_follows, root_follows}
use Rattle.checker.proofs.in_order.follows_end.Goals as goal

pub returns : goal.returns
returns c = λ yes.
    let index = c.args.begin.index in
    let inside = c.if-begin-lasts.false in
    let last : Suspension = get_or c.args.lasts.now index (record { turn = 0; place = 0 }) in
    let kept : slice_get c.args.lasts.now index ≡ Some last =
    slice_get-get_or c.args.lasts.now index (record { turn = 0; place = 0 }) inside in
    end_follows c.args.run.now.records c.args.run.now.family.tasks c.args.lasts.now c.args.at index
    c.args.begin.turn last c.requires.facts c.requires.lasts c.requires.begins c.requires.later kept
    (c.ended_before.ensures.turn yes) (c.ended_before.ensures.before yes) c.requires.within
    (c.ended_before.ensures.seen yes)

pub returns-then-not-is_explicit : goal.returns-then-not-is_explicit
returns-then-not-is_explicit c = λ _.
    root_follows c.args.run.now.records c.args.run.now.family.tasks c.args.at c.args.begin.index
    c.args.begin.turn c.requires.facts c.requires.begins c.requires.later
    (λ explicit.
    false≢true
    (sym c.if-not-is_explicit.true
    ∙ (c.is_explicit.ensures c.requires.begins.task c.requires.begins.indexed).1 explicit))
