use Rattle.std.proofs.Common.{◌≡◌, ◌∙◌, ◌<◌, length, arith}
use Rattle.std.proofs.lemmas.List.{get_or_default}
use Rattle.std.proofs.lemmas.Option.{slice_get_within}
use Rattle.std.specs.Prelude.{slice_index}
use Rattle.checker.proofs.SuspensionLemmas.{lengths_more, lengths_other}
use Rattle.checker.proofs.suspensions.note_begin.Goals as goal

pub returns-in-Some-clause-more : goal.returns-in-Some-clause-more
returns-in-Some-clause-more c =
    let begins = c.in-Some.ensures in
    let tasks = c.args.run.now.family.tasks in
    let all = c.requires.all in
    let within = slice_get_within tasks c.in-Some.begin.index begins.task begins.indexed in
    let inside : c.in-Some.begin.index < length c.args.lengths.now.items = omega (arith, within, all) in
    let read : c.index.result.now ≡ slice_index c.args.lengths.now.items c.in-Some.begin.index =
    c.index.ensures
    ∙ get_or_default c.args.lengths.now.items c.in-Some.begin.index c.index.result.now 0 inside in
    let is = c.max.ensures in
    let from = c.from.ensures in
    lengths_more c.args.run.now.records c.args.at c.in-Some.begin.index c.in-Some.begin.turn c.max.result
    tasks c.args.lengths.now.items c.requires.is_run.family.makers.apart begins inside
    (omega (arith, read, is)) (omega (arith, is, from)) c.requires.before

pub returns-in_default-clause-more : goal.returns-in_default-clause-more
returns-in_default-clause-more c =
    lengths_other c.args.run.now.records c.args.at c.args.run.now.family.tasks c.args.lengths.now.items
    c.in_default.ensures c.requires.before
