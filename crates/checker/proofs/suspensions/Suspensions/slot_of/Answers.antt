use Rattle.std.proofs.Common.{◌≡◌, ◌∙◌, ◌<◌, length, arith, rules}
use Rattle.std.proofs.lemmas.List.{get_or_default}
use Rattle.std.specs.Prelude.{slice_index}
use Rattle.checker.proofs.SuspensionLemmas.{has_row}
use Rattle.checker.proofs.suspensions.Suspensions.slot_of.Goals as goal

pub index-requires : goal.index-requires
index-requires c =
    let row = has_row c.args.self.now.rows.items c.args.begin.index c.args.begin.turn c.requires.has in
    let inside : c.args.begin.index < length c.args.self.now.rows.items = omega (arith, row) in
    search (rules, inside)

pub overflow_add-result : goal.overflow_add-result
overflow_add-result c =
    let row = has_row c.args.self.now.rows.items c.args.begin.index c.args.begin.turn c.requires.has in
    let read : c.index.result.now ≡ slice_index c.args.self.now.rows.items c.args.begin.index =
    c.index.ensures
    ∙ get_or_default c.args.self.now.rows.items c.args.begin.index c.index.result.now 0
    (omega (arith, row)) in
    let low = c.requires.within in
    let count = c.len-count.ensures in
    let fits = c.len-count.type_inv in
    search (rules, read, low, count, fits)

pub returns : goal.returns
returns c =
    let row = has_row c.args.self.now.rows.items c.args.begin.index c.args.begin.turn c.requires.has in
    let read : c.index.result.now ≡ slice_index c.args.self.now.rows.items c.args.begin.index =
    c.index.ensures
    ∙ get_or_default c.args.self.now.rows.items c.args.begin.index c.index.result.now 0
    (omega (arith, row)) in
    omega (arith, read)
