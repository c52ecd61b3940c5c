use Rattle.std.proofs.Common.{◌≡◌, ◌<◌, ◌∙◌, None, true, false, length, sym, ap, arith, rules, get_or}
use Rattle.std.specs.Prelude.{is_some}
use Rattle.std.proofs.lemmas.Option.{slice_get_within}
use Rattle.std.proofs.lemmas.List.{get_or_default}
use Rattle.task_tree.proofs.RootLemmas.{reach_none, reach_known, reach_new}
use Rattle.task_tree.proofs.roots.reach.Goals as goal

pub returns-in_default : goal.returns-in_default
returns-in_default c =
    reach_none c.args.tasks.now c.args.task c.args.standing c.args.roots.now.items c.args.order.now.items
    (rw c.in_default.is at c.index_near.ensures)

pub index-requires : goal.index-requires
index-requires c =
    let within =
    slice_get_within c.args.tasks.now c.in-Some.index c.args.task
    ((c.index_near.ensures c.in-Some.index).0 c.in-Some.is) in
    search rules

pub returns-then-is_some : goal.returns-then-is_some
returns-then-is_some c =
    let roots = c.args.roots.now.items in
    let k = c.in-Some.index in
    let inside = slice_get_within c.args.tasks.now k c.args.task ((c.index_near.ensures k).0 c.in-Some.is) in
    let within : k < length roots = omega (arith, inside, c.requires) in
    let has : is_some (get_or roots k None) ≡ true =
    ap is_some
    (get_or_default roots k None c.index.result.now within ∙ sym c.index.ensures ∙ sym c.get.ensures)
    ∙ sym c.is_some.ensures ∙ c.if-is_some.true in
    reach_known c.args.tasks.now c.args.task c.args.standing k roots c.args.order.now.items
    (rw c.in-Some.is at c.index_near.ensures) within has

pub index_mut-requires : goal.index_mut-requires
index_mut-requires c =
    let within =
    slice_get_within c.args.tasks.now c.in-Some.index c.args.task
    ((c.index_near.ensures c.in-Some.index).0 c.in-Some.is) in
    search rules

pub returns : goal.returns
returns c =
    let roots = c.args.roots.now.items in
    let k = c.in-Some.index in
    let inside = slice_get_within c.args.tasks.now k c.args.task ((c.index_near.ensures k).0 c.in-Some.is) in
    let within : k < length roots = omega (arith, inside, c.requires) in
    let none : is_some (get_or roots k None) ≡ false =
    ap is_some
    (get_or_default roots k None c.index.result.now within ∙ sym c.index.ensures ∙ sym c.get.ensures)
    ∙ sym c.is_some.ensures ∙ c.if-is_some.false in
    rw (c.in_ok-push.ensures.items, c.some.ensures)
    (reach_new c.args.tasks.now c.args.task c.args.standing k roots c.args.order.now.items
    (rw c.in-Some.is at c.index_near.ensures) within none)
