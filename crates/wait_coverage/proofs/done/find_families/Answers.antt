use Rattle.std.proofs.Common.{◌≡◌, ◌∙◌, ℕ, ◌<◌, ◌-◌, length, get_or, Some, arith, refl, sym, ap}
use Rattle.std.proofs.lemmas.Option.{slice_get-get_or}
use Rattle.task_tree.specs.Lineage.{parent_index}
use Rattle.task_tree.proofs.LineageLemmas.{parent_within}
use Rattle.wait_coverage.specs.Done.{raised}
use Rattle.wait_coverage.proofs.DoneLemmas.{raised_start, raised_step}
use Rattle.wait_coverage.proofs.done.find_families.Goals as goal

pub loop-passed-init : goal.loop-passed-init
loop-passed-init c =
    let all : length c.args.order.now - 0 ≡ length c.args.order.now = omega arith in
    rw all
    (raised_start c.args.run.now.family c.args.order.now c.args.own.now c.in_ok-families.families.items
    c.in_ok-families.ensures)

pub raise-requires-clause-within : goal.raise-requires-clause-within
raise-requires-clause-within c =
    let place = length c.args.order.now - 1 - c.loop-passed.passed in
    let less = c.loop-passed-test.true in
    let there = slice_get-get_or c.args.order.now place 0 (omega (arith, less)) in
    let inside = c.requires.order.within place (get_or c.args.order.now place 0) there in
    let one = c.loop-passed.invariant.all in
    let two = c.requires.own in
    omega (arith, inside, one, two)

pub raise-requires-clause-parent : goal.raise-requires-clause-parent
raise-requires-clause-parent c = λ up is.
    let index = get_or c.args.order.now (length c.args.order.now - 1 - c.loop-passed.passed) 0 in
    let is_here = ap (λ f. parent_index f index) (sym c.family-family.ensures.value) ∙ is in
    let inside =
    parent_within c.args.run.now.records c.args.run.now.family index up
    c.family-family.ensures.is_run.family is_here in
    let one = c.loop-passed.invariant.all in
    let two = c.requires.own in
    omega (arith, inside, one, two)

pub loop-passed-preserved : goal.loop-passed-preserved
loop-passed-preserved c =
    let within : (up : ℕ)
    → parent_index c.args.run.now.family
    (get_or c.args.order.now (length c.args.order.now - 1 - c.loop-passed.passed) 0)
    ≡ Some up
    → up < length c.loop-passed.families.items =
    λ up is.
    let inside =
    parent_within c.args.run.now.records c.args.run.now.family
    (get_or c.args.order.now (length c.args.order.now - 1 - c.loop-passed.passed) 0) up
    c.family-family.ensures.is_run.family is in
    let one = c.loop-passed.invariant.all in
    let two = c.requires.own in
    omega (arith, inside, one, two) in
    raised_step c.args.run.now.family c.args.order.now c.args.own.now c.loop-passed.families.items _
    c.loop-passed.passed _ c.requires.order c.loop-passed-test.true refl within
    (c.raise.ensures
    ∙ ap
    (λ f.
    raised f (get_or c.args.order.now (length c.args.order.now - 1 - c.loop-passed.passed) 0)
    c.loop-passed.families.items)
    c.family-family.ensures.value)
    c.loop-passed.invariant

pub returns : goal.returns
returns c =
    let none : length c.args.order.now - c.loop-passed.passed ≡ 0 = omega (arith, c.loop-passed-test.false) in
    rw none at c.loop-passed.invariant
