use Rattle.std.proofs.Common.{◌≡◌, ◌∷◌, [], ◌++◌, arith, refl, rules}
use Rattle.std.proofs.lemmas.Result.{err_from_is_err_and}
use Rattle.std.specs.Prelude.{filter}
use Rattle.ompt_events.specs.declared.cause.Cause.TheVariants.{NoOrder}
use Rattle.checker.specs.Counter.{is_below}
use Rattle.checker.proofs.PhaseLemmas.{fault_shown, memory_alone, only_clear}
use Rattle.checker.proofs.CounterLemmas.{base_in_turn, earliest_behind}
use Rattle.checker.proofs.earliest.earliest_order.Goals as goal

pub find_order-requires : goal.find_order-requires
find_order-requires c =
    let is = c.makers-makers.ensures.is_ordered in
    let base : c.push.new.self.items
    ≡ filter (is_below c.args.ordered.now.ledger.run.records c.in_ok-bounds.bounds.items)
    c.args.ordered.now.order
    ++ c.args.at ∷ [] =
    rw (c.in_ok-base.ensures, c.as_slice.ensures.value) at c.in_ok-push.ensures.items in
    rw (c.makers-makers.ensures.value, base)
    (base_in_turn c.args.ordered.now.ledger.run.records c.args.ordered.now.order
    c.in_ok-bounds.bounds.items c.args.at is.linearization is.greedy c.in_ok-bounds.ensures
    c.requires)

pub returns-clause-earliest : goal.returns-clause-earliest
returns-clause-earliest c =
    let is = c.makers-makers.ensures.is_ordered in
    let base : c.push.new.self.items
    ≡ filter (is_below c.args.ordered.now.ledger.run.records c.in_ok-bounds.bounds.items)
    c.args.ordered.now.order
    ++ c.args.at ∷ [] =
    rw (c.in_ok-base.ensures, c.as_slice.ensures.value) at c.in_ok-push.ensures.items in
    rw c.from_vec.ensures
    (earliest_behind c.args.ordered.now.ledger.run.records c.args.ordered.now.order
    c.in_ok-bounds.bounds.items c.in_ok-find_order.field-0.items c.args.at is.linearization is.greedy
    c.in_ok-bounds.ensures
    (rw (c.makers-makers.ensures.value, base) at c.in_ok-find_order.ensures.greedy))

pub returns-in_err-find_order-clause-memory_alone : goal.returns-in_err-find_order-clause-memory_alone
returns-in_err-find_order-clause-memory_alone c =
    let rs = c.args.ordered.now.ledger.run.records in
    let p =
    err_from_is_err_and c.from_residual-in_err-find_order.result
    c.from_residual-in_err-find_order.ensures.1 in
    rw (p.1, p.2)
    (memory_alone rs (NoOrder ∷ []) c.in_err-find_order.field-0.0
    (only_clear rs NoOrder
    (c.makers-makers.ensures.is_ordered.well_formed NoOrder (16, omega arith, refl)))
    (fault_shown rs (NoOrder ∷ []) c.in_err-find_order.field-0.0 refl
    (rw c.makers-makers.ensures.value at c.in_err-find_order.ensures.fault)))

pub overflow_cast-at : goal.overflow_cast-at
overflow_cast-at c =
    let below = c.requires in
    let few = c.makers-makers.ensures.is_ordered.ledger.run.trace.few_records in
    search (rules, below, few)
