use Rattle.std.proofs.Common.{[], ◌∷◌, ◌<◌, length, refl, ap, subst, arith}
use Rattle.std.proofs.lemmas.Result.{err_from_is_err_and}
use Rattle.ompt_events.specs.declared.cause.Cause.TheVariants.{EntryTwice, LengthAhead, LengthBack, NoOrder}
use Rattle.ompt_events.specs.CauseNames.{before}
use Rattle.ompt_events.specs.Causes.{IsFreeOf}
use Rattle.checker.specs.Entries.{IsLedger}
use Rattle.checker.specs.Search.{IsClear}
use Rattle.checker.proofs.PhaseLemmas.{beyond, fault_shown, least_more, clear_more, one_clear, only_clear}
use Rattle.checker.proofs.AwaitsOneLemmas.{sound_awaits_one}
use Rattle.checker.proofs.MergingLemmas.{greedy_alone}
use Rattle.checker.proofs.phases.order_by_merge.Goals as goal

pub returns-in_err-makers-clause-least : goal.returns-in_err-makers-clause-least
returns-in_err-makers-clause-least c =
    let rs = c.args.sound.now.run.records in
    let p = err_from_is_err_and c.from_residual.result c.from_residual.ensures.1 in
    rw (p.1, p.2)
    (least_more rs (before EntryTwice) (EntryTwice ∷ LengthAhead ∷ []) (beyond LengthAhead)
    c.in_err-makers.field-0.0 refl c.run-run.ensures.is_sound.sound.clear
    (fault_shown rs (EntryTwice ∷ LengthAhead ∷ []) c.in_err-makers.field-0.0 refl
    (rw c.run-run.ensures.value at c.in_err-makers.ensures.fault)))

pub in_run-requires : goal.in_run-requires
in_run-requires c =
    rw c.run-run.ensures.value (sound_awaits_one c.args.sound.now.run c.run-run.ensures.is_sound.sound)

pub returns-in_err-exclude-clause-least : goal.returns-in_err-exclude-clause-least
returns-in_err-exclude-clause-least c =
    let rs = c.args.sound.now.run.records in
    let ledger : IsLedger c.in_ok-makers.makers = subst IsLedger c.makers.view_is c.makers.invariant in
    let once : IsFreeOf rs EntryTwice =
    rw (c.in_ok-makers.ensures.run, c.run-run.ensures.value) at ledger.once in
    let reached : IsFreeOf rs LengthAhead =
    rw (c.in_ok-makers.ensures.run, c.run-run.ensures.value) at ledger.reached in
    let clear : IsClear rs (before LengthBack) =
    clear_more rs (before EntryTwice) (EntryTwice ∷ LengthAhead ∷ [])
    c.run-run.ensures.is_sound.sound.clear
    (one_clear rs EntryTwice (LengthAhead ∷ []) once (only_clear rs LengthAhead reached)) in
    let p =
    err_from_is_err_and c.from_residual-in_err-exclude.result c.from_residual-in_err-exclude.ensures.1 in
    rw (p.1, p.2)
    (least_more rs (before LengthBack) (LengthBack ∷ []) (beyond LengthBack) c.in_err-exclude.field-0.0
    refl clear
    (fault_shown rs (LengthBack ∷ []) c.in_err-exclude.field-0.0 refl
    (c.in_err-exclude.ensures.fault rs
    (rw (c.in_ok-makers.ensures.run, c.run-run.ensures.value) at c.find_back.ensures))))

pub find_order-requires : goal.find_order-requires
find_order-requires c =
    λ k below.
    absurd
    (let below : k < length c.in_ok-none.none.items = below in
    let none = ap length c.in_ok-none.ensures.items in omega (arith, below, none))

pub returns-clause-greedy : goal.returns-clause-greedy
returns-clause-greedy c =
    rw (c.from_vec.ensures)
    (greedy_alone c.args.sound.now.run.records c.in_ok-find_order.field-0.items
    (rw (c.in_ok-makers.ensures.run, c.run-run.ensures.value, c.in_ok-none.ensures.items)
    at c.in_ok-find_order.ensures.greedy))

pub returns-in_err-find_order-clause-least : goal.returns-in_err-find_order-clause-least
returns-in_err-find_order-clause-least c =
    let rs = c.args.sound.now.run.records in
    let ledger : IsLedger c.in_ok-makers.makers = subst IsLedger c.makers.view_is c.makers.invariant in
    let once : IsFreeOf rs EntryTwice =
    rw (c.in_ok-makers.ensures.run, c.run-run.ensures.value) at ledger.once in
    let reached : IsFreeOf rs LengthAhead =
    rw (c.in_ok-makers.ensures.run, c.run-run.ensures.value) at ledger.reached in
    let rise : IsFreeOf rs LengthBack =
    c.in_ok-exclude.ensures.free rs
    (rw (c.in_ok-makers.ensures.run, c.run-run.ensures.value) at c.find_back.ensures) in
    let clear : IsClear rs (before NoOrder) =
    clear_more rs (before EntryTwice) (EntryTwice ∷ LengthAhead ∷ LengthBack ∷ [])
    c.run-run.ensures.is_sound.sound.clear
    (one_clear rs EntryTwice (LengthAhead ∷ LengthBack ∷ []) once
    (one_clear rs LengthAhead (LengthBack ∷ []) reached (only_clear rs LengthBack rise))) in
    let p =
    err_from_is_err_and c.from_residual-in_err-find_order.result
    c.from_residual-in_err-find_order.ensures.1 in
    rw (p.1, p.2)
    (least_more rs (before NoOrder) (NoOrder ∷ []) (beyond NoOrder) c.in_err-find_order.field-0.0 refl
    clear
    (fault_shown rs (NoOrder ∷ []) c.in_err-find_order.field-0.0 refl
    (rw (c.in_ok-makers.ensures.run, c.run-run.ensures.value)
    at c.in_err-find_order.ensures.fault)))

pub returns-clause-clear : goal.returns-clause-clear
returns-clause-clear c =
    let rs = c.args.sound.now.run.records in
    let ledger : IsLedger c.in_ok-makers.makers = subst IsLedger c.makers.view_is c.makers.invariant in
    let once : IsFreeOf rs EntryTwice =
    rw (c.in_ok-makers.ensures.run, c.run-run.ensures.value) at ledger.once in
    let reached : IsFreeOf rs LengthAhead =
    rw (c.in_ok-makers.ensures.run, c.run-run.ensures.value) at ledger.reached in
    let rise : IsFreeOf rs LengthBack =
    c.in_ok-exclude.ensures.free rs
    (rw (c.in_ok-makers.ensures.run, c.run-run.ensures.value) at c.find_back.ensures) in
    let orders : IsFreeOf rs NoOrder =
    rw (c.in_ok-makers.ensures.run, c.run-run.ensures.value) at c.in_ok-find_order.ensures.free in
    clear_more rs (before EntryTwice) (EntryTwice ∷ LengthAhead ∷ LengthBack ∷ NoOrder ∷ [])
    c.run-run.ensures.is_sound.sound.clear
    (one_clear rs EntryTwice (LengthAhead ∷ LengthBack ∷ NoOrder ∷ []) once
    (one_clear rs LengthAhead (LengthBack ∷ NoOrder ∷ []) reached
    (one_clear rs LengthBack (NoOrder ∷ []) rise (only_clear rs NoOrder orders))))
