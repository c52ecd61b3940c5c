use Rattle.std.proofs.Common.{ℕ, ◌<◌, [], ◌∷◌}
use Rattle.ompt_events.specs.declared.cause.Cause.TheVariants.{EntryTwice, LengthAhead, LengthBack, NoOrder}
use Rattle.ompt_events.specs.CauseNames.{before}
use Rattle.ompt_events.specs.HappensBefore.{IsStep}
use Rattle.checker.proofs.AwaitsOneLemmas.{sound_awaits_one}
use Rattle.checker.proofs.PhaseLemmas.{clear_more, one_clear, only_clear}
use Rattle.ompt_events.proofs.FileOrderLemmas.{file_linear, file_greedy}
use Rattle.checker.proofs.VerdictLemmas.{file_orders}
use Rattle.checker.proofs.phases.order_of.Goals as goal

pub is_in_order-requires : goal.is_in_order-requires
is_in_order-requires c =
    rw c.run-run.ensures.value (sound_awaits_one c.args.sound.now.run c.run-run.ensures.is_sound.sound)

pub returns-then-branch-clause-linearization : goal.returns-then-branch-clause-linearization
returns-then-branch-clause-linearization c =
    let rs = c.args.sound.now.run.records in
    let steps : (a b : ℕ) → IsStep rs a b → a < b =
    rw c.run-run.ensures.value at (c.in_ok-is_in_order.ensures.steps c.if-branch.true) in
    rw (c.in_file.ensures, c.len.ensures.value, c.run-run.ensures.value) (file_linear rs steps)

pub returns-then-branch-clause-greedy : goal.returns-then-branch-clause-greedy
returns-then-branch-clause-greedy c =
    let rs = c.args.sound.now.run.records in
    let steps : (a b : ℕ) → IsStep rs a b → a < b =
    rw c.run-run.ensures.value at (c.in_ok-is_in_order.ensures.steps c.if-branch.true) in
    rw (c.in_file.ensures, c.len.ensures.value, c.run-run.ensures.value) (file_greedy rs steps)

pub returns-then-branch-clause-clear : goal.returns-then-branch-clause-clear
returns-then-branch-clause-clear c =
    let rs = c.args.sound.now.run.records in
    let steps : (a b : ℕ) → IsStep rs a b → a < b =
    rw c.run-run.ensures.value at (c.in_ok-is_in_order.ensures.steps c.if-branch.true) in
    let once = rw c.run-run.ensures.value at (c.in_ok-is_in_order.ensures.once c.if-branch.true) in
    let reached = rw c.run-run.ensures.value at (c.in_ok-is_in_order.ensures.reached c.if-branch.true) in
    let rise = rw c.run-run.ensures.value at (c.in_ok-is_in_order.ensures.rise c.if-branch.true) in
    clear_more rs (before EntryTwice) (EntryTwice ∷ LengthAhead ∷ LengthBack ∷ NoOrder ∷ [])
    c.run-run.ensures.is_sound.sound.clear
    (one_clear rs EntryTwice (LengthAhead ∷ LengthBack ∷ NoOrder ∷ []) once
    (one_clear rs LengthAhead (LengthBack ∷ NoOrder ∷ []) reached
    (one_clear rs LengthBack (NoOrder ∷ []) rise (only_clear rs NoOrder (file_orders rs steps)))))
