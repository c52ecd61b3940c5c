use Rattle.std.proofs.Common.{ℕ}
use Rattle.checker.specs.Counter.{IsBelow, AreAllBefore}
use Rattle.checker.proofs.BeforeLemmas.{HavePassed}
use Rattle.checker.proofs.before.raise_to_all_awaited.Given as goal

-- of the last records of the order those that are below have what they await below
abbrev pub invariant-loop-step : goal.invariant-loop-step
invariant-loop-step l =
    let rs = l.ordered.ledger.run.records in
    record {
      kept : (a : ℕ) → IsBelow rs l.initial.bounds a → IsBelow rs l.bounds a;
      before : (i : ℕ) → AreAllBefore rs i l.initial.bounds → AreAllBefore rs i l.bounds;
      passed : HavePassed rs l.ordered.order l.step l.bounds;
    }
