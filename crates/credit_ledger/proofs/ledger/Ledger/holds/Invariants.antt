use Rattle.std.proofs.Common.{◌≤◌, ◌<◌, ℕ, take}
use Rattle.credit_ledger.specs.Entries.{IsChildHeld}
use Rattle.credit_ledger.proofs.ledger.Ledger.holds.Given as goal

abbrev pub invariant-children : goal.invariant-children
invariant-children l =
    (n : ℕ) → l.span.from ≤ n → n < l.number
    → IsChildHeld (take l.upto l.self) l.span.root l.span.path n l.cover
