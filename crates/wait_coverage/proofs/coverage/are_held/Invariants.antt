use Rattle.std.proofs.Common.{ℕ, ◌≡◌, ◌<◌, Some}
use Rattle.std.specs.Prelude.{slice_get, take}
use Rattle.credit_ledger.specs.declared.entry.Span.{Span}
use Rattle.credit_ledger.specs.Entries.{IsSpanHeld}
use Rattle.wait_coverage.proofs.coverage.are_held.Given as goal

-- the spans so far are held
abbrev pub invariant-loop-index : goal.invariant-loop-index
invariant-loop-index l =
    (k : ℕ) (span : Span) → k < l.index → slice_get l.spans k ≡ Some span
    → IsSpanHeld (take l.seen l.ledger) span l.cover
