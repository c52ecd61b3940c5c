use Rattle.std.proofs.Common.{ℕ, ◌≡◌, ◌≤◌, ◌+◌, ◌-◌, length, Some}
use Rattle.std.specs.Prelude.{slice_get}
use Rattle.wait_coverage.proofs.meetings.raise.Given as goal

-- the limits stay as they are, and those behind them are 0
abbrev pub invariant-room : goal.invariant-room
invariant-room l = record {
  kept : (k old : ℕ) → slice_get l.initial.limits.items k ≡ Some old → slice_get l.limits.items k ≡ Some old;
  least : (k new m : ℕ) → slice_get l.limits.items k ≡ Some new
      → ((old : ℕ) → slice_get l.initial.limits.items k ≡ Some old → old ≤ m)
      → new ≤ m;
}

abbrev pub decreases-room : goal.decreases-room
decreases-room l = l.number + 1 - length l.limits.items
