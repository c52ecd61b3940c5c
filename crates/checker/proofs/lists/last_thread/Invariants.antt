use Rattle.std.proofs.Common.{◌≡◌, ◌<◌, ◌≤◌, ℕ, Some}
use Rattle.ompt_events.specs.Places.{thread_at}
use Rattle.checker.proofs.lists.last_thread.Given as goal

-- no thread so far has a greater number
abbrev pub invariant-loop-at : goal.invariant-loop-at
invariant-loop-at l = (i thread : ℕ) → i < l.at → thread_at l.run.records i ≡ Some thread → thread ≤ l.last
