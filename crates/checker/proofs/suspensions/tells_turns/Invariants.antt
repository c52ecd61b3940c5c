use Rattle.std.proofs.Common.{ℕ, ◌≡◌, ◌<◌, None}
use Rattle.ompt_events.specs.Records.{begun_turn}
use Rattle.ompt_events.specs.Places.{at as says_at}
use Rattle.checker.proofs.suspensions.tells_turns.Given as goal

-- no record so far starts a task
abbrev pub invariant-loop-at : goal.invariant-loop-at
invariant-loop-at l = (k : ℕ) → k < l.at → says_at begun_turn l.run.records k ≡ None
