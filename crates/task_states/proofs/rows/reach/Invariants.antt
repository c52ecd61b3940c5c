use Rattle.std.proofs.Common.{ℕ, ◌<◌, ◌≤◌, ◌+◌, ◌-◌, length}
use Rattle.task_states.specs.Rows.{AreSameRows}
use Rattle.task_states.proofs.rows.reach.Given as goal

-- the rows stay as they are, and no more are made than asked for
abbrev pub invariant-room : goal.invariant-room
invariant-room g l = record {
  same : AreSameRows l.initial.rows.items l.rows.items;
  few : (most : ℕ) → length l.initial.rows.items ≤ most → l.index < most → length l.rows.items ≤ most;
}

abbrev pub decreases-room : goal.decreases-room
decreases-room g l = l.index + 1 - length l.rows.items
