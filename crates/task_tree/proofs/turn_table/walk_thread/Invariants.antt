use Rattle.std.proofs.Common.{◌≡◌, ◌<◌, ◌≤◌, ◌-◌, Some, length}
use Rattle.ompt_events.specs.Places.{thread_at}
use Rattle.task_tree.specs.TurnTable.{IsTableAt}
use Rattle.task_tree.proofs.turn_table.walk_thread.Given as goal

-- the records of the thread before the next one are gone over
abbrev pub invariant-chain : goal.invariant-chain
invariant-chain l = record {
  within : l.at ≤ length l.trace.records;
  is : l.at < length l.trace.records → thread_at l.trace.records l.at ≡ Some l.thread;
  walk : IsTableAt l.trace.records l.family.tasks l.thread l.at l.walk;
}

abbrev pub decreases-chain : goal.decreases-chain
decreases-chain l = length l.trace.records - l.at
