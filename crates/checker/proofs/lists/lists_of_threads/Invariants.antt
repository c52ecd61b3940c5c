use Rattle.std.proofs.Common.{◌≡◌, ◌<◌, ◌+◌, ℕ, Some, length}
use Rattle.ompt_events.specs.Places.{thread_at}
use Rattle.checker.specs.Lists.{AreLists, LeadsOn}
use Rattle.checker.proofs.lists.lists_of_threads.Given as goal

-- from the end on the records so far are in their lists
abbrev pub invariant-loop-step : goal.invariant-loop-step
invariant-loop-step l = record {
  keys : (i thread : ℕ) → thread_at l.run.records i ≡ Some thread → thread < length l.lists.firsts.items;
  lists : (from : ℕ) → from + l.step ≡ length l.run.records
      → AreLists (thread_at l.run.records) (length l.run.records) from l.lists.firsts.items
      l.lists.nexts.items;
  rising : LeadsOn (length l.run.records) l.lists.nexts.items;
}
