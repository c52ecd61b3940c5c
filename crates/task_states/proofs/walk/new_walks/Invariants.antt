use Rattle.std.proofs.Common.{◌≡◌}
use Rattle.std.specs.Prelude.{replicate}
use Rattle.ompt_events.specs.Threads.{at_start}
use Rattle.task_states.proofs.walk.new_walks.Given as goal

abbrev pub invariant-loop-thread : goal.invariant-loop-thread
invariant-loop-thread l = l.walks.items ≡ replicate l._thread at_start
