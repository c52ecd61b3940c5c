use Rattle.std.proofs.Common.{ℕ, ◌≡◌, Some, []}
use Rattle.std.specs.Prelude.{slice_get}
use Rattle.online.specs.declared.thread.Thread.{Thread}
use Rattle.online.specs.ThreadStates.{IsThreadOf}
use Rattle.online.proofs.replay.Replay.new.Given as goal

-- each thread so far has no records
abbrev pub invariant-loop-thread : goal.invariant-loop-thread
invariant-loop-thread l = record {
  of : (thread : ℕ) (t : Thread) → slice_get l.threads.items thread ≡ Some t → IsThreadOf [] t;
  nests : (thread : ℕ) (t : Thread) → slice_get l.threads.items thread ≡ Some t → t.state.nests ≡ l.nests;
}
