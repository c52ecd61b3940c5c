use Rattle.std.proofs.Common.{◌≡◌, ℕ, ◌<◌, get_or, length}
use Rattle.ompt_events.specs.Causes.{HasSeqGap}
use Rattle.task_states.proofs.NumberingLemmas.{thread_records_before}
use Rattle.task_states.proofs.numbering.gap_in.Given as goal

-- the records of each thread are counted, and none so far has another number
abbrev pub invariant-loop-at : goal.invariant-loop-at
invariant-loop-at l = record {
  threads : length l.counts ≡ 256;
  counted : (t : ℕ) → t < 256 → get_or l.counts t 0 ≡ thread_records_before l.trace.records l.at t;
  free : (k : ℕ) → k < l.at → HasSeqGap l.trace.records k → ⊥;
}
