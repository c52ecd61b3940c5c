use Rattle.std.proofs.Common.{◌≡◌, ℕ, ◌<◌, get_or, length}
use Rattle.ompt_events.specs.Causes.{HasSeqGap}
use Rattle.ompt_events.specs.Shown.{AreAllBelow}
use Rattle.task_states.proofs.NumberingLemmas.{thread_records_before}
use Rattle.task_states.proofs.numbering.gaps_in.Given as goal

-- the records of each thread are counted, and it is known which so far have another number
abbrev pub invariant-loop-at : goal.invariant-loop-at
invariant-loop-at l = record {
  threads : length l.counts ≡ 256;
  counted : (t : ℕ) → t < 256 → get_or l.counts t 0 ≡ thread_records_before l.trace.records l.at t;
  places : AreAllBelow (HasSeqGap l.trace.records) l.at l.shown;
}
