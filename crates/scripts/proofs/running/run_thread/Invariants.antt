use Rattle.std.specs.Prelude.{◌≡◌}
use Rattle.scripts.specs.Parts.{fixed_of}
use Rattle.scripts.proofs.RunLemmas.{IsAfter}
use Rattle.scripts.proofs.running.run_thread.Given as goal

-- the recorder has recorded the steps so far
abbrev pub invariant-loop-index : goal.invariant-loop-index
invariant-loop-index g l = record {
  thread : l.recorder.thread ≡ l.thread;
  ledger : l.recorder.ledger ≡ g.C.Context.ledger;
  fixed : fixed_of l.recorder ≡ fixed_of l.initial.recorder;
  run : IsAfter g.C.Context.script g.C.Context.seats l.thread l.index l.recorder;
}
