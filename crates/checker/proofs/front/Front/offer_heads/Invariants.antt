use Rattle.std.proofs.Common.{◌<◌, ℕ}
use Rattle.std.specs.Prelude.{Contains, slice_index}
use Rattle.checker.specs.Merge.{MayStandNext, AreMore}
use Rattle.checker.proofs.front.Front.offer_heads.Given as goal

-- the heads so far are offered
abbrev pub invariant-loop-head : goal.invariant-loop-head
invariant-loop-head l = record {
  more : AreMore l.self.run.now.records l.self.placed.now l.initial.ready l.ready;
  offered : (t : ℕ) → t < l.head-index
      → MayStandNext l.self.run.now.records l.self.placed.now (slice_index l.self.heads.now t)
      → Contains l.ready (slice_index l.self.heads.now t);
}
