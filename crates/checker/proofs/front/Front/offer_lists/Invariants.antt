use Rattle.std.proofs.Common.{◌≡◌, ◌<◌, ◌≤◌, ℕ, Option, Some, length}
use Rattle.std.specs.Prelude.{Contains}
use Rattle.checker.specs.Lists.{AreLists}
use Rattle.checker.specs.Merge.{MayStandNext, AreMore}
use Rattle.checker.proofs.front.Front.offer_lists.Given as goal

-- the lists so far are offered
abbrev pub invariant-loop-key : goal.invariant-loop-key
invariant-loop-key l = record {
  more : AreMore l.self.run.now.records l.self.placed.now l.initial.ready l.ready;
  offered : (of : ℕ → Option ℕ)
      → AreLists of (length l.self.run.now.records) 0 l.lists.firsts.items l.lists.nexts.items
      → (i k : ℕ) → l.from ≤ k → k < l.key → of i ≡ Some k
      → MayStandNext l.self.run.now.records l.self.placed.now i → Contains l.ready i;
}
