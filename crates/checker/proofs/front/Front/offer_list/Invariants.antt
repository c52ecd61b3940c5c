use Rattle.std.proofs.Common.{◌≡◌, ◌<◌, ◌-◌, ℕ, Option, Some, length}
use Rattle.std.specs.Prelude.{Contains}
use Rattle.checker.specs.Lists.{AreLists}
use Rattle.checker.specs.Merge.{MayStandNext, AreMore}
use Rattle.checker.proofs.front.Front.offer_list.Given as goal

-- the places of the list before this one are offered
abbrev pub invariant-list : goal.invariant-list
invariant-list l = record {
  more : AreMore l.self.run.now.records l.self.placed.now l.initial.ready l.ready;
  offered : (of : ℕ → Option ℕ)
      → AreLists of (length l.self.run.now.records) 0 l.lists.firsts.items l.lists.nexts.items
      → ((i : ℕ) → i < l.place → of i ≡ Some l.key → MayStandNext l.self.run.now.records l.self.placed.now i
      → Contains l.ready i)
      × (l.place < length l.self.run.now.records → of l.place ≡ Some l.key);
}

abbrev pub decreases-list : goal.decreases-list
decreases-list l = length l.self.run.now.records - l.place
