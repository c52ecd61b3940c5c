use Rattle.std.proofs.Common.{◌≡◌, length}
use Rattle.scripts.specs.Parts.{AreUses, AreLastUses, AreNumbered}
use Rattle.scripts.proofs.uses.uses_of.Given as goal

-- the uses by the steps so far, and the last ones
abbrev pub invariant-loop-at : goal.invariant-loop-at
invariant-loop-at l = record {
  uses : AreUses l.steps l.at l.uses.items;
  numbered : AreNumbered l.steps l.tasks l.uses.items;
  long : length l.uses.items ≡ l.at;
  last : AreLastUses l.steps l.at l.tasks l.since.items;
  as_many : length l.since.items ≡ length l.tasks;
}
