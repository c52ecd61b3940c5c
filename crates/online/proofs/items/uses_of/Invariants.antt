use Rattle.std.proofs.Common.{take}
use Rattle.online.specs.Items.{AreUses}
use Rattle.online.proofs.items.uses_of.Given as goal

abbrev pub invariant-loop-item : goal.invariant-loop-item
invariant-loop-item l = AreUses l.uses.items (take l.item-index l.list)
