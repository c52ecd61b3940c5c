use Rattle.std.proofs.Common.{take}
use Rattle.online.specs.Groups.{group_at}
use Rattle.online.specs.Uses.{HasPlaced}
use Rattle.online.proofs.uses.place_all.Given as goal

abbrev pub invariant-loop-used : goal.invariant-loop-used
invariant-loop-used l =
    HasPlaced (group_at l.initial.groups) l.initial.groups.next l.initial.family (group_at l.groups)
    l.groups.next
    l.family (take l.used-index l.uses) l.numbers.items
