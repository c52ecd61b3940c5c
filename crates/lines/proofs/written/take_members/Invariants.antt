use Rattle.std.proofs.Common.{◌-◌, length}
use Rattle.lines.specs.Objects.{rows}
use Rattle.lines.proofs.WrittenLemmas.{AreMembersTaken, ArePlacesKept}
use Rattle.lines.proofs.written.take_members.Given as goal

-- the members so far, and where each is
abbrev pub invariant-members : goal.invariant-members
invariant-members l =
    AreMembersTaken (rows l.members.items) l.later l.fn.line l.rest × ArePlacesKept l.members.items l.places

abbrev pub decreases-members : goal.decreases-members
decreases-members l = 32 - length l.members.items
