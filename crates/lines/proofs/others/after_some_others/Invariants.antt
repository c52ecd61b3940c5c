use Rattle.std.proofs.Common.{[]}
use Rattle.lines.specs.InFront.{AreMembersInFront}
use Rattle.lines.proofs.others.after_some_others.Given as goal

-- no member so far is known
abbrev pub invariant-others : goal.invariant-others
invariant-others l = AreMembersInFront l.fn.rest [] l.between
