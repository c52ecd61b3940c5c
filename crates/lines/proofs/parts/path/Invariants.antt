use Rattle.std.proofs.Common.{[]}
use Rattle.lines.specs.Texts.{whole_number}
use Rattle.lines.proofs.TakeLemmas.{AreItemsTaken}
use Rattle.lines.proofs.parts.path.Given as goal

-- the items so far
abbrev pub invariant-numbers : goal.invariant-numbers
invariant-numbers l = AreItemsTaken whole_number l.numbers l.later l.fn.rest l.rest []
