use Rattle.std.proofs.Common.{[]}
use Rattle.lines.specs.Texts.{dep_data}
use Rattle.lines.proofs.TakeLemmas.{AreItemsTaken}
use Rattle.lines.proofs.parts.deps.Given as goal

-- the items so far
abbrev pub invariant-items : goal.invariant-items
invariant-items l = AreItemsTaken dep_data l.items.items l.later l.fn.rest l.rest []
