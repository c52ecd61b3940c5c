use Rattle.std.specs.Io.KnownBytes.{Keeps}
use Rattle.taskaudit.proofs.looking.read_some.Given as goal

-- each answer so far was `Again`
abbrev pub invariant-loop : goal.invariant-loop
invariant-loop g l = Keeps (g.I.Source.remaining l.fn.source) (g.I.Source.remaining l.source)
