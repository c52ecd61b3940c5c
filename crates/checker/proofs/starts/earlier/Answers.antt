use Rattle.checker.specs.Starts.{the_only, the_first, the_other}
use Rattle.std.proofs.Common.{refl}
use Rattle.checker.proofs.starts.earlier.Goals as goal

pub returns-then-late-other : goal.returns-then-late-other
returns-then-late-other c = rw c.in-Some.is (the_first refl c.if-late-other.true)

pub returns-else-late-other : goal.returns-else-late-other
returns-else-late-other c = rw c.in-Some.is (the_other refl c.if-late-other.false)

pub returns-in-None : goal.returns-in-None
returns-in-None c = rw c.in-None.is (the_only refl)
