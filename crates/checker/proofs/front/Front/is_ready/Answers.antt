use Rattle.std.proofs.Common.{arith}
use Rattle.checker.proofs.front.Front.is_ready.Goals as goal

pub returns-then-seen-self : goal.returns-then-seen-self
returns-then-seen-self c = (
  λ yes. record {
    within = c.requires.within;
    is_let = c.is_let.ensures.0 yes;
    is_entered = let low = c.if-seen-self.true in let is = c.seen.ensures in omega (arith, low, is);
  },
  λ ready. c.is_let.ensures.1 ready.is_let,
)
