use Rattle.std.proofs.Common.{arith, refl}
use Rattle.callbacks.proofs.GatheredLemmas.{apart-from_next}
use Rattle.callbacks.proofs.gathering.are_apart.Goals as goal

pub returns : goal.returns
returns c = (
  λ _.
      apart-from_next c.args.buffers.now c.requires (λ i a b less.
      c.buffers.invariant i a b (omega (arith, less, c.buffers-test.false, c.buffers.auto.index-end))),
  λ _. refl,
)
