use Rattle.std.proofs.Common.{ℕ, arith, subst}
use Rattle.std.specs.Prelude.{Contains}
use Rattle.checker.proofs.FrontLemmas.{head_of}
use Rattle.checker.proofs.front.Front.offer_heads.Goals as goal

pub returns-clause-all : goal.returns-clause-all
returns-clause-all c = λ i may.
    let head =
    head_of c.args.self.now.run.now.records c.args.self.now.placed.now c.args.self.now.heads.now i
    c.requires.front.are_heads may in
    let low = head.1 in
    let end = c.loop-head-test.false in
    let P : ℕ → Type 0 = λ j. Contains c.loop-head.ready j in
    subst P head.2 (c.loop-head.invariant.offered head.0 (omega (arith, low, end)) (rw head.2 may))
