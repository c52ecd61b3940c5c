use Rattle.std.specs.Prelude.{Contains}
use Rattle.std.proofs.Common.{ℕ}
use Rattle.checker.specs.Merge.{AreMore, MayStandNext}
use Rattle.checker.proofs.FrontLemmas.{ready_first}
use Rattle.checker.proofs.merge.Standing.first_ready.Goals as goal

pub returns : goal.returns
returns c =
    let rs = c.args.makers.now.run.records in
    let placed = c.args.self.now.placed.items in
    let more : AreMore rs placed c.new-ready.result c.offer_heads.new.ready =
    rw (c.run.ensures.value, c.as_slice.ensures.value) at c.in_ok-offer_heads.ensures.more in
    let all : (i : ℕ) → MayStandNext rs placed i → Contains c.offer_heads.new.ready i =
    rw (c.run.ensures.value, c.as_slice.ensures.value) at c.in_ok-offer_heads.ensures.all in
    ready_first rs placed c.new-ready.result c.offer_heads.new.ready c.new-ready.ensures more all
