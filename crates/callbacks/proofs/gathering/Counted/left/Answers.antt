use Rattle.std.proofs.Common.{◌∙◌, arith, ap, refl}
use Rattle.std.proofs.lemmas.Option.{slice_get_read}
use Rattle.callbacks.specs.Gathered.{count_of}
use Rattle.callbacks.proofs.GatheredLemmas.{count-below}
use Rattle.callbacks.proofs.gathering.Counted.left.Goals as goal

pub returns-then-count-left : goal.returns-then-count-left
returns-then-count-left c =
    let b = c.index-buffers-index.result in
    let here =
    slice_get_read c.args.buffers.now _ c.buffers.index b refl c.buffers-test.true c.index-buffers-index.is in
    let count = c.count-count.ensures ∙ ap (λ rs. count_of c.args.self rs) c.records.ensures in
    let below = count-below c.args.self c.args.buffers.now c.buffers.index b here in
    omega (arith, count, c.if-count-left.true, c.buffers.invariant, below)
