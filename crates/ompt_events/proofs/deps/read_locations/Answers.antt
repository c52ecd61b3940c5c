use Rattle.std.proofs.Common.{below_more, subst, ◌<◌, ◌^◌, ℕ, get_or}
use Rattle.std.proofs.lemmas.List.{get_or_default}
use Rattle.ompt_events.specs.declared.deps.Dep.{Dep}
use Rattle.ompt_events.specs.declared.names.DepKind.TheVariants.{In}
use Rattle.ompt_events.proofs.deps.read_locations.Goals as goal

pub loop-item-preserved : goal.loop-item-preserved
loop-item-preserved c =
    let items = c.args.items.now in
    let at = c.loop-item.item-index in
    let read : (d : Dep) → (get_or items at d).var < 2 ^ 64 =
    λ d.
    let P : Dep → Type 0 = λ item. item.var < 2 ^ 64 in
    subst P (get_or_default items at (record { var = 0; kind = In }) d c.loop-item-test.true)
    c.read_location.ensures in
    λ k d below.
    below_more (λ (i : ℕ). (d : Dep) → (get_or items i d).var < 2 ^ 64)
    at (λ i h d. c.loop-item.invariant i d h) read k below d
