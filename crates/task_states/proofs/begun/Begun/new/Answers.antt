use Rattle.std.proofs.Common.{◌∙◌, ◌*◌, replicate, ap, arith}
use Rattle.task_tree.specs.Family.{FamilyView}
use Rattle.task_states.proofs.MisnestingLemmas.{begun_none}
use Rattle.task_states.proofs.begun.Begun.new.Goals as goal

pub new-requires : goal.new-requires
new-requires c =
    let few = c.task_count.ensures.is_run.family.makers.few in
    let many = c.task_count.ensures.is_run.trace.few_records in
    omega (arith, few, many, c.task_count.ensures.value)

pub returns : goal.returns
returns c =
    begun_none c.args.run.now _ c.with_hasher.ensures.empty
    (c.with_hasher.ensures.hasher ∙ c.region_hashers.ensures
    ∙ ap (λ (family : FamilyView). family.region_hashers) c.family.ensures.value)
    (c.in_ok-new.ensures ∙ ap (λ n. replicate (n * 4) 0) c.task_count.ensures.value)
