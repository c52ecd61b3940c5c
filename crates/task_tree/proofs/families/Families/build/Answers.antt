use Rattle.std.proofs.Common.{◌∙◌, refl, ap}
use Rattle.std.specs.List.{range_with_len}
use Rattle.task_tree.proofs.FamiliesLemmas.{file_families, arranged_families}
use Rattle.task_tree.proofs.families.Families.build.Goals as goal

pub returns-then-branch-clause-families : goal.returns-then-branch-clause-families
returns-then-branch-clause-families c =
    let rs = c.args.trace.now.records in
    let own = c.in_ok-is_in_own_order.ensures in
    file_families rs _ c.in_ok-file.ensures.family (own.rises c.if-branch.true) (own.gapless c.if-branch.true)
    refl
    (c.in_file.ensures ∙ ap (range_with_len 0) c.len-count.ensures.value)
    refl

pub returns-clause-families : goal.returns-clause-families
returns-clause-families c =
    let rs = c.args.trace.now.records in
    arranged_families rs _ c.in_ok-of.field-0 c.in_ok-file.ensures.family c.in_ok-of.ensures.is_run
    c.in_ok-of.ensures.records c.in_ok-gap.ensures refl c.in_ok-order.ensures
