use Rattle.std.proofs.Common.{◌∙◌, Option, subst, sym}
use Rattle.std.specs.Prelude.{IfSome}
use Rattle.task_tree.specs.declared.turn_rows.TurnRows.{TurnRows}
use Rattle.task_tree.specs.TurnRows.{AreTurnRows}
use Rattle.task_tree.proofs.GapFreeLemmas.{gap_free}
use Rattle.task_tree.proofs.gaps.is_gapless.Goals as goal

pub returns-in-Some : goal.returns-in-Some
returns-in-Some c right =
    let P : TurnRows → Type 0 =
    λ rows. AreTurnRows c.args.trace.now.records c.args.family.now.tasks rows.offsets.items rows.begun.items
    in
    let rows : P c.in-Some.rows =
    subst (λ (o : Option TurnRows). IfSome o P) c.in-Some.is c.in_ok-rows.ensures in
    gap_free c.args.trace.now.records
    (c.requires.order.order (sym c.are_in_order.ensures ∙ c.if-not-are_in_order.false)) rows.anew
    (c.tell_rightly.ensures right)
