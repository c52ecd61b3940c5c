use Rattle.std.proofs.Common.{◌∙◌, sym, refl}
use Rattle.std.specs.Prelude.{nat_eq}
use Rattle.std.specs.HashMap.{get}
use Rattle.std.proofs.lemmas.Bool.{eqb-true}
use Rattle.online.proofs.MissedLemmas.{named_eq, awaited_child, awaited_in_group, awaited_in_team}
use Rattle.online.proofs.missed.is_awaited.Goals as goal

pub returns-in-Children : goal.returns-in-Children
returns-in-Children c = λ yes.
    awaited_child (get nat_eq c.args.table.now) c.args.awaited c.args.task c.in-Children.parent
    c.in-Some.kin.now c.in-Children.is (sym c.in-Some.ensures.value)
    (named_eq c.in-Some.kin.now.parent c.in-Children.parent (sym c.eq.ensures ∙ yes))

pub returns-then-eq : goal.returns-then-eq
returns-then-eq c = λ yes.
    awaited_in_group (get nat_eq c.args.table.now) c.args.awaited c.args.task c.in-Group.task
    c.in-Group.number c.in-Some.kin.now c.in-Group.is (sym c.in-Some.ensures.value)
    (named_eq c.in-Some.kin.now.parent c.in-Group.task (sym c.if-eq.ensures))
    (eqb-true c.in-Some.kin.now.group c.in-Group.number yes)

pub returns-then-is_in_phase : goal.returns-then-is_in_phase
returns-then-is_in_phase c = λ yes.
    let (team, low) = c.if-is_in_phase.ensures refl in
    awaited_in_team (get nat_eq c.args.table.now) c.args.awaited c.args.task c.in-Team.parallel
    c.in-Team.number c.in-Some.kin.now c.in-Team.is (sym c.in-Some.ensures.value) team low
    (c.has_begun.ensures yes)
