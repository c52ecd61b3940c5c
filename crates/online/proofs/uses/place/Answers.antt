use Rattle.std.proofs.Common.{◌∙◌, [], ◌∷◌, sym, subst}
use Rattle.online.specs.Uses.{HasFound}
use Rattle.online.proofs.GroupLemmas.{some_says}
use Rattle.online.specs.Groups.{group_at}
use Rattle.online.specs.Uses.{HasPlaced}
use Rattle.online.proofs.FamilyLemmas.{placed_one}
use Rattle.online.proofs.uses.place.Goals as goal

pub returns : goal.returns
returns c =
    subst
    (λ m. HasPlaced (group_at c.args.groups.now) c.args.groups.now.next c.args.family.now
    (group_at c.settle.new.self) m c.find_group.new.family (c.args.used ∷ []) (c.in-Some.number ∷ []))
    (sym (c.in_ok-settle.ensures.next ∙ c.in_ok-enter.ensures.next))
    (placed_one (group_at c.args.groups.now) (group_at c.find_group.new.groups) (group_at c.enter.new.self)
    (group_at c.settle.new.self) c.args.groups.now.next c.find_group.new.groups.next c.args.family.now
    c.find_group.new.family c.args.used c.in-Some.number
    (some_says
    (HasFound (group_at c.args.groups.now) c.args.groups.now.next c.args.family.now
    (group_at c.find_group.new.groups) c.find_group.new.groups.next c.find_group.new.family c.args.used)
    c.in_ok-number.field-0 c.in-Some.number c.in-Some.is c.in_ok-number.ensures)
    (c.in_ok-enter.ensures.entered c.if-not-branch.false) c.in_ok-settle.ensures.counted)
