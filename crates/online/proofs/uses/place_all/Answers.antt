use Rattle.std.proofs.Common.{ℕ, List, None, [], ◌∷◌, ◌++◌, sym, subst, get_or, take}
use Rattle.std.proofs.lemmas.List.{take_all, take_more}
use Rattle.online.proofs.GroupLemmas.{some_says}
use Rattle.online.specs.declared.uses.Use.{Use}
use Rattle.online.specs.Groups.{group_at}
use Rattle.online.specs.Uses.{HasPlaced}
use Rattle.online.proofs.FamilyLemmas.{placed_more}
use Rattle.online.proofs.uses.place_all.Goals as goal

pub loop-used-preserved : goal.loop-used-preserved
loop-used-preserved c =
    let i = c.loop-used.used-index in
    let used = get_or c.args.uses.now i (record { location = 0; kind = None }) in
    let one =
    some_says
    (λ n. HasPlaced (group_at c.loop-used.groups) c.loop-used.groups.next c.loop-used.family
    (group_at c.place.new.groups) c.place.new.groups.next c.place.new.family (used ∷ []) (n ∷ []))
    c.in_ok-number.field-0 c.in-Some.number c.in-Some.is c.in_ok-number.ensures in
    subst
    (λ (l : List Use). HasPlaced (group_at c.args.groups.now) c.args.groups.now.next c.args.family.now
    (group_at c.place.new.groups) c.place.new.groups.next c.place.new.family l c.push.new.self.items)
    (sym (take_more c.args.uses.now i (record { location = 0; kind = None }) c.loop-used-test.true))
    (subst
    (λ (l : List ℕ). HasPlaced (group_at c.args.groups.now) c.args.groups.now.next c.args.family.now
    (group_at c.place.new.groups) c.place.new.groups.next c.place.new.family
    (take i c.args.uses.now ++ used ∷ []) l) (sym c.in_ok-push.ensures.items)
    (placed_more (group_at c.args.groups.now) (group_at c.loop-used.groups) (group_at c.place.new.groups)
    c.args.groups.now.next c.loop-used.groups.next c.place.new.groups.next c.args.family.now
    c.loop-used.family
    c.place.new.family (take i c.args.uses.now) (used ∷ []) c.loop-used.numbers.items (c.in-Some.number ∷ [])
    c.loop-used.invariant one))

pub returns : goal.returns
returns c =
    subst
    (λ (l : List Use). HasPlaced (group_at c.args.groups.now) c.args.groups.now.next c.args.family.now
    (group_at c.loop-used.groups) c.loop-used.groups.next c.loop-used.family l c.loop-used.numbers.items)
    (take_all c.loop-used.used-index c.args.uses.now c.loop-used-test.false) c.loop-used.invariant
