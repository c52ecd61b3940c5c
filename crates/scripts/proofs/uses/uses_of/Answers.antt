use Rattle.std.proofs.Common.{◌≡◌, ◌∙◌, ◌+◌, Some, ap, arith, sym, refl, subst, length}
use Rattle.std.specs.Prelude.{option_map}
use Rattle.std.proofs.lemmas.List.{length_push}
use Rattle.std.proofs.lemmas.Option.{slice_get-get_or}
use Rattle.scripts.specs.Parts.{AreUses, AreNumbered, told_next}
use Rattle.scripts.proofs.UseLemmas.{AreTold, uses_next, uses_told, used_last, numbers_told, numbers_next}
use Rattle.scripts.proofs.uses.uses_of.Goals as goal

pub loop-at-preserved : goal.loop-at-preserved
loop-at-preserved c =
    let steps = c.args.steps.now in
    let ids = c.args.tasks.now in
    let at = c.loop-at.at in
    let used = c.use_one-used.result in
    let s = c.index-steps-at.result in
    let is = slice_get-get_or steps at s c.loop-at-test.true ∙ ap Some (sym c.index-steps-at.is) in
    let before = c.loop-at.invariant in
    let old = c.loop-at.uses.items in
    let noted = c.note_next-in-loop-at.new.uses.items in
    let long : length noted ≡ at =
    c.note_next-in-loop-at.ensures.same ∙ c.note_next.ensures.same ∙ before.long in
    let longer = length_push noted used in
    let told = c.use_one-used.ensures.first steps before.last in
    let also = c.use_one-used.ensures.second steps before.last in
    let all : AreTold used s.thread old noted =
    λ i. c.note_next-in-loop-at.ensures.told i
    ∙ ap (option_map (told_next used.second s.thread i)) (c.note_next.ensures.told i) in
    record {
      uses =
          subst (AreUses steps (at + 1)) (sym c.in_ok-push.ensures.items)
          (uses_next steps (at + 1) at noted used long (used_last steps ids at s used is told also)
          (uses_told steps ids at s used old noted is told also before.long before.numbered before.uses all));
      numbered =
          subst (AreNumbered steps ids) (sym c.in_ok-push.ensures.items)
          (numbers_next steps ids at s noted used is long told.number also.number
          (numbers_told steps ids used s.thread old noted before.numbered all));
      long = ap length c.in_ok-push.ensures.items ∙ longer ∙ ap (λ n. n + 1) long;
      last = c.use_one-used.ensures.last steps s is refl before.last;
      as_many = c.use_one-used.ensures.same ∙ before.as_many;
    }

pub returns : goal.returns
returns c =
    subst (λ n. AreUses c.args.steps.now n c.loop-at.uses.items)
    (omega (arith, c.loop-at-test.false, c.loop-at.auto.at-end)) c.loop-at.invariant.uses
