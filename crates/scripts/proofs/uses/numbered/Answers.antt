use Rattle.std.proofs.Common.{ℕ, ◌≡◌, ◌∙◌, ◌+◌, Some, sym, ap, subst}
use Rattle.std.specs.Prelude.{slice_get}
use Rattle.std.specs.Global.{Vec}
use Rattle.std.proofs.lemmas.Option.{slice_get-get_or}
use Rattle.scripts.proofs.UseLemmas.{AreMade, made_next, made_same}
use Rattle.scripts.proofs.uses.numbered.Goals as goal
use Rattle.scripts.proofs.uses.numbered.Goals.{in-Some+in_ok-push, in_default}

pub loop-step-preserved : goal.loop-step-preserved
loop-step-preserved c =
    let steps = c.args.steps.now in
    let n = c.loop-step.step-index in
    let s = c.step-item.result in
    let is : slice_get steps n ≡ Some s =
    slice_get-get_or steps n s c.loop-step-test.true ∙ ap Some (sym c.step-item.is) in
    elim c.match-made.branch [
      | in-Some+in_ok-push w ↦
          subst (AreMade steps (n + 1))
          (sym (ap (λ (v : Vec ℕ). v.items) w.made-is ∙ w.in_ok-push.ensures.items))
          (made_next steps n s c.loop-step.made.items w.in-Some.task c.requires.rules is
          (sym c.made.ensures ∙ w.in-Some.is) c.loop-step.invariant)
      | in_default w ↦
          subst (AreMade steps (n + 1)) (sym (ap (λ (v : Vec ℕ). v.items) w.made-is))
          (made_same steps n s c.loop-step.made.items is c.loop-step.invariant)
    ]
