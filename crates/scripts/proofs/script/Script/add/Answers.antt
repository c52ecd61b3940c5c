use Rattle.std.proofs.Common.{◌≡◌, ◌∙◌, ◌++◌, ◌∷◌, [], List, sym, ap, true, false, rules, arith}
use Rattle.std.specs.Prelude.{is_some}
use Rattle.scripts.specs.declared.script.Step.{Step}
use Rattle.scripts.specs.Scripts.{ScriptView, may_follow, is_full, step_of}
use Rattle.scripts.proofs.ScriptLemmas.{IsScript-more, IsShortScript-more, AreLives-more}
use Rattle.scripts.proofs.script.Script.add.Goals as goal

pub invariant_of-self-2 : goal.invariant_of-self-2
invariant_of-self-2 c =
    let steps = c.self.inside.steps.items in
    let body = c.args.body in
    let s : Step = step_of steps c.args.thread c.args.after body in
    let view : c.args.self.now.steps ≡ steps = ap (λ (v : ScriptView). v.steps) (sym c.self.view_is) in
    let follows : may_follow steps c.args.after body ≡ true =
    ap (λ (xs : List Step). may_follow xs c.args.after body) (sym view) ∙ sym c.place_of.ensures.may
    ∙ ap is_some c.in-Some.is in
    let room : is_full steps body ≡ false =
    ap (λ (xs : List Step). is_full xs body) (sym view) ∙ sym c.is_full.ensures ∙ c.if-is_full.false in
    let grown : c.push_reserved.new.self.items ≡ steps ++ s ∷ [] = search rules in
    rw grown (record {
      script = IsScript-more steps s c.self.invariant.script (omega arith) follows;
      short = IsShortScript-more steps s c.self.invariant.short room;
      are_lives =
          AreLives-more steps s c.self.inside.lives c.note.new.lives c.self.invariant.are_lives
          (search rules);
      is_tally = search rules;
    })
