use Rattle.std.proofs.Common.{◌≡◌, ◌+◌, [], ◌∷◌, ◌++◌, true, false, cond, rules, arith, sym, ap, ◌∙◌}
use Rattle.std.specs.Prelude.{is_some}
use Rattle.ompt_events.specs.Records.{made}
use Rattle.scripts.specs.Scripts.{task_count}
use Rattle.scripts.proofs.TallyLemmas.{beyond-more, counted-more, tasks-more}
use Rattle.scripts.proofs.tally.Tally.count.Goals as goal

pub returns-then-is_some : goal.returns-then-is_some
returns-then-is_some c = λ steps tally.
    let makes : is_some (made c.args.step.now.body) ≡ true =
    ap is_some (sym c.made.ensures) ∙ sym c.is_some.ensures ∙ c.if-is_some.true in
    let more : task_count (steps ++ c.args.step.now ∷ []) ≡ task_count steps + 1 =
    tasks-more steps c.args.step.now ∙ ap (λ b. task_count steps + cond b 1 0) makes in
    record {
      threads = search rules;
      counted =
          λ thread small.
          counted-more c.args.self.now.steps steps c.args.step.now thread c.from.result c.from.ensures
          (search rules) (tally.counted thread small);
      beyond =
          λ thread past.
          beyond-more steps c.args.step.now thread (search rules) past (tally.beyond thread past);
      tasks = omega (arith, more, tally.tasks);
    }

pub returns-else-is_some : goal.returns-else-is_some
returns-else-is_some c = λ steps tally.
    let makes : is_some (made c.args.step.now.body) ≡ false =
    ap is_some (sym c.made.ensures) ∙ sym c.is_some.ensures ∙ c.if-is_some.false in
    let more : task_count (steps ++ c.args.step.now ∷ []) ≡ task_count steps + 0 =
    tasks-more steps c.args.step.now ∙ ap (λ b. task_count steps + cond b 1 0) makes in
    record {
      threads = search rules;
      counted =
          λ thread small.
          counted-more c.args.self.now.steps steps c.args.step.now thread c.from.result c.from.ensures
          (search rules) (tally.counted thread small);
      beyond =
          λ thread past.
          beyond-more steps c.args.step.now thread (search rules) past (tally.beyond thread past);
      tasks = omega (arith, more, tally.tasks);
    }
