use Rattle.std.proofs.Common.{◌≡◌, ◌∙◌, ◌++◌, ◌∷◌, [], sym, ap, subst, inl, inr}
use Rattle.std.specs.Prelude.{slice_get}
use Rattle.ompt_events.proofs.ListLemmas.{pushed_cases}
use Rattle.online.specs.declared.thread.Thread.{Thread}
use Rattle.online.specs.ThreadStates.{IsThreadOf}
use Rattle.online.proofs.replay.Replay.new.Goals as goal

pub loop-thread-preserved : goal.loop-thread-preserved
loop-thread-preserved c =
    let before = c.loop-thread.threads.items in
    let made = c.new.result in
    let grown : c.push.new.self.items ≡ before ++ made ∷ [] = c.in_ok-push.ensures.items in
    record {
      of = λ thread t there. elim
          (pushed_cases before made t thread (sym (ap (λ l. slice_get l thread) grown) ∙ there)) [
            | inl old ↦ c.loop-thread.invariant.of thread t old
            | inr (last, same) ↦ subst (IsThreadOf []) same c.new.ensures.of
          ];
      nests = λ thread t there. elim
          (pushed_cases before made t thread (sym (ap (λ l. slice_get l thread) grown) ∙ there)) [
            | inl old ↦ c.loop-thread.invariant.nests thread t old
            | inr (last, same) ↦ ap (λ (x : Thread). x.state.nests) (sym same) ∙ c.new.ensures.nests
          ];
    }
