-- Whether a step is named that is there.
use Rattle.std.proofs.Common.{◌≡◌, ℕ, ◌<◌, ◌≤◌, List, [], ◌∷◌, ◌++◌, ◌+◌, length, set, get_or, Option, Some}
use Rattle.std.proofs.Common.{true, false, cond, arith, refl, sym, ap, inl, inr, ◌∙◌}
use Rattle.std.specs.Prelude.{◌==◌, ◌&&◌, Bool, None, is_some, IfSome}
use Rattle.std.proofs.lemmas.List.Sums.{sum_by_push}
use Rattle.std.proofs.lemmas.Bool.{cases_eq}
use Rattle.std.proofs.lemmas.Grind.{get_or-set_at}
use Rattle.std.proofs.lemmas.List.{get_or-set_other}
use Rattle.ompt_events.specs.Limits.{max_threads}
use Rattle.ompt_events.specs.Records.{made}
use Rattle.std.proofs.lemmas.Bool.Decides.{nat_tests}
use Rattle.scripts.specs.declared.script.Step.{Step}
use Rattle.scripts.specs.Scripts.{step_count, task_count, is_earlier}
use Rattle.scripts.specs.Keeping.{IsStepFound}

pub earlier-has : (steps : List Step) (named : Option (ℕ × ℕ)) (thread number count : ℕ)
    → named ≡ Some (thread, number) → count ≡ step_count steps thread → number < count
    → is_earlier steps named ≡ true
earlier-has steps named thread number count is counted less =
    rw is (rw (← counted) (grind (arith, nat_tests)))

pub earlier-lacks : (steps : List Step) (named : Option (ℕ × ℕ)) (thread number count : ℕ)
    → named ≡ Some (thread, number) → count ≡ step_count steps thread → count ≤ number
    → is_earlier steps named ≡ false
earlier-lacks steps named thread number count is counted past =
    rw is (rw (← counted) (grind (arith, nat_tests)))

pub found-decides : (steps : List Step) (named : Option (ℕ × ℕ)) (found : Option (Option (ℕ × ℕ)))
    → IsStepFound steps named found → is_some found ≡ is_earlier steps named
found-decides steps named None is = sym is
found-decides steps named (Some step) is = sym is.0

pub found-same : (steps : List Step) (named : Option (ℕ × ℕ)) (found : Option (Option (ℕ × ℕ)))
    → IsStepFound steps named found → IfSome found (λ step. step ≡ named)
found-same steps named None is = tt
found-same steps named (Some step) is = is.1

-- the tests of a call, its `after` last
pub after-last : (called earlier once named : Bool)
    → (called && earlier && once && named) ≡ ((called && once && named) && earlier)
after-last false earlier once named = refl
after-last true true false named = refl
after-last true true true false = refl
after-last true true true true = refl
after-last true false false named = refl
after-last true false true false = refl
after-last true false true true = refl

-- ---- one step more

-- a step is no step of a thread past the last number
pub beyond-more : (steps : List Step) (s : Step) (thread : ℕ) → s.thread < max_threads → max_threads ≤ thread
    → step_count steps thread ≡ 0 → step_count (steps ++ s ∷ []) thread ≡ 0
beyond-more steps s thread small past none =
    let more = sum_by_push (λ (x : Step). cond (x.thread == thread) 1 0) steps s in
    let other : (s.thread == thread) ≡ false = grind (arith, nat_tests) in
    more ∙ rw other (omega (arith, none))

pub counted-more : (counts : List ℕ) (steps : List Step) (s : Step) (thread at : ℕ) → at ≡ s.thread
    → at < length counts → get_or counts thread 0 ≡ step_count steps thread
    → get_or (set counts at (get_or counts at 0 + 1)) thread 0 ≡ step_count (steps ++ s ∷ []) thread
counted-more counts steps s thread at is within counted =
    let more = sum_by_push (λ (x : Step). cond (x.thread == thread) 1 0) steps s in
    elim (cases_eq at thread) [
      | inl same ↦
          let own : (s.thread == thread) ≡ true = grind (arith, nat_tests) in
          let held : get_or counts at 0 ≡ step_count steps thread =
          ap (λ (k : ℕ). get_or counts k 0) same ∙ counted in
          get_or-set_at counts at thread (get_or counts at 0 + 1) 0 (sym same) within
          ∙ (ap (λ n. n + 1) held ∙ sym (more ∙ rw own refl))
      | inr other ↦
          let foreign : (s.thread == thread) ≡ false = grind (arith, nat_tests) in
          get_or-set_other counts at thread (get_or counts at 0 + 1) 0 (λ e. other (sym e))
          ∙ (counted ∙ sym (more ∙ rw foreign (omega arith)))
    ]

pub tasks-more : (steps : List Step) (s : Step)
    → task_count (steps ++ s ∷ []) ≡ task_count steps + cond (is_some (made s.body)) 1 0
tasks-more steps s = sum_by_push (λ (x : Step). cond (is_some (made x.body)) 1 0) steps s
