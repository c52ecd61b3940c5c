-- How what is counted of some tasks changes.
use Rattle.std.proofs.Common.{◌≡◌, ◌≢◌, ◌∙◌, ℕ, zero, suc, ◌<◌, ◌≤◌, ◌+◌, ◌^◌, Bool, true, false, List}
use Rattle.std.proofs.Common.{[], ◌∷◌, ◌++◌, length, Some, refl, sym, ap, subst, arith, inl, inr, ◌⊎◌}
use Rattle.std.specs.Prelude.{slice_get, Contains, max}
use Rattle.std.proofs.lemmas.Bool.{cases_eq, false≢true}
use Rattle.std.proofs.lemmas.Option.{none-some, same_Some}
use Rattle.std.proofs.lemmas.List.{length_push}
use Rattle.std.proofs.lemmas.List.Elements.{Contains-push, Contains-append_left}
use Rattle.ompt_events.proofs.ListLemmas.{get_contains, contains_get}
use Rattle.online.specs.declared.scope.Scope.{Scope}
use Rattle.online.specs.Waits.{IsScopeOf, no_tasks, with_task, without_task, raised}

-- ---- a list without one of its elements

record IsWithout (xs : List ℕ) (x : ℕ) (ys : List ℕ) : Type 0 where
  pub fewer : length xs ≡ length ys + 1
  pub others : (y : ℕ) → y ≢ x → (i : ℕ) → slice_get xs i ≡ Some y → (j : ℕ) × (slice_get ys j ≡ Some y)

without : (xs : List ℕ) (x i : ℕ) → slice_get xs i ≡ Some x → (ys : List ℕ) × IsWithout xs x ys
without [] x i is = absurd (none-some x is)
without (z ∷ zs) x zero is = (zs, record { fewer = omega arith; others = others })
  where
    others : (y : ℕ) → y ≢ x → (i : ℕ) → slice_get (z ∷ zs) i ≡ Some y → (j : ℕ) × (slice_get zs j ≡ Some y)
    others y apart zero there = absurd (apart (same_Some y x (sym there ∙ is)))
    others y apart (suc i) there = (i, there)
without (z ∷ zs) x (suc i) is = of (without zs x i is)
  where
    of : (ys : List ℕ) × IsWithout zs x ys → (ys : List ℕ) × IsWithout (z ∷ zs) x ys
    of (ys, is') = (z ∷ ys, record { fewer = let h = is'.fewer in omega arith; others = others })
      where
        others : (y : ℕ) → y ≢ x → (j : ℕ) → slice_get (z ∷ zs) j ≡ Some y
            → (k : ℕ) × (slice_get (z ∷ ys) k ≡ Some y)
        others y apart zero there = (zero, there)
        others y apart (suc j) there = let found = is'.others y apart j there in (suc found.0, found.1)

-- ---- scopes

-- what is over at a length is so at each greater one
abbrev pub Rises : (ℕ → ℕ → Type 0) → Type 0
Rises is_over = (task low high : ℕ) → low ≤ high → is_over low task → is_over high task

-- of no task
pub scope_none : (most : ℕ) (is_in : ℕ → Type 0) (is_kept : ℕ → Bool) (is_over : ℕ → ℕ → Type 0)
    → ((task : ℕ) → is_in task → ⊥) → IsScopeOf most is_in is_kept is_over no_tasks
scope_none most is_in is_kept is_over none = record {
  tasks = [];
  counted = refl;
  few = omega arith;
  waits = λ task has kept. absurd (none task has);
  rest = λ task has gone. absurd (none task has);
}

-- no task enters or leaves
pub scope_same : (most most' : ℕ) (is_in is_in' : ℕ → Type 0) (kept kept' : ℕ → Bool)
    (over over' : ℕ → ℕ → Type 0) (s : Scope) → IsScopeOf most is_in kept over s → most ≤ most'
    → ((task : ℕ) → is_in' task → is_in task) → ((task : ℕ) → is_in' task → kept' task ≡ kept task)
    → ((task n : ℕ) → is_in' task → over n task → over' n task) → IsScopeOf most' is_in' kept' over' s
scope_same most most' is_in is_in' kept kept' over over' s is more within same later = record {
  tasks = is.tasks;
  counted = is.counted;
  few = let h = is.few in omega arith;
  waits = λ task has stays. is.waits task (within task has) (sym (same task has) ∙ stays);
  rest = λ task has gone.
      later task s.greatest has (is.rest task (within task has) (sym (same task has) ∙ gone));
}

-- one task enters, which is kept
pub scope_enter : (most most' : ℕ) (is_in is_in' : ℕ → Type 0) (kept kept' : ℕ → Bool)
    (over over' : ℕ → ℕ → Type 0) (s : Scope) (new : ℕ) → IsScopeOf most is_in kept over s → most + 1 ≡ most'
    → most' < 2 ^ 64 → kept' new ≡ true → ((task : ℕ) → is_in' task → is_in task ⊎ (task ≡ new))
    → ((task : ℕ) → is_in task → kept' task ≡ kept task)
    → ((task n : ℕ) → is_in task → over n task → over' n task)
    → IsScopeOf most' is_in' kept' over' (with_task s)
scope_enter most most' is_in is_in' kept kept' over over' s new is more small here within same later =
    record {
      tasks = is.tasks ++ new ∷ [];
      counted =
          let h = is.few in let e = is.counted in let l = length_push is.tasks new in
          omega (arith, h, e, l, more, small);
      few = let h = is.few in omega (arith, h, more, small);
      waits = λ task has stays. waits task (within task has) stays;
      rest = λ task has gone. rest task (within task has) gone;
    }
  where
    waits : (task : ℕ) → is_in task ⊎ (task ≡ new) → kept' task ≡ true → Contains (is.tasks ++ new ∷ []) task
    waits task (inl old) stays =
        Contains-append_left is.tasks (new ∷ []) task (is.waits task old (sym (same task old) ∙ stays))
    waits task (inr e) stays =
        let P : ℕ → Type 0 = λ t. Contains (is.tasks ++ new ∷ []) t in
        subst P (sym e) (Contains-push is.tasks new)

    rest : (task : ℕ) → is_in task ⊎ (task ≡ new) → kept' task ≡ false → over' s.greatest task
    rest task (inl old) gone = later task s.greatest old (is.rest task old (sym (same task old) ∙ gone))
    rest task (inr e) gone = absurd (false≢true (sym gone ∙ ap kept' e ∙ here))

-- one task leaves, which was kept and is over from the length on
pub scope_leave : (most : ℕ) (is_in : ℕ → Type 0) (kept kept' : ℕ → Bool) (over : ℕ → ℕ → Type 0) (s : Scope)
    (gone n : ℕ) → IsScopeOf most is_in kept over s → Rises over → is_in gone → kept gone ≡ true
    → kept' gone ≡ false → over n gone → ((task : ℕ) → is_in task → task ≢ gone → kept' task ≡ kept task)
    → IsScopeOf most is_in kept' over (without_task n s)
scope_leave most is_in kept kept' over s gone n is rises has was now late same =
    of (contains_get is.tasks gone (is.waits gone has was))
  where
    of : (i : ℕ) × (slice_get is.tasks i ≡ Some gone) → IsScopeOf most is_in kept' over (without_task n s)
    of (i, at_i) = with_list (without is.tasks gone i at_i)
      where
        with_list : (ys : List ℕ) × IsWithout is.tasks gone ys
            → IsScopeOf most is_in kept' over (without_task n s)
        with_list (ys, less) = record {
          tasks = ys;
          counted = let e = is.counted in let f = less.fewer in omega (arith, e, f);
          few = let h = is.few in omega (arith, h);
          waits = waits;
          rest = rest;
        }
          where
            waits : (task : ℕ) → is_in task → kept' task ≡ true → Contains ys task
            waits task has' stays = elim (cases_eq task gone) [
              | inl e ↦ absurd (false≢true (sym now ∙ ap kept' (sym e) ∙ stays))
              | inr apart ↦
                  let (k, at_k) =
                  contains_get is.tasks task (is.waits task has' (sym (same task has' apart) ∙ stays)) in
                  let (j, at_j) = less.others task apart k at_k in
                  get_contains ys task j at_j
            ]

            rest : (task : ℕ) → is_in task → kept' task ≡ false → over (max s.greatest n) task
            rest task has' ends = elim (cases_eq task gone) [
              | inl e ↦
                  let P : ℕ → Type 0 = λ t. over n t in
                  rises task n (max s.greatest n) (omega arith) (subst P (sym e) late)
              | inr apart ↦
                  rises task s.greatest (max s.greatest n) (omega arith)
                  (is.rest task has' (sym (same task has' apart) ∙ ends))
            ]

-- of a scope with none left nothing is kept
pub scope_empty : (most : ℕ) (is_in : ℕ → Type 0) (kept : ℕ → Bool) (over : ℕ → ℕ → Type 0) (s : Scope)
    → IsScopeOf most is_in kept over s → s.left ≡ 0 → (task : ℕ) → is_in task
    → (kept task ≡ false) × over s.greatest task
scope_empty most is_in kept over s is none task has = of (kept task) refl
  where
    of : (b : Bool) → kept task ≡ b → (kept task ≡ false) × over s.greatest task
    of false e = (e, is.rest task has e)
    of true e =
        let (i, low, at_i) = is.waits task has e in
        let n = is.counted in absurd (omega (arith, n, none, low))

-- more tasks are counted, of which none is kept
pub scope_raise : (most : ℕ) (is_in is_in' : ℕ → Type 0) (kept : ℕ → Bool) (over : ℕ → ℕ → Type 0) (s : Scope)
    (n : ℕ) → IsScopeOf most is_in kept over s → Rises over
    → ((task : ℕ) → is_in' task → is_in task ⊎ ((kept task ≡ false) × over n task))
    → IsScopeOf most is_in' kept over (raised n s)
scope_raise most is_in is_in' kept over s n is rises within = record {
  tasks = is.tasks;
  counted = is.counted;
  few = is.few;
  waits = λ task has stays. waits task (within task has) stays;
  rest = λ task has gone. rest task (within task has) gone;
}
  where
    waits : (task : ℕ) → is_in task ⊎ ((kept task ≡ false) × over n task) → kept task ≡ true
        → Contains is.tasks task
    waits task (inl old) stays = is.waits task old stays
    waits task (inr (gone, late)) stays = absurd (false≢true (sym gone ∙ stays))

    rest : (task : ℕ) → is_in task ⊎ ((kept task ≡ false) × over n task) → kept task ≡ false
        → over (max s.greatest n) task
    rest task (inl old) gone = rises task s.greatest (max s.greatest n) (omega arith) (is.rest task old gone)
    rest task (inr (gone', late)) gone = rises task n (max s.greatest n) (omega arith) late
