-- A script with one step more.
use Rattle.std.proofs.Common.{◌≡◌, ◌∙◌, ℕ, ◌<◌, ◌≤◌, ◌+◌, List, [], ◌∷◌, ◌++◌, length, take, Option, None}
use Rattle.std.proofs.Common.{Bool, true, false, cond, refl, arith, sym, ap, subst, inl, inr}
use Rattle.std.specs.Prelude.{is_some, nat_le, ◌||◌, ◌&&◌}
use Rattle.std.proofs.lemmas.Bool.{leb-false, true≢false}
use Rattle.std.proofs.lemmas.Option.{slice_get_within}
use Rattle.std.proofs.lemmas.List.{length_push, take-append-le, take_at}
use Rattle.std.proofs.lemmas.List.Sums.{fold_push, sum_by_push}
use Rattle.std.specs.Ordering.{nat_cmp}
use Rattle.std.specs.BTreeMap.{BTreeMap, get}
use Rattle.ompt_events.specs.declared.records.Body.{Body}
use Rattle.ompt_events.specs.Records.{made}
use Rattle.ompt_events.specs.Limits.{max_records, max_tasks}
use Rattle.ompt_events.proofs.ListLemmas.{pushed_cases}
use Rattle.scripts.specs.declared.script.Step.{Step}
use Rattle.scripts.specs.declared.lives.Life.{Life}
use Rattle.scripts.specs.Scripts.{life_after, task_count, may_follow, is_full, IsScript, IsShortScript}
use Rattle.scripts.specs.Keeping.{AreLives}

-- ---- the limits

steps_room : (steps : List Step) (body : Body) → is_full steps body ≡ false → length steps < max_records
steps_room steps body room =
    leb-false max_records (length steps)
    (left (nat_le max_records (length steps)) (is_some (made body) && nat_le max_tasks (task_count steps))
    room)
  where
    left : (a b : Bool) → (a || b) ≡ false → a ≡ false
    left false b e = refl
    left true b e = e

has_task_room : (steps : List Step) (body : Body) → is_full steps body ≡ false → task_count steps ≤ max_tasks
    → task_count steps + cond (is_some (made body)) 1 0 ≤ max_tasks
has_task_room steps body room few = by_cases (is_some (made body)) (nat_le max_records (length steps)) room
  where
    by_cases : (makes full : Bool) → (full || (makes && nat_le max_tasks (task_count steps))) ≡ false
        → task_count steps + cond makes 1 0 ≤ max_tasks
    by_cases false full e = omega (arith, few)
    by_cases true false e = let less = leb-false max_tasks (task_count steps) e in omega (arith, less)
    by_cases true true e = absurd (true≢false e)

-- ---- one step more

-- the steps before a place stay
before_stays : (steps : List Step) (s : Step) (i : ℕ) → i ≤ length steps
    → take i (steps ++ s ∷ []) ≡ take i steps
before_stays steps s i low = take-append-le i steps (s ∷ []) low

pub IsScript-more : (steps : List Step) (s : Step) → IsScript steps → s.line ≡ length steps + 2
    → may_follow steps s.after s.body ≡ true → IsScript (steps ++ s ∷ [])
IsScript-more steps s script line follows = record {
  lines = λ i x is. elim (pushed_cases steps s x i is) [
    | inl old ↦ script.lines i x old
    | inr (last, same) ↦ subst (λ (y : Step). y.line ≡ i + 2) same (line ∙ ap (λ n. n + 2) (sym last))
  ];
  follows = λ i x is. elim (pushed_cases steps s x i is) [
    | inl old ↦
        ap (λ (before : List Step). may_follow before x.after x.body)
        (before_stays steps s i (omega (arith, slice_get_within steps i x old)))
        ∙ script.follows i x old
    | inr (last, same) ↦
        let before : take i (steps ++ s ∷ []) ≡ steps = take_at steps (s ∷ []) i (sym last) in
        subst (λ (y : Step). may_follow (take i (steps ++ s ∷ [])) y.after y.body ≡ true) same
        (ap (λ (b : List Step). may_follow b s.after s.body) before ∙ follows)
  ];
}

pub IsShortScript-more : (steps : List Step) (s : Step) → IsShortScript steps → is_full steps s.body ≡ false
    → IsShortScript (steps ++ s ∷ [])
IsShortScript-more steps s short room = record {
  few_steps = omega (arith, length_push steps s, steps_room steps s.body room);
  few_tasks =
      let more : task_count (steps ++ s ∷ []) ≡ task_count steps + cond (is_some (made s.body)) 1 0 =
      sum_by_push (λ (x : Step). cond (is_some (made x.body)) 1 0) steps s in
      omega (arith, more, has_task_room steps s.body room short.few_tasks);
}

pub AreLives-more : (steps : List Step) (s : Step) (old new : BTreeMap ℕ Life) → AreLives steps old
    → ((task : ℕ) → get nat_cmp new task ≡ life_after (get nat_cmp old task) s.body task)
    → AreLives (steps ++ s ∷ []) new
AreLives-more steps s old new are noted task =
    noted task
    ∙ ap (λ (l : Option Life). life_after l s.body task) (are task)
    ∙ sym (fold_push (λ (before : Option Life) (x : Step). life_after before x.body task) None steps s)
