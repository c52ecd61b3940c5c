-- What has become of a task in a script, by the steps that make and end it, and the rules of a call.
use Rattle.std.proofs.Common.{◌≡◌, ◌∙◌, ℕ, ◌<◌, ◌≤◌, ◌+◌, List, [], ◌∷◌, ◌++◌, length, take, get_or}
use Rattle.std.proofs.Common.{length-take-le, take-take, get_or-take, Option, Some, None}
use Rattle.std.proofs.Common.{Bool, true, false, not, ◌&&◌, cond, refl, sym, ap, subst, arith, inl, inr, zero}
use Rattle.std.proofs.Common.{suc}
use Rattle.std.specs.Prelude.{Contains, IfSome, option_map, is_some, slice_get, ◌==◌}
use Rattle.std.specs.Option.{option_map_or}
use Rattle.std.specs.List.{list_all}
use Rattle.std.proofs.lemmas.Bool.{cases_eq, false≢true, eq-eqb, ne_eqb, and_parts, and_from, ltb-true}
use Rattle.std.proofs.lemmas.Bool.{lt-ltb}
use Rattle.std.proofs.lemmas.Option.{none-some, same_Some, slice_get-get_or, slice_get_within}
use Rattle.std.proofs.lemmas.List.{take_more, take_all}
use Rattle.std.proofs.lemmas.List.Elements.{All-contains, Contains-get_or, Contains-append_left}
use Rattle.std.proofs.lemmas.List.Elements.{Contains-push, Contains-push_cases}
use Rattle.std.proofs.lemmas.List.Sums.{fold_push, AllPass-from_list_all}
use Rattle.std.proofs.lemmas.List.Sums.{list_all-from_AllPass}
use Rattle.ompt_events.specs.declared.records.Body.{Body}
use Rattle.ompt_events.specs.declared.records.Body.TheVariants.{ThreadEnd}
use Rattle.ompt_events.specs.Records.{made, named, claim, told_turns}
use Rattle.scripts.specs.declared.script.Step.{Step}
use Rattle.scripts.specs.declared.lives.Life.{Life}
use Rattle.scripts.specs.declared.lives.Life.TheVariants.{Live, Over}
use Rattle.scripts.specs.Scripts.{is_call, ended, life_after, life, step_count, is_earlier}
use Rattle.scripts.specs.Scripts.{has_twice}
use Rattle.scripts.specs.Scripts.{is_made, may_be_named, may_follow, IsScript}
use Rattle.scripts.specs.Rules.{IsMadeByStep, IsEnded, MayFollow}
use Rattle.scripts.proofs.CallLemmas.{making_ends_none, made_is_named, ended_is_named, apart_from_test}
use Rattle.scripts.proofs.CallLemmas.{apart_to_test}

-- ---- what has become of a task

-- which steps make and end a task of which this has become
abbrev IsLife : List Step → ℕ → Option Life → Type 0
IsLife steps task None = (IsMadeByStep steps task → ⊥) × (IsEnded steps task → ⊥)
IsLife steps task (Some Live) = IsMadeByStep steps task × (IsEnded steps task → ⊥)
IsLife steps task (Some Over) = IsMadeByStep steps task × IsEnded steps task

made_stays : (steps : List Step) (s : Step) (task : ℕ) → IsMadeByStep steps task
    → IsMadeByStep (steps ++ s ∷ []) task
made_stays steps s task (x, has, says) = (x, Contains-append_left steps (s ∷ []) x has, says)

ended_stays : (steps : List Step) (s : Step) (task : ℕ) → IsEnded steps task → IsEnded (steps ++ s ∷ []) task
ended_stays steps s task (x, has, says) = (x, Contains-append_left steps (s ∷ []) x has, says)

made_before : (steps : List Step) (s : Step) (task : ℕ) → (made s.body ≡ Some task → ⊥)
    → (IsMadeByStep steps task → ⊥) → IsMadeByStep (steps ++ s ∷ []) task → ⊥
made_before steps s task other none (x, has, says) = elim (Contains-push_cases steps s x has) [
  | inl old ↦ none (x, old, says)
  | inr same ↦ other (subst (λ (y : Step). made y.body ≡ Some task) (sym same) says)
]

ended_before : (steps : List Step) (s : Step) (task : ℕ) → (ended s.body ≡ Some task → ⊥)
    → (IsEnded steps task → ⊥) → IsEnded (steps ++ s ∷ []) task → ⊥
ended_before steps s task other none (x, has, says) = elim (Contains-push_cases steps s x has) [
  | inl old ↦ none (x, old, says)
  | inr same ↦ other (subst (λ (y : Step). ended y.body ≡ Some task) (sym same) says)
]

life_same : (steps : List Step) (s : Step) (task : ℕ) (o : Option Life) → (made s.body ≡ Some task → ⊥)
    → (ended s.body ≡ Some task → ⊥) → IsLife steps task o → IsLife (steps ++ s ∷ []) task o
life_same steps s task None other over is =
    (made_before steps s task other is.0, ended_before steps s task over is.1)
life_same steps s task (Some Live) other over is =
    (made_stays steps s task is.0, ended_before steps s task over is.1)
life_same steps s task (Some Over) other over is =
    (made_stays steps s task is.0, ended_stays steps s task is.1)

-- what a call may name by its test
name_allowed : (steps : List Step) (after : Option (ℕ × ℕ)) (body : Body) (task : ℕ)
    → may_follow steps after body ≡ true → Contains (named body) task
    → may_be_named (is_made (made body) task) (life steps task) ≡ true
name_allowed steps after body task follows has =
    let all =
    and_parts (is_call body && is_earlier steps after && not (has_twice (named body)))
    (list_all (λ t. may_be_named (is_made (made body) t) (life steps t)) (named body)) follows in
    All-contains (λ t. may_be_named (is_made (made body) t) (life steps t) ≡ true) (named body) task
    (AllPass-from_list_all (λ t. may_be_named (is_made (made body) t) (life steps t)) (named body) all.1)
    has

new_by_test : (o : Option Life) → may_be_named true o ≡ true → o ≡ None
new_by_test None is = refl
new_by_test (Some _) is = absurd (false≢true is)

live_by_test : (o : Option Life) → may_be_named false o ≡ true → o ≡ Some Live
live_by_test None is = absurd (false≢true is)
live_by_test (Some Live) is = refl
live_by_test (Some Over) is = absurd (false≢true is)

is_made_yes : (o : Option ℕ) (task : ℕ) → o ≡ Some task → is_made o task ≡ true
is_made_yes o task is = ap (λ (m : Option ℕ). is_made m task) is ∙ eq-eqb task task refl

is_made_no : (o : Option ℕ) (task : ℕ) → (o ≡ Some task → ⊥) → is_made o task ≡ false
is_made_no None task other = refl
is_made_no (Some t) task other = ne_eqb t task (λ same. other (ap Some same))

-- what becomes of a task by a call that makes and ends these
abbrev fate_by : Option ℕ → Option ℕ → Option (ℕ × Life)
fate_by m e = cond (is_some m) (option_map (λ t. (t, Live)) m) (option_map (λ t. (t, Over)) e)

abbrev life_by_call : Option Life → Option ℕ → Option ℕ → ℕ → Option Life
life_by_call o m e task = option_map_or (λ (f : ℕ × Life). cond (f.0 == task) (Some f.1) o) (fate_by m e) o

-- the same by the steps, one step on
life_more : (steps : List Step) (s : Step) (task : ℕ) → may_follow steps s.after s.body ≡ true
    → ((t : ℕ) → IsLife steps t (life steps t)) → IsLife (steps ++ s ∷ []) task (life (steps ++ s ∷ []) task)
life_more steps s task follows are =
    subst (IsLife (steps ++ s ∷ []) task)
    (sym (fold_push (λ (before : Option Life) (x : Step). life_after before x.body task) None steps s))
    (by_fate (made s.body) (ended s.body) refl refl)
  where
    by_fate : (m e : Option ℕ) → made s.body ≡ m → ended s.body ≡ e
        → IsLife (steps ++ s ∷ []) task (life_by_call (life steps task) m e task)
    by_fate (Some t) e makes ends = elim (cases_eq t task) [
      | inl same ↦
          let name : made s.body ≡ Some task = makes ∙ ap Some same in
          let new : (life steps task) ≡ None =
          new_by_test (life steps task)
          (ap (λ (b : Bool). may_be_named b (life steps task))
          (sym (is_made_yes (made s.body) task name))
          ∙ name_allowed steps s.after s.body task follows (made_is_named task s.body name)) in
          let none : IsLife steps task None = subst (IsLife steps task) new (are task) in
          let live : life_by_call (life steps task) (Some t) e task ≡ Some Live =
          ap (λ (b : Bool). cond b (Some Live) (life steps task)) (eq-eqb t task same) in
          subst (IsLife (steps ++ s ∷ []) task) (sym live) (
            (s, Contains-push steps s, name),
            ended_before steps s task
                (λ over. none-some task (sym (making_ends_none task s.body name) ∙ over)) none.1,
          )
      | inr other ↦
          let kept : life_by_call (life steps task) (Some t) e task ≡ (life steps task) =
          ap (λ (b : Bool). cond b (Some Live) (life steps task)) (ne_eqb t task other) in
          subst (IsLife (steps ++ s ∷ []) task) (sym kept)
          (life_same steps s task (life steps task) (λ name. other (same_Some t task (sym makes ∙ name)))
          (λ over. none-some task (sym (making_ends_none t s.body makes) ∙ over)) (are task))
    ]
    by_fate None (Some t) makes ends = elim (cases_eq t task) [
      | inl same ↦
          let over : ended s.body ≡ Some task = ends ∙ ap Some same in
          let test : may_be_named false (life steps task) ≡ true =
          ap (λ (b : Bool). may_be_named b (life steps task))
          (sym (is_made_no (made s.body) task (λ name. none-some task (sym makes ∙ name))))
          ∙ name_allowed steps s.after s.body task follows (ended_is_named task s.body over) in
          let live : IsLife steps task (Some Live) =
          subst (IsLife steps task) (live_by_test (life steps task) test) (are task) in
          let gone : life_by_call (life steps task) None (Some t) task ≡ Some Over =
          ap (λ (b : Bool). cond b (Some Over) (life steps task)) (eq-eqb t task same) in
          subst (IsLife (steps ++ s ∷ []) task) (sym gone)
          (made_stays steps s task live.0, (s, Contains-push steps s, over))
      | inr other ↦
          let kept : life_by_call (life steps task) None (Some t) task ≡ (life steps task) =
          ap (λ (b : Bool). cond b (Some Over) (life steps task)) (ne_eqb t task other) in
          subst (IsLife (steps ++ s ∷ []) task) (sym kept)
          (life_same steps s task (life steps task) (λ name. none-some task (sym makes ∙ name))
          (λ over. other (same_Some t task (sym ends ∙ over))) (are task))
    ]
    by_fate None None makes ends =
        life_same steps s task (life steps task) (λ name. none-some task (sym makes ∙ name))
        (λ over. none-some task (sym ends ∙ over)) (are task)

-- by all steps of a script
abbrev no_step : Step
no_step = record { line = 0; thread = 0; after = None; body = ThreadEnd }

life_by : (steps : List Step) → IsScript steps → (n : ℕ) → n ≤ length steps → (task : ℕ)
    → IsLife (take n steps) task (life (take n steps) task)
life_by steps script zero low task = ((λ has. nothing has.0 has.1), (λ has. nothing has.0 has.1))
  where
    nothing : (s : Step) → Contains [] s → ⊥
    nothing s (k, within, is) = omega arith
life_by steps script (suc n) low task =
    let within : n < length steps = omega arith in
    let s : Step = get_or steps n no_step in
    let follows = script.follows n s (slice_get-get_or steps n no_step within) in
    let one : suc n ≡ n + 1 = omega arith in
    subst (λ (xs : List Step). IsLife xs task (life xs task))
    (sym (ap (λ m. take m steps) one ∙ take_more steps n no_step within))
    (life_more (take n steps) s task follows (life_by steps script n (omega arith)))

life_is : (steps : List Step) → IsScript steps → (task : ℕ) → IsLife steps task (life steps task)
life_is steps script task =
    subst (λ (xs : List Step). IsLife xs task (life xs task)) (take_all (length steps) steps (omega arith))
    (life_by steps script (length steps) (omega arith) task)

-- ---- the rules of a call

none_by_test : {A : Type 0} (o : Option A) → not (is_some o) ≡ true → o ≡ None
none_by_test None is = refl
none_by_test (Some x) is = absurd (false≢true is)

earlier_from : (steps : List Step) (after : Option (ℕ × ℕ)) → is_earlier steps after ≡ true
    → IfSome after (λ (a : ℕ × ℕ). a.1 < step_count steps a.0)
earlier_from steps None is = tt
earlier_from steps (Some (thread, number)) is = ltb-true number (step_count steps thread) is

earlier_to : (steps : List Step) (after : Option (ℕ × ℕ))
    → IfSome after (λ (a : ℕ × ℕ). a.1 < step_count steps a.0) → is_earlier steps after ≡ true
earlier_to steps None is = refl
earlier_to steps (Some (thread, number)) is = lt-ltb number (step_count steps thread) is

pub rules_from : (steps : List Step) (after : Option (ℕ × ℕ)) (body : Body) → IsScript steps
    → may_follow steps after body ≡ true → MayFollow steps after body
rules_from steps after body script follows =
    let names =
    and_parts (is_call body && is_earlier steps after && not (has_twice (named body)))
    (list_all (λ t. may_be_named (is_made (made body) t) (life steps t)) (named body)) follows in
    let twice = and_parts (is_call body && is_earlier steps after) (not (has_twice (named body))) names.0 in
    let earlier = and_parts (is_call body) (is_earlier steps after) twice.0 in
    let call = and_parts (not (is_some (claim body))) (not (is_some (told_turns body))) earlier.0 in
    record {
      no_claim = none_by_test (claim body) call.0;
      no_turns = none_by_test (told_turns body) call.1;
      earlier = earlier_from steps after earlier.1;
      apart = apart_from_test (named body) (not_true (has_twice (named body)) twice.1);
      live = λ task has other.
          let test : may_be_named false (life steps task) ≡ true =
          ap (λ (b : Bool). may_be_named b (life steps task)) (sym (is_made_no (made body) task other))
          ∙ name_allowed steps after body task follows has in
          subst (IsLife steps task) (live_by_test (life steps task) test) (life_is steps script task);
      new = λ task makes.
          let test : may_be_named true (life steps task) ≡ true =
          ap (λ (b : Bool). may_be_named b (life steps task)) (sym (is_made_yes (made body) task makes))
          ∙ name_allowed steps after body task follows (made_is_named task body makes) in
          let none : IsLife steps task None =
          subst (IsLife steps task) (new_by_test (life steps task) test) (life_is steps script task) in
          none.0;
    }
  where
    not_true : (b : Bool) → not b ≡ true → b ≡ false
    not_true false is = refl
    not_true true is = absurd (false≢true is)

pub rules_to : (steps : List Step) (after : Option (ℕ × ℕ)) (body : Body) → IsScript steps
    → MayFollow steps after body → may_follow steps after body ≡ true
rules_to steps after body script rules =
    and_from _ _
    (and_from _ _
    (and_from _ _
    (and_from _ _ (ap (λ o. not (is_some o)) rules.no_claim)
    (ap (λ o. not (is_some o)) rules.no_turns))
    (earlier_to steps after rules.earlier))
    (ap not (apart_to_test (named body) rules.apart)))
    (list_all-from_AllPass (λ t. may_be_named (is_made (made body) t) (life steps t)) (named body)
    (λ k d within. may (get_or (named body) k d) (Contains-get_or (named body) k d within)))
  where
    none_made : (task : ℕ) (o : Option Life) → (IsMadeByStep steps task → ⊥) → IsLife steps task o
        → may_be_named true o ≡ true
    none_made task None none is = refl
    none_made task (Some Live) none is = absurd (none is.0)
    none_made task (Some Over) none is = absurd (none is.0)

    is_live : (task : ℕ) (o : Option Life) → IsMadeByStep steps task → (IsEnded steps task → ⊥)
        → IsLife steps task o → may_be_named false o ≡ true
    is_live task None has none is = absurd (is.0 has)
    is_live task (Some Live) has none is = refl
    is_live task (Some Over) has none is = absurd (none is.1)

    by_made : (task : ℕ) → Contains (named body) task → (m : Option ℕ) → made body ≡ m
        → may_be_named (is_made m task) (life steps task) ≡ true
    by_made task has None makes =
        let live = rules.live task has (λ name. none-some task (sym makes ∙ name)) in
        is_live task (life steps task) live.0 live.1 (life_is steps script task)
    by_made task has (Some t) makes = elim (cases_eq t task) [
      | inl same ↦
          ap (λ (b : Bool). may_be_named b (life steps task)) (eq-eqb t task same)
          ∙ none_made task (life steps task) (rules.new task (makes ∙ ap Some same))
          (life_is steps script task)
      | inr other ↦
          let live = rules.live task has (λ name. other (same_Some t task (sym makes ∙ name))) in
          ap (λ (b : Bool). may_be_named b (life steps task)) (ne_eqb t task other)
          ∙ is_live task (life steps task) live.0 live.1 (life_is steps script task)
    ]

    may : (task : ℕ) → Contains (named body) task
        → may_be_named (is_made (made body) task) (life steps task) ≡ true
    may task has = by_made task has (made body) refl

-- ---- the first steps of a script

take_stands : (steps : List Step) (n i : ℕ) (s : Step) → n ≤ length steps
    → slice_get (take n steps) i ≡ Some s → (i < n) × (slice_get steps i ≡ Some s)
take_stands steps n i s low is =
    let within = slice_get_within (take n steps) i s is in
    let short = length-take-le n steps low in
    let before : i < n = omega (arith, within, short) in (
      before,
      slice_get-get_or steps i s (omega arith) ∙ ap Some (sym (get_or-take n steps i s before))
          ∙ sym (slice_get-get_or (take n steps) i s within) ∙ is,
    )

IsScript-take : (steps : List Step) (n : ℕ) → n ≤ length steps → IsScript steps → IsScript (take n steps)
IsScript-take steps n low script =
    record {
      lines = λ i s is. script.lines i s (take_stands steps n i s low is).1;
      follows = λ i s is.
          let stands = take_stands steps n i s low is in
          ap (λ (before : List Step). may_follow before s.after s.body)
          (take-take i n steps (omega (arith, stands.0)))
          ∙ script.follows i s stands.1;
    }

pub step_rules : (steps : List Step) (i : ℕ) (s : Step) → IsScript steps → slice_get steps i ≡ Some s
    → MayFollow (take i steps) s.after s.body
step_rules steps i s script is =
    let within = slice_get_within steps i s is in
    rules_from (take i steps) s.after s.body (IsScript-take steps i (omega arith) script)
    (script.follows i s is)
