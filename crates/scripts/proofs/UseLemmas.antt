-- The uses of tasks by the steps of a script.
use Rattle.std.proofs.Common.{ℕ, ◌≡◌, ◌≢◌, ◌∙◌, ◌++◌, ◌∷◌, ◌+◌, ◌<◌, ◌≤◌, ◌⊎◌, [], List, Some, None, Option}
use Rattle.std.proofs.Common.{◌-◌, set, length, refl, ap, sym, subst, inl, inr, arith, Bool, true, false}
use Rattle.std.proofs.Common.{cond}
use Rattle.std.proofs.Common.{get_or, take}
use Rattle.std.proofs.Common.{get_or-set_same, get_or-set_other}
use Rattle.std.specs.Prelude.{◌==◌, ◌&&◌, slice_get, option_map, Contains}
use Rattle.std.specs.Option.{option_map_or}
use Rattle.std.proofs.lemmas.Bool.{cases_Bool, cases_eq, cases_lt, eq-eqb, eqb-true, false≢true, ne_eqb}
use Rattle.std.proofs.lemmas.Bool.{and_parts, or_cases, or_from, or_left, or_right}
use Rattle.std.proofs.lemmas.List.{length-set, length_push}
use Rattle.std.proofs.lemmas.List.Elements.{Contains-append_left, Contains-push, Contains-push_cases}
use Rattle.std.proofs.lemmas.Option.{none-some, same_Some, slice_get_within}
use Rattle.std.proofs.lemmas.Option.{get_or_from_slice_get}
use Rattle.ompt_events.specs.Records.{made}
use Rattle.ompt_events.specs.States.{is_task}
use Rattle.ompt_events.proofs.ListLemmas.{pushed_cases, get_contains}
use Rattle.ompt_events.proofs.PlaceLemmas.{is_the_task}
use Rattle.task_tree.proofs.LinkLemmas.{get_set_same, get_set_other}
use Rattle.index_tables.specs.Numbering.{AreApart}
use Rattle.scripts.specs.declared.script.Step.{Step}
use Rattle.scripts.specs.Scripts.{IsScript}
use Rattle.scripts.specs.Rules.{IsMadeByStep}
use Rattle.scripts.proofs.RuleLemmas.{step_rules}
use Rattle.callbacks.proofs.KnownLaw.{take_next}
use Rattle.packed_trace.specs.Named.{subject, object}
use Rattle.scripts.specs.RunCalls.{names_it}
use Rattle.scripts.specs.HandOvers.{is_use, IsNextUse}
use Rattle.scripts.specs.Parts.{IsUnusedSince, IsUseOf, IsUsed, AreUses, AreLastUses, IsNumberOf, IsTold}
use Rattle.scripts.specs.Parts.{AreNumbered, IsFound, noted, next_of, with_next, told_use, told_next}
use Rattle.scripts.specs.declared.uses.Use.{Use}
use Rattle.scripts.specs.declared.uses.Uses.{Uses}

-- ---- the tasks that the steps make

-- each once, and each made by one of the first steps
pub record AreMade (steps : List Step) (n : ℕ) (tasks : List ℕ) : Type 0 where
  pub apart : AreApart tasks
  pub made_by : (task : ℕ) → Contains tasks task → IsMadeByStep (take n steps) task
  pub few : length tasks ≤ n

-- a task that was made stays made
pub made_later : (steps : List Step) (n : ℕ) (s : Step) (task : ℕ) → slice_get steps n ≡ Some s
    → IsMadeByStep (take n steps) task → IsMadeByStep (take (n + 1) steps) task
made_later steps n s task is (x, has, makes) =
    subst (λ (l : List Step). IsMadeByStep l task) (sym (take_next steps n s is))
    (x, Contains-append_left (take n steps) (s ∷ []) x has, makes)

-- with one step more, which makes a task that no earlier one made, or none
pub made_next : (steps : List Step) (n : ℕ) (s : Step) (tasks : List ℕ) (task : ℕ) → IsScript steps
    → slice_get steps n ≡ Some s → made s.body ≡ Some task → AreMade steps n tasks
    → AreMade steps (n + 1) (tasks ++ task ∷ [])
made_next steps n s tasks task script is makes are = record {
  apart = λ a b id here there. elim (pushed_cases tasks task id a here) [
    | inl old ↦ elim (pushed_cases tasks task id b there) [
      | inl also ↦ are.apart a b id old also
      | inr (last, same) ↦ absurd (other a id old same)
    ]
    | inr (last, same) ↦ elim (pushed_cases tasks task id b there) [
      | inl also ↦ absurd (other b id also same)
      | inr (too, _) ↦ last ∙ sym too
    ]
  ];
  made_by = λ id has. elim (Contains-push_cases tasks task id has) [
    | inl old ↦ made_later steps n s id is (are.made_by id old)
    | inr same ↦
        subst (λ (l : List Step). IsMadeByStep l id) (sym (take_next steps n s is))
        (s, Contains-push (take n steps) s, makes ∙ ap Some same)
  ];
  few = let longer = length_push tasks task in let low = are.few in omega arith;
}
  where
    other : (k id : ℕ) → slice_get tasks k ≡ Some id → task ≡ id → ⊥
    other k id old same =
        (step_rules steps n s script is).new task makes
        (are.made_by task (get_contains tasks task k (old ∙ ap Some (sym same))))

pub made_same : (steps : List Step) (n : ℕ) (s : Step) (tasks : List ℕ) → slice_get steps n ≡ Some s
    → AreMade steps n tasks → AreMade steps (n + 1) tasks
made_same steps n s tasks is are = record {
  apart = are.apart;
  made_by = λ id has. made_later steps n s id is (are.made_by id has);
  few = let low = are.few in omega arith;
}

-- ---- a table of uses

-- with one of them changed to another use by the same step
pub uses_set : (steps : List Step) (n : ℕ) (uses : List Uses) (i : ℕ) (old new : Uses)
    → slice_get uses i ≡ Some old → (IsUsed steps n i old → IsUsed steps n i new) → AreUses steps n uses
    → AreUses steps n (set uses i new)
uses_set steps n uses i old new is keeps are at u stands = elim (cases_eq at i) [
  | inl same ↦
      let own : new ≡ u =
      same_Some new u
      (sym (get_set_same uses i new (slice_get_within uses i old is))
      ∙ ap (slice_get (set uses i new)) (sym same) ∙ stands) in
      subst (λ (k : ℕ). IsUsed steps n k u) (sym same) (subst (IsUsed steps n i) own (keeps (are i old is)))
  | inr apart ↦ are at u (sym (get_set_other uses i at new apart) ∙ stands)
]

-- with the use by one step more
pub uses_next : (steps : List Step) (n at : ℕ) (uses : List Uses) (used : Uses) → length uses ≡ at
    → IsUsed steps n at used → AreUses steps n uses → AreUses steps n (uses ++ used ∷ [])
uses_next steps n at uses used long is are k u stands = elim (pushed_cases uses used u k stands) [
  | inl old ↦ are k u old
  | inr (last, same) ↦
      subst (λ (m : ℕ). IsUsed steps n m u) (sym (last ∙ long)) (subst (IsUsed steps n at) same is)
]

-- ---- the last uses of the tasks

-- the use of a task that was found
pub use_found : (steps : List Step) (at : ℕ) (ids since : List ℕ) (named : Option ℕ) (found : Option Use)
    → AreLastUses steps at ids since
    → IsFound ids since named (option_map (λ (u : Use). (u.task, u.since)) found)
    → (task : ℕ) (u : Use) → named ≡ Some task → found ≡ Some u → IsUnusedSince steps task u.since at
use_found steps at ids since named None last is task u _ none = absurd (none-some u none)
use_found steps at ids since None (Some v) last is task u none _ = absurd (none-some task none)
use_found steps at ids since (Some own) (Some v) last is task u same there =
    let here : slice_get ids v.task ≡ Some own = (is.0 v.task).0 refl in
    let unused : IsUnusedSince steps own (get_or since v.task 0) at =
    last v.task own here (slice_get_within since v.task v.since is.1) in
    let since_is : get_or since v.task 0 ≡ u.since =
    get_or_from_slice_get since v.task v.since 0 is.1 ∙ ap (λ (x : Use). x.since) (same_Some v u there) in
    subst (λ (t : ℕ). IsUnusedSince steps t u.since at) (same_Some own task same)
    (subst (λ (k : ℕ). IsUnusedSince steps own k at) since_is unused)

-- its number
pub number_found : (ids since : List ℕ) (named : Option ℕ) (found : Option Use)
    → IsFound ids since named (option_map (λ (u : Use). (u.task, u.since)) found) → IsNumberOf ids named found
number_found ids since named None is task u _ none = absurd (none-some u none)
number_found ids since None (Some v) is task u none _ = absurd (none-some task none)
number_found ids since (Some own) (Some v) is task u same there =
    subst (λ (t : ℕ). slice_get ids u.task ≡ Some t) (same_Some own task same)
    (subst (λ (x : Use). slice_get ids x.task ≡ Some own) (same_Some v u there) ((is.0 v.task).0 refl))

-- a task that has a number is found
pub found_there : (ids since : List ℕ) (named : Option ℕ) (found : Option Use)
    → IsFound ids since named (option_map (λ (u : Use). (u.task, u.since)) found)
    → (task number : ℕ) → named ≡ Some task → slice_get ids number ≡ Some task → number < length since
    → (u : Use) × (found ≡ Some u) × (u.task ≡ number)
found_there ids since None found is task number none there within = absurd (none-some task none)
found_there ids since (Some own) None is task number same there within =
    absurd (is number within (there ∙ sym same))
found_there ids since (Some own) (Some v) is task number same there within =
    (v, refl, (is.0 number).1 (there ∙ sym same))

not_found : (ids since : List ℕ) (named : Option ℕ) (found : Option Use)
    → IsFound ids since named (option_map (λ (u : Use). (u.task, u.since)) found) → named ≡ None
    → found ≡ None
not_found ids since None None is none = refl
not_found ids since None (Some v) is none = absurd (none-some _ (sym is))
not_found ids since (Some task) found is none = absurd (none-some task (sym none))

-- all of that
pub told_of : (steps : List Step) (at : ℕ) (ids since : List ℕ) (named : Option ℕ) (found : Option Use)
    → length since ≡ length ids → AreLastUses steps at ids since
    → IsFound ids since named (option_map (λ (u : Use). (u.task, u.since)) found)
    → IsTold steps ids at named found
told_of steps at ids since named found long last is = record {
  number = number_found ids since named found is;
  found = λ task number names there.
      found_there ids since named found is task number names there
      (let within = slice_get_within ids number task there in omega (arith, within, long));
  none = not_found ids since named found is;
  since = use_found steps at ids since named found last is;
}

length_noted : (since : List ℕ) (number : Option ℕ) (now : ℕ)
    → length (noted since number now) ≡ length since
length_noted since None now = refl
length_noted since (Some number) now = length-set since number now

-- what is noted of one task: now, where it is this one, or what was
noted_cases : (since : List ℕ) (found : Option ℕ) (now number : ℕ) → number < length since
    → ((found ≡ Some number) × (get_or (noted since found now) number 0 ≡ now))
    ⊎ ((found ≢ Some number) × (get_or (noted since found now) number 0 ≡ get_or since number 0))
noted_cases since None now number within = inr ((λ e. none-some number e), refl)
noted_cases since (Some k) now number within = elim (cases_eq number k) [
  | inl same ↦
      inl (
        ap Some (sym same),
        ap (λ (n : ℕ). get_or (set since k now) n 0) same
            ∙ get_or-set_same since k now 0 (subst (λ (n : ℕ). n < length since) same within),
      )
  | inr apart ↦
      inr ((λ e. apart (sym (same_Some k number e))), get_or-set_other since k number now 0 apart)
]

-- a task that is not the one found is not the one named
other_named : (ids since : List ℕ) (named : Option ℕ) (found : Option Use) (number id : ℕ)
    → IsFound ids since named (option_map (λ (u : Use). (u.task, u.since)) found)
    → slice_get ids number ≡ Some id → number < length since
    → option_map (λ (u : Use). u.task) found ≢ Some number → is_task id named ≡ false
other_named ids since None found number id is here within other = refl
other_named ids since (Some task) None number id is here within other =
    ne_eqb task id (λ same. is number within (here ∙ ap Some (sym same)))
other_named ids since (Some task) (Some u) number id is here within other =
    ne_eqb task id (λ same. other (ap Some ((is.0 number).1 (here ∙ ap Some (sym same)))))

-- and one that is the one found is named
own_named : (ids since : List ℕ) (named : Option ℕ) (found : Option Use) (number id : ℕ)
    → IsFound ids since named (option_map (λ (u : Use). (u.task, u.since)) found)
    → slice_get ids number ≡ Some id → option_map (λ (u : Use). u.task) found ≡ Some number
    → is_task id named ≡ true
own_named ids since named None number id is here none = absurd (none-some number none)
own_named ids since None (Some u) number id is here own = absurd (none-some _ (sym is))
own_named ids since (Some task) (Some u) number id is here own =
    let same = (is.0 number).0 (same_Some u.task number own) in
    eq-eqb task id (same_Some task id (sym same ∙ here))

-- a step that names the task with its body
use_here : (steps : List Step) (at : ℕ) (s : Step) (task : ℕ) (named : Bool) → slice_get steps at ≡ Some s
    → names_it s.body task ≡ named → is_use steps task at ≡ named
use_here steps at s task named is names =
    ap (λ (o : Option Step). option_map_or (λ (q : Step). names_it q.body task) o false) is ∙ names

-- with one step more, which names these two and no others
pub last_next : (steps : List Step) (at : ℕ) (s : Step) (ids since : List ℕ) (first second : Option Use)
    → slice_get steps at ≡ Some s → AreLastUses steps at ids since
    → IsFound ids since (subject s.body) (option_map (λ (u : Use). (u.task, u.since)) first)
    → IsFound ids since (object s.body) (option_map (λ (u : Use). (u.task, u.since)) second)
    → AreLastUses steps (at + 1) ids
    (noted (noted since (option_map (λ (u : Use). u.task) first) (at + 1))
    (option_map (λ (u : Use). u.task) second) (at + 1))
last_next steps at s ids since first second there last is is_too number id here within =
    elim (noted_cases once also (at + 1) number inside) [
      | inl (own, new) ↦
          used_now _ new
          (or_right (is_task id (subject s.body)) (is_task id (object s.body))
          (own_named ids since (object s.body) second number id is_too here own))
      | inr (apart, same) ↦ elim (noted_cases since named (at + 1) number low) [
        | inl (own, new) ↦
            used_now _ (same ∙ new)
            (or_left (is_task id (subject s.body)) (is_task id (object s.body))
            (own_named ids since (subject s.body) first number id is here own))
        | inr (other, old) ↦
            let before : IsUnusedSince steps id (get_or since number 0) at = last number id here low in
            subst (λ (n : ℕ). IsUnusedSince steps id n (at + 1)) (sym (same ∙ old)) record {
              up_to = let up = before.up_to in omega arith;
              unnamed = λ i from less. elim (cases_lt i at) [
                | inl earlier ↦ before.unnamed i from earlier
                | inr late ↦
                    let now : i ≡ at = omega arith in
                    ap (is_use steps id) now
                    ∙ use_here steps at s id false there
                    (or_from (is_task id (subject s.body)) (is_task id (object s.body))
                    (other_named ids since (subject s.body) first number id is here low other)
                    (other_named ids since (object s.body) second number id is_too here low apart))
              ];
              last = before.last;
            }
      ]
    ]
  where
    named : Option ℕ
    named = option_map (λ (u : Use). u.task) first

    also : Option ℕ
    also = option_map (λ (u : Use). u.task) second

    once : List ℕ
    once = noted since named (at + 1)

    inside : number < length once
    inside = let long = length_noted once also (at + 1) in omega (arith, within)

    low : number < length since
    low = let long = length_noted since named (at + 1) in omega (arith, inside)

    used_now : (n : ℕ) → n ≡ at + 1 → names_it s.body id ≡ true → IsUnusedSince steps id n (at + 1)
    used_now n new names = record {
      up_to = omega arith;
      unnamed = λ i from less. absurd (omega arith);
      last = λ some.
          let one : at ≡ n - 1 = omega arith in
          ap (is_use steps id) (sym one) ∙ use_here steps at s id true there names;
    }

-- ---- the next uses

-- the test by which a use is told of the next one
abbrev is_told : Use → ℕ → Use → Bool
is_told found at u = (found.since == at + 1) && (u.task == found.task)

told_other : (found : Option Use) (thread at : ℕ) (u : Use)
    → ((x : Use) → found ≡ Some x → is_told x at u ≡ false) → told_use found thread at u ≡ u
told_other None thread at u never = refl
told_other (Some x) thread at u never =
    ap (λ b. cond b (record u { next = Some thread }) u) (never x refl)

told_here : (found : Option Use) (thread at : ℕ) (u x : Use) → found ≡ Some x → is_told x at u ≡ true
    → told_use found thread at u ≡ record u { next = Some thread }
told_here found thread at u x is told =
    ap (λ o. told_use o thread at u) is ∙ ap (λ b. cond b (record u { next = Some thread }) u) told

told_task : (found : Option Use) (thread at : ℕ) (u : Use) → (told_use found thread at u).task ≡ u.task
told_task None thread at u = refl
told_task (Some x) thread at u = by (is_told x at u)
  where
    by : (b : Bool) → (cond b (record u { next = Some thread }) u).task ≡ u.task
    by true = refl
    by false = refl

told_since : (found : Option Use) (thread at : ℕ) (u : Use) → (told_use found thread at u).since ≡ u.since
told_since None thread at u = refl
told_since (Some x) thread at u = by (is_told x at u)
  where
    by : (b : Bool) → (cond b (record u { next = Some thread }) u).since ≡ u.since
    by true = refl
    by false = refl

told_stays : (found : Option Use) (thread at : ℕ) (u : Use) → u.next ≡ Some thread
    → (told_use found thread at u).next ≡ Some thread
told_stays None thread at u is = is
told_stays (Some x) thread at u is = by (is_told x at u)
  where
    by : (b : Bool) → (cond b (record u { next = Some thread }) u).next ≡ Some thread
    by true = refl
    by false = is

-- an earlier next use stays the one that is noted
next_kept : (steps : List Step) (ids : List ℕ) (at : ℕ) (named : Option ℕ) (found : Option Use)
    (thread i task k : ℕ) (u : Use) (next : Option ℕ) → IsTold steps ids at named found
    → slice_get ids u.task ≡ Some task → IsNextUse steps task i k → k < at → u.next ≡ next
    → (told_use found thread i u).next ≡ next
next_kept steps ids at named found thread i task k u next told number uses below is =
    ap (λ (x : Use). x.next) (told_other found thread i u never) ∙ is
  where
    named_by : (x : Use) → found ≡ Some x → (t : ℕ) × (named ≡ Some t)
    named_by x here = by named refl
      where
        by : (o : Option ℕ) → named ≡ o → (t : ℕ) × (named ≡ Some t)
        by None none = absurd (none-some x (sym (told.none none) ∙ here))
        by (Some t) some = (t, some)

    clash : (x : Use) → found ≡ Some x → ((x.since == i + 1) ≡ true) × ((u.task == x.task) ≡ true)
        → (t : ℕ) × (named ≡ Some t) → ⊥
    clash x here (last, same) (t, names) =
        let number_is : u.task ≡ x.task = eqb-true u.task x.task same in
        let since_is : x.since ≡ i + 1 = eqb-true x.since (i + 1) last in
        let own : t ≡ task =
        same_Some t task
        (sym (told.number t x names here) ∙ ap (slice_get ids) (sym number_is) ∙ number) in
        let unused = told.since t x names here in
        let low = uses.below in
        false≢true
        (sym (unused.unnamed k (omega (arith, since_is, low)) below) ∙ ap (λ n. is_use steps n k) own
        ∙ uses.used_next)

    never : (x : Use) → found ≡ Some x → is_told x i u ≡ false
    never x here = elim (cases_Bool (is_told x i u)) [
      | inl same ↦
          absurd (clash x here (and_parts (x.since == i + 1) (u.task == x.task) same) (named_by x here))
      | inr other ↦ other
    ]

-- the use at this place is noted as the next one
next_told : (steps : List Step) (ids : List ℕ) (at : ℕ) (named : Option ℕ) (found : Option Use)
    (thread i task : ℕ) (u : Use) → IsTold steps ids at named found → slice_get ids u.task ≡ Some task
    → named ≡ Some task → IsNextUse steps task i at → (told_use found thread i u).next ≡ Some thread
next_told steps ids at named found thread i task u told number names uses =
    let (x, here, same) = told.found task u.task names number in
    let unused = told.since task x names here in
    let low = uses.below in
    let past : i < x.since = elim (cases_lt i x.since) [
      | inl less ↦ less
      | inr from ↦ absurd (false≢true (sym (unused.unnamed i from low) ∙ uses.used))
    ] in
    let up = unused.up_to in
    let last = unused.last (omega (arith, past)) in
    let since_is : x.since ≡ i + 1 = elim (cases_lt i (x.since - 1)) [
      | inl between ↦
          absurd (false≢true (sym (uses.between (x.since - 1) between (omega (arith, up, past))) ∙ last))
      | inr there ↦ omega (arith, there, past)
    ] in
    ap (λ (v : Use). v.next)
    (told_here found thread i u x here
    (ap (λ b. b && (u.task == x.task)) (eq-eqb x.since (i + 1) since_is)
    ∙ eq-eqb u.task x.task (sym same)))

-- what is told of one use of a task by both uses of the next step
told_both : (steps : List Step) (ids : List ℕ) (at : ℕ) (s : Step) (used : Uses) (i : ℕ)
    (named : Option ℕ) (o : Option Use) → slice_get steps at ≡ Some s
    → IsTold steps ids at (subject s.body) used.first
    → IsTold steps ids at (object s.body) used.second → i < at → IsNumberOf ids named o
    → IsUseOf steps at i named o
    → IsUseOf steps (at + 1) i named
    (option_map (told_use used.second s.thread i) (option_map (told_use used.first s.thread i) o))
told_both steps ids at s used i named None is told also below number used_so = record {
  since = λ task u names none. absurd (none-some u none);
  next = λ task k t u names none. absurd (none-some u none);
}
told_both steps ids at s used i named (Some v) is told also below number used_so = record {
  since = λ task u names some.
      subst (λ n. IsUnusedSince steps task n i)
      (sym (told_since used.first s.thread i v) ∙ sym (told_since used.second s.thread i once)
      ∙ ap (λ (x : Use). x.since) (same_Some twice u some))
      (used_so.since task v names refl);
  next = λ task k t u names some uses less stands.
      sym (ap (λ (x : Use). x.next) (same_Some twice u some)) ∙ elim (cases_lt k at) [
        | inl earlier ↦ earlier_next task k t names uses earlier stands
        | inr late ↦ now_next task k t names uses (omega (arith, late, less)) stands
      ];
}
  where
    once : Use
    once = told_use used.first s.thread i v

    twice : Use
    twice = told_use used.second s.thread i once

    of_once : (task : ℕ) → slice_get ids v.task ≡ Some task → slice_get ids once.task ≡ Some task
    of_once task is_number = ap (slice_get ids) (told_task used.first s.thread i v) ∙ is_number

    earlier_next : (task k : ℕ) (t : Step) → named ≡ Some task → IsNextUse steps task i k → k < at
        → slice_get steps k ≡ Some t → twice.next ≡ Some t.thread
    earlier_next task k t names uses earlier stands =
        let own = number task v names refl in
        next_kept steps ids at (object s.body) used.second s.thread i task k once (Some t.thread) also
        (of_once task own) uses earlier
        (next_kept steps ids at (subject s.body) used.first s.thread i task k v (Some t.thread) told own
        uses earlier (used_so.next task k t v names refl uses earlier stands))

    now_next : (task k : ℕ) (t : Step) → named ≡ Some task → IsNextUse steps task i k → k ≡ at
        → slice_get steps k ≡ Some t → twice.next ≡ Some t.thread
    now_next task k t names uses now stands =
        let own = number task v names refl in
        let here = subst (IsNextUse steps task i) now uses in
        let same : s ≡ t = same_Some s t (sym is ∙ ap (slice_get steps) (sym now) ∙ stands) in
        let is_named : names_it s.body task ≡ true = sym (use_here steps at s task _ is refl)
        ∙ here.used_next in
        elim (or_cases (is_task task (subject s.body)) (is_task task (object s.body)) is_named) [
          | inl first ↦
              told_stays used.second s.thread i once
              (next_told steps ids at (subject s.body) used.first s.thread i task v told own
              (is_the_task task (subject s.body) first) here)
              ∙ ap (λ (x : Step). Some x.thread) same
          | inr second ↦
              next_told steps ids at (object s.body) used.second s.thread i task once also
              (of_once task own) (is_the_task task (object s.body) second) here
              ∙ ap (λ (x : Step). Some x.thread) same
        ]

-- the uses by all steps, after those by one step more are told of at the last uses of its tasks
abbrev pub AreTold : Uses → ℕ → List Uses → List Uses → Type 0
AreTold used thread before after =
    (i : ℕ) → slice_get after i
    ≡ option_map (told_next used.second thread i)
    (option_map (told_next used.first thread i) (slice_get before i))

told_from : (used : Uses) (thread i : ℕ) (u : Uses) (before after : List Uses)
    → AreTold used thread before after → slice_get after i ≡ Some u
    → (v : Uses) × (slice_get before i ≡ Some v)
    × (told_next used.second thread i (told_next used.first thread i v) ≡ u)
told_from used thread i u before after told stands = by (slice_get before i) refl
  where
    by : (o : Option Uses) → slice_get before i ≡ o
        → (v : Uses) × (slice_get before i ≡ Some v)
        × (told_next used.second thread i (told_next used.first thread i v) ≡ u)
    by None none =
        absurd
        (none-some u
        (sym (ap (λ o. option_map (told_next used.second thread i)
        (option_map (told_next used.first thread i) o))
        none) ∙ sym (told i) ∙ stands))
    by (Some v) some = (
      v,
      some,
      same_Some (told_next used.second thread i (told_next used.first thread i v)) u
          (sym (ap (λ o. option_map (told_next used.second thread i)
          (option_map (told_next used.first thread i) o))
          some) ∙ sym (told i) ∙ stands),
    )

pub uses_told : (steps : List Step) (ids : List ℕ) (at : ℕ) (s : Step) (used : Uses)
    (before after : List Uses) → slice_get steps at ≡ Some s
    → IsTold steps ids at (subject s.body) used.first
    → IsTold steps ids at (object s.body) used.second → length before ≡ at
    → AreNumbered steps ids before → AreUses steps at before → AreTold used s.thread before after
    → AreUses steps (at + 1) after
uses_told steps ids at s used before after is told also long numbered are all i u stands =
    let (v, was, same) = told_from used s.thread i u before after all stands in
    let within = slice_get_within before i v was in
    let below : i < at = omega (arith, within, long) in
    subst (IsUsed steps (at + 1) i) same (record {
      first = λ q there.
          told_both steps ids at s used i (subject q.body) v.first is told also below
          (numbered i v q was there).0 ((are i v was).first q there);
      second = λ q there.
          told_both steps ids at s used i (object q.body) v.second is told also below
          (numbered i v q was there).1 ((are i v was).second q there);
    })

-- a use that is told of keeps its number
number_told : (ids : List ℕ) (named : Option ℕ) (used : Uses) (thread i : ℕ) (o : Option Use)
    → IsNumberOf ids named o
    → IsNumberOf ids named
    (option_map (told_use used.second thread i) (option_map (told_use used.first thread i) o))
number_told ids named used thread i None number task u names none = absurd (none-some u none)
number_told ids named used thread i (Some v) number task u names some =
    let once = told_use used.first thread i v in
    ap (slice_get ids)
    (sym (ap (λ (x : Use). x.task) (same_Some (told_use used.second thread i once) u some))
    ∙ told_task used.second thread i once ∙ told_task used.first thread i v)
    ∙ number task v names refl

pub numbers_told : (steps : List Step) (ids : List ℕ) (used : Uses) (thread : ℕ) (before after : List Uses)
    → AreNumbered steps ids before → AreTold used thread before after → AreNumbered steps ids after
numbers_told steps ids used thread before after numbered all i u s stands is =
    let (v, was, same) = told_from used thread i u before after all stands in
    let (first, second) = numbered i v s was is in
    subst (λ (x : Uses). IsNumberOf ids (subject s.body) x.first
    × IsNumberOf ids (object s.body) x.second)
    same (
      number_told ids (subject s.body) used thread i v.first first,
      number_told ids (object s.body) used thread i v.second second,
    )

-- with those by one step more
pub numbers_next : (steps : List Step) (ids : List ℕ) (at : ℕ) (s : Step) (uses : List Uses) (used : Uses)
    → slice_get steps at ≡ Some s → length uses ≡ at
    → IsNumberOf ids (subject s.body) used.first → IsNumberOf ids (object s.body) used.second
    → AreNumbered steps ids uses → AreNumbered steps ids (uses ++ used ∷ [])
numbers_next steps ids at s uses used is long first second numbered i u q stands there =
    elim (pushed_cases uses used u i stands) [
      | inl old ↦ numbered i u q old there
      | inr (last, same) ↦
          let own : s ≡ q =
          same_Some s q (sym is ∙ ap (slice_get steps) (sym (last ∙ long)) ∙ there) in
          subst (λ (x : Uses). IsNumberOf ids (subject q.body) x.first
          × IsNumberOf ids (object q.body) x.second)
          same
          (subst (λ (x : Step). IsNumberOf ids (subject x.body) used.first
          × IsNumberOf ids (object x.body) used.second) own (first, second))
    ]

-- no later step is among the first ones
pub used_last : (steps : List Step) (ids : List ℕ) (at : ℕ) (s : Step) (used : Uses)
    → slice_get steps at ≡ Some s → IsTold steps ids at (subject s.body) used.first
    → IsTold steps ids at (object s.body) used.second → IsUsed steps (at + 1) at used
used_last steps ids at s used is told also = record {
  first = λ q there.
      subst (λ (x : Step). IsUseOf steps (at + 1) at (subject x.body) used.first)
      (same_Some s q (sym is ∙ there)) (of_told (subject s.body) used.first told);
  second = λ q there.
      subst (λ (x : Step). IsUseOf steps (at + 1) at (object x.body) used.second)
      (same_Some s q (sym is ∙ there)) (of_told (object s.body) used.second also);
}
  where
    of_told : (named : Option ℕ) (found : Option Use) → IsTold steps ids at named found
        → IsUseOf steps (at + 1) at named found
    of_told named found it = record {
      since = it.since;
      next = λ task k t u names some uses less stands. let low = uses.below in absurd (omega arith);
    }

-- ---- one note of a next use

pub told_none : (found : Option Use) (thread at : ℕ) (u : Uses)
    → ((x : Use) → found ≡ Some x → (x.since == at + 1) ≡ false) → told_next found thread at u ≡ u
told_none found thread at u never =
    ap (λ o. record u { first = o; second = option_map (told_use found thread at) u.second }) (same u.first)
    ∙ ap (λ o. record u { second = o }) (same u.second)
  where
    same : (o : Option Use) → option_map (told_use found thread at) o ≡ o
    same None = refl
    same (Some v) =
        ap Some
        (told_other found thread at v (λ x here. ap (λ b. b && (v.task == x.task)) (never x here)))

pub told_one : (x : Use) (thread at : ℕ) (u : Uses) → x.since ≡ at + 1
    → told_next (Some x) thread at u ≡ with_next x.task thread u
told_one x thread at u is =
    ap (λ o. record u { first = o; second = option_map (told_use (Some x) thread at) u.second })
    (same u.first)
    ∙ ap (λ o. record u { first = option_map (next_of x.task thread) u.first; second = o }) (same u.second)
  where
    same : (o : Option Use)
        → option_map (told_use (Some x) thread at) o ≡ option_map (next_of x.task thread) o
    same None = refl
    same (Some v) =
        ap (λ b. Some (cond (b && (v.task == x.task)) (record v { next = Some thread }) v))
        (eq-eqb x.since (at + 1) is)

unchanged : (found : Option Use) (thread at : ℕ) (o : Option Uses)
    → ((u : Uses) → o ≡ Some u → told_next found thread at u ≡ u)
    → o ≡ option_map (told_next found thread at) o
unchanged found thread at None same = refl
unchanged found thread at (Some u) same = ap Some (sym (same u refl))

-- the last use is told of the next one
pub told_set : (uses : List Uses) (x : Use) (thread k : ℕ) (old new : Uses) → slice_get uses k ≡ Some old
    → x.since ≡ k + 1 → new ≡ with_next x.task thread old → (at : ℕ)
    → slice_get (set uses k new) at ≡ option_map (told_next (Some x) thread at) (slice_get uses at)
told_set uses x thread k old new stands since is at = elim (cases_eq at k) [
  | inl same ↦
      ap (slice_get (set uses k new)) same
      ∙ get_set_same uses k new (slice_get_within uses k old stands)
      ∙ ap Some (is ∙ sym (told_one x thread k old since))
      ∙ ap (option_map (told_next (Some x) thread k)) (sym stands)
      ∙ ap (λ (n : ℕ). option_map (told_next (Some x) thread n) (slice_get uses n)) (sym same)
  | inr apart ↦
      get_set_other uses k at new apart
      ∙ unchanged (Some x) thread at (slice_get uses at) (λ u there.
      told_none (Some x) thread at u (λ y here.
      ap (λ (z : Use). z.since == at + 1) (sym (same_Some x y here))
      ∙ ne_eqb x.since (at + 1) (λ e. apart (omega (arith, e, since)))))
]
