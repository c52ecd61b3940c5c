-- A record has no order exactly where it happens before itself, or after a record that does.
use Rattle.std.proofs.Common.{◌≡◌, ◌≢◌, ◌∙◌, ℕ, zero, suc, ◌<◌, ◌≤◌, ◌+◌, List, [], ◌∷◌, ◌++◌, length, take}
use Rattle.std.proofs.Common.{Option, Some, None, true, false, Bool, eqb, refl, sym, ap, subst, arith, inl}
use Rattle.std.proofs.Common.{inr, ◌⊎◌}
use Rattle.std.proofs.lemmas.Bool.{cases_eq, cases_lt, cases_Bool, eqb-true, false≢true}
use Rattle.std.proofs.lemmas.Option.{none-some, same_Some}
use Rattle.std.proofs.lemmas.List.{take-append-le, take_all, get_or_push, get_or_append_left, get_or-take}
use Rattle.std.proofs.lemmas.List.{get_or_default, length-take, length_push}
use Rattle.std.proofs.lemmas.List.Elements.{Contains-append_left, Contains-push}
use Rattle.std.proofs.lemmas.Map.Keys.{IsDistinct-cons}
use Rattle.std.proofs.lemmas.Map.Steps.{length-le_from_distinct_below}
use Rattle.std.specs.List.{IsDistinct, list_any}
use Rattle.std.specs.Prelude.{is_some, slice_index, Contains, ◌||◌}
use Rattle.ompt_events.specs.declared.records.Record.{Record}
use Rattle.ompt_events.specs.Records.{created, begun_turn, suspended_turn, discarded, fulfilled, finish}
use Rattle.ompt_events.specs.Places.{at, thread_at, seen_at}
use Rattle.ompt_events.specs.HappensBefore.{IsStart, IsResumption, thread_order, creation, resumption}
use Rattle.ompt_events.specs.HappensBefore.{discard, fulfilment, IsProgramStep, IsStep, program, ledger}
use Rattle.ompt_events.specs.HappensBefore.{HappensBefore, step, chain}
use Rattle.ompt_events.specs.Linearization.{IsGrounded, IsDue}
use Rattle.ompt_events.specs.Causes.{HasNoOrder}
use Rattle.ompt_events.proofs.HappensBeforeLemmas.{step_from}
use Rattle.ompt_events.proofs.LinearizationLemmas.{IsClosed, due_from_steps, grounded_rising}
use Rattle.ompt_events.proofs.ListLemmas.{none_equal}

-- ---- whether one record is a step before another

same_option : (a b : Option ℕ) → (a ≡ b) ⊎ (a ≡ b → ⊥)
same_option None None = inl refl
same_option None (Some y) = inr (none-some y)
same_option (Some x) None = inr (λ e. none-some x (sym e))
same_option (Some x) (Some y) = elim (cases_eq x y) [
  | inl same ↦ inl (ap Some same)
  | inr apart ↦ inr (λ e. apart (same_Some x y e))
]

same_turn : (a b : Option (ℕ × ℕ)) → (a ≡ b) ⊎ (a ≡ b → ⊥)
same_turn None None = inl refl
same_turn None (Some y) = inr (none-some y)
same_turn (Some x) None = inr (λ e. none-some x (sym e))
same_turn (Some (task, turn)) (Some (other, later)) = elim (cases_eq task other) [
  | inr apart ↦ inr (λ e. apart (ap (λ (p : ℕ × ℕ). p.0) (same_Some (task, turn) (other, later) e)))
  | inl same ↦ elim (cases_eq turn later) [
    | inr apart ↦ inr (λ e. apart (ap (λ (p : ℕ × ℕ). p.1) (same_Some (task, turn) (other, later) e)))
    | inl equal ↦ inl (ap (λ t. Some (t, turn)) same ∙ ap (λ t. Some (other, t)) equal)
  ]
]

started_below : (rs : List Record) (task n : ℕ)
    → ((k : ℕ) → k < n → at begun_turn rs k ≢ Some (task, 0))
    ⊎ ((k : ℕ) × (k < n) × (at begun_turn rs k ≡ Some (task, 0)))
started_below rs task zero = inl (λ k below. absurd (omega arith))
started_below rs task (suc n) = elim (started_below rs task n) [
  | inr (k, below, starts) ↦ inr (k, omega arith, starts)
  | inl none ↦ elim (same_turn (at begun_turn rs n) (Some (task, 0))) [
    | inl starts ↦ inr (n, omega arith, starts)
    | inr other ↦ inl (λ k below. elim (cases_eq k n) [
      | inl same ↦ λ starts. other (ap (at begun_turn rs) (sym same) ∙ starts)
      | inr apart ↦ none k (omega arith)
    ])
  ]
]

is_start : (rs : List Record) (i task : ℕ) → IsStart rs i task ⊎ (IsStart rs i task → ⊥)
is_start rs i task = elim (same_turn (at begun_turn rs i) (Some (task, 0))) [
  | inr other ↦ inr (λ start. other start.starts)
  | inl starts ↦ elim (started_below rs task i) [
    | inl first ↦ inl (record { starts = starts; first = first })
    | inr (k, below, before) ↦ inr (λ start. start.first k below before)
  ]
]

-- a record that creates a task comes before what the task does
by_creation : (rs : List Record) (a b task : ℕ) → at created rs a ≡ Some task
    → IsProgramStep rs a b
    ⊎ ((other : ℕ) → at created rs a ≡ Some other
    → (IsStart rs b other ⊎ ((at discarded rs b ≡ Some other) ⊎ (at fulfilled rs b ≡ Some other)))
    → ⊥)
by_creation rs a b task creates = elim (is_start rs b task) [
  | inl starts ↦ inl (creation task creates starts)
  | inr no_start ↦ elim (same_option (at discarded rs b) (Some task)) [
    | inl gone ↦ inl (discard task creates gone)
    | inr no_discard ↦ elim (same_option (at fulfilled rs b) (Some task)) [
      | inl done ↦ inl (fulfilment task creates done)
      | inr not_done ↦
          inr
          (λ other creates_other.
          none other (same_Some task other (sym creates ∙ creates_other)) no_start no_discard
          not_done)
    ]
  ]
]
  where
    none : (other : ℕ) → task ≡ other → (IsStart rs b task → ⊥) → (at discarded rs b ≡ Some task → ⊥)
        → (at fulfilled rs b ≡ Some task → ⊥)
        → (IsStart rs b other ⊎ ((at discarded rs b ≡ Some other) ⊎ (at fulfilled rs b ≡ Some other))) → ⊥
    none other same no_start no_discard not_done (inl starts) =
        no_start (let P : ℕ → Type 0 = λ t. IsStart rs b t in subst P (sym same) starts)
    none other same no_start no_discard not_done (inr (inl gone)) = no_discard (gone ∙ ap Some (sym same))
    none other same no_start no_discard not_done (inr (inr done)) = not_done (done ∙ ap Some (sym same))

by_any_creation : (rs : List Record) (a b : ℕ)
    → IsProgramStep rs a b
    ⊎ ((other : ℕ) → at created rs a ≡ Some other
    → (IsStart rs b other ⊎ ((at discarded rs b ≡ Some other) ⊎ (at fulfilled rs b ≡ Some other)))
    → ⊥)
by_any_creation rs a b = there (at created rs a) refl
  where
    there : (o : Option ℕ) → at created rs a ≡ o
        → IsProgramStep rs a b
        ⊎ ((other : ℕ) → at created rs a ≡ Some other
        → (IsStart rs b other
        ⊎ ((at discarded rs b ≡ Some other) ⊎ (at fulfilled rs b ≡ Some other)))
        → ⊥)
    there None e = inr (λ other creates. absurd (none-some other (sym e ∙ creates)))
    there (Some task) e = by_creation rs a b task e

-- a record that suspends a task comes before the one at which the task runs on
by_resumption : (rs : List Record) (a b : ℕ) → IsResumption rs a b ⊎ (IsResumption rs a b → ⊥)
by_resumption rs a b = there (at suspended_turn rs a) refl
  where
    there : (o : Option (ℕ × ℕ)) → at suspended_turn rs a ≡ o
        → IsResumption rs a b ⊎ (IsResumption rs a b → ⊥)
    there None e = inr (λ again. none-some (again.task, again.turn) (sym e ∙ again.suspends))
    there (Some (task, turn)) e = elim (same_turn (at begun_turn rs b) (Some (task, turn + 1))) [
      | inr other ↦ inr (λ again.
          let same : (task, turn) ≡ (again.task, again.turn) =
          same_Some (task, turn) (again.task, again.turn) (sym e ∙ again.suspends) in
          other (again.resumes ∙ ap (λ (t : ℕ × ℕ). Some (t.0, t.1 + 1)) (sym same)))
      | inl resumes ↦ elim (cases_eq a b) [
        | inl same ↦ inr (λ again. again.another same)
        | inr apart ↦
            inl (record { task = task; turn = turn; suspends = e; resumes = resumes; another = apart })
      ]
    ]

by_thread : (rs : List Record) (a b : ℕ)
    → IsProgramStep rs a b ⊎ (a < b → b < length rs → thread_at rs a ≡ thread_at rs b → ⊥)
by_thread rs a b = elim (cases_lt a b) [
  | inr later ↦ inr (λ below. absurd (omega arith))
  | inl below ↦ elim (cases_lt b (length rs)) [
    | inr past ↦ inr (λ earlier within. absurd (omega arith))
    | inl within ↦ elim (same_option (thread_at rs a) (thread_at rs b)) [
      | inl same ↦ inl (thread_order below within same)
      | inr apart ↦ inr (λ earlier inside same. apart same)
    ]
  ]
]

by_ledger : (rs : List Record) (a b : ℕ)
    → IsStep rs a b ⊎ (is_some (at finish rs a) ≡ true → seen_at rs a < seen_at rs b → ⊥)
by_ledger rs a b = elim (cases_Bool (is_some (at finish rs a))) [
  | inr none ↦ inr (λ finishes. absurd (false≢true (sym none ∙ finishes)))
  | inl finishes ↦ elim (cases_lt (seen_at rs a) (seen_at rs b)) [
    | inl less ↦ inl (ledger finishes less)
    | inr more ↦ inr (λ is below. absurd (omega arith))
  ]
]

-- each pair of records is a step or none
is_step : (rs : List Record) (a b : ℕ) → IsStep rs a b ⊎ (IsStep rs a b → ⊥)
is_step rs a b = elim (by_thread rs a b) [
  | inl is ↦ inl (program is)
  | inr no_thread ↦ elim (by_any_creation rs a b) [
    | inl is ↦ inl (program is)
    | inr no_creation ↦ elim (by_resumption rs a b) [
      | inl is ↦ inl (program (resumption is))
      | inr no_resumption ↦ elim (by_ledger rs a b) [
        | inl is ↦ inl is
        | inr no_ledger ↦ inr (none no_thread no_creation no_resumption no_ledger)
      ]
    ]
  ]
]
  where
    none : (a < b → b < length rs → thread_at rs a ≡ thread_at rs b → ⊥)
        → ((other : ℕ) → at created rs a ≡ Some other
        → (IsStart rs b other ⊎ ((at discarded rs b ≡ Some other) ⊎ (at fulfilled rs b ≡ Some other)))
        → ⊥)
        → (IsResumption rs a b → ⊥) → (is_some (at finish rs a) ≡ true → seen_at rs a < seen_at rs b → ⊥)
        → IsStep rs a b → ⊥
    none no_thread no_creation no_resumption no_ledger (program (thread_order below within same)) =
        no_thread below within same
    none no_thread no_creation no_resumption no_ledger (program (creation task creates starts)) =
        no_creation task creates (inl starts)
    none no_thread no_creation no_resumption no_ledger (program (resumption again)) = no_resumption again
    none no_thread no_creation no_resumption no_ledger (program (discard task creates gone)) =
        no_creation task creates (inr (inl gone))
    none no_thread no_creation no_resumption no_ledger (program (fulfilment task creates done)) =
        no_creation task creates (inr (inr done))
    none no_thread no_creation no_resumption no_ledger (ledger finishes less) = no_ledger finishes less

-- ---- a list in which each record has all that happens before it earlier, and how it grows

closed_grounded : (rs : List Record) (order : List ℕ) → IsGrounded rs order → IsClosed rs order
closed_grounded rs order grounded b stands a before =
    let earlier = grounded_rising rs order grounded a b before stands in
    let within : earlier.first < length order =
    let low = earlier.apart in let high = earlier.within in omega arith in
    (earlier.first, within, get_or_default order earlier.first a 0 within ∙ earlier.a_stands)

grounded_push : (rs : List Record) (order : List ℕ) (place : ℕ) → IsGrounded rs order → IsDue rs order place
    → IsGrounded rs (order ++ place ∷ [])
grounded_push rs order place grounded due k below = elim (cases_lt k (length order)) [
  | inl old ↦
      let old_too : k ≤ length order = omega arith in
      rw (take-append-le k order (place ∷ []) old_too, get_or_append_left order (place ∷ []) 0 k old)
      (grounded k old)
  | inr new ↦
      let is_last : k ≡ length order = let b = below in omega (arith, length_push order place) in
      rw (is_last, take_whole, get_or_push order place 0 (length order) refl) due
]
  where
    take_whole : take (length order) (order ++ place ∷ []) ≡ order
    take_whole =
        take-append-le (length order) order (place ∷ []) (omega arith)
        ∙ take_all (length order) order (omega arith)

-- ---- a circle, found by going back from a record

-- a record before itself, which is i or before it
abbrev pub Circle : List Record → ℕ → Type 0
Circle rs i = (a : ℕ) × HappensBefore rs a a × ((a ≡ i) ⊎ HappensBefore rs a i)

-- no number at all is one that is there once
none_twice : IsDistinct eqb []
unfolding IsDistinct
none_twice = tt

-- the places that were passed on the way back from i to x: each once, and each after x
record IsTrail (rs : List Record) (i x : ℕ) (path : List ℕ) : Type 0 where
  distinct : IsDistinct eqb (x ∷ path)
  below : (q : ℕ) → list_any (eqb q) (x ∷ path) ≡ true → q < length rs
  leads : (q : ℕ) → list_any (eqb q) path ≡ true → HappensBefore rs x q
  ends : (x ≡ i) ⊎ HappensBefore rs x i

first_or_later : (q x : ℕ) (xs : List ℕ) → list_any (eqb q) (x ∷ xs) ≡ true
    → (q ≡ x) ⊎ (list_any (eqb q) xs ≡ true)
first_or_later q x xs found = split (eqb q x) refl found
  where
    split : (b : Bool) → eqb q x ≡ b → (b || list_any (eqb q) xs) ≡ true
        → (q ≡ x) ⊎ (list_any (eqb q) xs ≡ true)
    split true is e = inl (eqb-true q x is)
    split false is e = inr e

-- what x or its trail has is x or after it
after_trail : (rs : List Record) (i x : ℕ) (path : List ℕ) → IsTrail rs i x path → (q : ℕ)
    → list_any (eqb q) (x ∷ path) ≡ true → (q ≡ x) ⊎ HappensBefore rs x q
after_trail rs i x path trail q found = elim (first_or_later q x path found) [
  | inl same ↦ inl same
  | inr later ↦ inr (trail.leads q later)
]

step_to_end : (rs : List Record) (i x y : ℕ) → IsStep rs y x → (x ≡ i) ⊎ HappensBefore rs x i
    → HappensBefore rs y i
step_to_end rs i x y is (inl same) = let P : ℕ → Type 0 = HappensBefore rs y in subst P same (step is)
step_to_end rs i x y is (inr before) = chain (step is) before

-- a step back to a place that was passed closes a circle
closes : (rs : List Record) (i x y : ℕ) (path : List ℕ) → IsTrail rs i x path → IsStep rs y x
    → list_any (eqb y) (x ∷ path) ≡ true → Circle rs i
closes rs i x y path trail is found =
    (y, back (after_trail rs i x path trail y found), inr (step_to_end rs i x y is trail.ends))
  where
    back : (y ≡ x) ⊎ HappensBefore rs x y → HappensBefore rs y y
    back (inl same) = let P : ℕ → Type 0 = HappensBefore rs y in subst P (sym same) (step is)
    back (inr before) = chain (step is) before

-- a step back to a new place makes the trail longer
longer : (rs : List Record) (i x y : ℕ) (path : List ℕ) → IsTrail rs i x path → IsStep rs y x
    → list_any (eqb y) (x ∷ path) ≡ false → IsTrail rs i y (x ∷ path)
longer rs i x y path trail is new = record {
  distinct = IsDistinct-cons eqb y (x ∷ path) (none_equal y (x ∷ path) new) trail.distinct;
  below = λ q found. elim (first_or_later q y (x ∷ path) found) [
    | inl same ↦ let within = step_from rs y x is in omega arith
    | inr old ↦ trail.below q old
  ];
  leads = λ q found. from (after_trail rs i x path trail q found);
  ends = inr (step_to_end rs i x y is trail.ends);
}
  where
    from : {q : ℕ} → (q ≡ x) ⊎ HappensBefore rs x q → HappensBefore rs y q
    from (inl same) = let P : ℕ → Type 0 = HappensBefore rs y in subst P (sym same) (step is)
    from (inr before) = chain (step is) before

-- ---- going back from a record

-- a grounded list with the record, which keeps what stood
pub record ReachesRecord (rs : List Record) (old : List ℕ) (x : ℕ) : Type 0 where
  pub order : List ℕ
  pub grounded : IsGrounded rs order
  pub keeps : (a : ℕ) → Contains old a → Contains order a
  pub stands : Contains order x

-- the same with all places below m from which a step leads to x
record ReachesSteps (rs : List Record) (old : List ℕ) (x m : ℕ) : Type 0 where
  order : List ℕ
  grounded : IsGrounded rs order
  keeps : (a : ℕ) → Contains old a → Contains order a
  steps : (a : ℕ) → a < m → IsStep rs a x → Contains order a

steps_before : (rs : List Record) (i x : ℕ)
    → ((y : ℕ) → IsStep rs y x → (old : List ℕ) → IsGrounded rs old → Circle rs i ⊎ ReachesRecord rs old y)
    → (old : List ℕ) → IsGrounded rs old → (m : ℕ) → Circle rs i ⊎ ReachesSteps rs old x m
steps_before rs i x visit old grounded zero =
    inr (record {
      order = old;
      grounded = grounded;
      keeps = λ a stands. stands;
      steps = λ a below. absurd (omega arith);
    })
steps_before rs i x visit old grounded (suc m) = elim (steps_before rs i x visit old grounded m) [
  | inl circle ↦ inl circle
  | inr so_far ↦ elim (is_step rs m x) [
    | inr none ↦ inr (record {
      order = so_far.order;
      grounded = so_far.grounded;
      keeps = so_far.keeps;
      steps = λ a below is. elim (cases_eq a m) [
        | inl same ↦ absurd (none (let P : ℕ → Type 0 = λ b. IsStep rs b x in subst P same is))
        | inr apart ↦ so_far.steps a (omega arith) is
      ];
    })
    | inl leads ↦ elim (visit m leads so_far.order so_far.grounded) [
      | inl circle ↦ inl circle
      | inr more ↦ inr (record {
        order = more.order;
        grounded = more.grounded;
        keeps = λ a stands. more.keeps a (so_far.keeps a stands);
        steps = λ a below is. elim (cases_eq a m) [
          | inl same ↦ let P : ℕ → Type 0 = λ b. Contains more.order b in subst P (sym same) more.stands
          | inr apart ↦ more.keeps a (so_far.steps a (omega arith) is)
        ];
      })
    ]
  ]
]

-- the record itself, where all from which a step leads to it stand
reach : (rs : List Record) (old : List ℕ) (x : ℕ) → ReachesSteps rs old x (length rs) → ReachesRecord rs old x
reach rs old x all = record {
  order = all.order ++ x ∷ [];
  grounded =
      grounded_push rs all.order x all.grounded
      (λ a before.
      due_from_steps rs all.order (closed_grounded rs all.order all.grounded) a x before
      (λ c is. all.steps c (step_from rs c x is) is));
  keeps = λ a stands. Contains-append_left all.order (x ∷ []) a (all.keeps a stands);
  stands = Contains-push all.order x;
}

-- either the way back from i passes a place twice, or x and all before it stand in a grounded list
go_back : (rs : List Record) (i fuel x : ℕ) (path : List ℕ) → IsTrail rs i x path
    → length rs ≤ length path + fuel → (old : List ℕ) → IsGrounded rs old
    → Circle rs i ⊎ ReachesRecord rs old x
go_back rs i zero x path trail enough old grounded =
    let few : length (x ∷ path) ≤ length rs =
    length-le_from_distinct_below (x ∷ path) (length rs) trail.distinct trail.below in
    absurd (omega (arith, few))
go_back rs i (suc fuel) x path trail enough old grounded =
    elim
    (steps_before rs i x
    (visit (λ y longer_trail. go_back rs i fuel y (x ∷ path) longer_trail (omega arith))) old grounded
    (length rs)) [
      | inl circle ↦ inl circle
      | inr all ↦ inr (reach rs old x all)
    ]
  where
    visit :
        ((y : ℕ) → IsTrail rs i y (x ∷ path) → (order : List ℕ) → IsGrounded rs order
        → Circle rs i ⊎ ReachesRecord rs order y)
        → (y : ℕ) → IsStep rs y x → (order : List ℕ) → IsGrounded rs order
        → Circle rs i ⊎ ReachesRecord rs order y
    visit further y leads order is_grounded = elim (cases_Bool (list_any (eqb y) (x ∷ path))) [
      | inl passed ↦ inl (closes rs i x y path trail leads passed)
      | inr new ↦ further y (longer rs i x y path trail leads new) order is_grounded
    ]

pub circle_from : (rs : List Record) (i : ℕ) → HasNoOrder rs i → Circle rs i
circle_from rs i none =
    elim (go_back rs i (length rs) i [] trail (omega arith) [] (λ k below. absurd (omega arith))) [
      | inl circle ↦ circle
      | inr found ↦ absurd (none.never found.order found.grounded found.stands)
    ]
  where
    within : (q : ℕ) → (eqb q i || false) ≡ true → q < length rs
    within q found = elim (first_or_later q i [] found) [
      | inl same ↦ let inside = none.within in omega arith
      | inr later ↦ absurd (false≢true later)
    ]

    trail : IsTrail rs i i []
    trail = record {
      distinct = IsDistinct-cons eqb i [] tt none_twice;
      below = within;
      leads = λ q found. absurd (false≢true found);
      ends = inl refl;
    }

-- ---- and back: a record in a circle stands in no grounded list

never_earlier : (rs : List Record) (order : List ℕ) (a : ℕ) → IsGrounded rs order → HappensBefore rs a a
    → (fuel q : ℕ) → q < fuel → q < length order → slice_index order q ≡ a → ⊥
never_earlier rs order a grounded circle zero q low within is = absurd (omega arith)
never_earlier rs order a grounded circle (suc fuel) q low within is =
    let P : ℕ → Type 0 = λ b. HappensBefore rs a b in
    let earlier = grounded q within a (subst P (sym is) circle) in
    let below : earlier.0 < q = let e = earlier.1 in let t = length-take q order in omega (arith, e, t) in
    never_earlier rs order a grounded circle fuel earlier.0 (omega arith) (omega arith)
    (get_or_default order earlier.0 0 a (omega arith) ∙ sym (get_or-take q order earlier.0 a below)
    ∙ earlier.2)

pub no_order_from : (rs : List Record) (i : ℕ) → i < length rs → Circle rs i → HasNoOrder rs i
no_order_from rs i inside (a, circle, leads) = record {
  within = inside;
  never = λ order grounded stands. never order grounded (a_stands order grounded stands leads);
}
  where
    a_stands : (order : List ℕ) → IsGrounded rs order → Contains order i → (a ≡ i) ⊎ HappensBefore rs a i
        → Contains order a
    a_stands order grounded stands (inl same) =
        let P : ℕ → Type 0 = λ b. Contains order b in subst P (sym same) stands
    a_stands order grounded stands (inr before) = closed_grounded rs order grounded i stands a before

    never : (order : List ℕ) → IsGrounded rs order → Contains order a → ⊥
    never order grounded (q, within, is) =
        never_earlier rs order a grounded circle (q + 1) q (omega arith) within
        (get_or_default order q 0 a within ∙ is)
