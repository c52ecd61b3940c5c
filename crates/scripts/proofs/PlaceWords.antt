-- The moves of a task at places of records, and those of the steps that made these.
use Rattle.std.proofs.Common.{ℕ, zero, suc, ◌≡◌, ◌≢◌, ◌∙◌, ◌⊎◌, ◌+◌, ◌<◌, ◌≤◌, List, [], ◌∷◌, ◌++◌, length}
use Rattle.std.proofs.Common.{take, map, Bool, true, false, Option, Some, refl, sym, ap, subst, arith, inl}
use Rattle.std.proofs.Common.{inr, cond}
use Rattle.std.specs.Prelude.{◌==◌, slice_get, filter, option_map}
use Rattle.std.specs.List.{flat_map, range_with_len}
use Rattle.std.specs.Option.{option_map_or}
use Rattle.std.proofs.lemmas.Bool.{cases_eq, eq-eqb, ne_eqb}
use Rattle.std.proofs.lemmas.List.{append-nil, take_all, map-append}
use Rattle.std.proofs.lemmas.List.Concat.{flat_map-append}
use Rattle.std.proofs.lemmas.List.Elements.{filter-append}
use Rattle.std.proofs.lemmas.List.Folds.{flat_map-map}
use Rattle.std.proofs.lemmas.Option.{slice_get_within}
use Rattle.ompt_events.specs.declared.records.Record.{Record}
use Rattle.ompt_events.specs.declared.records.Body.TheVariants.{ImplicitTask, TaskSchedule, Cancel}
use Rattle.ompt_events.specs.declared.names.Endpoint.TheVariants.{End}
use Rattle.ompt_events.specs.Places.{thread_at}
use Rattle.ompt_events.specs.States.{Move, moves_by, moves_at}
use Rattle.ompt_events.proofs.ListLemmas.{get_within}
use Rattle.ompt_events.proofs.PlaceLemmas.{range_more}
use Rattle.scripts.specs.declared.script.Step.{Step}
use Rattle.scripts.specs.Scripts.{ScriptView}
use Rattle.callbacks.proofs.KnownLaw.{take_next}
use Rattle.scripts.specs.Progress.{own_records, thread_records, without_seen}
use Rattle.scripts.proofs.HandOverLemmas.{AreRecords}
use Rattle.scripts.proofs.ProgressLemmas.{own_next, own_other, record_by}
use Rattle.scripts.proofs.PartLemmas.{all_moves, part}
use Rattle.scripts.proofs.PlacedLemmas.{placed, recorded, says, step_no, record_no, thread_of}
use Rattle.scripts.proofs.SaidLemmas.{IsOfCall, said_by_call}
use Rattle.scripts.proofs.SoundLemmas.{step_moves, moves_of_step}
use Rattle.scripts.proofs.ThreadPlaces.{is_of}
use Rattle.scripts.proofs.ValueSteps.{IsWhole, first_at, second_at, first_id_is, second_id_is}

-- ---- lists of moves

pub moves_of_all : (g : ℕ → List Move) (n : ℕ) → flat_map g (range_with_len 0 n) ≡ all_moves g n
moves_of_all g zero = refl
moves_of_all g (suc n) =
    let one : suc n ≡ n + 1 = omega arith in
    ap (λ k. flat_map g (range_with_len 0 k)) one ∙ ap (flat_map g) (range_more n)
    ∙ flat_map-append g (range_with_len 0 n) (n ∷ [])
    ∙ ap (λ l. l ++ flat_map g (n ∷ [])) (moves_of_all g n)
    ∙ ap (λ l. all_moves g n ++ l) (append-nil (g n))

pub filtered : (p : ℕ → Bool) (g : ℕ → List Move) (l : List ℕ)
    → flat_map g (filter p l) ≡ flat_map (λ k. cond (p k) (g k) []) l
filtered p g [] = refl
filtered p g (k ∷ l) = by (p k) (filtered p g l)
  where
    by : (b : Bool) → flat_map g (filter p l) ≡ flat_map (λ i. cond (p i) (g i) []) l
        → flat_map g (cond b (k ∷ filter p l) (filter p l))
        ≡ cond b (g k) [] ++ flat_map (λ i. cond (p i) (g i) []) l
    by true rest = ap (λ x. g k ++ x) rest
    by false rest = rest

-- two functions that agree
pub all_same : (g h : ℕ → List Move) (n : ℕ) → ((k : ℕ) → k < n → g k ≡ h k) → all_moves g n ≡ all_moves h n
all_same g h zero agree = refl
all_same g h (suc n) agree =
    ap (λ l. l ++ g n) (all_same g h n (λ k low. agree k (omega (arith, low))))
    ∙ ap (λ l. all_moves h n ++ l) (agree n (omega arith))

pub all_none : (g : ℕ → List Move) (n : ℕ) → ((k : ℕ) → k < n → g k ≡ []) → all_moves g n ≡ []
all_none g zero none = refl
all_none g (suc n) none =
    ap (λ l. l ++ g n) (all_none g n (λ k low. none k (omega (arith, low)))) ∙ none n (omega arith)

-- only one of them is not empty
all_one : (g : ℕ → List Move) (n e : ℕ) → e < n → ((k : ℕ) → k < n → k ≢ e → g k ≡ [])
    → all_moves g n ≡ g e
all_one g zero e low others = absurd (omega (arith, low))
all_one g (suc n) e low others = elim (cases_eq n e) [
  | inl same_place ↦
      ap (λ l. l ++ g n)
      (all_none g n (λ k less. others k (omega (arith, less))
      (λ s. absurd (omega (arith, less, s, same_place)))))
      ∙ ap g same_place
  | inr apart ↦
      ap (λ l. l ++ g n)
      (all_one g n e (omega (arith, low, apart)) (λ k less other. others k (omega (arith, less)) other))
      ∙ ap (λ l. g e ++ l) (others n (omega arith) apart) ∙ append-nil (g e)
]

-- a place where it is not empty, or none
some_place : (g : ℕ → List Move) (n : ℕ)
    → ((e : ℕ) × (e < n) × (g e ≢ [])) ⊎ ((k : ℕ) → k < n → g k ≡ [])
some_place g zero = inr (λ k low. absurd (omega (arith, low)))
some_place g (suc n) = by (g n) refl (some_place g n)
  where
    by : (l : List Move) → g n ≡ l → ((e : ℕ) × (e < n) × (g e ≢ [])) ⊎ ((k : ℕ) → k < n → g k ≡ [])
        → ((e : ℕ) × (e < suc n) × (g e ≢ [])) ⊎ ((k : ℕ) → k < suc n → g k ≡ [])
    by (m ∷ l) here rest = inl (n, omega arith, λ none. not_empty m l (sym here ∙ none))
      where
        not_empty : (x : Move) (xs : List Move) → x ∷ xs ≡ [] → ⊥
        not_empty x xs is = cc
    by [] here (inl (e, low, some)) = inl (e, omega (arith, low), some)
    by [] here (inr none) = inr (λ k low. elim (cases_eq k n) [
      | inl last ↦ ap g last ∙ here
      | inr apart ↦ none k (omega (arith, low, apart))
    ])

-- moves at places, and at their steps, are the same where at most one step has some
pub one_of_each : (script : ScriptView) (rs : List Record) (at_place at_step : ℕ → List Move) → IsWhole script
    → AreRecords script rs
    → ((i : ℕ) → i < length rs → at_place i ≡ at_step (step_no script rs i))
    → ((n m : ℕ) → n < length script.steps → m < length script.steps → at_step n ≢ [] → at_step m ≢ []
    → n ≡ m)
    → all_moves at_place (length rs) ≡ all_moves at_step (length script.steps)
one_of_each script rs at_place at_step whole records agree unique =
    elim (some_place at_step (length script.steps)) [
      | inr none ↦
          all_none at_place (length rs)
          (λ i low. agree i low ∙ none (step_no script rs i) (inside i low))
          ∙ sym (all_none at_step (length script.steps) none)
      | inl (e, low, some) ↦
          let (s, is) = get_within script.steps e low in
          let it = recorded script rs e s whole records is in
          let place = record_no script rs e in
          let within = slice_get_within rs place it.made it.stands in
          all_one at_place (length rs) place within
          (λ i less apart. empty i less (λ full.
          apart
          (sym (back i less)
          ∙ ap (record_no script rs) (unique (step_no script rs i) e (inside i less) low
          (λ none. full (agree i less ∙ none)) some))))
          ∙ agree place within ∙ ap at_step it.there
          ∙ sym
          (all_one at_step (length script.steps) e low
          (λ k less apart. empty_step k (λ full. apart (unique k e less low full some))))
    ]
  where
    inside : (i : ℕ) → i < length rs → step_no script rs i < length script.steps
    inside i less =
        let (x, is) = get_within rs i less in
        let p = placed script rs i x whole records is in
        slice_get_within script.steps (step_no script rs i) p.step p.stands

    back : (i : ℕ) → i < length rs → record_no script rs (step_no script rs i) ≡ i
    back i less = let (x, is) = get_within rs i less in (placed script rs i x whole records is).back

    is_empty : (l : List Move) → (l ≢ [] → ⊥) → l ≡ []
    is_empty [] never = refl
    is_empty (m ∷ l) never = absurd (never (λ none. not_empty m l none))
      where
        not_empty : (x : Move) (xs : List Move) → x ∷ xs ≡ [] → ⊥
        not_empty x xs is = cc

    empty : (i : ℕ) → i < length rs → (at_place i ≢ [] → ⊥) → at_place i ≡ []
    empty i less never = is_empty (at_place i) never

    empty_step : (k : ℕ) → (at_step k ≢ [] → ⊥) → at_step k ≡ []
    empty_step k never = is_empty (at_step k) never

-- ---- the moves at places of records

abbrev pub place_moves : List Record → ℕ → ℕ → List Move
place_moves rs task i = option_map_or (λ (r : Record). moves_by task r.body) (slice_get rs i) []

pub moves_called : (task : ℕ) → IsOfCall (moves_by task)
moves_called task (ImplicitTask End actual index given parallel own) = refl
moves_called task (TaskSchedule s turns prior next claimed) = refl
moves_called task (Cancel given own claimed) = refl
moves_called task _ = refl

-- each is that of its step
pub moves_there : (script : ScriptView) (rs : List Record) (task i : ℕ) → IsWhole script
    → AreRecords script rs
    → i < length rs → place_moves rs task i ≡ step_moves script task (step_no script rs i)
moves_there script rs task i whole records within =
    let (x, is) = get_within rs i within in
    let p = placed script rs i x whole records is in
    ap (λ (o : Option Record). option_map_or (λ (r : Record). moves_by task r.body) o []) is
    ∙ says (moves_by task) script rs i x whole (moves_called task) p
    ∙ sym (moves_of_step script task (step_no script rs i) p.step p.stands)

map_second : (i : ℕ) (ms : List Move) → map (λ (p : ℕ × Move). p.1) (map {B = ℕ × Move} (λ m. (i, m)) ms) ≡ ms
map_second i [] = refl
map_second i (m ∷ ms) = ap (λ l. m ∷ l) (map_second i ms)

pub moves_only : (rs : List Record) (task : ℕ) (l : List ℕ)
    → map (λ (p : ℕ × Move). p.1) (flat_map (moves_at rs task) l) ≡ flat_map (place_moves rs task) l
moves_only rs task [] = refl
moves_only rs task (i ∷ l) =
    map-append (λ (p : ℕ × Move). p.1) (moves_at rs task i) (flat_map (moves_at rs task) l)
    ∙ ap (λ x. x ++ map (λ (p : ℕ × Move). p.1) (flat_map (moves_at rs task) l))
    (map_second i (option_map_or (λ (r : Record). moves_by task r.body) (slice_get rs i) []))
    ∙ ap (λ x. place_moves rs task i ++ x) (moves_only rs task l)

-- ---- those of one thread

abbrev pub is_on_thread : List Record → ℕ → ℕ → Bool
is_on_thread rs thread i = option_map_or (λ t. t == thread) (thread_at rs i) false

abbrev pub step_on : ScriptView → ℕ → ℕ → Bool
step_on script thread n = option_map_or (λ (s : Step). s.thread == thread) (slice_get script.steps n) false

of_records : (rs : List Record) (task thread n : ℕ) → n ≤ length rs
    → part (is_on_thread rs thread) (place_moves rs task) n
    ≡ flat_map (λ (r : Record). moves_by task r.body) (filter (is_of thread_of thread) (take n rs))
of_records rs task thread zero within = refl
of_records rs task thread (suc n) within =
    let (x, is) = get_within rs n (omega (arith, within)) in
    let one : suc n ≡ n + 1 = omega arith in
    let before = of_records rs task thread n (omega (arith, within)) in
    let f : Record → List Move = λ r. moves_by task r.body in
    ap (λ l. l ++ cond (is_on_thread rs thread n) (place_moves rs task n) []) before
    ∙ ap (λ (o : Option Record). flat_map f (filter (is_of thread_of thread) (take n rs))
    ++ cond (option_map_or (λ t. t == thread) (option_map (λ (r : Record). r.thread) o) false)
    (option_map_or f o []) []) is
    ∙ by x (x.thread == thread) refl
    ∙ sym (flat_map-append f (filter (is_of thread_of thread) (take n rs))
    (filter (is_of thread_of thread) (x ∷ [])))
    ∙ ap (flat_map f)
    (sym (filter-append (is_of thread_of thread) (take n rs) (x ∷ []))
    ∙ ap (filter (is_of thread_of thread)) (sym (take_next rs n x is)))
    ∙ ap (λ k. flat_map f (filter (is_of thread_of thread) (take k rs))) (sym one)
  where
    by : (x : Record) (b : Bool) → (x.thread == thread) ≡ b
        → flat_map (λ (r : Record). moves_by task r.body) (filter (is_of thread_of thread) (take n rs))
        ++ cond (x.thread == thread) (moves_by task x.body) []
        ≡ flat_map (λ (r : Record). moves_by task r.body) (filter (is_of thread_of thread) (take n rs))
        ++ flat_map (λ (r : Record). moves_by task r.body) (cond (x.thread == thread) (x ∷ []) [])
    by x true holds =
        ap (λ b. before_it ++ cond b (moves_by task x.body) []) holds
        ∙ ap (λ l. before_it ++ l) (sym (append-nil (moves_by task x.body)))
        ∙ ap (λ b. before_it ++ flat_map (λ (r : Record). moves_by task r.body) (cond b (x ∷ []) []))
        (sym holds)
      where
        before_it : List Move
        before_it =
            flat_map (λ (r : Record). moves_by task r.body) (filter (is_of thread_of thread) (take n rs))
    by x false fails =
        ap (λ b. before_it ++ cond b (moves_by task x.body) []) fails
        ∙ ap (λ b. before_it ++ flat_map (λ (r : Record). moves_by task r.body) (cond b (x ∷ []) []))
        (sym fails)
      where
        before_it : List Move
        before_it =
            flat_map (λ (r : Record). moves_by task r.body) (filter (is_of thread_of thread) (take n rs))

of_steps : (script : ScriptView) (task thread n : ℕ) → IsWhole script → n ≤ length script.steps
    → flat_map (λ (r : Record). moves_by task r.body) (own_records script n thread)
    ≡ part (step_on script thread) (step_moves script task) n
of_steps script task thread zero whole within = refl
of_steps script task thread (suc n) whole within =
    let (s, is) = get_within script.steps n (omega (arith, within)) in
    by s is (of_steps script task thread n whole (omega (arith, within)))
  where
    f : Record → List Move
    f r = moves_by task r.body

    one : suc n ≡ n + 1
    one = omega arith

    by : (s : Step) → slice_get script.steps n ≡ Some s
        → flat_map f (own_records script n thread) ≡ part (step_on script thread) (step_moves script task) n
        → flat_map f (own_records script (suc n) thread)
        ≡ part (step_on script thread) (step_moves script task) (suc n)
    by s is before = elim (cases_eq s.thread thread) [
      | inl of ↦
          let r =
          record_by s.body s.thread script.nests (own_records script n s.thread) (first_at script n s)
          (second_at script n s) in
          let on : step_on script thread n ≡ true =
          ap (λ (o : Option Step). option_map_or (λ (q : Step). q.thread == thread) o false) is
          ∙ eq-eqb s.thread thread of in
          ap (λ k. flat_map f (own_records script k thread)) one
          ∙ subst (λ t. flat_map f (own_records script (n + 1) t) ≡ flat_map f (own_records script n t)
          ++ f r) of
          (ap (flat_map f) (own_next script n s is (whole.accepted n))
          ∙ flat_map-append f (own_records script n s.thread) (r ∷ [])
          ∙ ap (λ l. flat_map f (own_records script n s.thread) ++ l) (append-nil (f r)))
          ∙ ap (λ l. l ++ f r) before
          ∙ ap (λ l. part (step_on script thread) (step_moves script task) n ++ l)
          (said_by_call (moves_by task) s.body (first_at script n s) (second_at script n s)
          (moves_called task)
          (first_id_is script n s whole is) (second_id_is script n s whole is)
          ∙ sym (moves_of_step script task n s is))
          ∙ ap
          (λ b. part (step_on script thread) (step_moves script task) n
          ++ cond b (step_moves script task n) [])
          (sym on)
      | inr apart ↦
          let off : step_on script thread n ≡ false =
          ap (λ (o : Option Step). option_map_or (λ (q : Step). q.thread == thread) o false) is
          ∙ ne_eqb s.thread thread apart in
          ap (λ k. flat_map f (own_records script k thread)) one
          ∙ ap (flat_map f) (own_other script n s thread is apart) ∙ before
          ∙ sym (append-nil (part (step_on script thread) (step_moves script task) n))
          ∙ ap
          (λ b. part (step_on script thread) (step_moves script task) n
          ++ cond b (step_moves script task n) [])
          (sym off)
    ]

pub on_thread : (script : ScriptView) (rs : List Record) (task thread : ℕ) → IsWhole script
    → AreRecords script rs
    → part (is_on_thread rs thread) (place_moves rs task) (length rs)
    ≡ part (step_on script thread) (step_moves script task) (length script.steps)
on_thread script rs task thread whole records =
    let f : Record → List Move = λ r. moves_by task r.body in
    of_records rs task thread (length rs) (omega arith)
    ∙ ap (λ l. flat_map f (filter (is_of thread_of thread) l)) (take_all (length rs) rs (omega arith))
    ∙ sym (flat_map-map f without_seen (thread_records rs thread))
    ∙ ap (flat_map f) (records thread)
    ∙ of_steps script task thread (length script.steps) whole (omega arith)
