-- The steps of one thread, one after another, and their places.
use Rattle.std.proofs.Common.{ℕ, ◌≡◌, ◌≢◌, ◌∙◌, ◌++◌, ◌∷◌, ◌+◌, ◌<◌, ◌≤◌, [], List, Some, None, Option, take}
use Rattle.std.proofs.Common.{length, refl, ap, sym, subst, inl, inr, arith, take-take}
use Rattle.std.specs.Prelude.{◌==◌, slice_get, option_map}
use Rattle.std.specs.Global.{Vec}
use Rattle.std.proofs.lemmas.Bool.{eq-eqb, ne_eqb, cases_eq, cases_lt}
use Rattle.std.proofs.lemmas.List.{length_push}
use Rattle.std.proofs.lemmas.List.Sums.{count_by_more_yes, count_by_more_no, sum_by-take-le}
use Rattle.std.proofs.lemmas.Option.{none-some, same_Some, slice_get_within, get_or_from_slice_get}
use Rattle.ompt_events.proofs.ListLemmas.{get_within, pushed_cases}
use Rattle.scripts.specs.declared.script.Step.{Step}
use Rattle.scripts.specs.Scripts.{step_count}
use Rattle.task_states.specs.Rows.{row_at, IsPlaceAdded}
use Rattle.scripts.specs.Parts.{IsStepOf, IsPlaced, ArePlaces}

-- ---- how many steps a thread has

-- with one step more, of this thread or of another
pub count_next : (steps : List Step) (at : ℕ) (s : Step) (thread : ℕ) → slice_get steps at ≡ Some s
    → s.thread ≡ thread → step_count (take (at + 1) steps) thread ≡ step_count (take at steps) thread + 1
count_next steps at s thread is own =
    count_by_more_yes (λ (q : Step). q.thread == thread) steps at s (slice_get_within steps at s is)
    (ap (λ (q : Step). q.thread == thread) (get_or_from_slice_get steps at s s is)
    ∙ eq-eqb s.thread thread own)

pub count_other : (steps : List Step) (at : ℕ) (s : Step) (thread : ℕ) → slice_get steps at ≡ Some s
    → s.thread ≢ thread → step_count (take (at + 1) steps) thread ≡ step_count (take at steps) thread
count_other steps at s thread is other =
    count_by_more_no (λ (q : Step). q.thread == thread) steps at s (slice_get_within steps at s is)
    (ap (λ (q : Step). q.thread == thread) (get_or_from_slice_get steps at s s is)
    ∙ ne_eqb s.thread thread other)

pub count_rises : (steps : List Step) (thread n m : ℕ) → n ≤ m
    → step_count (take n steps) thread ≤ step_count (take m steps) thread
count_rises steps thread n m low =
    let part : step_count (take n (take m steps)) thread ≤ step_count (take m steps) thread =
    sum_by-take-le _ (take m steps) n in
    subst (λ (l : List Step). step_count l thread ≤ step_count (take m steps) thread)
    (take-take n m steps low) part

-- a step of the thread is counted after its place
pub count_past : (steps : List Step) (thread n m : ℕ) (s : Step) → slice_get steps n ≡ Some s
    → s.thread ≡ thread → n < m → step_count (take n steps) thread < step_count (take m steps) thread
count_past steps thread n m s is own less =
    let next = count_next steps n s thread is own in
    let rises = count_rises steps thread (n + 1) m (omega arith) in
    omega arith

-- where the count stays the same no step is one of the thread
pub none_between : (steps : List Step) (thread n m : ℕ)
    → step_count (take n steps) thread ≡ step_count (take m steps) thread
    → (at : ℕ) (s : Step) → n ≤ at → at < m → slice_get steps at ≡ Some s → s.thread ≢ thread
none_between steps thread n m same at s low less is own =
    let rises = count_rises steps thread n at low in
    let past = count_past steps thread at m s is own less in
    omega arith

-- ---- the places of a thread's steps

-- the step of the thread at a place
pub step_there : (steps : List Step) (at thread : ℕ) → IsStepOf steps at thread
    → (s : Step) × (slice_get steps at ≡ Some s) × (s.thread ≡ thread)
step_there steps at thread of = there (slice_get steps at) refl of
  where
    there : (o : Option Step) → slice_get steps at ≡ o → option_map (λ (s : Step). s.thread) o ≡ Some thread
        → (s : Step) × (slice_get steps at ≡ Some s) × (s.thread ≡ thread)
    there None is own = absurd (none-some thread own)
    there (Some s) is own = (s, is, same_Some s.thread thread own)

-- two steps of a thread with as many before them are one
alone : (steps : List Step) (thread n m : ℕ) (s t : Step) → slice_get steps n ≡ Some s → s.thread ≡ thread
    → slice_get steps m ≡ Some t → t.thread ≡ thread
    → step_count (take n steps) thread ≡ step_count (take m steps) thread → n ≡ m
alone steps thread n m s t is own too also same = elim (cases_lt n m) [
  | inl less ↦ let past = count_past steps thread n m s is own less in absurd (omega arith)
  | inr low ↦ elim (cases_eq n m) [
    | inl equal ↦ equal
    | inr apart ↦ let past = count_past steps thread m n t too also (omega arith) in absurd (omega arith)
  ]
]

-- a step's place has the number of the thread's steps before it
pub place_of_step : (steps : List Step) (threads : List (Vec ℕ)) (thread at : ℕ) (s : Step)
    → ArePlaces steps (length steps) threads → slice_get steps at ≡ Some s → s.thread ≡ thread
    → slice_get (row_at threads thread) (step_count (take at steps) thread) ≡ Some at
place_of_step steps threads thread at s are is own =
    let within = slice_get_within steps at s is in
    let past = count_past steps thread at (length steps) s is own within in
    let counted = are.counted thread in
    let found = get_within (row_at threads thread) (step_count (take at steps) thread) (omega arith) in
    let placed = are.placed thread (step_count (take at steps) thread) found.0 found.1 in
    let there = step_there steps found.0 thread placed.of_thread in
    found.1 ∙ ap Some (alone steps thread found.0 at there.0 s there.1 there.2 is own placed.number_is)

-- the place of one step more is noted in the row of its thread
pub places_next : (steps : List Step) (n : ℕ) (s : Step) (before after : List (Vec ℕ))
    → slice_get steps n ≡ Some s → ArePlaces steps n before → IsPlaceAdded before after s.thread n
    → ArePlaces steps (n + 1) after
places_next steps n s before after is are added = record {
  counted = λ thread. elim (cases_eq thread s.thread) [
    | inl same ↦
        let longer = length_push (row_at before thread) n in
        let next = count_next steps n s thread is (sym same) in
        let old = are.counted thread in
        ap length (here thread same) ∙ omega arith
    | inr apart ↦
        ap length (added.others thread apart) ∙ are.counted thread
        ∙ sym (count_other steps n s thread is (λ e. apart (sym e)))
  ];
  placed = λ thread number at stands. elim (cases_eq thread s.thread) [
    | inl same ↦
        elim
        (pushed_cases (row_at before thread) n at number
        (subst (λ (row : List ℕ). slice_get row number ≡ Some at) (here thread same) stands)) [
          | inl old ↦ later thread number at (are.placed thread number at old)
          | inr (last, new) ↦ record {
            within = omega arith;
            of_thread =
                ap (λ (k : ℕ). option_map (λ (q : Step). q.thread) (slice_get steps k)) (sym new)
                ∙ ap (option_map (λ (q : Step). q.thread)) is ∙ ap Some (sym same);
            number_is =
                ap (λ (k : ℕ). step_count (take k steps) thread) (sym new)
                ∙ sym (are.counted thread) ∙ sym last;
          }
        ]
    | inr apart ↦
        later thread number at
        (are.placed thread number at
        (subst (λ (row : List ℕ). slice_get row number ≡ Some at) (added.others thread apart) stands))
  ];
}
  where
    here : (thread : ℕ) → thread ≡ s.thread → row_at after thread ≡ row_at before thread ++ n ∷ []
    here thread same =
        subst (λ (t : ℕ). row_at after t ≡ row_at before t ++ n ∷ []) (sym same) added.here

    later : (thread number at : ℕ) → IsPlaced steps n thread number at
        → IsPlaced steps (n + 1) thread number at
    later thread number at placed = record {
      within = omega arith;
      of_thread = placed.of_thread;
      number_is = placed.number_is;
    }
