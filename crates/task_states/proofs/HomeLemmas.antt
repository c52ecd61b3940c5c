-- On which thread each explicit task runs, of the first records.
use Rattle.std.proofs.Common.{◌≡◌, ◌≢◌, ◌∙◌, ℕ, zero, suc, ◌<◌, ◌≤◌, ◌+◌, List, length, Option, Some, None}
use Rattle.std.proofs.Common.{Bool, true, false, cond, refl, sym, ap, subst, arith, inl, inr, set}
use Rattle.std.proofs.lemmas.Bool.{cases_eq, eq-eqb, ne_eqb, and_parts, false≢true}
use Rattle.std.proofs.lemmas.Option.{none-some, same_Some, slice_get_within}
use Rattle.std.proofs.lemmas.List.{length-set}
use Rattle.std.specs.Prelude.{◌↔◌, ◌==◌, ◌&&◌, not, is_some, find, slice_get, option_and_then}
use Rattle.std.specs.List.{range_with_len}
use Rattle.std.specs.Option.{option_map_or}
use Rattle.ompt_events.specs.declared.records.Record.{Record}
use Rattle.ompt_events.specs.declared.cause.Cause.TheVariants.{Moved, CreatedTwice}
use Rattle.ompt_events.specs.Records.{made, started, told_turns}
use Rattle.ompt_events.specs.Places.{at, thread_at, places}
use Rattle.ompt_events.specs.Tree.{IsExplicit}
use Rattle.ompt_events.specs.States.{is_task, is_on, home_of, has_moved}
use Rattle.ompt_events.specs.Causes.{IsMoved, HasCause, moved, IsFirstWith, IsFreeOf}
use Rattle.ompt_events.proofs.PlaceLemmas.{at_within, contains_place, none_from_test, is_the_task, the_task}
use Rattle.ompt_events.proofs.RecordLemmas.{created_at_made}
use Rattle.ompt_events.proofs.ListLemmas.{contains_get}
use Rattle.index_tables.specs.Numbering.{AreApart}
use Rattle.task_tree.specs.Family.{FamilyView, IsFamilyOf}
use Rattle.task_tree.specs.Runs.{RunView, IsRun, IsIndexOf}
use Rattle.task_tree.proofs.SubjectLemmas.{call_task}
use Rattle.task_tree.proofs.LinkLemmas.{get_set_same, get_set_other}
use Rattle.task_tree.proofs.SuspendedLemmas.{explicit_not_root}
use Rattle.task_states.specs.declared.homes.Home.{Home}
use Rattle.task_states.specs.declared.homes.Home.TheVariants.{Nowhere, On, Many}
use Rattle.task_states.specs.Homes.{home_told, home_at, home_after, told_move, IsExplicitStart, AreRunOn}
use Rattle.task_states.proofs.OriginLemmas.{found_some, found_none, explicit_home}

-- the task with the index is explicit
abbrev pub IsExplicitAt : List Record → List ℕ → ℕ → Type 0
IsExplicitAt rs tasks index = (task : ℕ) → slice_get tasks index ≡ Some task → IsExplicit rs task

-- the task ran before n, always on this thread
pub record RanOn (rs : List Record) (n task thread : ℕ) : Type 0 where
  pub place : ℕ
  pub below : place < n
  pub starts : at started rs place ≡ Some task
  pub home : home_of rs task ≡ Some thread
  pub all : (k : ℕ) → k < n → at started rs k ≡ Some task → thread_at rs k ≡ Some thread

-- it ran before n at its home and, as turns tell, on another thread
pub record RanOff (rs : List Record) (n task : ℕ) : Type 0 where
  pub thread : ℕ
  pub home : home_of rs task ≡ Some thread
  pub first : ℕ
  pub first_below : first < n
  pub first_starts : at started rs first ≡ Some task
  pub first_on : thread_at rs first ≡ Some thread
  pub place : ℕ
  pub below : place < n
  pub starts : at started rs place ≡ Some task
  pub told : is_some (at told_turns rs place) ≡ true
  pub other : ℕ
  pub on : thread_at rs place ≡ Some other
  pub apart : other ≢ thread

-- where the task ran before n
abbrev pub HasRun : List Record → ℕ → ℕ → Home → Type 0
HasRun rs n task Nowhere = (k : ℕ) → k < n → at started rs k ≢ Some task
HasRun rs n task (On thread) = RanOn rs n task thread
HasRun rs n task Many = RanOff rs n task

-- at the index of each explicit task stands where it ran before n
pub record AreHomesBelow (rs : List Record) (n : ℕ) (tasks : List ℕ) (homes : List Home) : Type 0 where
  pub all : length homes ≡ length tasks
  pub each : (index task : ℕ) → slice_get tasks index ≡ Some task → IsExplicit rs task
      → (home : Home) × (slice_get homes index ≡ Some home) × HasRun rs n task home

pub is_moved : (rs : List Record) (i : ℕ) → HasCause rs i Moved → IsMoved rs i
is_moved rs i (moved h) = h

-- an explicit task has an index
pub explicit_index : (rs : List Record) (family : FamilyView) (task : ℕ) → IsFamilyOf rs family
    → IsExplicit rs task → (index : ℕ) × (slice_get family.tasks index ≡ Some task)
explicit_index rs family task are (i, creates) =
    let makes = created_at_made task rs i creates in
    contains_get family.tasks task (are.noted.each i task (at_within made rs i task makes) makes)

-- the index that is found is that of the task, if it is explicit
pub explicit_start_is : (run : RunView) (i index : ℕ) (found : Option ℕ) → IsRun run
    → IsIndexOf run started i found → found ≡ Some index → IsExplicitAt run.records run.family.tasks index
    → (k : ℕ) → (Some index ≡ Some k) ↔ IsExplicitStart run.records run.family.tasks i k
explicit_start_is run i index found is calls same explicit k =
    let tasks = run.family.tasks in
    let (task, starts, stands) = call_task tasks (at started run.records i) found index calls same in (
      λ is_k. record {
        task = task;
        starts = starts;
        explicit = explicit task stands;
        indexed = ap (slice_get tasks) (sym (same_Some index k is_k)) ∙ stands;
      },
      λ start.
          ap Some
          (is.family.makers.apart index k task stands
          (start.indexed ∙ ap Some (same_Some start.task task (sym start.starts ∙ starts)))),
    )

-- ---- the tests

-- the first number that passes
find_first : (p : ℕ → Bool) (a n i : ℕ) → a ≤ i → i < a + n → p i ≡ true
    → ((k : ℕ) → a ≤ k → k < i → p k ≡ false) → find p (range_with_len a n) ≡ Some i
find_first p a zero i low within passes before = absurd (omega (arith, low, within))
find_first p a (suc n) i low within passes before = elim (cases_eq a i) [
  | inl same ↦
      ap (λ b. cond b (Some a) (find p (range_with_len (a + 1) n))) (ap p same ∙ passes) ∙ ap Some same
  | inr apart ↦
      ap (λ b. cond b (Some a) (find p (range_with_len (a + 1) n))) (before a (omega arith) (omega arith))
      ∙ find_first p (a + 1) n i (omega arith) (omega (arith, within)) passes
      (λ k from below. before k (omega arith) below)
]

-- where the turns let the task move, they are told
told_moves : (told : Bool) (new : Home) → told_move told ≡ Some new → (told ≡ true) × (Many ≡ new)
told_moves true new is = (refl, same_Some Many new is)
told_moves false new is = absurd (none-some new is)

told_stops : (told : Bool) → told_move told ≡ None → told ≡ false
told_stops true is = absurd (none-some Many (sym is))
told_stops false is = refl

-- what was so before n is so before n + 1
off_longer : (rs : List Record) (n task : ℕ) → RanOff rs n task → RanOff rs (n + 1) task
off_longer rs n task ran = record {
  thread = ran.thread;
  home = ran.home;
  first = ran.first;
  first_below = let less = ran.first_below in omega arith;
  first_starts = ran.first_starts;
  first_on = ran.first_on;
  place = ran.place;
  below = let less = ran.below in omega arith;
  starts = ran.starts;
  told = ran.told;
  other = ran.other;
  on = ran.on;
  apart = ran.apart;
}

-- ---- one record on

-- a record that does not start the task leaves all as it is
ran_still : (rs : List Record) (n task : ℕ) (home : Home) → at started rs n ≢ Some task
    → HasRun rs n task home → HasRun rs (n + 1) task home
ran_still rs n task Nowhere none ran = λ k below starts. elim (cases_eq k n) [
  | inl same ↦ none (ap (at started rs) (sym same) ∙ starts)
  | inr apart ↦ ran k (omega arith) starts
]
ran_still rs n task (On thread) none ran = record {
  place = ran.place;
  below = let less = ran.below in omega arith;
  starts = ran.starts;
  home = ran.home;
  all = λ k below starts. elim (cases_eq k n) [
    | inl same ↦ absurd (none (ap (at started rs) (sym same) ∙ starts))
    | inr apart ↦ ran.all k (omega arith) starts
  ];
}
ran_still rs n task Many none ran = off_longer rs n task ran

-- a record that starts no explicit task changes nothing
pub homes_other : (rs : List Record) (i : ℕ) (tasks : List ℕ) (homes : List Home)
    → AreHomesBelow rs i tasks homes
    → ((task : ℕ) → at started rs i ≡ Some task → IsExplicit rs task → ⊥)
    → AreHomesBelow rs (i + 1) tasks homes
homes_other rs i tasks homes are none = record {
  all = are.all;
  each = λ index task stands explicit.
      let (home, there, ran) = are.each index task stands explicit in
      (home, there, ran_still rs i task home (λ starts. none task starts explicit) ran);
}

-- the first start of an explicit task is at its home
first_home : (rs : List Record) (i task thread : ℕ) → IsFreeOf rs CreatedTwice → IsExplicit rs task
    → at started rs i ≡ Some task → thread_at rs i ≡ Some thread
    → ((k : ℕ) → k < i → at started rs k ≢ Some task) → home_of rs task ≡ Some thread
first_home rs i task thread once explicit starts runs first =
    explicit_home rs task (explicit_not_root rs task once explicit)
    ∙ ap (option_and_then (thread_at rs))
    (find_first (λ k. is_task task (at started rs k)) 0 (length rs) i (omega arith)
    (let inside = at_within started rs i task starts in omega arith)
    (the_task task (at started rs i) starts)
    (λ k from below. not_before k below (is_task task (at started rs k)) refl))
    ∙ runs
  where
    not_before : (k : ℕ) → k < i → (b : Bool) → is_task task (at started rs k) ≡ b
        → is_task task (at started rs k) ≡ false
    not_before k below true is = absurd (first k below (is_the_task task (at started rs k) is))
    not_before k below false is = is

-- a start that is no fault is noted
ran_more : (rs : List Record) (i task thread : ℕ) (told : Bool) (home new : Home) → IsFreeOf rs CreatedTwice
    → IsExplicit rs task → at started rs i ≡ Some task → thread_at rs i ≡ Some thread
    → told ≡ is_some (at told_turns rs i) → HasRun rs i task home → home_after home thread told ≡ Some new
    → HasRun rs (i + 1) task new
ran_more rs i task thread told Nowhere new once explicit starts runs tells ran goes =
    subst (HasRun rs (i + 1) task) (same_Some (On thread) new goes) (record {
      place = i;
      below = omega arith;
      starts = starts;
      home = first_home rs i task thread once explicit starts runs ran;
      all = λ k below starts_there. elim (cases_eq k i) [
        | inl same ↦ ap (thread_at rs) same ∙ runs
        | inr apart ↦ absurd (ran k (omega arith) starts_there)
      ];
    })
ran_more rs i task thread told (On before) new once explicit starts runs tells ran goes =
    elim (cases_eq before thread) [
      | inl same ↦
          let is : Some (On before) ≡ Some new =
          sym (ap (λ b. cond b (Some (On before)) (told_move told)) (eq-eqb before thread same)) ∙ goes in
          subst (HasRun rs (i + 1) task) (same_Some (On before) new is) (record {
            place = ran.place;
            below = let less = ran.below in omega arith;
            starts = ran.starts;
            home = ran.home;
            all = λ k below starts_there. elim (cases_eq k i) [
              | inl here ↦ ap (thread_at rs) here ∙ runs ∙ ap Some (sym same)
              | inr apart ↦ ran.all k (omega arith) starts_there
            ];
          })
      | inr apart ↦
          let is : told_move told ≡ Some new =
          sym (ap (λ b. cond b (Some (On before)) (told_move told)) (ne_eqb before thread apart)) ∙ goes in
          let (tell, many) = told_moves told new is in
          subst (HasRun rs (i + 1) task) many (record {
            thread = before;
            home = ran.home;
            first = ran.place;
            first_below = let less = ran.below in omega arith;
            first_starts = ran.starts;
            first_on = ran.all ran.place ran.below ran.starts;
            place = i;
            below = omega arith;
            starts = starts;
            told = sym tells ∙ tell;
            other = thread;
            on = runs;
            apart = λ same. apart (sym same);
          })
    ]
ran_more rs i task thread told Many new once explicit starts runs tells ran goes =
    subst (HasRun rs (i + 1) task) (told_moves told new goes).1 (off_longer rs i task ran)

pub homes_more : (rs : List Record) (i index thread : ℕ) (told : Bool) (home new : Home) (tasks : List ℕ)
    (homes : List Home)
    → IsFreeOf rs CreatedTwice → AreApart tasks → AreHomesBelow rs i tasks homes
    → IsExplicitStart rs tasks i index
    → thread_at rs i ≡ Some thread → told ≡ is_some (at told_turns rs i) → slice_get homes index ≡ Some home
    → home_after home thread told ≡ Some new → AreHomesBelow rs (i + 1) tasks (set homes index new)
homes_more rs i index thread told home new tasks homes once apart_all are start runs tells old goes = record {
  all = length-set homes index new ∙ are.all;
  each = λ other task stands explicit. elim (cases_eq other index) [
    | inl same ↦
        let is : start.task ≡ task =
        same_Some start.task task (sym start.indexed ∙ ap (slice_get tasks) (sym same) ∙ stands) in
        let (before, there, ran) = are.each index start.task start.indexed start.explicit in
        let ran_here : HasRun rs i start.task home =
        subst (HasRun rs i start.task) (same_Some before home (sym there ∙ old)) ran in
        let P : ℕ → Type 0 = λ t. HasRun rs (i + 1) t new in (
          new,
          ap (slice_get (set homes index new)) same
              ∙ get_set_same homes index new (slice_get_within homes index home old),
          subst P is
              (ran_more rs i start.task thread told home new once start.explicit start.starts runs tells
              ran_here goes),
        )
    | inr apart ↦
        let (before, there, ran) = are.each other task stands explicit in
        let differs : start.task ≢ task =
        λ same. apart (apart_all other index task stands (start.indexed ∙ ap Some same)) in (
          before,
          get_set_other homes index other new apart ∙ there,
          ran_still rs i task before
              (λ starts. differs (same_Some start.task task (sym start.starts ∙ starts))) ran,
        )
  ];
}

-- the entry that was read is where the task ran
ran_there : (rs : List Record) (i index : ℕ) (home : Home) (tasks : List ℕ) (homes : List Home)
    → AreHomesBelow rs i tasks homes → (start : IsExplicitStart rs tasks i index)
    → slice_get homes index ≡ Some home → HasRun rs i start.task home
ran_there rs i index home tasks homes are start old =
    let (before, there, ran) = are.each index start.task start.indexed start.explicit in
    subst (HasRun rs i start.task) (same_Some before home (sym there ∙ old)) ran

-- ---- the first record that has the cause

-- a start on another thread is a move
moves_from : (rs : List Record) (i task thread : ℕ) (told : Bool) (home : Home) → IsExplicit rs task
    → at started rs i ≡ Some task → thread_at rs i ≡ Some thread → told ≡ is_some (at told_turns rs i)
    → HasRun rs i task home → home_after home thread told ≡ None → IsMoved rs i
moves_from rs i task thread told Nowhere explicit starts runs tells ran stops =
    absurd (none-some (On thread) (sym stops))
moves_from rs i task thread told (On before) explicit starts runs tells ran stops =
    elim (cases_eq before thread) [
      | inl same ↦
          absurd
          (none-some (On before)
          (sym
          (sym (ap (λ b. cond b (Some (On before)) (told_move told)) (eq-eqb before thread same))
          ∙ stops)))
      | inr apart ↦
          let untold : told ≡ false =
          told_stops told
          (sym (ap (λ b. cond b (Some (On before)) (told_move told)) (ne_eqb before thread apart))
          ∙ stops) in
          let there = ran.all ran.place ran.below ran.starts in (
            task,
            ran.place,
            explicit,
            starts,
            ran.below,
            ran.starts,
            λ one. apart (same_Some before thread (sym there ∙ one ∙ runs)),
            none_from_test (at told_turns rs i) (sym tells ∙ untold),
          )
    ]
moves_from rs i task thread told Many explicit starts runs tells ran stops =
    let silent : at told_turns rs i ≡ None =
    none_from_test (at told_turns rs i) (sym tells ∙ told_stops told stops) in
    elim (cases_eq ran.thread thread) [
      | inl same ↦ (
        task,
        ran.place,
        explicit,
        starts,
        ran.below,
        ran.starts,
        λ one. ran.apart (same_Some ran.other thread (sym ran.on ∙ one ∙ runs) ∙ sym same),
        silent,
      )
      | inr apart ↦ (
        task,
        ran.first,
        explicit,
        starts,
        ran.first_below,
        ran.first_starts,
        λ one. apart (same_Some ran.thread thread (sym ran.first_on ∙ one ∙ runs)),
        silent,
      )
    ]

pub moves_here : (rs : List Record) (i index thread : ℕ) (told : Bool) (home : Home) (tasks : List ℕ)
    (homes : List Home)
    → ((k : ℕ) → k < i → IsMoved rs k → ⊥) → AreHomesBelow rs i tasks homes → IsExplicitStart rs tasks i index
    → thread_at rs i ≡ Some thread → told ≡ is_some (at told_turns rs i) → slice_get homes index ≡ Some home
    → home_after home thread told ≡ None → IsFirstWith rs Moved i
moves_here rs i index thread told home tasks homes free are start runs tells old stops = record {
  within = at_within started rs i start.task start.starts;
  has =
      moved
      (moves_from rs i start.task thread told home start.explicit start.starts runs tells
      (ran_there rs i index home tasks homes are start old) stops);
  first = λ k below has. free k below (is_moved rs k has);
}

-- a start that is noted is none
stays : (rs : List Record) (i task k thread : ℕ) (told : Bool) (home new : Home) → k < i
    → at started rs k ≡ Some task → thread_at rs k ≢ thread_at rs i → at told_turns rs i ≡ None
    → thread_at rs i ≡ Some thread → told ≡ is_some (at told_turns rs i) → HasRun rs i task home
    → home_after home thread told ≡ Some new → ⊥
stays rs i task k thread told Nowhere new below starts elsewhere silent runs tells ran goes =
    ran k below starts
stays rs i task k thread told (On before) new below starts elsewhere silent runs tells ran goes =
    elim (cases_eq before thread) [
      | inl same ↦ elsewhere (ran.all k below starts ∙ ap Some same ∙ sym runs)
      | inr apart ↦
          false≢true
          (ap is_some (sym silent) ∙ sym tells
          ∙ (told_moves told new
          (sym (ap (λ b. cond b (Some (On before)) (told_move told)) (ne_eqb before thread apart))
          ∙ goes)).0)
    ]
stays rs i task k thread told Many new below starts elsewhere silent runs tells ran goes =
    false≢true (ap is_some (sym silent) ∙ sym tells ∙ (told_moves told new goes).0)

pub moves_not : (rs : List Record) (i index thread : ℕ) (told : Bool) (home new : Home) (tasks : List ℕ)
    (homes : List Home)
    → AreHomesBelow rs i tasks homes → IsExplicitStart rs tasks i index → thread_at rs i ≡ Some thread
    → told ≡ is_some (at told_turns rs i) → slice_get homes index ≡ Some home
    → home_after home thread told ≡ Some new → IsMoved rs i → ⊥
moves_not rs i index thread told home new tasks homes are start runs tells old goes
    (other, k, explicit, starts_here, below, starts_there, elsewhere, silent) =
    let is : start.task ≡ other = same_Some start.task other (sym start.starts ∙ starts_here) in
    stays rs i start.task k thread told home new below (starts_there ∙ ap Some (sym is)) elsewhere silent runs
    tells (ran_there rs i index home tasks homes are start old) goes

-- a record that starts no explicit task is none either
pub stays_put : (rs : List Record) (i : ℕ)
    → ((task : ℕ) → at started rs i ≡ Some task → IsExplicit rs task → ⊥) → IsMoved rs i → ⊥
stays_put rs i none moves = none moves.0 moves.3 moves.2

-- no task has moved up to the end
pub free_of_moved : (rs : List Record) (n : ℕ) → ((k : ℕ) → k < n → IsMoved rs k → ⊥) → length rs ≤ n
    → IsFreeOf rs Moved
free_of_moved rs n free all i has =
    let h = is_moved rs i has in
    free i (let inside = at_within started rs i h.0 h.3 in omega arith) h

-- ---- whether a task has moved

-- the task runs next there, as turns tell, and not at its home
abbrev is_away : List Record → ℕ → ℕ → Bool
is_away rs task i =
    is_task task (at started rs i) && is_some (at told_turns rs i) && not (is_on rs (home_of rs task) i)

has_moved_at : (rs : List Record) (i task : ℕ) → at started rs i ≡ Some task
    → is_some (at told_turns rs i) ≡ true → is_on rs (home_of rs task) i ≡ false → has_moved rs task ≡ true
has_moved_at rs i task starts tells away =
    found_some (is_away rs task) (places rs) i (contains_place rs i (at_within started rs i task starts))
    (ap (λ b. b && is_some (at told_turns rs i) && not (is_on rs (home_of rs task) i))
    (the_task task (at started rs i) starts)
    ∙ ap (λ b. b && not (is_on rs (home_of rs task) i)) tells ∙ ap not away)

-- a task that runs next at its home alone has not
pub has_not_moved : (rs : List Record) (task : ℕ)
    → ((i : ℕ) → at started rs i ≡ Some task → is_some (at told_turns rs i) ≡ true
    → is_on rs (home_of rs task) i ≡ true)
    → has_moved rs task ≡ false
has_not_moved rs task stays_there = ap is_some (found_none (is_away rs task) (places rs) none)
  where
    none : (i : ℕ) → is_away rs task i ≡ true → ⊥
    none i away =
        let (starts, off) =
        and_parts (is_task task (at started rs i) && is_some (at told_turns rs i))
        (not (is_on rs (home_of rs task) i)) away in
        let (is, tells) = and_parts (is_task task (at started rs i)) (is_some (at told_turns rs i)) starts in
        false≢true (sym (ap not (stays_there i (is_the_task task (at started rs i) is) tells)) ∙ off)

-- whether a record of the one thread is on the other
pub on_thread : (rs : List Record) (home : Option ℕ) (i thread own : ℕ) → home ≡ Some own
    → thread_at rs i ≡ Some thread → is_on rs home i ≡ (thread == own)
on_thread rs home i thread own is runs =
    ap (λ o. is_on rs o i) is ∙ ap (λ (o : Option ℕ). option_map_or (λ t. t == own) o false) runs

-- after all records it is known where each explicit task runs
ran_all : (rs : List Record) (n task : ℕ) (home : Home) → IsFreeOf rs CreatedTwice → IsExplicit rs task
    → length rs ≤ n → HasRun rs n task home → home ≡ home_at rs task
ran_all rs n task Nowhere once explicit all ran =
    let never = λ (i : ℕ) (starts : at started rs i ≡ Some task).
    ran i (let inside = at_within started rs i task starts in omega (arith, inside, all)) starts in
    let none : home_of rs task ≡ None = explicit_home rs task (explicit_not_root rs task once explicit)
    ∙ ap (option_and_then (thread_at rs))
    (found_none (λ i. is_task task (at started rs i)) (places rs)
    (λ i passes. never i (is_the_task task (at started rs i) passes))) in
    let still : has_moved rs task ≡ false =
    has_not_moved rs task (λ i starts tells. absurd (never i starts)) in
    sym (ap (λ b. home_told b (home_of rs task)) still ∙ ap (home_told false) none)
ran_all rs n task (On thread) once explicit all ran =
    let still : has_moved rs task ≡ false = has_not_moved rs task (λ i starts tells.
    let there =
    ran.all i (let inside = at_within started rs i task starts in omega (arith, inside, all)) starts in
    on_thread rs (home_of rs task) i thread thread ran.home there ∙ eq-eqb thread thread refl) in
    sym (ap (λ b. home_told b (home_of rs task)) still ∙ ap (home_told false) ran.home)
ran_all rs n task Many once explicit all ran =
    let moves : has_moved rs task ≡ true =
    has_moved_at rs ran.place task ran.starts ran.told
    (on_thread rs (home_of rs task) ran.place ran.other ran.thread ran.home ran.on
    ∙ ne_eqb ran.other ran.thread ran.apart) in
    sym (ap (λ b. home_told b (home_of rs task)) moves)

pub homes_end : (rs : List Record) (n : ℕ) (tasks : List ℕ) (homes : List Home) → IsFreeOf rs CreatedTwice
    → length rs ≤ n → AreHomesBelow rs n tasks homes → AreRunOn rs tasks homes
homes_end rs n tasks homes once all are index task is explicit =
    let (home, there, ran) = are.each index task is explicit in
    there ∙ ap Some (ran_all rs n task home once explicit all ran)
