-- On which threads each explicit task runs, of the first records, whether or not it may.
use Rattle.std.proofs.Common.{◌≡◌, ◌≢◌, ◌∙◌, ℕ, ◌<◌, ◌+◌, List, length, Some, Bool, true, false}
use Rattle.std.proofs.Common.{refl, sym, ap, subst, arith, inl, inr, set, cond}
use Rattle.std.proofs.lemmas.Bool.{cases_eq, eq-eqb, ne_eqb, false≢true}
use Rattle.std.proofs.lemmas.Option.{same_Some, slice_get_within, slice_get-get_or}
use Rattle.std.proofs.lemmas.List.{length-set, length-replicate, get_or-replicate}
use Rattle.std.specs.Prelude.{◌↔◌, IsTrue, not, is_some, replicate, slice_get}
use Rattle.ompt_events.specs.declared.records.Record.{Record}
use Rattle.ompt_events.specs.declared.cause.Cause.TheVariants.{Moved}
use Rattle.ompt_events.specs.Records.{started, told_turns}
use Rattle.ompt_events.specs.Places.{at, thread_at}
use Rattle.ompt_events.specs.Tree.{IsExplicit}
use Rattle.ompt_events.specs.Causes.{IsMoved, moved}
use Rattle.ompt_events.specs.Shown.{AreAllBelow, AreAllWith}
use Rattle.ompt_events.proofs.ShownLemmas.{all_with}
use Rattle.ompt_events.proofs.PlaceLemmas.{at_within, none_from_test}
use Rattle.index_tables.specs.Numbering.{AreApart}
use Rattle.task_tree.proofs.LinkLemmas.{get_set_same, get_set_other}
use Rattle.task_states.specs.declared.homes.Home.{Home}
use Rattle.task_states.specs.declared.homes.Home.TheVariants.{Nowhere, On, Many}
use Rattle.task_states.specs.Homes.{home_after, met_home, told_move, IsExplicitStart}
use Rattle.task_states.proofs.HomeLemmas.{is_moved}

-- the task ran before n, always on this thread
pub record MetOn (rs : List Record) (n task thread : ℕ) : Type 0 where
  pub place : ℕ
  pub below : place < n
  pub starts : at started rs place ≡ Some task
  pub all : (k : ℕ) → k < n → at started rs k ≡ Some task → thread_at rs k ≡ Some thread

-- it ran before n on two threads
pub record MetTwice (rs : List Record) (n task : ℕ) : Type 0 where
  pub first : ℕ
  pub first_below : first < n
  pub first_starts : at started rs first ≡ Some task
  pub first_on : ℕ
  pub first_runs : thread_at rs first ≡ Some first_on
  pub place : ℕ
  pub below : place < n
  pub starts : at started rs place ≡ Some task
  pub on : ℕ
  pub runs : thread_at rs place ≡ Some on
  pub apart : first_on ≢ on

-- where the task ran before n
abbrev pub HasMet : List Record → ℕ → ℕ → Home → Type 0
HasMet rs n task Nowhere = (k : ℕ) → k < n → at started rs k ≢ Some task
HasMet rs n task (On thread) = MetOn rs n task thread
HasMet rs n task Many = MetTwice rs n task

-- at the index of each explicit task stands where it ran before n
pub record AreMet (rs : List Record) (n : ℕ) (tasks : List ℕ) (homes : List Home) : Type 0 where
  pub all : length homes ≡ length tasks
  pub each : (index task : ℕ) → slice_get tasks index ≡ Some task → IsExplicit rs task
      → (home : Home) × (slice_get homes index ≡ Some home) × HasMet rs n task home

pub none_met : (rs : List Record) (tasks : List ℕ) (homes : List Home)
    → homes ≡ replicate (length tasks) Nowhere → AreMet rs 0 tasks homes
none_met rs tasks homes fresh = record {
  all = ap length fresh ∙ length-replicate (length tasks) Nowhere;
  each = λ index task stands explicit.
      let inside = slice_get_within tasks index task stands in
      let long = length-replicate (length tasks) Nowhere in (
        Nowhere,
        ap (λ l. slice_get l index) fresh
            ∙ slice_get-get_or (replicate (length tasks) Nowhere) index Nowhere (omega (arith, inside, long))
            ∙ ap Some (get_or-replicate (length tasks) index Nowhere Nowhere inside),
        λ k below. absurd (omega (arith, below)),
      );
}

-- ---- one record on

longer : (rs : List Record) (n task : ℕ) → MetTwice rs n task → MetTwice rs (n + 1) task
longer rs n task met = record {
  first = met.first;
  first_below = let less = met.first_below in omega (arith, less);
  first_starts = met.first_starts;
  first_on = met.first_on;
  first_runs = met.first_runs;
  place = met.place;
  below = let less = met.below in omega (arith, less);
  starts = met.starts;
  on = met.on;
  runs = met.runs;
  apart = met.apart;
}

-- a record that does not start the task leaves all as it is
met_still : (rs : List Record) (n task : ℕ) (home : Home) → at started rs n ≢ Some task
    → HasMet rs n task home → HasMet rs (n + 1) task home
met_still rs n task Nowhere none met = λ k below starts. elim (cases_eq k n) [
  | inl same ↦ none (ap (at started rs) (sym same) ∙ starts)
  | inr apart ↦ met k (omega (arith, below, apart)) starts
]
met_still rs n task (On thread) none met = record {
  place = met.place;
  below = let less = met.below in omega (arith, less);
  starts = met.starts;
  all = λ k below starts. elim (cases_eq k n) [
    | inl same ↦ absurd (none (ap (at started rs) (sym same) ∙ starts))
    | inr apart ↦ met.all k (omega (arith, below, apart)) starts
  ];
}
met_still rs n task Many none met = longer rs n task met

-- a record that starts no explicit task changes nothing
pub met_other : (rs : List Record) (i : ℕ) (tasks : List ℕ) (homes : List Home) → AreMet rs i tasks homes
    → ((task : ℕ) → at started rs i ≡ Some task → IsExplicit rs task → ⊥) → AreMet rs (i + 1) tasks homes
met_other rs i tasks homes are none = record {
  all = are.all;
  each = λ index task stands explicit.
      let (home, there, met) = are.each index task stands explicit in
      (home, there, met_still rs i task home (λ starts. none task starts explicit) met);
}

-- a start is noted
met_start : (rs : List Record) (i task thread : ℕ) (home : Home) → at started rs i ≡ Some task
    → thread_at rs i ≡ Some thread → HasMet rs i task home → HasMet rs (i + 1) task (met_home home thread)
met_start rs i task thread Nowhere starts runs met = record {
  place = i;
  below = omega arith;
  starts = starts;
  all = λ k below starts_there. elim (cases_eq k i) [
    | inl same ↦ ap (thread_at rs) same ∙ runs
    | inr apart ↦ absurd (met k (omega (arith, below, apart)) starts_there)
  ];
}
met_start rs i task thread (On before) starts runs met = elim (cases_eq before thread) [
  | inl same ↦
      subst (HasMet rs (i + 1) task) (sym (ap (λ b. cond b (On before) Many) (eq-eqb before thread same)))
      (record {
        place = met.place;
        below = let less = met.below in omega (arith, less);
        starts = met.starts;
        all = λ k below starts_there. elim (cases_eq k i) [
          | inl here ↦ ap (thread_at rs) here ∙ runs ∙ ap Some (sym same)
          | inr apart ↦ met.all k (omega (arith, below, apart)) starts_there
        ];
      })
  | inr apart ↦
      subst (HasMet rs (i + 1) task) (sym (ap (λ b. cond b (On before) Many) (ne_eqb before thread apart)))
      (record {
        first = met.place;
        first_below = let less = met.below in omega (arith, less);
        first_starts = met.starts;
        first_on = before;
        first_runs = met.all met.place met.below met.starts;
        place = i;
        below = omega arith;
        starts = starts;
        on = thread;
        runs = runs;
        apart = apart;
      })
]
met_start rs i task thread Many starts runs met = longer rs i task met

pub met_more : (rs : List Record) (i index thread : ℕ) (home : Home) (tasks : List ℕ) (homes : List Home)
    → AreApart tasks → AreMet rs i tasks homes → IsExplicitStart rs tasks i index
    → thread_at rs i ≡ Some thread → slice_get homes index ≡ Some home
    → AreMet rs (i + 1) tasks (set homes index (met_home home thread))
met_more rs i index thread home tasks homes apart_all are start runs old = record {
  all = length-set homes index new ∙ are.all;
  each = λ other task stands explicit. elim (cases_eq other index) [
    | inl same ↦
        let is : start.task ≡ task =
        same_Some start.task task (sym start.indexed ∙ ap (slice_get tasks) (sym same) ∙ stands) in
        let (before, there, met) = are.each index start.task start.indexed start.explicit in
        let met_here : HasMet rs i start.task home =
        subst (HasMet rs i start.task) (same_Some before home (sym there ∙ old)) met in
        let P : ℕ → Type 0 = λ t. HasMet rs (i + 1) t new in (
          new,
          ap (slice_get (set homes index new)) same
              ∙ get_set_same homes index new (slice_get_within homes index home old),
          subst P is (met_start rs i start.task thread home start.starts runs met_here),
        )
    | inr apart ↦
        let (before, there, met) = are.each other task stands explicit in
        let differs : start.task ≢ task =
        λ same. apart (apart_all other index task stands (start.indexed ∙ ap Some same)) in (
          before,
          get_set_other homes index other new apart ∙ there,
          met_still rs i task before
              (λ starts. differs (same_Some start.task task (sym start.starts ∙ starts))) met,
        )
  ];
}
  where
    new : Home
    new = met_home home thread

-- ---- the records that have the cause

untold : (told : Bool) → IsTrue (not (is_some (told_move told))) → told ≡ false
untold true is = absurd (false≢true is)
untold false is = refl

-- a start on another thread, without turns
moves_so : (rs : List Record) (i task thread : ℕ) (told : Bool) (home : Home) → IsExplicit rs task
    → at started rs i ≡ Some task → thread_at rs i ≡ Some thread → told ≡ is_some (at told_turns rs i)
    → HasMet rs i task home → IsTrue (not (is_some (home_after home thread told))) → IsMoved rs i
moves_so rs i task thread told Nowhere explicit starts runs tells met moves = absurd (false≢true moves)
moves_so rs i task thread told (On before) explicit starts runs tells met moves =
    elim (cases_eq before thread) [
      | inl same ↦
          absurd
          (false≢true
          (sym
          (ap (λ b. not (is_some (cond b (Some (On before)) (told_move told)))) (eq-eqb before thread same))
          ∙ moves))
      | inr apart ↦
          let silent =
          untold told
          (sym
          (ap (λ b. not (is_some (cond b (Some (On before)) (told_move told))))
          (ne_eqb before thread apart))
          ∙ moves) in
          let there = met.all met.place met.below met.starts in (
            task,
            met.place,
            explicit,
            starts,
            met.below,
            met.starts,
            λ one. apart (same_Some before thread (sym there ∙ one ∙ runs)),
            none_from_test (at told_turns rs i) (sym tells ∙ silent),
          )
    ]
moves_so rs i task thread told Many explicit starts runs tells met moves =
    let silent = none_from_test (at told_turns rs i) (sym tells ∙ untold told moves) in
    elim (cases_eq met.first_on thread) [
      | inl same ↦ (
        task,
        met.place,
        explicit,
        starts,
        met.below,
        met.starts,
        λ one. met.apart (same ∙ same_Some thread met.on (sym (sym met.runs ∙ one ∙ runs))),
        silent,
      )
      | inr apart ↦ (
        task,
        met.first,
        explicit,
        starts,
        met.first_below,
        met.first_starts,
        λ one. apart (same_Some met.first_on thread (sym met.first_runs ∙ one ∙ runs)),
        silent,
      )
    ]

-- and back
so_moves : (rs : List Record) (i task k thread : ℕ) (told : Bool) (home : Home) → k < i
    → at started rs k ≡ Some task → thread_at rs k ≢ thread_at rs i → told ≡ false
    → thread_at rs i ≡ Some thread → HasMet rs i task home
    → IsTrue (not (is_some (home_after home thread told)))
so_moves rs i task k thread told Nowhere below starts elsewhere silent runs met =
    absurd (met k below starts)
so_moves rs i task k thread told (On before) below starts elsewhere silent runs met =
    elim (cases_eq before thread) [
      | inl same ↦ absurd (elsewhere (met.all k below starts ∙ ap Some same ∙ sym runs))
      | inr apart ↦
          ap (λ b. not (is_some (cond b (Some (On before)) (told_move told)))) (ne_eqb before thread apart)
          ∙ ap (λ t. not (is_some (told_move t))) silent
    ]
so_moves rs i task k thread told Many below starts elsewhere silent runs met =
    ap (λ t. not (is_some (told_move t))) silent

pub moves_there : (rs : List Record) (i index thread : ℕ) (told : Bool) (home : Home) (tasks : List ℕ)
    (homes : List Home)
    → AreMet rs i tasks homes → IsExplicitStart rs tasks i index → thread_at rs i ≡ Some thread
    → told ≡ is_some (at told_turns rs i) → slice_get homes index ≡ Some home
    → IsTrue (not (is_some (home_after home thread told))) ↔ IsMoved rs i
moves_there rs i index thread told home tasks homes are start runs tells old = (
  moves_so rs i start.task thread told home start.explicit start.starts runs tells ran,
  λ (other, k, explicit, starts_here, below, starts_there, elsewhere, silent).
      let is : start.task ≡ other = same_Some start.task other (sym start.starts ∙ starts_here) in
      so_moves rs i start.task k thread told home below (starts_there ∙ ap Some (sym is)) elsewhere
      (tells ∙ ap is_some silent) runs ran,
)
  where
    ran : HasMet rs i start.task home
    ran =
        let (before, there, met) = are.each index start.task start.indexed start.explicit in
        subst (HasMet rs i start.task) (same_Some before home (sym there ∙ old)) met

-- the places that were found up to the end are all
pub all_moves : (rs : List Record) (n : ℕ) (places : List ℕ) → length rs ≡ n
    → AreAllBelow (IsMoved rs) n places → AreAllWith rs Moved places
all_moves rs n places all are =
    all_with rs Moved (IsMoved rs) n places all (λ i h. moved h)
    (λ i has.
    let h = is_moved rs i has in
    let inside = at_within started rs i h.0 h.3 in (omega (arith, inside, all), h))
    are
