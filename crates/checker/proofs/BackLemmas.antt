-- All records that name a lesser length than was known at a step before.
use Rattle.std.proofs.Common.{◌≡◌, ◌∙◌, ℕ, ◌<◌, ◌≤◌, ◌+◌, Bool, true, false, List, length, get_or, set}
use Rattle.std.proofs.Common.{replicate, Some, sym, ap, subst, arith, inl, inr}
use Rattle.std.proofs.Common.{get_or-set_same, get_or-set_other}
use Rattle.std.proofs.Math.Nat.{max-eq_left, max-eq_right}
use Rattle.std.specs.Prelude.{◌↔◌, IsTrue, max, slice_get}
use Rattle.std.proofs.lemmas.Bool.{false≢true, cases_eq, cases_lt}
use Rattle.std.proofs.lemmas.Option.{same_Some, some_pair_parts, slice_get_within}
use Rattle.std.proofs.lemmas.List.{length-set, length-replicate}
use Rattle.ompt_events.specs.declared.records.Record.{Record}
use Rattle.ompt_events.specs.declared.cause.Cause.TheVariants.{LengthBack}
use Rattle.ompt_events.specs.Records.{begun_turn}
use Rattle.ompt_events.specs.Places.{at, thread_at}
use Rattle.ompt_events.specs.HappensBefore.{IsProgramStep, creation, resumption, discard}
use Rattle.ompt_events.specs.HappensBefore.{fulfilment}
use Rattle.ompt_events.specs.Causes.{IsBehind, known_after, length_back}
use Rattle.ompt_events.specs.Shown.{AreAllBelow, AreAllWith}
use Rattle.ompt_events.proofs.ShownLemmas.{all_with}
use Rattle.index_tables.specs.Numbering.{AreApart}
use Rattle.task_tree.proofs.ChainLemmas.{replicate_get}
use Rattle.task_tree.proofs.LinkLemmas.{get_set_same, get_set_other}
use Rattle.checker.specs.Lengths.{PrecedesAwaited, AreKnownLengths, FallsOnThread, HasStarted, StartsAgain}
use Rattle.checker.specs.Lengths.{AreStarted}
use Rattle.checker.specs.Schedule.{Awaits, awaits_creation, awaits_end, EachAwaitsOne, first_started}
use Rattle.checker.proofs.LengthLemmas.{behind, step_within, step_behind, known_raised}
use Rattle.checker.proofs.ScheduleLemmas.{program_awaits, known_awaited, awaited_at, first_begun}

-- ---- what a thread knows

-- a length that is not raised changes nothing
known_kept : (rs : List Record) (n own after : ℕ) (known : List ℕ) → thread_at rs n ≡ Some own → own < 256
    → after ≡ known_after rs n → after ≤ get_or known own 0 → AreKnownLengths rs n known
    → AreKnownLengths rs (n + 1) (set known own (get_or known own 0))
known_kept rs n own after known runs low is less are = record {
  all = length-set known own (get_or known own 0) ∙ are.all;
  most = λ k thread below its. elim (cases_eq k n) [
    | inl here ↦
        let one : thread ≡ own = same_Some thread own (sym its ∙ ap (thread_at rs) here ∙ runs) in
        let slot = ap (λ t. get_or known t 0) one in
        let knows = ap (known_after rs) here in
        let value = same thread in
        omega (arith, slot, knows, value, is, less)
    | inr before ↦
        let value = same thread in
        let old = are.most k thread (omega (arith, below, before)) its in
        omega (arith, value, old)
  ];
  last = λ thread positive.
      let value = same thread in
      let old = are.last thread (omega (arith, positive, value)) in
      (old.0, omega (arith, old.1), old.2, old.3 ∙ sym value);
}
  where
    same : (thread : ℕ) → get_or (set known own (get_or known own 0)) thread 0 ≡ get_or known thread 0
    same thread = elim (cases_eq thread own) [
      | inl here ↦
          ap (λ t. get_or (set known own (get_or known own 0)) t 0) here
          ∙ get_or-set_same known own (get_or known own 0) 0 (let all = are.all in omega (arith, low, all))
          ∙ ap (λ t. get_or known t 0) (sym here)
      | inr apart ↦ get_or-set_other known own thread (get_or known own 0) 0 apart
    ]

-- the greatest length that is known on the thread goes on
pub known_max : (rs : List Record) (n own after : ℕ) (known : List ℕ) → thread_at rs n ≡ Some own → own < 256
    → after ≡ known_after rs n → AreKnownLengths rs n known
    → AreKnownLengths rs (n + 1) (set known own (max (get_or known own 0) after))
known_max rs n own after known runs low is are = elim (cases_lt after (get_or known own 0)) [
  | inl less ↦
      let P : ℕ → Type 0 = λ m. AreKnownLengths rs (n + 1) (set known own m) in
      subst P (sym (max-eq_left (omega (arith, less))))
      (known_kept rs n own after known runs low is (omega (arith, less)) are)
  | inr more ↦
      let P : ℕ → Type 0 = λ m. AreKnownLengths rs (n + 1) (set known own m) in
      subst P (sym (max-eq_right more)) (known_raised rs n own after known runs low is more are)
]

-- ---- which tasks have started

pub started_none : (rs : List Record) (tasks : List ℕ) (count : ℕ) (marks : List Bool)
    → marks ≡ replicate count false → count ≡ length tasks → AreStarted rs 0 tasks marks
started_none rs tasks count marks is all = record {
  all = ap length is ∙ length-replicate count false ∙ all;
  each = λ index task has stands there. (
    λ holds.
        absurd
        (false≢true
        (sym (replicate_get count index false has (ap (λ l. slice_get l index) (sym is) ∙ there)) ∙ holds)),
    λ (k, below, begins). absurd (omega (arith, below)),
  );
}

-- the task at the index starts there
pub started_more : (rs : List Record) (n own task : ℕ) (tasks : List ℕ) (marks : List Bool)
    → AreApart tasks → slice_get tasks own ≡ Some task → at first_started rs n ≡ Some task
    → AreStarted rs n tasks marks → AreStarted rs (n + 1) tasks (set marks own true)
started_more rs n own task tasks marks apart is_task starts are = record {
  all = length-set marks own true ∙ are.all;
  each = λ index other has stands there. elim (cases_eq index own) [
    | inl same ↦
        let is_other : other ≡ task =
        same_Some other task (sym stands ∙ ap (slice_get tasks) same ∙ is_task) in
        let yes_there : has ≡ true =
        same_Some has true
        (sym there ∙ ap (slice_get (set marks own true)) same ∙ get_set_same marks own true within) in (
          λ holds. (n, omega arith, begins ∙ ap (λ t. Some (t, 0)) (sym is_other)),
          λ before. yes_there,
        )
    | inr different ↦
        let old =
        are.each index other has stands (sym (get_set_other marks own index true different) ∙ there) in (
          λ holds. let before = old.0 holds in (before.0, omega (arith, before.1), before.2),
          λ (k, below, begun). elim (cases_eq k n) [
            | inl here ↦
                let parts =
                some_pair_parts other task 0 0 (sym begun ∙ ap (at begun_turn rs) here ∙ begins) in
                absurd (different (apart index own task (stands ∙ ap Some parts.0) is_task))
            | inr earlier ↦ old.1 (k, omega (arith, below, earlier), begun)
          ],
        )
  ];
}
  where
    begins : at begun_turn rs n ≡ Some (task, 0)
    begins = first_begun rs n task starts

    within : own < length marks
    within =
        let inside = slice_get_within tasks own task is_task in
        let all = are.all in omega (arith, inside, all)

pub again_is : (rs : List Record) (n own task : ℕ) (tasks : List ℕ) (marks : List Bool) (has : Bool)
    → slice_get tasks own ≡ Some task → at first_started rs n ≡ Some task → slice_get marks own ≡ Some has
    → AreStarted rs n tasks marks → IsTrue has ↔ StartsAgain rs n
again_is rs n own task tasks marks has is_task starts there are =
    let each = are.each own task has is_task there in
    let begins = first_begun rs n task starts in (
      λ holds. (task, begins, each.0 holds),
      λ (other, begun, before).
          let same = (some_pair_parts other task 0 0 (sym begun ∙ begins)).0 in
          each.1 (subst (HasStarted rs n) same before),
    )

-- ---- the records that are behind

-- from what a record awaits a step leads to it, unless it starts a task again
awaits_step : (rs : List Record) (i c : ℕ) → EachAwaitsOne rs → (StartsAgain rs i → ⊥) → Awaits rs i c
    → IsProgramStep rs c i
awaits_step rs i c facts once (awaits_creation task waits creates) = elim (awaited_at rs i task waits) [
  | inl fulfils ↦ fulfilment task creates fulfils
  | inr (inl gone) ↦ discard task creates gone
  | inr (inr begins) ↦ elim (facts.at_home i task (c, creates) begins) [
    | inl start ↦ creation task creates start
    | inr (s, earlier, start) ↦ absurd (once (task, begins, (s, earlier.earlier, start.starts)))
  ]
]
awaits_step rs i c facts once (awaits_end again explicit) = resumption again

-- and otherwise is behind where it names less than the record that it awaits
pub behind_awaits : (rs : List Record) (n : ℕ) → EachAwaitsOne rs → (FallsOnThread rs n → ⊥)
    → (StartsAgain rs n → ⊥) → PrecedesAwaited rs n ↔ IsBehind rs n
behind_awaits rs n facts keeps once = (
  λ (c, awaits, less). step_behind rs c n (awaits_step rs n c facts once awaits) less,
  λ (k, step, less). elim (program_awaits rs k n facts step) [
    | inl earlier ↦ absurd (keeps (k, earlier.earlier, earlier.same, less))
    | inr awaits ↦ let knows = known_awaited rs n k awaits in (k, awaits, omega (arith, knows, less))
  ],
)

-- the records so far that are behind are, along the whole file, all
pub all_back : (rs : List Record) (n : ℕ) (places : List ℕ) → length rs ≡ n
    → AreAllBelow (IsBehind rs) n places → AreAllWith rs LengthBack places
all_back rs n places all are =
    all_with rs LengthBack (IsBehind rs) n places all (λ i is. length_back is)
    (λ i has.
    let is = behind rs i has in
    let within = step_within rs is.0 i is.1 in
    (omega (arith, within, all), is))
    are
