-- The order in which a record stands as early as it can, and what it shows of a task that is unfinished
-- there.
use Rattle.std.proofs.Common.{zero, suc, ◌≡◌, ◌∙◌, ℕ, ◌<◌, ◌≤◌, ◌+◌, ◌⊎◌, Bool, true, false, cond, ltb, List}
use Rattle.std.proofs.Common.{[], ◌∷◌, ◌++◌, length, Option, Some, None, refl, sym, ap, subst, arith, inl}
use Rattle.std.proofs.Common.{inr}
use Rattle.std.specs.Prelude.{Contains, IsTrue, IsPermutation, filter, take, is_some, slice_get, slice_index}
use Rattle.std.specs.Prelude.{⊤, ◌↔◌}
use Rattle.std.specs.Option.{option_map_or}
use Rattle.std.proofs.lemmas.Bool.{false≢true, ltb-true, lt-ltb}
use Rattle.std.proofs.lemmas.Option.{none-some, same_Some, slice_get-get_or, slice_get_within}
use Rattle.std.proofs.lemmas.List.{append_assoc, append-nil, take_more, take_all}
use Rattle.std.proofs.lemmas.List.Elements.{Contains-append_right, filter-append}
use Rattle.std.proofs.lemmas.List.Sorted.{Contains-permutation}
use Rattle.ompt_events.specs.declared.records.Record.{Record}
use Rattle.ompt_events.specs.declared.records.Part.{Part}
use Rattle.ompt_events.specs.declared.records.Part.TheVariants as part
use Rattle.ompt_events.specs.declared.cause.Cause.TheVariants.{LengthBack}
use Rattle.ompt_events.specs.Records.{finish}
use Rattle.ompt_events.specs.Places.{at, thread_at, places}
use Rattle.ompt_events.specs.HappensBefore.{HappensBefore, chain}
use Rattle.ompt_events.specs.Linearization.{IsEarlier, IsLinearization, IsReady, IsFirstReady, IsGreedy}
use Rattle.ompt_events.specs.Linearization.{IsGreedyAfter}
use Rattle.ompt_events.specs.Completion.{IsPartFinished, CountsIn, CountsAt, IsCompleteIn, IsCompleteAt}
use Rattle.ompt_events.specs.Causes.{IsFreeOf}
use Rattle.ompt_events.proofs.PlaceLemmas.{Contains-filter, contains_place}
use Rattle.ompt_events.proofs.HappensBeforeLemmas.{before_from}
use Rattle.checker.specs.Readings.{Reading, by_task}
use Rattle.checker.specs.Verdicts.{ShowsNone, IsUnfinished}
use Rattle.checker.specs.Search.{ClearView, IsClearView}
use Rattle.checker.specs.Counter.{AreBounds, IsEarliestOrder, IsCounterOrderBy, IsBelow, is_below}
use Rattle.checker.specs.Merge.{AreInTurn, IsGreedyBehind}
use Rattle.checker.proofs.MergingLemmas.{each_more}
use Rattle.checker.proofs.EarlierLemmas.{earlier_first, earlier_cases, earlier_right, earlier_across}
use Rattle.checker.proofs.EarlierLemmas.{earlier_append_cases, earlier_to, earlier_apart, order_apart}
use Rattle.checker.proofs.EarlierLemmas.{filter_holds}
use Rattle.checker.proofs.MissedLemmas.{before_known, known_finish}
use Rattle.checker.proofs.ReadingLemmas.{shows_none}
use Rattle.task_tree.proofs.GapFreeLemmas.{thread_there}

-- ---- some of a greedy order

filter_contains : (p : ℕ → Bool) (xs : List ℕ) (a : ℕ) → Contains (filter p xs) a → Contains xs a
filter_contains p [] a has = has
filter_contains p (x ∷ xs) a has = of (filter_contains p xs a) (p x) has
  where
    of : (Contains (filter p xs) a → Contains xs a) → (t : Bool)
        → Contains (cond t (x ∷ filter p xs) (filter p xs)) a → Contains (x ∷ xs) a
    of rest true (zero, below, is) = (0, omega arith, is)
    of rest true (suc k, below, is) = Contains-append_right (x ∷ []) xs a (rest (k, omega (arith, below), is))
    of rest false among = Contains-append_right (x ∷ []) xs a (rest among)

-- those records of a greedy order that may be taken, in its order, are the greedy order of these, where with
-- each all may be taken that happens before it
greedy_filter : (rs : List Record) (may : ℕ → Type 0) (p : ℕ → Bool) (order : List ℕ)
    → ((a : ℕ) → (p a ≡ true) ↔ may a) → ((a b : ℕ) → HappensBefore rs a b → may b → may a)
    → IsGreedy rs order → IsGreedyAfter rs may [] (filter p order)
greedy_filter rs may p order decides closed greedy =
    let P : List ℕ → Type 0 = λ l. IsGreedyAfter rs may [] (filter p l) in
    subst P (take_all (length order) order (omega arith)) (taken (length order) (omega arith))
  where
    next : (n : ℕ) → n < length order → p (slice_index order n) ≡ true
        → IsFirstReady rs may (filter p (take n order)) (slice_index order n)
    next n below holds =
        let is = greedy n below in
        let y = slice_index order n in
        let xs = take n order in
        record {
          ready = record {
            within = is.ready.within;
            taken = (decides y).0 holds;
            missing = λ among. is.ready.missing (filter_contains p xs y among);
            due =
                λ a before.
                Contains-filter p xs a (is.ready.due a before)
                ((decides a).1 (closed a y before ((decides y).0 holds)));
          };
          first = λ j earlier ready. is.first j earlier (record {
            within = ready.within;
            taken = tt;
            missing = λ among. ready.missing (Contains-filter p xs j among ((decides j).1 ready.taken));
            due = λ a before. filter_contains p xs a (ready.due a before);
          });
        }

    one_more : (n : ℕ) → n < length order → IsGreedyAfter rs may [] (filter p (take n order)) → (t : Bool)
        → p (slice_index order n) ≡ t
        → IsGreedyAfter rs may [] (filter p (take n order) ++ cond t (slice_index order n ∷ []) [])
    one_more n below so_far true holds =
        each_more (IsFirstReady rs may) (filter p (take n order)) (slice_index order n) so_far
        (next n below holds)
    one_more n below so_far false fails =
        let P : List ℕ → Type 0 = IsGreedyAfter rs may [] in
        subst P (sym (append-nil (filter p (take n order)))) so_far

    taken : (n : ℕ) → n ≤ length order → IsGreedyAfter rs may [] (filter p (take n order))
    taken zero most = λ k below. absurd (omega (arith, below))
    taken (suc n) most =
        let below : n < length order = omega (arith, most) in
        let P : List ℕ → Type 0 = IsGreedyAfter rs may [] in
        let is : filter p (take (n + 1) order)
        ≡ filter p (take n order) ++ cond (p (slice_index order n)) (slice_index order n ∷ []) [] =
        ap (filter p) (take_more order n 0 below)
        ∙ filter-append p (take n order) (slice_index order n ∷ []) in
        let more = one_more n below (taken n (omega (arith, most))) (p (slice_index order n)) refl in
        let R : ℕ → Type 0 = λ m. IsGreedyAfter rs may [] (filter p (take m order)) in
        let one : n + 1 ≡ suc n = omega arith in
        subst R one (subst P (sym is) more)

-- one more record of the order
pub filter_more : (p : ℕ → Bool) (order : List ℕ) (n place : ℕ) → slice_get order n ≡ Some place
    → filter p (take (n + 1) order) ≡ filter p (take n order) ++ cond (p place) (place ∷ []) []
filter_more p order n place stands =
    let below : n < length order = slice_get_within order n place stands in
    let is : slice_index order n ≡ place =
    same_Some (slice_index order n) place (sym (slice_get-get_or order n 0 below) ∙ stands) in
    ap (filter p) (take_more order n 0 below) ∙ filter-append p (take n order) (slice_index order n ∷ [])
    ∙ ap (λ y. filter p (take n order) ++ cond (p y) (y ∷ []) []) is

-- ---- the records that happen before one

-- a test for what stands below the bounds
pub below_told : (rs : List Record) (bounds : List ℕ) (a : ℕ) (told : Bool)
    → (IsTrue told ↔ IsBelow rs bounds a) → told ≡ is_below rs bounds a
below_told rs bounds a told tells = of (thread_at rs a) refl told tells
  where
    within : (thread : ℕ) → thread_at rs a ≡ Some thread → (t : Bool) → (IsTrue t ↔ IsBelow rs bounds a)
        → t ≡ ltb a (slice_index bounds thread)
    within thread runs true is = let b = is.0 refl in
        let P : ℕ → Type 0 = λ k. a < slice_index bounds k in
        sym
        (lt-ltb a (slice_index bounds thread)
        (subst P (same_Some b.thread thread (sym b.is_on ∙ runs)) b.below))
    within thread runs false is = no (ltb a (slice_index bounds thread)) refl
      where
        no : (t : Bool) → ltb a (slice_index bounds thread) ≡ t → false ≡ t
        no false e = refl
        no true e =
            absurd
            (false≢true
            (is.1 (record {
              thread = thread;
              is_on = runs;
              below = ltb-true a (slice_index bounds thread) e;
            })))

    of : (o : Option ℕ) → thread_at rs a ≡ o → (t : Bool) → (IsTrue t ↔ IsBelow rs bounds a)
        → t ≡ option_map_or (λ thread. ltb a (slice_index bounds thread)) (thread_at rs a) false
    of None none true is = absurd (let b = is.0 refl in none-some b.thread (sym none ∙ b.is_on))
    of None none false is = rw none refl
    of (Some thread) runs t is = rw runs (within thread runs t is)

-- a record stands below the bound of its thread exactly where it happens before i
below_before : (rs : List Record) (i : ℕ) (bounds : List ℕ) → AreBounds rs i bounds → (a : ℕ)
    → (is_below rs bounds a ≡ true) ↔ HappensBefore rs a i
below_before rs i bounds are a = (to (thread_at rs a) refl, from)
  where
    to : (o : Option ℕ) → thread_at rs a ≡ o
        → option_map_or (λ thread. ltb a (slice_index bounds thread)) o false ≡ true → HappensBefore rs a i
    to None none holds = absurd (false≢true holds)
    to (Some thread) runs holds = (are.each a thread runs).0 (ltb-true a (slice_index bounds thread) holds)

    from : HappensBefore rs a i → is_below rs bounds a ≡ true
    from before =
        let runs = thread_there rs a (before_from rs a i before) in
        rw runs.1 (lt-ltb a (slice_index bounds runs.0) ((are.each a runs.0 runs.1).1 before))

-- nothing happens before itself
not_itself : (rs : List Record) (order : List ℕ) (i : ℕ) → IsLinearization rs order → HappensBefore rs i i → ⊥
not_itself rs order i linear before =
    earlier_apart order i (order_apart rs order linear.all_once) (linear.rising i i before)

-- those that happen before i, and then i, may stand one after another
pub base_in_turn : (rs : List Record) (order bounds : List ℕ) (i : ℕ) → IsLinearization rs order
    → IsGreedy rs order → AreBounds rs i bounds → i < length rs
    → AreInTurn rs (filter (is_below rs bounds) order ++ i ∷ [])
base_in_turn rs order bounds i linear greedy are within =
    each_more (IsReady rs (λ _. ⊤)) base i (λ k below. let ready = (so_far k below).ready in record {
      within = ready.within;
      taken = tt;
      missing = ready.missing;
      due = ready.due;
    }) (record {
      within = within;
      taken = tt;
      missing = λ among. not_itself rs order i linear ((decides i).0 (filter_holds p order i among));
      due =
          λ a before.
          Contains-filter p order a
          (Contains-permutation (places rs) order a linear.all_once
          (contains_place rs a (before_from rs a i before)))
          ((decides a).1 before);
    })
  where
    p : ℕ → Bool
    p = is_below rs bounds

    base : List ℕ
    base = filter p order

    decides : (a : ℕ) → (p a ≡ true) ↔ HappensBefore rs a i
    decides = below_before rs i bounds are

    so_far : IsGreedyAfter rs (λ a. HappensBefore rs a i) [] base
    so_far =
        greedy_filter rs (λ a. HappensBefore rs a i) p order decides (λ a b before then. chain before then)
        greedy

-- the order that goes on behind them is the earliest one for i
pub earliest_behind : (rs : List Record) (order bounds now : List ℕ) (i : ℕ) → IsLinearization rs order
    → IsGreedy rs order → AreBounds rs i bounds
    → IsGreedyBehind rs (filter (is_below rs bounds) order ++ i ∷ []) now → IsEarliestOrder rs i now
earliest_behind rs order bounds now i linear greedy are behind = record {
  before = filter p order;
  after = behind.more;
  parts = behind.parts;
  just_before = λ a. (
    (λ among. (decides a).0 (filter_holds p order a among)),
    (λ before.
        Contains-filter p order a
        (Contains-permutation (places rs) order a linear.all_once
        (contains_place rs a (before_from rs a i before)))
        ((decides a).1 before)),
  );
  before_greedy =
      greedy_filter rs (λ a. HappensBefore rs a i) p order decides (λ a b before then. chain before then)
      greedy;
  after_greedy = behind.greedy;
}
  where
    p : ℕ → Bool
    p = is_below rs bounds

    decides : (a : ℕ) → (p a ≡ true) ↔ HappensBefore rs a i
    decides = below_before rs i bounds are

-- ---- what is complete at i in its earliest order is so by what i has seen

-- just what happens before i stands before it there
earlier_before : (rs : List Record) (i k : ℕ) (order : List ℕ) → IsPermutation (places rs) order
    → IsEarliestOrder rs i order → IsEarlier order k i → HappensBefore rs k i
earlier_before rs i k order permutation is e =
    let parts : order ≡ is.before ++ i ∷ is.after = is.parts ∙ append_assoc is.before (i ∷ []) is.after in
    let P : List ℕ → Type 0 = λ l. IsEarlier l k i in
    let Q : List ℕ → Type 0 = λ l. IsEarlier l i i → ⊥ in
    of (subst Q parts (earlier_apart order i (order_apart rs order permutation)))
    (earlier_append_cases is.before (i ∷ is.after) k i (subst P parts e))
  where
    of : (IsEarlier (is.before ++ i ∷ is.after) i i → ⊥)
        → IsEarlier is.before k i
        ⊎ ((Contains is.before k × Contains (i ∷ is.after) i) ⊎ IsEarlier (i ∷ is.after) k i)
        → HappensBefore rs k i
    of once (inl both) =
        absurd
        (once
        (earlier_across is.before (i ∷ is.after) i i (earlier_to is.before k i both)
        (0, omega arith, refl)))
    of once (inr (inl (left, right))) = (is.just_before k).0 left
    of once (inr (inr last)) =
        absurd (once (earlier_right is.before (i ∷ is.after) i i (earlier_first i is.after i (
        elim (earlier_cases i is.after k i last) [
          | inl (same, more) ↦ more
          | inr both ↦ earlier_to is.after k i both
        ]))))

complete_earliest : (rs : List Record) (i task : ℕ) (order : List ℕ) → IsFreeOf rs LengthBack
    → IsPermutation (places rs) order → IsEarliestOrder rs i order → IsCompleteIn rs order task i
    → IsCompleteAt rs task i
complete_earliest rs i task order free permutation is complete = elim complete [
  | inl whole ↦ inl (of part.Whole whole)
  | inr (body, event) ↦ inr (of part.Body body, of part.Event event)
]
  where
    counts : (k : ℕ) (p : Part) → at finish rs k ≡ Some (task, p) → CountsIn rs order i k → CountsAt rs i k
    counts k p finishes (inl earlier) =
        let low = before_known rs k i free (earlier_before rs i k order permutation is earlier) in
        let known = known_finish rs k (ap is_some finishes) in
        inl (omega (arith, low, known))
    counts k p finishes (inr starts) = inr starts

    of : (p : Part) → IsPartFinished rs (CountsIn rs order i) task p
        → IsPartFinished rs (CountsAt rs i) task p
    of p (k, finishes, counted) = (k, finishes, counts k p finishes counted)

-- so that order leaves an unfinished task incomplete
counter_by : (reading : Reading) (i task : ℕ) (order : List ℕ) → ShowsNone reading
    → IsFreeOf reading.records LengthBack → IsLinearization reading.records order
    → IsEarliestOrder reading.records i order → IsUnfinished reading i task
    → IsCounterOrderBy reading i task order
counter_by reading i task order clear free linear is unfinished = record {
  well_formed = clear;
  required = unfinished.required;
  linearization = linear;
  incomplete =
      λ complete.
      unfinished.incomplete
      (complete_earliest reading.records i task order free linear.all_once is complete);
  earliest = is;
}

-- the same of a trace without a cause
pub task_counter : (view : ClearView) (i task : ℕ) (order : List ℕ) → IsClearView view
    → IsLinearization view.run.records order → IsEarliestOrder view.run.records i order
    → IsUnfinished (by_task view.run.records) i task
    → IsCounterOrderBy (by_task view.run.records) i task order
task_counter view i task order clear =
    counter_by (by_task view.run.records) i task order (shows_none view.run.records clear.well_formed)
    (clear.well_formed LengthBack (15, omega arith, refl))
