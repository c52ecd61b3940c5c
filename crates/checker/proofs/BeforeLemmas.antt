-- What is below the bounds while they are raised, until just what happens before a record is below them.
use Rattle.std.proofs.Common.{◌≡◌, ◌∙◌, ℕ, ◌<◌, ◌≤◌, ◌+◌, ◌⊎◌, List, length, get_or, set, replicate, Option}
use Rattle.std.proofs.Common.{Some, None, refl, sym, ap, subst, arith, inl, inr}
use Rattle.std.specs.Prelude.{Contains, slice_get, slice_index, option_map}
use Rattle.std.proofs.lemmas.Bool.{cases_eq, cases_lt}
use Rattle.std.proofs.lemmas.Option.{none-some, same_Some, slice_get_within, slice_get-get_or}
use Rattle.std.proofs.lemmas.List.{get_or_default, get_or_past, length-replicate, get_or-set_same}
use Rattle.std.proofs.lemmas.List.{get_or-set_other, get_or-replicate}
use Rattle.std.proofs.lemmas.List.Sorted.{Contains-permutation}
use Rattle.ompt_events.specs.declared.records.Record.{Record}
use Rattle.ompt_events.specs.declared.cause.Cause.TheVariants.{LengthBack}
use Rattle.ompt_events.specs.Places.{thread_at, seen_at, places}
use Rattle.ompt_events.specs.Traces.{IsTrace}
use Rattle.ompt_events.specs.HappensBefore.{IsFinishing, thread_order, IsStep, program, ledger, HappensBefore}
use Rattle.ompt_events.specs.HappensBefore.{step, chain}
use Rattle.ompt_events.specs.Linearization.{IsLinearization}
use Rattle.ompt_events.specs.Causes.{IsFreeOf}
use Rattle.ompt_events.proofs.PlaceLemmas.{contains_place}
use Rattle.ompt_events.proofs.HappensBeforeLemmas.{before_from, finishing_within}
use Rattle.checker.specs.Entries.{AreEntryPlaces}
use Rattle.checker.specs.Schedule.{Awaits, EachAwaitsOne}
use Rattle.checker.specs.Counter.{OrderedView, IsOrdered, AreBounds, HaveAllThreads, IsBelow, AreAllBefore}
use Rattle.checker.specs.Counter.{AreEarlierInThread, MakesBelow, AreRaisedTo}
use Rattle.checker.proofs.EarlierLemmas.{order_apart}
use Rattle.checker.proofs.LengthLemmas.{known_least}
use Rattle.checker.proofs.MissedLemmas.{before_known}
use Rattle.checker.proofs.ScheduleLemmas.{awaits_before, program_awaits}

-- ---- a bound for each thread

thread_low : (rs : List Record) (a thread : ℕ) → IsTrace rs → thread_at rs a ≡ Some thread → thread < 256
thread_low rs a thread trace on = of (slice_get rs a) refl on
  where
    of : (o : Option Record) → slice_get rs a ≡ o → option_map (λ (r : Record). r.thread) o ≡ Some thread
        → thread < 256
    of None e is = absurd (none-some thread is)
    of (Some r) e is =
        let within = slice_get_within rs a r e in
        let same : (get_or rs a r).thread ≡ thread =
        ap (λ (q : Record). q.thread)
        (same_Some (get_or rs a r) r (sym (slice_get-get_or rs a r within) ∙ e))
        ∙ same_Some r.thread thread is in
        let low = (trace.in_range a r within).thread in
        omega (arith, low, same)

pub all_threads : (rs : List Record) (bounds : List ℕ) → IsTrace rs → length bounds ≡ 256
    → HaveAllThreads rs bounds
all_threads rs bounds trace len a thread on =
    let low = thread_low rs a thread trace on in omega (arith, low, len)

pub all_kept : (rs : List Record) (old new : List ℕ) → length new ≡ length old → HaveAllThreads rs old
    → HaveAllThreads rs new
all_kept rs old new same all a thread on = let low = all a thread on in omega (arith, low, same)

-- ---- what is below

-- no record is below bounds of 0
nothing_below : (thread : ℕ) → slice_index (replicate 256 0) thread ≡ 0
nothing_below thread = elim (cases_lt thread 256) [
  | inl less ↦ get_or-replicate {A = ℕ} 256 thread 0 0 less
  | inr past ↦
      get_or_past {X = ℕ} (replicate 256 0) thread 0
      (let len = length-replicate {A = ℕ} 256 0 in omega (arith, past, len))
]

-- one bound among them
pub earlier_in_thread : (rs : List Record) (i own : ℕ) → thread_at rs i ≡ Some own → own < 256
    → AreEarlierInThread rs i (set (replicate 256 0) own i)
earlier_in_thread rs i own on low = record {
  earlier =
      λ a less same. record {
        thread = own;
        is_on = same ∙ on;
        below = let h = here in omega (arith, less, h);
      };
  only = λ a is. elim (cases_eq is.thread own) [
    | inl same ↦ (
      let h = here in
          let below = is.below in
          let there = ap (slice_index (set (replicate 256 0) own i)) same in
          omega (arith, h, below, there),
      is.is_on ∙ ap Some same ∙ sym on,
    )
    | inr apart ↦
        absurd
        (let below = is.below in
        let other = get_or-set_other (replicate 256 0) own is.thread i 0 apart in
        let none = nothing_below is.thread in omega (arith, below, other, none))
  ];
}
  where
    here : slice_index (set (replicate 256 0) own i) own ≡ i
    here =
        get_or-set_same (replicate 256 0) own i 0
        (let len = length-replicate {A = ℕ} 256 0 in omega (arith, low, len))

-- an earlier record of the thread of one that is below
below_too : (rs : List Record) (bounds : List ℕ) (a b : ℕ) → a ≤ b → thread_at rs a ≡ thread_at rs b
    → IsBelow rs bounds b → IsBelow rs bounds a
below_too rs bounds a b most same is = record {
  thread = is.thread;
  is_on = same ∙ is.is_on;
  below = let below = is.below in omega (arith, most, below);
}

-- ---- bounds that are raised

pub raised_none : (rs : List Record) (has : ℕ → Type 0) (bounds : List ℕ) → ((c : ℕ) → has c → ⊥)
    → AreRaisedTo rs has bounds bounds
raised_none rs has bounds none = record {
  kept = λ a is. is;
  raised = λ c holds. absurd (none c holds);
  only = λ a is. inl is;
}

-- to the records with the one property, and then to those with the other
raised_then : (rs : List Record) (first second both : ℕ → Type 0) (old mid new : List ℕ)
    → ((c : ℕ) → both c → first c ⊎ second c) → ((c : ℕ) → first c → both c) → ((c : ℕ) → second c → both c)
    → AreRaisedTo rs first old mid → AreRaisedTo rs second mid new → AreRaisedTo rs both old new
raised_then rs first second both old mid new parts left right one two = record {
  kept = λ a is. two.kept a (one.kept a is);
  raised = λ c holds. elim (parts c holds) [
    | inl is ↦ two.kept c (one.raised c is)
    | inr is ↦ two.raised c is
  ];
  only = λ a is. elim (two.only a is) [
    | inl before ↦ elim (one.only a before) [
      | inl at_first ↦ inl at_first
      | inr (c, holds, most, same) ↦ inr (c, left c holds, most, same)
    ]
    | inr (c, holds, most, same) ↦ inr (c, right c holds, most, same)
  ];
}

-- the same property in other words
pub raised_same : (rs : List Record) (one other : ℕ → Type 0) (old new : List ℕ) → ((c : ℕ) → other c → one c)
    → ((c : ℕ) → one c → other c) → AreRaisedTo rs one old new → AreRaisedTo rs other old new
raised_same rs one other old new from to are = record {
  kept = are.kept;
  raised = λ c holds. are.raised c (from c holds);
  only = λ a is. elim (are.only a is) [
    | inl before ↦ inl before
    | inr (c, holds, most, same) ↦ inr (c, to c holds, most, same)
  ];
}

-- what came below happens before what the records happen before to which the bounds were raised
earlier_before : (rs : List Record) (a c i : ℕ) → a ≤ c → thread_at rs a ≡ thread_at rs c
    → HappensBefore rs c i → HappensBefore rs a i
earlier_before rs a c i most same before = elim (cases_eq a c) [
  | inl is ↦ let P : ℕ → Type 0 = λ k. HappensBefore rs k i in subst P (sym is) before
  | inr apart ↦ chain (step (program (thread_order (omega arith) (before_from rs c i before) same))) before
]

pub before_raised : (rs : List Record) (has : ℕ → Type 0) (i : ℕ) (old new : List ℕ)
    → ((c : ℕ) → has c → HappensBefore rs c i) → AreRaisedTo rs has old new → AreAllBefore rs i old
    → AreAllBefore rs i new
before_raised rs has i old new each are before a is = elim (are.only a is) [
  | inl was ↦ before a was
  | inr (c, holds, most, same) ↦ earlier_before rs a c i most same (each c holds)
]

-- ---- to the makers of entries

-- the maker of one entry more
makes_more : (rs : List Record) (n c : ℕ) (makers : List ℕ) → AreEntryPlaces rs (length rs) makers
    → n < length makers → MakesBelow rs (n + 1) c → MakesBelow rs n c ⊎ (c ≡ slice_index makers n)
makes_more rs n c makers are inside (finishes, low) = elim (cases_eq (seen_at rs c) n) [
  | inl here ↦
      inr
      (sym (are.each c (finishing_within rs c finishes) finishes (omega (arith, inside, here)))
      ∙ ap (slice_index makers) here)
  | inr apart ↦ inl (finishes, omega (arith, low, apart))
]

makes_less : (rs : List Record) (n c : ℕ) → MakesBelow rs n c → MakesBelow rs (n + 1) c
makes_less rs n c (finishes, low) = (finishes, omega (arith, low))

pub makers_start : (rs : List Record) (bounds : List ℕ) → AreRaisedTo rs (MakesBelow rs 0) bounds bounds
makers_start rs bounds =
    raised_none rs (MakesBelow rs 0) bounds (λ c (finishes, low). absurd (omega (arith, low)))

pub makers_more : (rs : List Record) (n : ℕ) (makers old mid new : List ℕ)
    → AreEntryPlaces rs (length rs) makers
    → n < length makers → slice_index makers n < length rs → AreRaisedTo rs (MakesBelow rs n) old mid
    → AreRaisedTo rs (λ c. c ≡ slice_index makers n) mid new → AreRaisedTo rs (MakesBelow rs (n + 1)) old new
makers_more rs n makers old mid new are inside within one two =
    let makes = are.only n inside within in
    raised_then rs (MakesBelow rs n) (λ c. c ≡ slice_index makers n) (MakesBelow rs (n + 1)) old mid new
    (λ c holds. makes_more rs n c makers are inside holds)
    (λ c holds. makes_less rs n c holds)
    (λ c is.
    let P : ℕ → Type 0 = MakesBelow rs (n + 1) in
    subst P (sym is) (makes.0, (let entry_is = makes.1 in omega (arith, entry_is))))
    one two

pub makers_none : (rs : List Record) (n : ℕ) (makers old new : List ℕ) → AreEntryPlaces rs (length rs) makers
    → n < length makers → length rs ≤ slice_index makers n → AreRaisedTo rs (MakesBelow rs n) old new
    → AreRaisedTo rs (MakesBelow rs (n + 1)) old new
makers_none rs n makers old new are inside past one =
    raised_same rs (MakesBelow rs n) (MakesBelow rs (n + 1)) old new
    (λ c holds. elim (makes_more rs n c makers are inside holds) [
      | inl below ↦ below
      | inr here ↦ absurd (let within = finishing_within rs c holds.0 in omega (arith, within, here, past))
    ])
    (λ c holds. makes_less rs n c holds)
    one

-- ---- to what those below await

-- of the last so many records of the order those that are below have what they await below
abbrev pub HavePassed : List Record → List ℕ → ℕ → List ℕ → Type 0
HavePassed rs order passed bounds =
    (q c : ℕ) → length order ≤ q + passed → q < length order → IsBelow rs bounds (slice_index order q)
    → Awaits rs (slice_index order q) c → IsBelow rs bounds c

-- no record stands at two positions
position_once : (rs : List Record) (order : List ℕ) (p q : ℕ) → IsLinearization rs order → p < length order
    → q < length order → slice_index order p ≡ slice_index order q → p ≡ q
position_once rs order p q linear p_in q_in same = elim (cases_eq p q) [
  | inl is ↦ is
  | inr apart ↦ elim (cases_lt p q) [
    | inl less ↦ absurd (order_apart rs order linear.all_once p q 0 less q_in same)
    | inr most ↦
        absurd (order_apart rs order linear.all_once q p 0 (omega (arith, most, apart)) p_in (sym same))
  ]
]

-- so what happens before a record stands before it
stands_before : (rs : List Record) (order : List ℕ) (p q : ℕ) → IsLinearization rs order → p < length order
    → q < length order → HappensBefore rs (slice_index order q) (slice_index order p) → q < p
stands_before rs order p q linear p_in q_in before =
    let earlier = linear.rising (slice_index order q) (slice_index order p) before in
    let low = earlier.apart in
    let within = earlier.within in
    let first : earlier.first ≡ q =
    position_once rs order earlier.first q linear (omega (arith, low, within)) q_in earlier.a_stands in
    let second : earlier.second ≡ p =
    position_once rs order earlier.second p linear within p_in earlier.b_stands in
    omega (arith, low, first, second)

-- what comes below by the next record stands before it, and so is not among those that were passed
pub passed_more : (rs : List Record) (order : List ℕ) (passed p : ℕ) (old new : List ℕ) → EachAwaitsOne rs
    → IsLinearization rs order → p + 1 + passed ≡ length order
    → AreRaisedTo rs (Awaits rs (slice_index order p)) old new → HavePassed rs order passed old
    → HavePassed rs order (passed + 1) new
passed_more rs order passed p old new facts linear here are was q c end inside is awaits =
    elim (cases_eq q p) [
      | inl same ↦
          let P : ℕ → Type 0 = λ k. Awaits rs (slice_index order k) c in
          are.raised c (subst P same awaits)
      | inr apart ↦ elim (are.only (slice_index order q) is) [
        | inl below ↦ are.kept c (was q c (omega (arith, end, here, apart)) inside below awaits)
        | inr (other, holds, most, same_thread) ↦
            let less =
            stands_before rs order p q linear (omega (arith, here)) inside
            (earlier_before rs (slice_index order q) other (slice_index order p) most same_thread
            (awaits_before rs (slice_index order p) other facts holds)) in
            absurd (omega (arith, less, end, here))
      ]
    ]

-- a record that is not below needs nothing below
pub passed_other : (rs : List Record) (order : List ℕ) (passed p : ℕ) (bounds : List ℕ)
    → p + 1 + passed ≡ length order → (IsBelow rs bounds (slice_index order p) → ⊥)
    → HavePassed rs order passed bounds → HavePassed rs order (passed + 1) bounds
passed_other rs order passed p bounds here above was q c end inside is awaits = elim (cases_eq q p) [
  | inl same ↦
      let P : ℕ → Type 0 = λ k. IsBelow rs bounds (slice_index order k) in absurd (above (subst P same is))
  | inr apart ↦ was q c (omega (arith, end, here, apart)) inside is awaits
]

-- a record that is below is one of the records
below_within : (rs : List Record) (bounds : List ℕ) (a : ℕ) → IsBelow rs bounds a → a < length rs
below_within rs bounds a is = of (slice_get rs a) refl is.is_on
  where
    of : (o : Option Record) → slice_get rs a ≡ o → option_map (λ (r : Record). r.thread) o ≡ Some is.thread
        → a < length rs
    of None e on = absurd (none-some is.thread on)
    of (Some r) e on = slice_get_within rs a r e

-- all are passed
pub passed_all : (rs : List Record) (order : List ℕ) (passed : ℕ) (bounds : List ℕ) → IsLinearization rs order
    → length order ≤ passed → HavePassed rs order passed bounds → (b c : ℕ) → IsBelow rs bounds b
    → Awaits rs b c → IsBelow rs bounds c
passed_all rs order passed bounds linear end was b c is awaits =
    of
    (Contains-permutation (places rs) order b linear.all_once
    (contains_place rs b (below_within rs bounds b is)))
  where
    of : Contains order b → IsBelow rs bounds c
    of (q, inside, there) =
        let here : slice_index order q ≡ b = get_or_default order q 0 b inside ∙ there in
        let P : ℕ → Type 0 = λ k. IsBelow rs bounds k in
        let Q : ℕ → Type 0 = λ k. Awaits rs k c in
        was q c (omega (arith, end)) inside (subst P (sym here) is) (subst Q (sym here) awaits)

-- ---- all that happens before

-- what is below happens before i, and below is each record from which a step leads to i or to one that is
-- below
record AreClosedAt (rs : List Record) (i : ℕ) (bounds : List ℕ) : Type 0 where
  pub before : AreAllBefore rs i bounds
  pub own : (a : ℕ) → a < i → thread_at rs a ≡ thread_at rs i → IsBelow rs bounds a
  pub makers : (c : ℕ) → MakesBelow rs (seen_at rs i) c → IsBelow rs bounds c
  pub here : (c : ℕ) → Awaits rs i c → IsBelow rs bounds c
  pub below : (b c : ℕ) → IsBelow rs bounds b → Awaits rs b c → IsBelow rs bounds c

-- no record names a greater length than one before which it happens
seen_most : (rs : List Record) (i b : ℕ) → IsFreeOf rs LengthBack → (b ≡ i) ⊎ HappensBefore rs b i
    → seen_at rs b ≤ seen_at rs i
seen_most rs i b rise (inl same) = let is = ap (seen_at rs) same in omega (arith, is)
seen_most rs i b rise (inr before) =
    let low = known_least rs b in let high = before_known rs b i rise before in omega (arith, low, high)

awaited_below : (rs : List Record) (i b c : ℕ) (bounds : List ℕ) → AreClosedAt rs i bounds
    → (b ≡ i) ⊎ IsBelow rs bounds b → Awaits rs b c → IsBelow rs bounds c
awaited_below rs i b c bounds are (inl same) awaits =
    let P : ℕ → Type 0 = λ k. Awaits rs k c in are.here c (subst P same awaits)
awaited_below rs i b c bounds are (inr is) awaits = are.below b c is awaits

thread_below : (rs : List Record) (i a b : ℕ) (bounds : List ℕ) → AreClosedAt rs i bounds
    → (b ≡ i) ⊎ IsBelow rs bounds b → a < b → thread_at rs a ≡ thread_at rs b → IsBelow rs bounds a
thread_below rs i a b bounds are (inl is) less same =
    are.own a (omega (arith, less, is)) (same ∙ ap (thread_at rs) is)
thread_below rs i a b bounds are (inr is) less same = below_too rs bounds a b (omega (arith, less)) same is

maker_below : (rs : List Record) (i a b : ℕ) (bounds : List ℕ) → IsFreeOf rs LengthBack
    → AreClosedAt rs i bounds → (b ≡ i) ⊎ IsBelow rs bounds b → IsFinishing rs a → seen_at rs a < seen_at rs b
    → IsBelow rs bounds a
maker_below rs i a b bounds rise are there finishes less =
    let most = seen_most rs i b rise (elim there [
      | inl same ↦ inl same
      | inr is ↦ inr (are.before b is)
    ]) in
    are.makers a (finishes, omega (arith, less, most))

step_below : (rs : List Record) (i a b : ℕ) (bounds : List ℕ) → EachAwaitsOne rs → IsFreeOf rs LengthBack
    → AreClosedAt rs i bounds → (b ≡ i) ⊎ IsBelow rs bounds b → IsStep rs a b → IsBelow rs bounds a
step_below rs i a b bounds facts rise are there (program taken) = elim (program_awaits rs a b facts taken) [
  | inl earlier ↦ thread_below rs i a b bounds are there earlier.earlier earlier.same
  | inr awaits ↦ awaited_below rs i b a bounds are there awaits
]
step_below rs i a b bounds facts rise are there (ledger finishes less) =
    maker_below rs i a b bounds rise are there finishes less

all_below : (rs : List Record) (i a b : ℕ) (bounds : List ℕ) → EachAwaitsOne rs → IsFreeOf rs LengthBack
    → AreClosedAt rs i bounds → (b ≡ i) ⊎ IsBelow rs bounds b → HappensBefore rs a b → IsBelow rs bounds a
all_below rs i a b bounds facts rise are there (step taken) =
    step_below rs i a b bounds facts rise are there taken
all_below rs i a b bounds facts rise are there (chain {b = mid} first second) =
    all_below rs i a mid bounds facts rise are (inr (all_below rs i mid b bounds facts rise are there second))
    first

-- so just what happens before i is below
closed_bounds : (rs : List Record) (i : ℕ) (bounds : List ℕ) → EachAwaitsOne rs → IsFreeOf rs LengthBack
    → HaveAllThreads rs bounds → AreClosedAt rs i bounds → AreBounds rs i bounds
closed_bounds rs i bounds facts rise all are = record {
  all = all;
  each = λ a thread on. (
    λ less. are.before a (record { thread = thread; is_on = on; below = less }),
    λ before.
        let is = all_below rs i a i bounds facts rise are (inl refl) before in
        let same : is.thread ≡ thread = same_Some is.thread thread (sym is.is_on ∙ on) in
        let P : ℕ → Type 0 = λ t. a < slice_index bounds t in
        subst P same is.below,
  );
}

-- ---- the steps together

-- what a record awaits happens before it, and so do the makers of the entries that it sees
here_before : (rs : List Record) (i : ℕ) (own makers here : List ℕ) → i < length rs → EachAwaitsOne rs
    → AreEarlierInThread rs i own → AreRaisedTo rs (MakesBelow rs (seen_at rs i)) own makers
    → AreRaisedTo rs (Awaits rs i) makers here → AreAllBefore rs i here
here_before rs i own makers here within facts earlier to_makers to_awaited =
    before_raised rs (Awaits rs i) i makers here (λ c waits. awaits_before rs i c facts waits) to_awaited
    (before_raised rs (MakesBelow rs (seen_at rs i)) i own makers
    (λ c (finishes, low). step (ledger finishes low)) to_makers
    (λ a is. let (less, same) = earlier.only a is in step (program (thread_order less within same))))

-- bounds of the thread, raised to the makers of what is seen and to what is awaited, and then to
-- what those below await
pub found_bounds : (ordered : OrderedView) (i : ℕ) (own makers here all : List ℕ) → IsOrdered ordered
    → i < length ordered.ledger.run.records → HaveAllThreads ordered.ledger.run.records all
    → AreEarlierInThread ordered.ledger.run.records i own
    → AreRaisedTo ordered.ledger.run.records
    (MakesBelow ordered.ledger.run.records (seen_at ordered.ledger.run.records i)) own makers
    → AreRaisedTo ordered.ledger.run.records (Awaits ordered.ledger.run.records i) makers here
    → ((a : ℕ) → IsBelow ordered.ledger.run.records here a → IsBelow ordered.ledger.run.records all a)
    → ((b c : ℕ) → IsBelow ordered.ledger.run.records all b → Awaits ordered.ledger.run.records b c
    → IsBelow ordered.ledger.run.records all c)
    → ((j : ℕ) → AreAllBefore ordered.ledger.run.records j here
    → AreAllBefore ordered.ledger.run.records j all)
    → AreBounds ordered.ledger.run.records i all
found_bounds ordered i own makers here all is within threads earlier to_makers to_awaited kept closed before =
    let rs = ordered.ledger.run.records in
    let facts : EachAwaitsOne rs = is.ledger.suspended.facts in
    let rise : IsFreeOf rs LengthBack = is.well_formed LengthBack (15, omega arith, refl) in
    closed_bounds rs i all facts rise threads (record {
      before = before i (here_before rs i own makers here within facts earlier to_makers to_awaited);
      own = λ a less same. kept a (to_awaited.kept a (to_makers.kept a (earlier.earlier a less same)));
      makers = λ c makes. kept c (to_awaited.kept c (to_makers.raised c makes));
      here = λ c waits. kept c (to_awaited.raised c waits);
      below = closed;
    })
