-- Which records may stand next, and what a record more lets stand.
use Rattle.std.proofs.Common.{◌≡◌, ◌≢◌, ◌∙◌, ◌<◌, ◌≤◌, ◌+◌, ℕ, List, [], ◌∷◌, length, Option, Some, None}
use Rattle.std.proofs.Common.{Bool, true, refl, sym, ap, subst, arith, inl, inr, ◌⊎◌, set}
use Rattle.std.proofs.lemmas.Bool.{cases_eq, cases_lt}
use Rattle.std.proofs.lemmas.Option.{none-some}
use Rattle.std.proofs.lemmas.List.{get_or-set_other}
use Rattle.std.proofs.lemmas.List.Sorted.{Contains-permutation, IsPermutation-sym, length_permutation}
use Rattle.std.proofs.lemmas.List.Elements.{Contains-append_right}
use Rattle.std.proofs.lemmas.Map.Made.{Contains-tail}
use Rattle.std.specs.Option.{option_map_or}
use Rattle.std.specs.Prelude.{Contains, IsPermutation, slice_get, slice_index, option_map}
use Rattle.ompt_events.specs.declared.records.Record.{Record}
use Rattle.ompt_events.specs.Places.{thread_at, seen_at}
use Rattle.ompt_events.proofs.ListLemmas.{contains_first}
use Rattle.checker.specs.declared.suspensions.Suspensions.{Suspensions}
use Rattle.checker.specs.Schedule.{Awaits}
use Rattle.checker.specs.Merge.{ArePlaced, Stands, IsUnplaced, MayStandNext, AreHeads, IsFront, IsReadyHead}
use Rattle.checker.specs.Merge.{AreOffered, AreMore, IsPlaceTaken, named_length}
use Rattle.task_tree.specs.Family.{FamilyView}
use Rattle.task_tree.specs.Runs.{RunView}
use Rattle.task_tree.proofs.GapFreeLemmas.{thread_there}
use Rattle.checker.specs.Entries.{MakersView, IsLedger}
use Rattle.checker.proofs.MakerLemmas.{low_reached}
use Rattle.checker.proofs.ScheduleLemmas.{awaits_or_not}
use Rattle.checker.proofs.MergeLemmas.{head_may_stand, ready_head, is_head}
use Rattle.checker.proofs.MergingLemmas.{standing_closed, stands_here, stands_still, stands_cases}

-- ---- the test

pub follows : (rs : List Record) (family : FamilyView) (known : Suspensions) (placed : List Bool)
    (heads : List ℕ) (low thread i : ℕ)
    → IsFront rs family known placed heads low → thread_at rs i ≡ Some thread → slice_index heads thread ≡ i
    → IsReadyHead rs placed low i → MayStandNext rs placed i
follows rs family known placed heads low thread i front runs is ready =
    head_may_stand rs front.suspended.facts placed heads low thread i front.are_heads front.is_low
    (front.are_heads.all i thread runs) is ready

pub passes : (rs : List Record) (family : FamilyView) (known : Suspensions) (placed : List Bool)
    (heads : List ℕ) (low i : ℕ)
    → IsFront rs family known placed heads low → MayStandNext rs placed i → IsReadyHead rs placed low i
passes rs family known placed heads low i front may =
    ready_head rs placed low i front.suspended.facts front.closed front.is_low may

-- ---- the queue

contains_behind : (x y : ℕ) (xs : List ℕ) → Contains xs x → Contains (y ∷ xs) x
contains_behind x y xs c = Contains-append_right (y ∷ []) xs x c

contains_cases : (x y : ℕ) (xs : List ℕ) → Contains (y ∷ xs) x → (x ≡ y) ⊎ Contains xs x
contains_cases x y xs c = elim (cases_eq x y) [
  | inl same ↦ inl same
  | inr apart ↦ inr (Contains-tail y xs x (λ same. apart (sym same)) c)
]

pub more_refl : (rs : List Record) (placed : List Bool) (old : List ℕ) → AreMore rs placed old old
more_refl rs placed old = record {
  kept = λ i c. c;
  only = λ i c. inl c;
}

pub more_then : (rs : List Record) (placed : List Bool) (old mid new : List ℕ) → AreMore rs placed old mid
    → AreMore rs placed mid new → AreMore rs placed old new
more_then rs placed old mid new first second = record {
  kept = λ i c. second.kept i (first.kept i c);
  only = λ i c. elim (second.only i c) [
    | inl before ↦ first.only i before
    | inr may ↦ inr may
  ];
}

pub more_put : (rs : List Record) (placed : List Bool) (place : ℕ) (old new : List ℕ)
    → IsPermutation (place ∷ old) new → MayStandNext rs placed place → AreMore rs placed old new
more_put rs placed place old new moved may = record {
  kept = λ i c. Contains-permutation (place ∷ old) new i moved (contains_behind i place old c);
  only =
      λ i c.
      elim
      (contains_cases i place old
      (Contains-permutation new (place ∷ old) i (IsPermutation-sym (place ∷ old) new moved) c)) [
        | inl same ↦ inr (rw same may)
        | inr before ↦ inl before
      ];
}

pub has_put : (place : ℕ) (old new : List ℕ) → IsPermutation (place ∷ old) new → Contains new place
has_put place old new moved = Contains-permutation (place ∷ old) new place moved (contains_first place old)

pub one_less : (place : ℕ) (old new : List ℕ) → IsPermutation old (place ∷ new) → length new < length old
one_less place old new moved = let same = length_permutation old (place ∷ new) moved in omega (arith, same)

-- a place that stands is taken out
pub ready_less : (rs : List Record) (placed : List Bool) (place : ℕ) (old new : List ℕ)
    → IsPermutation old (place ∷ new) → Stands placed place → AreOffered rs placed old
    → AreOffered rs placed new
ready_less rs placed place old new moved stands ready = record {
  all =
      λ i may.
      elim (contains_cases i place new (Contains-permutation old (place ∷ new) i moved (ready.all i may))) [
        | inl same ↦ absurd (may.missing (rw same stands))
        | inr c ↦ c
      ];
  only =
      λ i c.
      ready.only i
      (Contains-permutation (place ∷ new) old i (IsPermutation-sym old (place ∷ new) moved)
      (contains_behind i place new c));
}

-- one that does not stand is taken out, the least
pub ready_taken : (rs : List Record) (placed : List Bool) (place : ℕ) (old new : List ℕ)
    → IsPermutation old (place ∷ new) → (Stands placed place → ⊥) → ((i : ℕ) → Contains old i → place ≤ i)
    → AreOffered rs placed old → IsPlaceTaken rs placed place new
ready_taken rs placed place old new moved missing least ready = record {
  next =
      elim
      (ready.only place
      (Contains-permutation (place ∷ new) old place (IsPermutation-sym old (place ∷ new) moved)
      (contains_first place new))) [
        | inl stands ↦ absurd (missing stands)
        | inr may ↦ may
      ];
  first = λ i below may. let h = least i (ready.all i may) in absurd (omega (arith, below, h));
  kept =
      λ i apart may.
      elim (contains_cases i place new (Contains-permutation old (place ∷ new) i moved (ready.all i may))) [
        | inl same ↦ absurd (apart same)
        | inr c ↦ c
      ];
  only =
      λ i c.
      ready.only i
      (Contains-permutation (place ∷ new) old i (IsPermutation-sym old (place ∷ new) moved)
      (contains_behind i place new c));
}

-- each record that may stand next is the head of its thread
pub head_of : (rs : List Record) (placed : List Bool) (heads : List ℕ) (i : ℕ) → AreHeads rs placed heads
    → MayStandNext rs placed i → (thread : ℕ) × (thread < length heads) × (slice_index heads thread ≡ i)
head_of rs placed heads i are may =
    let thread = thread_there rs i may.within in
    (thread.0, are.all i thread.0 thread.1, is_head rs placed heads i thread.0 are thread.1 may)

-- ---- one record more

length_named : (rs : List Record) (i : ℕ) → i < length rs → named_length rs i ≡ Some (seen_at rs i)
length_named rs i within = named (slice_get rs i) refl
  where
    named : (o : Option Record) → slice_get rs i ≡ o → named_length rs i ≡ Some (seen_at rs i)
    named None e =
        absurd
        (none-some (thread_there rs i within).0
        (sym (ap (option_map (λ (r : Record). r.thread)) e) ∙ (thread_there rs i within).1))
    named (Some r) e =
        ap (option_map (λ (q : Record). q.seen)) e
        ∙ ap Some (sym (ap (λ (o : Option Record). option_map_or (λ (q : Record). q.seen) o 0) e))

-- one that may stand next once the place does could do so before, or follows it in its thread, or awaits it,
-- or names a ledger length that was not reached
let_stand : (rs : List Record) (family : FamilyView) (known : Suspensions) (placed : List Bool)
    (heads : List ℕ) (low now_low place thread next i : ℕ)
    → IsFront rs family known placed heads low
    → IsFront rs family known (set placed place true) (set heads thread next) now_low
    → thread_at rs place ≡ Some thread → slice_index (set heads thread next) thread ≡ next
    → place < length placed → MayStandNext rs (set placed place true) i
    → (i ≡ next)
    ⊎ ((Awaits rs i place)
    ⊎ (((k : ℕ) × (low < k) × (k ≤ now_low) × (named_length rs i ≡ Some k)) ⊎ MayStandNext rs placed i))
let_stand rs family known placed heads low now_low place thread next i before after runs is_next inside may =
    elim (cases_eq own.0 thread) [
      | inl same ↦ inl (sym head_is ∙ ap (slice_index (set heads thread next)) same ∙ is_next)
      | inr apart ↦ of_another apart
    ]
  where
    own : (t : ℕ) × (thread_at rs i ≡ Some t)
    own = thread_there rs i may.within

    head_is : slice_index (set heads thread next) own.0 ≡ i
    head_is = is_head rs (set placed place true) (set heads thread next) i own.0 after.are_heads own.1 may

    passes_now : IsReadyHead rs (set placed place true) now_low i
    passes_now = passes rs family known (set placed place true) (set heads thread next) now_low i after may

    stood : (Awaits rs i place → ⊥) → (c : ℕ) → Awaits rs i c → Stands placed c
    stood other c awaits = elim (stands_cases placed place c (passes_now.is_let c awaits)) [
      | inl old ↦ old
      | inr same ↦ let P : ℕ → Type 0 = λ d. Awaits rs i d in absurd (other (subst P same awaits))
    ]

    of_another : own.0 ≢ thread
        → (i ≡ next)
        ⊎ ((Awaits rs i place)
        ⊎ (((k : ℕ) × (low < k) × (k ≤ now_low) × (named_length rs i ≡ Some k))
        ⊎ MayStandNext rs placed i))
    of_another apart = elim (awaits_or_not rs family i place before.suspended.facts before.family_of) [
      | inl awaits ↦ inr (inl awaits)
      | inr other ↦ elim (cases_lt low (seen_at rs i)) [
        | inl more ↦ inr (inr (inl (seen_at rs i, more, passes_now.is_entered, length_named rs i may.within)))
        | inr reached ↦
            inr (inr (inr (follows rs family known placed heads low own.0 i before own.1
            (sym (get_or-set_other heads thread own.0 next 0 apart) ∙ head_is) (record {
              within = may.within;
              is_let = stood other;
              is_entered = reached;
            }))))
      ]
    ]

-- all that may stand next are among those that were ready and those that were offered
pub ready_more : (rs : List Record) (family : FamilyView) (known : Suspensions) (placed : List Bool)
    (heads : List ℕ) (low now_low place thread next : ℕ) (rest ready : List ℕ)
    → IsFront rs family known placed heads low
    → IsFront rs family known (set placed place true) (set heads thread next) now_low
    → thread_at rs place ≡ Some thread → slice_index (set heads thread next) thread ≡ next
    → place < length placed → IsPlaceTaken rs placed place rest
    → AreMore rs (set placed place true) rest ready
    → (MayStandNext rs (set placed place true) next → Contains ready next)
    → ((i : ℕ) → Awaits rs i place → MayStandNext rs (set placed place true) i → Contains ready i)
    → ((i k : ℕ) → low + 1 ≤ k → k < now_low + 1 → named_length rs i ≡ Some k
    → MayStandNext rs (set placed place true) i → Contains ready i)
    → AreOffered rs (set placed place true) ready
ready_more rs family known placed heads low now_low place thread next rest ready before after runs is_next
    inside taken more of_thread of_awaited of_length =
    record {
      all =
          λ i may.
          elim
          (let_stand rs family known placed heads low now_low place thread next i before after runs
          is_next inside may) [
            | inl same ↦
                let P : ℕ → Type 0 = λ j. Contains ready j in
                subst P (sym same) (of_thread (rw same at may))
            | inr (inl awaits) ↦ of_awaited i awaits may
            | inr (inr (inl names)) ↦
                of_length i names.0 (let l = names.1 in omega (arith, l))
                (let l = names.2 in omega (arith, l))
                names.3 may
            | inr (inr (inr could)) ↦
                more.kept i
                (taken.kept i (λ same. may.missing (rw same (stands_here placed place inside)))
                could)
          ];
      only = λ i c. elim (more.only i c) [
        | inr may ↦ inr may
        | inl old ↦ still i (taken.only i old)
      ];
    }
  where
    still : (i : ℕ) → Stands placed i ⊎ MayStandNext rs placed i
        → Stands (set placed place true) i ⊎ MayStandNext rs (set placed place true) i
    still i (inl stands) = inl (stands_still placed place i stands)
    still i (inr may) = elim (cases_eq i place) [
      | inl same ↦ inl (rw same (stands_here placed place inside))
      | inr apart ↦ inr (record {
        within = may.within;
        missing = λ stands. elim (stands_cases placed place i stands) [
          | inl old ↦ may.missing old
          | inr same ↦ apart same
        ];
        steps = λ a s. stands_still placed place a (may.steps a s);
      })
    ]

-- where none was ready, just those that may stand next are
pub ready_first : (rs : List Record) (placed : List Bool) (none ready : List ℕ)
    → ((i : ℕ) → Contains none i → ⊥) → AreMore rs placed none ready
    → ((i : ℕ) → MayStandNext rs placed i → Contains ready i) → AreOffered rs placed ready
ready_first rs placed none ready empty more all = record {
  all = all;
  only = λ i c. elim (more.only i c) [
    | inl old ↦ absurd (empty i old)
    | inr may ↦ inr may
  ];
}

-- what is known of a ledger's run while it is put in order
pub front_of : (ledger : MakersView) (run : RunView) (makers : List ℕ) (known : Suspensions)
    (placed : List Bool) (heads links order : List ℕ) (low : ℕ)
    → IsLedger ledger → run ≡ ledger.run → makers ≡ ledger.places → known ≡ ledger.suspensions
    → ArePlaced run.records placed heads links order → low ≤ length makers
    → ((k : ℕ) → k < low → slice_index makers k < length placed → Stands placed (slice_index makers k))
    → (low < length makers → IsUnplaced placed (slice_index makers low))
    → IsFront run.records run.family known placed heads low
front_of ledger run makers known placed heads links order low is same_run same_places same_known standing
    within passed missing =
    record {
      family_of = rw (← same_run) at is.run.family;
      suspended = rw (← same_run, ← same_known) at is.suspended;
      closed = standing_closed run.records placed heads links order standing;
      are_heads = standing.are_heads;
      is_low =
          low_reached run.records placed makers low (rw (← same_run, ← same_places) at is.makers)
          (rw (← same_run, ← same_places) at is.entries) (rw (← same_run) at is.reached) standing.all
          within passed missing;
    }
