-- The heads of the threads are the records that may stand next.
use Rattle.std.proofs.Common.{◌≡◌, ◌∙◌, ℕ, ◌<◌, List, length, Option, Some, None, Bool, true, false, refl}
use Rattle.std.proofs.Common.{sym, ap, arith, inl, inr, ◌⊎◌}
use Rattle.std.proofs.lemmas.Bool.{cases_eq, cases_lt}
use Rattle.std.proofs.lemmas.Option.{none-some, same_Some}
use Rattle.std.specs.Prelude.{slice_get, slice_index}
use Rattle.ompt_events.specs.declared.records.Record.{Record}
use Rattle.ompt_events.specs.Places.{thread_at, seen_at}
use Rattle.ompt_events.specs.HappensBefore.{thread_order, IsStep, program, ledger, HappensBefore, step, chain}
use Rattle.checker.proofs.ScheduleLemmas.{program_awaits, awaits_before}
use Rattle.checker.specs.Schedule.{EachAwaitsOne}
use Rattle.checker.specs.Merge.{IsPlacedPrefix, Stands, MayStandNext, AreHeads, IsLow, IsReadyHead}

pub stands_same : (placed : List Bool) (a b : ℕ) → a ≡ b → Stands placed a → Stands placed b
stands_same placed a b same stands = ap (slice_get placed) (sym same) ∙ stands

-- a record stands or not
pub stands_or_not : (placed : List Bool) (i : ℕ) → Stands placed i ⊎ (Stands placed i → ⊥)
stands_or_not placed i = stands (slice_get placed i)
  where
    stands : (o : Option Bool) → (o ≡ Some true) ⊎ (o ≡ Some true → ⊥)
    stands None = inr (λ e. none-some true e)
    stands (Some true) = inl refl
    stands (Some false) = inr (λ e. let b : false ≡ true = same_Some false true e in cc)

-- the head of a thread that passes the test may stand next
pub head_may_stand : (rs : List Record) → EachAwaitsOne rs
    → (placed : List Bool) (heads : List ℕ) (low : ℕ) (thread head : ℕ) → AreHeads rs placed heads
    → IsLow rs placed low → thread < length heads → slice_index heads thread ≡ head
    → IsReadyHead rs placed low head → MayStandNext rs placed head
head_may_stand rs facts placed heads low thread head are is_low inside is ready = record {
  within = ready.within;
  missing =
      λ standing.
      are.missing thread inside (stands_same placed head (slice_index heads thread) (sym is) standing);
  steps = λ a step. stands_before a step;
}
  where
    runs : thread_at rs head ≡ Some thread
    runs = ap (thread_at rs) (sym is) ∙ are.head thread inside (rw is ready.within)

    stands_before : (a : ℕ) → IsStep rs a head → Stands placed a
    stands_before a (program taken) = elim (program_awaits rs a head facts taken) [
      | inl earlier ↦ are.below thread a (earlier.same ∙ runs) (rw is earlier.earlier)
      | inr awaits ↦ ready.is_let a awaits
    ]
    stands_before a (ledger finishes less) =
        is_low.below a finishes (let bound = ready.is_entered in omega (arith, bound, less))

-- where each step leads from a record that stands, all that happens before stands
all_before : (rs : List Record) (placed : List Bool) (a i : ℕ) → IsPlacedPrefix rs placed
    → ((c : ℕ) → IsStep rs c i → Stands placed c) → HappensBefore rs a i → Stands placed a
all_before rs placed a i closed steps (step s) = steps a s
all_before rs placed a i closed steps (chain {b = mid} first second) =
    closed a mid first (all_before rs placed mid i closed steps second)

-- a record that may stand next passes the test
pub ready_head : (rs : List Record) (placed : List Bool) (low : ℕ) (i : ℕ) → EachAwaitsOne rs
    → IsPlacedPrefix rs placed → IsLow rs placed low → MayStandNext rs placed i → IsReadyHead rs placed low i
ready_head rs placed low i facts closed is_low may = record {
  within = may.within;
  is_let = λ c awaits. all_before rs placed c i closed may.steps (awaits_before rs i c facts awaits);
  is_entered = elim (cases_lt low (seen_at rs i)) [
    | inl less ↦
        let next = is_low.next i less in
        absurd (next.3 (may.steps next.0 (ledger next.1 (let is = next.2 in omega (arith, is, less)))))
    | inr bound ↦ bound
  ];
}

-- and is the head of its thread
pub is_head : (rs : List Record) (placed : List Bool) (heads : List ℕ) (i thread : ℕ)
    → AreHeads rs placed heads → thread_at rs i ≡ Some thread → MayStandNext rs placed i
    → slice_index heads thread ≡ i
is_head rs placed heads i thread are runs may = elim (cases_lt i (slice_index heads thread)) [
  | inl below ↦ absurd (may.missing (are.below thread i runs below))
  | inr above ↦ elim (cases_eq (slice_index heads thread) i) [
    | inl same ↦ same
    | inr apart ↦
        let low = are.all i thread runs in
        let inside : slice_index heads thread < length rs = let w = may.within in omega arith in
        absurd
        (are.missing thread low
        (may.steps (slice_index heads thread)
        (program
        (thread_order (omega arith) may.within (are.head thread low inside ∙ sym runs)))))
  ]
]
