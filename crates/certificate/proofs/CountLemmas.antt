-- Counters of 64 bits, counted up.
use Rattle.std.proofs.Common.{◌≡◌, ◌≢◌, ◌==◌, false, Ok, Err, Result, ℕ, zero, suc, ◌+◌, ◌-◌, ◌<◌, ◌≤◌, arith}
use Rattle.std.proofs.Common.{refl, ap, ◌∙◌, Option, Some, None}
use Rattle.lines.specs.declared.cause.ReadCause.{ReadCause}
use Rattle.lines.specs.declared.cause.ReadCause.TheVariants.{TurnsSpent}
use Rattle.certificate.specs.declared.faults.WriteFault.{WriteFault}
use Rattle.certificate.specs.declared.faults.WriteFault.TheVariants as write
use Rattle.std.proofs.lemmas.Bool.{lt-ltb}
use Rattle.certificate.specs.Limits.{max_turns}
use Rattle.certificate.specs.Counts.{next_count, count_more, stalls_after, TakesTurns, TakesStalls}

pub count_more-none : (count n : ℕ) → count ≡ count_more count (n - n)
unfolding count_more
count_more-none count n = let none : n - n ≡ 0 = omega arith in rw none refl

pub count_more-next : (count from to : ℕ) → from ≤ to
    → next_count (count_more count (to - from)) ≡ count_more count (to + 1 - from)
unfolding count_more
count_more-next count from to le = let one : to + 1 - from ≡ suc (to - from) = omega arith in rw one refl

count_more-both : (count n m : ℕ) → count_more (count_more count n) m ≡ count_more count (m + n)
unfolding count_more
count_more-both count n zero = ap (count_more count) (let same : n ≡ 0 + n = omega arith in same)
count_more-both count n (suc m) =
    ap next_count (count_more-both count n m)
    ∙ ap (count_more count) (let same : suc (m + n) ≡ suc m + n = omega arith in same)

pub count_more-more : (count from mid to : ℕ) → from ≤ mid → mid ≤ to
    → count_more (count_more count (mid - from)) (to - mid) ≡ count_more count (to - from)
count_more-more count from mid to low high =
    count_more-both count (mid - from) (to - mid)
    ∙ ap (count_more count) (let same : (to - mid) + (mid - from) ≡ to - from = omega arith in same)

-- turns after turns
pub TakesTurns-more : (told : Option ReadCause) (t t' t'' a a' a'' : ℕ) → TakesTurns None t t' a a'
    → TakesTurns told t' t'' a' a'' → TakesTurns told t t'' a a''
TakesTurns-more told t t' t'' a a' a'' first more = record {
  later = omega (arith, first.later, more.later);
  within = more.within;
  counted =
      more.counted ∙ ap (λ c. count_more c (t'' - t')) first.counted
      ∙ count_more-more a t t' t'' first.later more.later;
  spent = more.spent;
}

pub TakesTurns-none : (t a : ℕ) → t ≤ max_turns → TakesTurns None t t a a
TakesTurns-none t a few = record {
  later = omega arith;
  within = omega arith;
  counted = count_more-none a t;
  spent = ((λ none. absurd (let h : None ≡ Some TurnsSpent = none in cc)), (λ spent. absurd (omega arith)));
}

-- another end than by the last turn
pub TakesTurns-other : (told : Option ReadCause) (t t' a a' : ℕ) → (told ≡ Some TurnsSpent → ⊥)
    → TakesTurns None t t' a a' → TakesTurns told t t' a a'
TakesTurns-other told t t' a a' other taken = record {
  later = taken.later;
  within = taken.within;
  counted = taken.counted;
  spent = (
    (λ spent. absurd (other spent)),
    (λ last. absurd (let h : None ≡ Some TurnsSpent = taken.spent.1 last in cc)),
  );
}

pub TakesTurns-left : (t t' a a' : ℕ) → TakesTurns None t t' a a' → t' ≤ max_turns
TakesTurns-left t t' a a' taken =
    let left : t' ≡ max_turns + 1 → ⊥ = λ last. (let h : None ≡ Some TurnsSpent = taken.spent.1 last in cc) in
    omega (arith, taken.within)

pub count_more-zero : (count : ℕ) → count ≡ count_more count 0
unfolding count_more
count_more-zero count = refl

pub count_more-step : (count n : ℕ) → next_count (count_more count n) ≡ count_more count (n + 1)
unfolding count_more
count_more-step count n = let one : n + 1 ≡ suc n = omega arith in rw one refl

-- a sink's counter, after it took some bytes or none
pub stalls-none : (count before stalls stalls' offered taken : ℕ) → 0 < offered
    → stalls ≡ count_more count before → stalls' ≡ stalls_after offered (Ok taken) stalls → taken ≡ 0
    → stalls' ≡ count_more count (before + 1)
stalls-none count before stalls stalls' offered taken some was is none =
    (rw (none, lt-ltb 0 offered some) at is) ∙ ap next_count was ∙ count_more-step count before

pub stalls-some : (count before stalls stalls' offered taken : ℕ) → stalls ≡ count_more count before
    → stalls' ≡ stalls_after offered (Ok taken) stalls → taken ≢ 0 → stalls' ≡ count_more count before
stalls-some count before stalls stalls' offered taken was is some =
    let other : (taken == 0) ≡ false = grind arith in
    (rw other at is) ∙ was

-- a call that ends before the last turn
pub TakesStalls-ok : (turns start stalls : ℕ) → turns ≤ max_turns → stalls ≡ count_more start turns
    → TakesStalls (Ok tt) turns start stalls
TakesStalls-ok turns start stalls few is = record {
  within = omega arith;
  counted = is;
  spent = (
    (λ spent.
        absurd
        (let h : ◌≡◌ {A = Result (Unit {0}) WriteFault} (Ok tt) (Err write.TurnsSpent) = spent in
        cc)),
    (λ last. absurd (omega arith)),
  );
}

pub TakesStalls-memory : (turns start stalls : ℕ) → turns ≤ max_turns → stalls ≡ count_more start turns
    → TakesStalls (Err write.Memory) turns start stalls
TakesStalls-memory turns start stalls few is = record {
  within = omega arith;
  counted = is;
  spent = (
    (λ spent.
        absurd
        (let h : ◌≡◌ {A = Result (Unit {0}) WriteFault} (Err write.Memory) (Err write.TurnsSpent) =
        spent in
        cc)),
    (λ last. absurd (omega arith)),
  );
}
