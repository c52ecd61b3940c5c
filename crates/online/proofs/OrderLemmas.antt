-- When file order is an order.
use Rattle.std.proofs.Common.{zero-add, ◌≡◌, ◌∙◌, ℕ, zero, suc, ◌<◌, ◌≤◌, ◌+◌, ◌-◌, Bool, true, false}
use Rattle.std.proofs.Common.{List, length}
use Rattle.std.proofs.Common.{refl, sym, ap, arith, inl, inr}
use Rattle.std.specs.Prelude.{is_some}
use Rattle.std.proofs.lemmas.Bool.{cases_eq, cases_lt}
use Rattle.std.proofs.lemmas.List.{take_all}
use Rattle.std.proofs.lemmas.List.FromFn.{length-range_with_len, get_or-range_with_len}
use Rattle.ompt_events.specs.declared.records.Record.{Record}
use Rattle.ompt_events.specs.declared.cause.Cause.TheVariants.{EntryTwice, LengthAhead}
use Rattle.ompt_events.specs.Records.{finish}
use Rattle.ompt_events.specs.Places.{at, seen_at, places}
use Rattle.ompt_events.specs.HappensBefore.{IsFinishing, IsStep, thread_order}
use Rattle.ompt_events.specs.HappensBefore.{creation, resumption, discard, fulfilment, program, ledger, step}
use Rattle.ompt_events.specs.Linearization.{IsLinearization, IsGreedy, IsEarlier}
use Rattle.ompt_events.specs.Causes.{IsFreeOf, entry, ledger_length, entries_in, entries_before}
use Rattle.ompt_events.specs.Causes.{entry_twice, length_ahead}
use Rattle.ompt_events.proofs.PlaceLemmas.{seen_within}
use Rattle.ompt_events.proofs.HappensBeforeLemmas.{finishing_within}
use Rattle.ompt_events.proofs.FileOrderLemmas.{entries_same, entries_more, entries_le}
use Rattle.ompt_events.proofs.FileOrderLemmas.{file_linear, file_greedy}
use Rattle.online.specs.Online.{IsInOrder}

-- ---- where each record stands behind what it goes on with

pub steps_forward : (rs : List Record) → IsInOrder rs → (a b : ℕ) → IsStep rs a b → a < b
steps_forward rs ordered a b (program (thread_order earlier within same)) = earlier
steps_forward rs ordered a b (program (creation task creates starts)) = ordered.starts a b task creates starts
steps_forward rs ordered a b (program (resumption again)) = ordered.resumes a b again
steps_forward rs ordered a b (program (discard task creates gone)) = ordered.discards a b task creates gone
steps_forward rs ordered a b (program (fulfilment task creates done)) = ordered.fulfils a b task creates done
steps_forward rs ordered a b (ledger makes less) = elim (cases_lt a b) [
  | inl is ↦ is
  | inr past ↦
      let own = ordered.enters a makes in
      let named = ordered.names b (seen_within rs b (seen_at rs a) less) in
      let most = entries_le rs b a past in
      absurd (omega (arith, own, named, most, less))
]

pub order_linear : (rs : List Record) → IsInOrder rs → IsLinearization rs (places rs)
order_linear rs ordered = file_linear rs (steps_forward rs ordered)

pub order_greedy : (rs : List Record) → IsInOrder rs → IsGreedy rs (places rs)
order_greedy rs ordered = file_greedy rs (steps_forward rs ordered)

-- ---- where file order is an order

-- what is earlier in it has a smaller place
earlier_less : (rs : List Record) (a b : ℕ) → IsEarlier (places rs) a b → a < b
earlier_less rs a b e =
    let len = length-range_with_len 0 (length rs) in
    let apart = e.apart in
    let inside = e.within in
    let first : e.first ≡ a =
    sym (get_or-range_with_len 0 (length rs) e.first 0 (omega (arith, apart, inside, len)) ∙ zero-add e.first)
    ∙ e.a_stands in
    let second : e.second ≡ b =
    sym (get_or-range_with_len 0 (length rs) e.second 0 (omega (arith, inside, len)) ∙ zero-add e.second)
    ∙ e.b_stands in
    omega (arith, first, second, apart)

step_less : (rs : List Record) → IsLinearization rs (places rs) → (a b : ℕ) → IsStep rs a b → a < b
step_less rs linear a b s = earlier_less rs a b (linear.rising a b (step s))

-- of two finishing records the later one names the later entry
entries_rise : (rs : List Record) → IsLinearization rs (places rs) → IsFreeOf rs EntryTwice → (a b : ℕ)
    → IsFinishing rs a → IsFinishing rs b → a < b → seen_at rs a < seen_at rs b
entries_rise rs linear once a b makes more low = elim (cases_lt (seen_at rs a) (seen_at rs b)) [
  | inl less ↦ less
  | inr most ↦ elim (cases_eq (seen_at rs a) (seen_at rs b)) [
    | inl same ↦ absurd (once b (entry_twice (a, low, makes, more, same)))
    | inr apart ↦
        let back = step_less rs linear b a (ledger more (omega (arith, most, apart))) in
        absurd (omega (arith, back, low))
  ]
]

-- so it is no smaller than the number of those before
entry_low : (rs : List Record) → IsLinearization rs (places rs) → IsFreeOf rs EntryTwice → (n i : ℕ) → n ≤ i
    → IsFinishing rs i → entries_before rs n ≤ seen_at rs i
entry_low rs linear once zero i low makes = omega arith
entry_low rs linear once (suc n) i low makes =
    of (is_some (at finish rs n)) refl (λ j below. entry_low rs linear once n j below)
  where
    within : n < length rs
    within = let inside = finishing_within rs i makes in omega (arith, inside, low)

    next : suc n ≡ n + 1
    next = omega arith

    of : (b : Bool) → is_some (at finish rs n) ≡ b
        → ((j : ℕ) → n ≤ j → IsFinishing rs j → entries_before rs n ≤ seen_at rs j)
        → entries_before rs (suc n) ≤ seen_at rs i
    of true is least =
        let more : entries_before rs (suc n) ≡ entries_before rs n + 1 =
        ap (entries_before rs) next ∙ entries_more rs n is in
        let before = least n (omega arith) is in
        let rise = entries_rise rs linear once n i is makes (omega (arith, low)) in
        omega (arith, more, before, rise)
    of false is least =
        let same : entries_before rs (suc n) ≡ entries_before rs n =
        ap (entries_before rs) next ∙ entries_same rs n within is in
        let before = least i (omega (arith, low)) makes in
        omega (arith, same, before)

-- and no greater
entry_high : (rs : List Record) → IsLinearization rs (places rs) → IsFreeOf rs EntryTwice
    → IsFreeOf rs LengthAhead → (left n : ℕ) → n + left ≡ length rs → (i : ℕ) → i < n → IsFinishing rs i
    → seen_at rs i < entries_before rs n
entry_high rs linear once reached zero n all i low makes =
    let whole : entries_before rs n ≡ entries_in rs = ap entries_in (take_all n rs (omega (arith, all))) in
    elim (cases_lt (seen_at rs i) (entries_in rs)) [
      | inl less ↦ omega (arith, less, whole)
      | inr past ↦ absurd (reached i (length_ahead (entry makes past)))
    ]
entry_high rs linear once reached (suc left) n all i low makes =
    of (is_some (at finish rs n)) refl (entry_high rs linear once reached left (n + 1) (omega (arith, all)))
  where
    within : n < length rs
    within = omega (arith, all)

    of : (b : Bool) → is_some (at finish rs n) ≡ b
        → ((j : ℕ) → j < n + 1 → IsFinishing rs j → seen_at rs j < entries_before rs (n + 1))
        → seen_at rs i < entries_before rs n
    of true is most =
        let more = entries_more rs n is in
        let next = most n (omega arith) is in
        let rise = entries_rise rs linear once i n makes is low in
        omega (arith, more, next, rise)
    of false is most =
        let same = entries_same rs n within is in
        let next = most i (omega (arith, low)) makes in
        omega (arith, same, next)

entry_exact : (rs : List Record) → IsLinearization rs (places rs) → IsFreeOf rs EntryTwice
    → IsFreeOf rs LengthAhead → (i : ℕ) → IsFinishing rs i → seen_at rs i ≡ entries_before rs i
entry_exact rs linear once reached i makes =
    let within = finishing_within rs i makes in
    let low = entry_low rs linear once i i (omega arith) makes in
    let high =
    entry_high rs linear once reached (length rs - (i + 1)) (i + 1) (omega (arith, within)) i (omega arith)
    makes in
    let more = entries_more rs i makes in
    omega (arith, low, high, more)

-- a record that names more entries than are before it names one that is made behind it
names_before : (rs : List Record) → IsLinearization rs (places rs) → IsFreeOf rs EntryTwice
    → IsFreeOf rs LengthAhead → (i : ℕ) → i < length rs → entries_before rs i < seen_at rs i → (left n : ℕ)
    → n + left ≡ length rs → i ≤ n → entries_before rs n ≡ entries_before rs i → ⊥
names_before rs linear once reached i inside most zero n all low same =
    let whole : entries_before rs n ≡ entries_in rs = ap entries_in (take_all n rs (omega (arith, all))) in
    reached i (length_ahead (ledger_length (omega (arith, whole, same, most))))
names_before rs linear once reached i inside most (suc left) n all low same =
    of (is_some (at finish rs n)) refl
    (names_before rs linear once reached i inside most left (n + 1) (omega (arith, all)) (omega (arith, low)))
  where
    within : n < length rs
    within = omega (arith, all)

    of : (b : Bool) → is_some (at finish rs n) ≡ b → (entries_before rs (n + 1) ≡ entries_before rs i → ⊥) → ⊥
    of true is rest =
        let own = entry_exact rs linear once reached n is in
        let back = step_less rs linear n i (ledger is (omega (arith, own, same, most))) in
        omega (arith, back, low)
    of false is rest =
        let none = entries_same rs n within is in rest (omega (arith, none, same))

pub linear_order : (rs : List Record) → IsFreeOf rs EntryTwice → IsFreeOf rs LengthAhead
    → IsLinearization rs (places rs) → IsInOrder rs
linear_order rs once reached linear = record {
  enters = entry_exact rs linear once reached;
  names = λ i inside. elim (cases_lt (entries_before rs i) (seen_at rs i)) [
    | inl most ↦
        absurd (names_before rs linear once reached i inside most (length rs - i) i (omega (arith, inside))
        (omega arith) refl)
    | inr low ↦ low
  ];
  starts = λ a b task creates start. step_less rs linear a b (program (creation task creates start));
  discards = λ a b task creates gone. step_less rs linear a b (program (discard task creates gone));
  fulfils = λ a b task creates done. step_less rs linear a b (program (fulfilment task creates done));
  resumes = λ a b again. step_less rs linear a b (program (resumption again));
}
