-- Records in an order that has each of their places once: the same records, which are a trace too.
use Rattle.std.proofs.Common.{◌≡◌, ◌≢◌, ◌∙◌, ◌+◌, ◌<◌, ◌++◌, ℕ, suc, false, List, [], ◌∷◌}
use Rattle.std.proofs.Common.{Some, length, take, set, map, get_or, cond, eqb, inl, inr}
use Rattle.std.proofs.Common.{refl, sym, ap, subst, arith}
use Rattle.std.specs.Prelude.{AllPairs, Contains, IsPermutation, is_some, slice_get}
use Rattle.std.proofs.lemmas.Bool.{cases_eq, cases_lt, eq-eqb, ne_eqb}
use Rattle.std.proofs.lemmas.Bool.Decides.{Decides-eqb}
use Rattle.std.proofs.lemmas.List.{take_more, length-take-le, length-set, get_or-take, get_or-set_other}
use Rattle.std.proofs.lemmas.List.Elements.{filter_map-append, Contains-append_left, Contains-push}
use Rattle.std.proofs.lemmas.List.FromFn.{fill_by_all, length-range_with_len, get_or-range_with_len}
use Rattle.std.proofs.lemmas.List.Sorted.{All-permutation, Contains-permutation, IsPermutation-map}
use Rattle.std.proofs.lemmas.List.Sorted.{IsPermutation-sym, length_permutation, sum_by-IsPermutation}
use Rattle.std.proofs.lemmas.Map.Keys.{IsDistinct-IsPermutation}
use Rattle.std.proofs.lemmas.Map.Made.{AllPairs-from_IsDistinct, IsDistinct-from_AllPairs}
use Rattle.std.proofs.lemmas.Option.{get_or_from_slice_get, slice_get-get_or, slice_get_past}
use Rattle.std.proofs.lemmas.Option.{slice_get_within}
use Rattle.ompt_events.specs.declared.records.Record.{Record}
use Rattle.ompt_events.specs.declared.records.Body.TheVariants.{ThreadEnd}
use Rattle.ompt_events.specs.Places.{places}
use Rattle.ompt_events.specs.Records.{made}
use Rattle.ompt_events.specs.Traces.{HasItsTurns, IsInRange, IsSound, IsTraceOf, NestsIn}
use Rattle.ompt_events.specs.Traces.{TraceView}
use Rattle.ompt_events.proofs.ListLemmas.{contains_first, contains_get, get_contains}
use Rattle.ompt_events.proofs.PlaceLemmas.{place_below}
use Rattle.checker.specs.declared.verdict.Verdict.{Verdict}
use Rattle.checker.specs.declared.verdict.Verdict.TheVariants.{Yes, No, Malformed}
use Rattle.taskaudit.specs.declared.work.Outcome.TheVariants as outcome
use Rattle.taskaudit.specs.declared.work.Printed.TheVariants.{Order}
use Rattle.taskaudit.specs.Audits.{Prints, WritesRecords}
use Rattle.taskaudit.specs.Orders.{records_at}
use Rattle.taskaudit.specs.Reports.{outcome_of}

-- ---- the same records

-- a record that stands where none is read
empty : Record
empty = record { thread = 0; nests = false; seq = 0; seen = 0; body = ThreadEnd }

-- the places of an order of all records are theirs
all_within : (rs : List Record) (order : List ℕ) → IsPermutation (places rs) order → (i : ℕ)
    → Contains order i → i < length rs
all_within rs order once i stands =
    place_below rs i
    (Contains-permutation order (places rs) i (IsPermutation-sym (places rs) order once) stands)

-- so is the one that stands at n
pub within : (rs : List Record) (order : List ℕ) (n place : ℕ) → IsPermutation (places rs) order
    → slice_get order n ≡ Some place → place < length rs
within rs order n place once stands = all_within rs order once place (get_contains order place n stands)

-- at such places each record is read
all_read : (rs : List Record) (order : List ℕ) → ((i : ℕ) → Contains order i → i < length rs)
    → records_at rs order ≡ map (λ i. get_or rs i empty) order
all_read rs [] below = refl
all_read rs (i ∷ order) below =
    let here : slice_get rs i ≡ Some (get_or rs i empty) =
    slice_get-get_or rs i empty (below i (contains_first i order)) in
    let rest = all_read rs order (λ k stands. below k (behind i order k stands)) in
    rw here (ap (λ (l : List Record). get_or rs i empty ∷ l) rest)
  where
    behind : (x : ℕ) (xs : List ℕ) (y : ℕ) → Contains xs y → Contains (x ∷ xs) y
    behind x xs y (k, low, is) = (suc k, omega (arith, low), is)

-- an order of all records has the same ones
pub same_records : (rs : List Record) (order : List ℕ) → IsPermutation (places rs) order
    → IsPermutation rs (records_at rs order)
same_records rs order once =
    let read : ℕ → Record = λ i. get_or rs i empty in
    let filled : rs ≡ map read (places rs) = fill_by_all read rs (length rs) empty refl (λ k low. refl) in
    let moved = IsPermutation-map read (places rs) order once in
    subst (λ (l : List Record). IsPermutation rs l) (sym (all_read rs order (all_within rs order once)))
    (subst (λ (l : List Record). IsPermutation l (map read order)) (sym filled) moved)

-- ---- a trace

-- a trace in another order is one
pub same_trace : (version : ℕ) (rs ss : List Record) → IsPermutation rs ss → IsTraceOf version rs
    → IsTraceOf version ss
same_trace version rs ss same trace = record {
  known = trace.known;
  is_trace = record {
    few_records = let long = length_permutation rs ss same in omega (arith, long, trace.is_trace.few_records);
    few_tasks =
        let many = sum_by-IsPermutation (λ (r : Record). cond (is_some (made r.body)) 1 0) rs ss same in
        omega (arith, many, trace.is_trace.few_tasks);
    sound = All-permutation (λ r. IsSound r.body) rs ss same trace.is_trace.sound;
    in_range = All-permutation IsInRange rs ss same trace.is_trace.in_range;
  };
  turns = All-permutation (λ r. HasItsTurns version r.body) rs ss same trace.turns;
  nesting = All-permutation (NestsIn version) rs ss same trace.nesting;
}

-- ---- each place once

places_apart : (rs : List Record) → AllPairs (λ x y. x ≢ y) (places rs)
places_apart rs i j d low below same =
    let len = length-range_with_len 0 (length rs) in
    let there : 0 + i ≡ 0 + j =
    sym (get_or-range_with_len 0 (length rs) i d (omega (arith, low, below, len))) ∙ same
    ∙ get_or-range_with_len 0 (length rs) j d (omega (arith, below, len)) in
    absurd (omega (arith, there, low))

eqb_flips : (x y : ℕ) → eqb x y ≡ eqb y x
eqb_flips x y = elim (cases_eq x y) [
  | inl same ↦ eq-eqb x y same ∙ sym (eq-eqb y x (sym same))
  | inr apart ↦ ne_eqb x y apart ∙ sym (ne_eqb y x (λ same. apart (sym same)))
]

-- no two places of an order of all records are the same
order_apart : (rs : List Record) (order : List ℕ) → IsPermutation (places rs) order
    → AllPairs (λ x y. x ≢ y) order
order_apart rs order once =
    AllPairs-from_IsDistinct Decides-eqb order
    (IsDistinct-IsPermutation eqb eqb_flips (places rs) order once
    (IsDistinct-from_AllPairs Decides-eqb (places rs) (places_apart rs)))

-- so the place at n is none of those before it
not_yet : (order : List ℕ) (n place : ℕ) → AllPairs (λ x y. x ≢ y) order → slice_get order n ≡ Some place
    → Contains (take n order) place → ⊥
not_yet order n place apart stands has =
    let (k, earlier) = contains_get (take n order) place has in
    let below = slice_get_within order n place stands in
    let low = slice_get_within (take n order) k place earlier in
    let less : k < n =
    let long = length-take-le n order (omega (arith, below)) in omega (arith, low, long) in
    apart k n 0 less below
    (sym (get_or-take n order k 0 less) ∙ get_or_from_slice_get (take n order) k place 0 earlier
    ∙ sym (get_or_from_slice_get order n place 0 stands))

-- ---- while the records are moved

-- the first of them stand in the order, and the others are where they were
pub record AreMoved (n : ℕ) (order : List ℕ) (all left ordered : List Record) : Type 0 where
  pub moved : ordered ≡ records_at all (take n order)
  pub long : length left ≡ length all
  pub there : (i : ℕ) → (Contains (take n order) i → ⊥) → slice_get left i ≡ slice_get all i

-- what is written at one place changes no other
other_place : (rs : List Record) (k i : ℕ) (r : Record) → i ≢ k → slice_get (set rs k r) i ≡ slice_get rs i
other_place rs k i r apart =
    let long = length-set rs k r in
    elim (cases_lt i (length rs)) [
      | inl low ↦
          slice_get-get_or (set rs k r) i empty (omega (arith, low, long))
          ∙ ap (λ (q : Record). Some q) (get_or-set_other rs k i r empty apart)
          ∙ sym (slice_get-get_or rs i empty low)
      | inr high ↦
          slice_get_past (set rs k r) i (omega (arith, high, long)) ∙ sym (slice_get_past rs i high)
    ]

-- one record more
pub moved_more : (n place : ℕ) (order : List ℕ) (all left ordered : List Record) (r leaves : Record)
    → IsPermutation (places all) order → slice_get order n ≡ Some place → AreMoved n order all left ordered
    → slice_get left place ≡ Some r
    → AreMoved (n + 1) order all (set left place leaves) (ordered ++ r ∷ [])
moved_more n place order all left ordered r leaves once stands are read =
    let longer : take n order ++ place ∷ [] ≡ take (n + 1) order =
    ap (λ (p : ℕ). take n order ++ p ∷ []) (sym (get_or_from_slice_get order n place 0 stands))
    ∙ sym (take_more order n 0 (slice_get_within order n place stands)) in
    let fresh = not_yet order n place (order_apart all order once) stands in
    let here : slice_get all place ≡ Some r = sym (are.there place fresh) ∙ read in
    record {
      moved =
          ap (λ (l : List Record). l ++ r ∷ []) are.moved
          ∙ ap (λ (l : List Record). records_at all (take n order) ++ l) (sym (alone all place r here))
          ∙ sym (filter_map-append (slice_get all) (take n order) (place ∷ []))
          ∙ ap (records_at all) longer;
      long = length-set left place leaves ∙ are.long;
      there = λ i missing.
          let P : List ℕ → Type 0 = λ l. Contains l i in
          let Q : ℕ → Type 0 = λ k. Contains (take n order ++ place ∷ []) k in
          let apart : i ≢ place =
          λ same. missing (subst P longer (subst Q (sym same) (Contains-push (take n order) place))) in
          other_place left place i leaves apart
          ∙ are.there i
          (λ has. missing (subst P longer (Contains-append_left (take n order) (place ∷ []) i has)));
    }
  where
    alone : (rs : List Record) (i : ℕ) (q : Record) → slice_get rs i ≡ Some q
        → records_at rs (i ∷ []) ≡ q ∷ []
    alone rs i q is = rw is refl

-- ---- what is written

-- of a verdict that is no yes what an order prints
pub other_shown : (trace : TraceView) (verdict : Verdict) (text : List ℕ)
    → ((order : List ℕ) → verdict ≡ Yes order → ⊥)
    → (outcome_of verdict ≢ outcome.Yes → Prints Order trace verdict text) → WritesRecords trace verdict text
other_shown trace (Yes order) text other shown = absurd (other order refl)
other_shown trace (No i why) text other shown = shown (λ same. absurd (cc))
other_shown trace (Malformed i cause) text other shown = shown (λ same. absurd (cc))
