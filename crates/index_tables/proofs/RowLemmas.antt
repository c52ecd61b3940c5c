-- Where the rows begin, and what stands in them.
use Rattle.std.proofs.Common.{◌≡◌, ◌∙◌, ℕ, ◌<◌, ◌≤◌, ◌+◌, ◌-◌, zero, suc, List, [], ◌∷◌, ◌++◌, length, Some}
use Rattle.std.proofs.Common.{sym, ap, subst, arith, inl, inr, get_or, take, drop}
use Rattle.std.proofs.lemmas.Bool.{cases_lt}
use Rattle.std.proofs.lemmas.Option.{same_Some, slice_get-get_or}
use Rattle.std.proofs.lemmas.List.{ext_get_or, get_or-take, get_or-drop, length-take-le, length-drop}
use Rattle.std.proofs.lemmas.List.{get_or_append_left, get_or_push}
use Rattle.std.specs.Prelude.{slice_get, slice_index, slice_range}
use Rattle.index_tables.specs.Rows.{AreRising, AreWithin, AreOffsets}

-- what is read of a list of numbers with one more
pub read_pushed : (xs : List ℕ) (y i : ℕ) → i < length xs → slice_index (xs ++ y ∷ []) i ≡ slice_index xs i
read_pushed xs y i below = get_or_append_left xs (y ∷ []) 0 i below

pub read_last : (xs : List ℕ) (y i : ℕ) → i ≡ length xs → slice_index (xs ++ y ∷ []) i ≡ y
read_last xs y i is = get_or_push xs y 0 i (sym is)

pub offsets_rise : (counts offsets : List ℕ) → AreOffsets counts offsets → AreRising offsets
offsets_rise counts offsets are index below =
    let next = are.next index (omega (arith, below, are.all)) in omega (arith, next)

-- a later row begins where an earlier one ends, or behind
rows_rise : (offsets : List ℕ) (low more : ℕ) → AreRising offsets → low + more < length offsets
    → slice_index offsets low ≤ slice_index offsets (low + more)
rows_rise offsets low zero rise within =
    let P : ℕ → Type 0 = λ k. slice_index offsets low ≤ slice_index offsets k in
    let same : low ≡ low + 0 = omega arith in
    let here : slice_index offsets low ≤ slice_index offsets low = omega arith in
    subst P same here
rows_rise offsets low (suc more) rise within =
    let P : ℕ → Type 0 = λ k. slice_index offsets low ≤ slice_index offsets k in
    let before = rows_rise offsets low more rise (omega (arith, within)) in
    let next = rise (low + more) (omega (arith, within)) in
    let here : slice_index offsets low ≤ slice_index offsets (low + more + 1) = omega (arith, next, before) in
    let same : low + more + 1 ≡ low + suc more = omega arith in
    subst P same here

rows_order : (offsets : List ℕ) (low high : ℕ) → AreRising offsets → low ≤ high → high < length offsets
    → slice_index offsets low ≤ slice_index offsets high
rows_order offsets low high rise below within =
    let P : ℕ → Type 0 = λ k. slice_index offsets low ≤ slice_index offsets k in
    let same : low + (high - low) ≡ high = omega (arith, below) in
    subst P same (rows_rise offsets low (high - low) rise (omega (arith, below, within)))

-- so each lies within an array as long as the last one ends
rows_within : (offsets ids : List ℕ) (last : ℕ) → AreRising offsets → length offsets ≡ last + 1
    → length ids ≡ slice_index offsets last → (index : ℕ) → index < length offsets
    → slice_index offsets index ≤ length ids
rows_within offsets ids last rise long all index below =
    let order = rows_order offsets index last rise (omega (arith, below, long)) (omega (arith, long)) in
    omega (arith, order, all)

pub offsets_within : (counts offsets ids : List ℕ) → AreOffsets counts offsets
    → length ids ≡ slice_index offsets (length counts) → AreWithin offsets ids
offsets_within counts offsets ids are all = record {
  rising = offsets_rise counts offsets are;
  within = rows_within offsets ids (length counts) (offsets_rise counts offsets are) are.all all;
}

pub within_same : (offsets old new : List ℕ) → AreWithin offsets old → length new ≡ length old
    → AreWithin offsets new
within_same offsets old new are same = record {
  rising = are.rising;
  within = λ index below. let inside = are.within index below in omega (arith, inside, same);
}

-- no place belongs to two rows
pub same_row : (offsets : List ℕ) (one other a b : ℕ) → AreRising offsets → one + 1 < length offsets
    → other + 1 < length offsets → slice_index offsets one + a < slice_index offsets (one + 1)
    → slice_index offsets other + b < slice_index offsets (other + 1)
    → slice_index offsets one + a ≡ slice_index offsets other + b → one ≡ other
same_row offsets one other a b rise low high first second same = elim (cases_lt one other) [
  | inl below ↦
      absurd
      (let order = rows_order offsets (one + 1) other rise (omega (arith, below)) (omega (arith, high)) in
      omega (arith, order, first, same))
  | inr above ↦ elim (cases_lt other one) [
    | inl below ↦
        absurd
        (let order =
        rows_order offsets (other + 1) one rise (omega (arith, below)) (omega (arith, low)) in
        omega (arith, order, second, same))
    | inr not_above ↦ omega (arith, above, not_above)
  ]
]

-- a row that is filled is the list
pub row_is : (ids list : List ℕ) (begin end : ℕ) → begin + length list ≡ end → end ≤ length ids
    → ((number child : ℕ) → slice_get list number ≡ Some child → slice_get ids (begin + number) ≡ Some child)
    → slice_range ids begin end ≡ list
row_is ids list begin end ends low each =
    ap (λ k. take k (drop begin ids)) (omega (arith, ends))
    ∙ ext_get_or 0 (take (length list) (drop begin ids)) list long entry
  where
    long : length (take (length list) (drop begin ids)) ≡ length list
    long =
        length-take-le (length list) (drop begin ids)
        (let rest = length-drop begin ids in omega (arith, rest, low, ends))

    entry : (k : ℕ) → k < length (take (length list) (drop begin ids))
        → get_or (take (length list) (drop begin ids)) k 0 ≡ get_or list k 0
    entry k below =
        let inside : k < length list = omega (arith, below, long) in
        let there = each k (get_or list k 0) (slice_get-get_or list k 0 inside) in
        get_or-take (length list) (drop begin ids) k 0 inside ∙ get_or-drop begin ids k 0
        ∙ same_Some _ _
        (sym (slice_get-get_or ids (begin + k) 0 (omega (arith, inside, low, ends))) ∙ there)
