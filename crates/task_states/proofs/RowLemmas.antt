-- Rows by index, made only up to the greatest index at which one is written.
use Rattle.std.proofs.Common.{◌≡◌, ◌∙◌, ℕ, ◌<◌, List, [], ◌∷◌, ◌++◌, length, Option, Some, None, refl, sym}
use Rattle.std.proofs.Common.{ap, arith, inl, inr, ◌≢◌}
use Rattle.std.proofs.lemmas.Bool.{cases_eq, cases_lt}
use Rattle.std.proofs.lemmas.List.{length_push}
use Rattle.std.proofs.lemmas.Option.{none-some, slice_get_past, slice_get-get_or}
use Rattle.std.proofs.Math.ListN.{set}
use Rattle.std.specs.Global.{Vec}
use Rattle.std.specs.Prelude.{slice_get}
use Rattle.ompt_events.proofs.ListLemmas.{get_pushed, get_last}
use Rattle.task_tree.proofs.LinkLemmas.{get_set_same, get_set_other}
use Rattle.task_states.specs.Rows.{row_items, row_at}

-- an empty row changes nothing
pub row_pushed : {X : Type 0} (rows : List (Vec X)) (new : Vec X) (index : ℕ) → new.items ≡ []
    → row_at (rows ++ new ∷ []) index ≡ row_at rows index
row_pushed rows new index empty = elim (cases_lt index (length rows)) [
  | inl within ↦
      let there = slice_get-get_or rows index new within in
      ap row_items (get_pushed rows new _ index there ∙ sym there)
  | inr past ↦ elim (cases_eq index (length rows)) [
    | inl last ↦
        ap row_items (get_last rows new index last) ∙ empty
        ∙ sym (ap row_items (slice_get_past rows index past))
    | inr apart ↦
        let long = length_push rows new in
        ap row_items
        (slice_get_past (rows ++ new ∷ []) index (omega (arith, past, apart, long))
        ∙ sym (slice_get_past rows index past))
  ]
]

-- where something stands, there is a row
pub row_there : {X : Type 0} (rows : List (Vec X)) (index k : ℕ) (x : X)
    → slice_get (row_at rows index) k ≡ Some x → (row : Vec X) × (slice_get rows index ≡ Some row)
row_there {X = X} rows index k x = there (slice_get rows index) refl
  where
    there : (o : Option (Vec X)) → slice_get rows index ≡ o → slice_get (row_items o) k ≡ Some x
        → (row : Vec X) × (slice_get rows index ≡ Some row)
    there None is stands = absurd (none-some x stands)
    there (Some row) is stands = (row, is)

pub row_here : {X : Type 0} (rows : List (Vec X)) (index : ℕ) (row : Vec X) → slice_get rows index ≡ Some row
    → row_at rows index ≡ row.items
row_here rows index row is = ap row_items is

-- one row is written
pub row_set_same : {X : Type 0} (rows : List (Vec X)) (index : ℕ) (new : Vec X) → index < length rows
    → row_at (set rows index new) index ≡ new.items
row_set_same rows index new within = ap row_items (get_set_same rows index new within)

pub row_set_other : {X : Type 0} (rows : List (Vec X)) (index other : ℕ) (new : Vec X) → other ≢ index
    → row_at (set rows index new) other ≡ row_at rows other
row_set_other rows index other new apart = ap row_items (get_set_other rows index other new apart)
