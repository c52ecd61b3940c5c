-- The numbers that stand for indices.
use Rattle.std.specs.Prelude.{ℕ, ◌≡◌, ◌==◌, Bool, Option, Some, None, if◌then◌else◌}
use Rattle.std.proofs.Common.{◌∙◌, ap, sym, inl, inr}
use Rattle.std.proofs.lemmas.Bool.{cases_eq, eq-eqb, ne_eqb}

-- the greatest number of 32 bits stands for no index
abbrev pub index_of_code : ℕ → Option ℕ
index_of_code code = if code == 4294967295 then None else Some code

abbrev pub code_of_index : Option ℕ → ℕ
code_of_index None = 4294967295
code_of_index (Some index) = index

-- each number is the code of what it stands for
pub code_again : {X : Type 0} (make : ℕ → X) (code : ℕ)
    → make (code_of_index (index_of_code code)) ≡ make code
code_again make code = elim (cases_eq code 4294967295) [
  | inl same ↦
      ap (λ (b : Bool). make (code_of_index (if b then None else Some code))) (eq-eqb code 4294967295 same)
      ∙ ap make (sym same)
  | inr apart ↦
      ap (λ (b : Bool). make (code_of_index (if b then None else Some code))) (ne_eqb code 4294967295 apart)
]
