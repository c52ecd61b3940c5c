-- The codes of ledger lengths in 32 bits.
use Rattle.std.specs.Prelude.{ℕ, ◌≡◌, ◌==◌, ◌≤◌, Bool, if◌then◌else◌}
use Rattle.std.proofs.Common.{◌∙◌, ap, sym, inl, inr, arith}
use Rattle.std.proofs.lemmas.Bool.{cases_eq, eq-eqb, ne_eqb}

-- the greatest number of 32 bits is the code of 2^32, and each other number that of itself
abbrev pub length_of_code : ℕ → ℕ
length_of_code code = if code == 4294967295 then 4294967296 else code

abbrev pub code_of_length : ℕ → ℕ
code_of_length length = if length == 4294967296 then 4294967295 else length

-- each number of 32 bits is the code of the length that it means
pub length_code_again : {X : Type 0} (make : ℕ → X) (code : ℕ) → code ≤ 4294967295
    → make (code_of_length (length_of_code code)) ≡ make code
length_code_again make code small = elim (cases_eq code 4294967295) [
  | inl same ↦
      ap (λ (b : Bool). make (code_of_length (if b then 4294967296 else code))) (eq-eqb code 4294967295 same)
      ∙ ap make (sym same)
  | inr apart ↦
      ap (λ (b : Bool). make (code_of_length (if b then 4294967296 else code))) (ne_eqb code 4294967295 apart)
      ∙ ap (λ (b : Bool). make (if b then 4294967295 else code))
      (ne_eqb code 4294967296 (λ same. omega (arith, small, same)))
]
