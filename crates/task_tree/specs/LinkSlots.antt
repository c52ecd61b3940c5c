-- The numbers that stand for links.
use Rattle.std.specs.Prelude.{ℕ, ◌≡◌, ◌==◌, Bool, Option, Some, None, if◌then◌else◌}
use Rattle.std.proofs.Common.{◌∙◌, ap, sym, inl, inr}
use Rattle.std.proofs.lemmas.Bool.{cases_eq, eq-eqb, ne_eqb}
use Rattle.task_tree.specs.declared.links.Link.{Link}

-- the greatest number of 32 bits stands for no parent
abbrev pub link_of_code : ℕ → ℕ → Option Link
link_of_code number parent =
    if parent == 4294967295 then None else Some (record { number = number; parent = parent })

abbrev pub link_number : Option Link → ℕ
link_number None = 0
link_number (Some link) = link.number

abbrev pub link_parent : Option Link → ℕ
link_parent None = 4294967295
link_parent (Some link) = link.parent

-- 0 is the number if there is no parent
abbrev pub IsCode : ℕ → ℕ → Type 0
IsCode number parent = parent ≡ 4294967295 → number ≡ 0

-- such numbers are the code of what they stand for
abbrev code_if : {X : Type 0} → (ℕ → ℕ → X) → ℕ → ℕ → Bool → X
code_if make number parent none =
    let link : Option Link = if none then None else Some (record { number = number; parent = parent }) in
    make (link_number link) (link_parent link)

pub link_again : {X : Type 0} (make : ℕ → ℕ → X) (number parent : ℕ) → IsCode number parent
    → make (link_number (link_of_code number parent)) (link_parent (link_of_code number parent))
    ≡ make number parent
link_again make number parent is_code = elim (cases_eq parent 4294967295) [
  | inl same ↦ ap (code_if make number parent) (eq-eqb parent 4294967295 same)
      ∙ ap (λ n. make n 4294967295) (sym (is_code same)) ∙ ap (make number) (sym same)
  | inr apart ↦ ap (code_if make number parent) (ne_eqb parent 4294967295 apart)
]
