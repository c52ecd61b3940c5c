-- What is one each, where no task is made twice.
use Rattle.std.proofs.Common.{◌≡◌, ◌∙◌, ℕ, length, Some, sym, ap, inl, inr}
use Rattle.std.proofs.lemmas.Bool.{cases_order}
use Rattle.std.proofs.lemmas.Option.{same_Some}
use Rattle.ompt_events.specs.declared.records.Record.{Record}
use Rattle.ompt_events.specs.declared.cause.Cause.TheVariants.{CreatedTwice}
use Rattle.ompt_events.specs.Records.{made, creation}
use Rattle.ompt_events.specs.Places.{at}
use Rattle.ompt_events.specs.Tree.{IsChild, child_number}
use Rattle.ompt_events.specs.Causes.{created_twice, IsFreeOf}
use Rattle.ompt_events.proofs.RecordLemmas.{created_at_made, creation_at_created}
use Rattle.ompt_events.proofs.TreeLemmas.{child_place}
use Rattle.std.specs.Prelude.{List}

-- a task is made at one place
pub made_once : (rs : List Record) (task j k : ℕ) → IsFreeOf rs CreatedTwice → at made rs j ≡ Some task
    → at made rs k ≡ Some task → j ≡ k
made_once rs task j k free here there = elim (cases_order j k) [
  | inl same ↦ same
  | inr (inl less) ↦ absurd (free k (created_twice (task, j, less, here, there)))
  | inr (inr more) ↦ absurd (free j (created_twice (task, k, more, there, here)))
]

pub creation_made : (rs : List Record) (parent task i : ℕ) → at creation rs i ≡ Some (parent, task)
    → at made rs i ≡ Some task
creation_made rs parent task i creates =
    created_at_made task rs i (creation_at_created parent task rs i creates)

-- so its parent and its number are one each
pub one_parent : (rs : List Record) (task parent other i k : ℕ) → IsFreeOf rs CreatedTwice
    → at creation rs i ≡ Some (parent, task) → at creation rs k ≡ Some (other, task)
    → (i ≡ k) × (parent ≡ other)
one_parent rs task parent other i k free here there =
    let same : i ≡ k =
    made_once rs task i k free (creation_made rs parent task i here)
    (creation_made rs other task k there) in (
      same,
      ap (λ (p : ℕ × ℕ). p.0)
          (same_Some (parent, task) (other, task) (sym here ∙ ap (at creation rs) same ∙ there)),
    )

pub one_number : (rs : List Record) (task parent other number another : ℕ) → IsFreeOf rs CreatedTwice
    → IsChild rs parent number task → IsChild rs other another task → (parent ≡ other) × (number ≡ another)
one_number rs task parent other number another free here there =
    let first = child_place rs parent (length rs) number task here in
    let second = child_place rs other (length rs) another task there in
    let same = one_parent rs task parent other first.0 second.0 free first.2 second.2 in (
      same.1,
      sym first.3 ∙ ap (child_number rs parent) same.0 ∙ ap (λ p. child_number rs p second.0) same.1
          ∙ second.3,
    )
