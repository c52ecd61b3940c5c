-- Whether the entries below a length finish a task, and which half of a detached task is missing.
use Rattle.std.proofs.Common.{◌≡◌, ◌≢◌, ◌∙◌, ℕ, zero, suc, ◌<◌, true, List, ◌∷◌, length, Option, Some, None}
use Rattle.std.proofs.Common.{refl, ap, subst, arith, inl, inr, ◌⊎◌}
use Rattle.std.proofs.lemmas.Bool.{false≢true, cases_eq, cases_lt}
use Rattle.std.proofs.lemmas.Option.{none-some, same_Some}
use Rattle.ompt_events.specs.declared.records.Record.{Record}
use Rattle.ompt_events.specs.declared.records.Part.{Part}
use Rattle.ompt_events.specs.declared.records.Part.TheVariants.{Whole, Body, Event}
use Rattle.ompt_events.specs.Records.{finish}
use Rattle.ompt_events.specs.Places.{at, seen_at}
use Rattle.ompt_events.specs.Completion.{IsPartFinished}
use Rattle.ompt_events.proofs.PlaceLemmas.{at_within}
use Rattle.credit_ledger.specs.declared.share.Half.{Half}
use Rattle.credit_ledger.specs.declared.share.Half.TheVariants.{Keep, Give}
use Rattle.credit_ledger.specs.Shares.{begins_with}
use Rattle.credit_ledger.specs.Entries.{part_halves}
use Rattle.credit_ledger.specs.TraceEntries.{IsDone}

-- ---- whether a part is finished

same_part : (p q : Part) → (p ≡ q) ⊎ (p ≢ q)
same_part Whole Whole = inl refl
same_part Body Body = inl refl
same_part Event Event = inl refl
same_part Whole Body = inr (λ e. cc)
same_part Whole Event = inr (λ e. cc)
same_part Body Whole = inr (λ e. cc)
same_part Body Event = inr (λ e. cc)
same_part Event Whole = inr (λ e. cc)
same_part Event Body = inr (λ e. cc)

finishes_it : (task : ℕ) (part : Part) (o : Option (ℕ × Part))
    → (o ≡ Some (task, part)) ⊎ (o ≢ Some (task, part))
finishes_it task part None = inr (none-some (task, part))
finishes_it task part (Some (own, p)) = elim (cases_eq own task) [
  | inl same ↦ elim (same_part p part) [
    | inl is ↦ inl (ap (λ t. Some (t, p)) same ∙ ap (λ q. Some (task, q)) is)
    | inr other ↦ inr (λ e. other (ap (λ (x : ℕ × Part). x.1) (same_Some (own, p) (task, part) e)))
  ]
  | inr apart ↦ inr (λ e. apart (ap (λ (x : ℕ × Part). x.0) (same_Some (own, p) (task, part) e)))
]

-- a finishing record of the part below the length
abbrev Finishes : List Record → ℕ → ℕ → Part → ℕ → Type 0
Finishes rs n task part k = (at finish rs k ≡ Some (task, part)) × (seen_at rs k < n)

finishes_there : (rs : List Record) (n task : ℕ) (part : Part) (k : ℕ)
    → Finishes rs n task part k ⊎ (Finishes rs n task part k → ⊥)
finishes_there rs n task part k = elim (finishes_it task part (at finish rs k)) [
  | inr other ↦ inr (λ (is, seen). other is)
  | inl same ↦ elim (cases_lt (seen_at rs k) n) [
    | inl less ↦ inl (same, less)
    | inr more ↦ inr (λ (is, seen). omega (arith, more, seen))
  ]
]

among_first : (rs : List Record) (n task : ℕ) (part : Part) (bound : ℕ)
    → ((k : ℕ) × Finishes rs n task part k) ⊎ ((k : ℕ) → k < bound → Finishes rs n task part k → ⊥)
among_first rs n task part zero = inr (λ k less here. omega (arith, less))
among_first rs n task part (suc bound) = elim (among_first rs n task part bound) [
  | inl found ↦ inl found
  | inr none ↦ elim (finishes_there rs n task part bound) [
    | inl here ↦ inl (bound, here)
    | inr not_here ↦ inr (λ k less there. elim (cases_lt k bound) [
      | inl before ↦ none k before there
      | inr not_before ↦
          let same : k ≡ bound = omega (arith, less, not_before) in
          let P : ℕ → Type 0 = λ m. Finishes rs n task part m in
          not_here (subst P same there)
    ])
  ]
]

pub part_or_not : (rs : List Record) (n task : ℕ) (part : Part)
    → IsPartFinished rs (λ k. seen_at rs k < n) task part
    ⊎ (IsPartFinished rs (λ k. seen_at rs k < n) task part → ⊥)
part_or_not rs n task part = elim (among_first rs n task part (length rs)) [
  | inl found ↦ inl (found.0, found.1.0, found.1.1)
  | inr none ↦ inr (λ (k, is, seen). none k (at_within finish rs k (task, part) is) (is, seen))
]

-- a task is finished or not
pub done_or_not : (rs : List Record) (n task : ℕ) → IsDone rs n task ⊎ (IsDone rs n task → ⊥)
done_or_not rs n task = elim (part_or_not rs n task Whole) [
  | inl whole ↦ inl (inl whole)
  | inr no_whole ↦ elim (part_or_not rs n task Body) [
    | inr no_body ↦ inr (λ done. elim done [ inl whole ↦ no_whole whole | inr both ↦ no_body both.0 ])
    | inl body ↦ elim (part_or_not rs n task Event) [
      | inl event ↦ inl (inr (body, event))
      | inr no_event ↦ inr (λ done. elim done [ inl whole ↦ no_whole whole | inr both ↦ no_event both.1 ])
    ]
  ]
]

-- ---- the half that is missing

-- no part of the task is finished that has this half
abbrev IsPartMissing : List Record → ℕ → ℕ → Half → Type 0
IsPartMissing rs n task h =
    (part : Part) (z : List Half) → begins_with (h ∷ z) (part_halves part) ≡ true
    → IsPartFinished rs (λ k. seen_at rs k < n) task part → ⊥

pub missing_half : (rs : List Record) (n task : ℕ) → (IsDone rs n task → ⊥)
    → (h : Half) × IsPartMissing rs n task h
missing_half rs n task not_done = elim (part_or_not rs n task Body) [
  | inr no_body ↦ (Keep, without_body no_body)
  | inl body ↦ (Give, without_event body)
]
  where
    without_body : (IsPartFinished rs (λ k. seen_at rs k < n) task Body → ⊥) → IsPartMissing rs n task Keep
    without_body no_body Whole z begun finished = not_done (inl finished)
    without_body no_body Body z begun finished = no_body finished
    without_body no_body Event z begun finished = false≢true begun

    without_event : IsPartFinished rs (λ k. seen_at rs k < n) task Body → IsPartMissing rs n task Give
    without_event body Whole z begun finished = not_done (inl finished)
    without_event body Body z begun finished = false≢true begun
    without_event body Event z begun finished = not_done (inr (body, finished))
