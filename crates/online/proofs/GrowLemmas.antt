-- What one more record leaves of the tasks that are made, created, over, complete and settled.
use Rattle.std.proofs.Common.{◌≡◌, ◌∙◌, ℕ, ◌<◌, List, [], ◌∷◌, ◌++◌, length, Option, Some, None}
use Rattle.std.proofs.Common.{refl, sym, ap, subst, arith, inl, inr, ◌⊎◌}
use Rattle.std.proofs.lemmas.Bool.{cases_lt}
use Rattle.std.proofs.lemmas.Option.{none-some, same_Some}
use Rattle.std.proofs.lemmas.List.{length_push}
use Rattle.ompt_events.specs.declared.records.Record.{Record}
use Rattle.ompt_events.specs.declared.records.Body.{Body}
use Rattle.ompt_events.specs.declared.records.Part.{Part}
use Rattle.ompt_events.specs.declared.records.Part.TheVariants.{Whole, Body as PartBody, Event}
use Rattle.ompt_events.specs.declared.cause.Cause.TheVariants.{CreatedTwice}
use Rattle.ompt_events.specs.Records.{made, creation, ended_root, finish}
use Rattle.ompt_events.specs.Places.{at, seen_at}
use Rattle.ompt_events.specs.Tree.{IsCreatedAt, IsParent, IsDescendant, child, deeper}
use Rattle.ompt_events.specs.Completion.{IsPartFinished}
use Rattle.ompt_events.specs.Coverage.{IsFamily}
use Rattle.ompt_events.specs.Causes.{IsMade, IsFreeOf, created_twice}
use Rattle.ompt_events.proofs.PlaceLemmas.{at_within}
use Rattle.ompt_events.proofs.RecordLemmas.{created_at_made, creation_at_created}
use Rattle.online.specs.Waits.{IsCompleteBelow, IsSettled, IsOver}
use Rattle.online.proofs.ReadLemmas.{same_append, at_same, seen_same}
use Rattle.online.proofs.OpenGroupLemmas.{at_last}
use Rattle.online.proofs.ScopeLemmas.{Rises}

-- ---- what a record says

-- what one of the first says, it says with one more
pub said_grows : {X : Type 0} (f : Body → Option X) (rs : List Record) (r : Record) (i : ℕ) (x : X)
    → at f rs i ≡ Some x → at f (rs ++ r ∷ []) i ≡ Some x
said_grows f rs r i x says =
    at_same f (length rs) (rs ++ r ∷ []) rs (same_append rs (r ∷ [])) i (at_within f rs i x says) ∙ says

-- and what is said then, one of the first says, or the new one
pub said_cases : {X : Type 0} (f : Body → Option X) (rs : List Record) (r : Record) (i : ℕ) (x : X)
    → at f (rs ++ r ∷ []) i ≡ Some x → (at f rs i ≡ Some x) ⊎ ((i ≡ length rs) × (f r.body ≡ Some x))
said_cases f rs r i x says = elim (cases_lt i (length rs)) [
  | inl low ↦
      inl (sym (at_same f (length rs) (rs ++ r ∷ []) rs (same_append rs (r ∷ [])) i low) ∙ says)
  | inr past ↦
      let within = at_within f (rs ++ r ∷ []) i x says in
      let longer = length_push rs r in
      let e : i ≡ length rs = omega (arith, past, within, longer) in
      inr (e, sym (at_last f rs r) ∙ ap (at f (rs ++ r ∷ [])) (sym e) ∙ says)
]

-- what only an earlier one says
pub said_before : {X : Type 0} (f : Body → Option X) (rs : List Record) (r : Record) → f r.body ≡ None
    → (i : ℕ) (x : X) → at f (rs ++ r ∷ []) i ≡ Some x → at f rs i ≡ Some x
said_before f rs r none i x says = elim (said_cases f rs r i x says) [
  | inl old ↦ old
  | inr new ↦ absurd (none-some x (sym none ∙ new.1))
]

pub made_grows : (rs : List Record) (r : Record) (task : ℕ) → IsMade rs task → IsMade (rs ++ r ∷ []) task
made_grows rs r task (k, says) = (k, said_grows made rs r k task says)

pub over_grows : (rs : List Record) (r : Record) (task : ℕ) → IsOver rs task → IsOver (rs ++ r ∷ []) task
over_grows rs r task (inl (k, part, says, apart)) =
    inl (k, part, said_grows finish rs r k (task, part) says, apart)
over_grows rs r task (inr (k, says)) = inr (k, said_grows ended_root rs r k task says)

-- ---- creations

pub creation_once : (rs : List Record) → IsFreeOf rs CreatedTwice → (i j parent other task : ℕ)
    → IsCreatedAt rs i parent task → IsCreatedAt rs j other task → (i ≡ j) × (parent ≡ other)
creation_once rs once i j parent other task first second = (same, of same)
  where
    says : (k above : ℕ) → IsCreatedAt rs k above task → at made rs k ≡ Some task
    says k above creates = created_at_made task rs k (creation_at_created above task rs k creates)

    same : i ≡ j
    same = elim (cases_lt i j) [
      | inl less ↦ absurd (once j (created_twice (task, i, less, says i parent first, says j other second)))
      | inr most ↦ elim (cases_lt j i) [
        | inl less ↦
            absurd (once i (created_twice (task, j, less, says j other second, says i parent first)))
        | inr least ↦ omega (arith, most, least)
      ]
    ]

    of : i ≡ j → parent ≡ other
    of e =
        ap (λ (p : ℕ × ℕ). p.0)
        (same_Some (parent, task) (other, task) (sym first ∙ ap (at creation rs) e ∙ second))

-- a task that is created again is made again
pub created_fresh : (rs : List Record) (r : Record) → IsFreeOf (rs ++ r ∷ []) CreatedTwice → (task : ℕ)
    → made r.body ≡ Some task → IsMade rs task → ⊥
created_fresh rs r once task new (k, says) =
    once (length rs)
    (created_twice
    (task, k, at_within made rs k task says, said_grows made rs r k task says, at_last made rs r ∙ new))

-- ---- tasks that are complete

-- by a greater length no fewer records count
pub complete_rises : (rs : List Record) → Rises (IsCompleteBelow rs)
complete_rises rs task low high most complete = of complete
  where
    part_rises : (part : Part) → IsPartFinished rs (λ k. seen_at rs k < low) task part
        → IsPartFinished rs (λ k. seen_at rs k < high) task part
    part_rises part (k, says, counts) = (k, says, omega (arith, counts, most))

    of : IsCompleteBelow rs low task → IsCompleteBelow rs high task
    of (inl whole) = inl (part_rises Whole whole)
    of (inr (body, event)) = inr (part_rises PartBody body, part_rises Event event)

pub complete_grows : (rs : List Record) (r : Record) (task n : ℕ) → IsCompleteBelow rs n task
    → IsCompleteBelow (rs ++ r ∷ []) n task
complete_grows rs r task n complete = of complete
  where
    part_grows : (part : Part) → IsPartFinished rs (λ k. seen_at rs k < n) task part
        → IsPartFinished (rs ++ r ∷ []) (λ k. seen_at (rs ++ r ∷ []) k < n) task part
    part_grows part (k, says, counts) =
        let within = at_within finish rs k (task, part) says in
        let same = seen_same (length rs) (rs ++ r ∷ []) rs (same_append rs (r ∷ [])) k within in
        (k, said_grows finish rs r k (task, part) says, omega (arith, counts, same))

    of : IsCompleteBelow rs n task → IsCompleteBelow (rs ++ r ∷ []) n task
    of (inl whole) = inl (part_grows Whole whole)
    of (inr (body, event)) = inr (part_grows PartBody body, part_grows Event event)

pub complete_over : (rs : List Record) (task n : ℕ) → IsCompleteBelow rs n task → IsOver rs task
complete_over rs task n (inl (k, says, counts)) = inl (k, Whole, says, λ e. cc)
complete_over rs task n (inr (body, (k, says, counts))) = inl (k, Event, says, λ e. cc)

-- ---- tasks that are settled

pub settled_rises : (rs : List Record) → Rises (IsSettled rs)
settled_rises rs task low high most settled =
    λ other family. complete_rises rs other low high most (settled other family)

-- who is below a task is of the family of one of its children
child_above : (rs : List Record) (task other : ℕ) → IsDescendant rs task other
    → (first : ℕ) × IsParent rs task first × IsFamily rs first other
child_above rs task other (child i creates) = (other, (i, creates), inl refl)
child_above rs task other (deeper i {parent = parent} rest creates) =
    of (child_above rs task parent rest)
  where
    of : (first : ℕ) × IsParent rs task first × IsFamily rs first parent
        → (first : ℕ) × IsParent rs task first × IsFamily rs first other
    of (first, created, inl is) =
        let P : ℕ → Type 0 = λ t. IsCreatedAt rs i t other in
        (first, created, inr (child i (subst P is creates)))
    of (first, created, inr below) = (first, created, inr (deeper i below creates))

-- a task that is complete and whose children are settled
pub settled_from : (rs : List Record) (task n : ℕ) → IsCompleteBelow rs n task
    → ((first : ℕ) → IsParent rs task first → IsSettled rs n first) → IsSettled rs n task
settled_from rs task n complete children other (inl is) =
    let P : ℕ → Type 0 = λ t. IsCompleteBelow rs n t in subst P (sym is) complete
settled_from rs task n complete children other (inr below) =
    let (first, created, family) = child_above rs task other below in
    children first created other family

-- a task is created by one that is not over
abbrev pub IsByLive : List Record → Record → Type 0
IsByLive rs r = (parent task : ℕ) → creation r.body ≡ Some (parent, task) → IsOver rs parent → ⊥

-- then a settled task gets no descendant
descendant_back : (rs : List Record) (r : Record) → IsByLive rs r → (task n : ℕ) → IsSettled rs n task
    → (other : ℕ) → IsDescendant (rs ++ r ∷ []) task other → IsDescendant rs task other
descendant_back rs r live task n settled other (child i creates) =
    elim (said_cases creation rs r i (task, other) creates) [
      | inl old ↦ child i old
      | inr new ↦
          absurd (live task other new.1 (complete_over rs task n (settled task (inl refl))))
    ]
descendant_back rs r live task n settled other (deeper i {parent = parent} rest creates) =
    let above = descendant_back rs r live task n settled parent rest in
    elim (said_cases creation rs r i (parent, other) creates) [
      | inl old ↦ deeper i above old
      | inr new ↦
          absurd (live parent other new.1 (complete_over rs parent n (settled parent (inr above))))
    ]

pub settled_grows : (rs : List Record) (r : Record) → IsByLive rs r → (task n : ℕ) → IsSettled rs n task
    → IsSettled (rs ++ r ∷ []) n task
settled_grows rs r live task n settled other (inl is) =
    complete_grows rs r other n (settled other (inl is))
settled_grows rs r live task n settled other (inr below) =
    complete_grows rs r other n
    (settled other (inr (descendant_back rs r live task n settled other below)))
