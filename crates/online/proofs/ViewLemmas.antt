-- What is kept of each task before and behind a change of what is kept of one.
use Rattle.std.proofs.Common.{◌≡◌, ◌≢◌, ◌∙◌, ℕ, false, Option, Some, None, refl, sym, ap, subst}
use Rattle.std.proofs.Common.{inl, inr, ◌⊎◌}
use Rattle.std.specs.Prelude.{not, is_some}
use Rattle.std.specs.Option.{option_map_or}
use Rattle.std.proofs.lemmas.Bool.{cases_eq}
use Rattle.std.proofs.lemmas.Option.{none-some, same_Some}
use Rattle.online.specs.declared.kin.Kin.{Kin}
use Rattle.online.specs.Waits.{ChangesAt, ChangesAbove, is_kept, is_going}

-- ---- back from what is kept behind the change

-- what is kept of this task was changed so, or stayed
pub record IsFrom (change : Kin → Kin → Type 0) (changed : Type 0) (old : ℕ → Option Kin) (task : ℕ)
    (after : Kin) : Type 0 where
  pub was : Kin
  pub kept : old task ≡ Some was
  pub how : (changed × change was after) ⊎ ((changed → ⊥) × (was ≡ after))

pub changed_from : (change : Kin → Kin → Type 0) (task : ℕ) (old new : ℕ → Option Kin)
    → ChangesAt change task old new → (other : ℕ) (after : Kin) → new other ≡ Some after
    → IsFrom change (other ≡ task) old other after
changed_from change task old new changes other after is = elim (cases_eq other task) [
  | inl same ↦ of same (old task) refl
  | inr apart ↦ record {
    was = after;
    kept = sym (changes.others other apart) ∙ is;
    how = inr (apart, refl);
  }
]
  where
    of : other ≡ task → (o : Option Kin) → old task ≡ o → IsFrom change (other ≡ task) old other after
    of same None e = absurd (none-some after (sym (changes.absent e) ∙ ap new (sym same) ∙ is))
    of same (Some was) e =
        let (then, there, changed) = changes.present was e in
        let here : then ≡ after = same_Some then after (sym there ∙ ap new (sym same) ∙ is) in
        record {
          was = was;
          kept = ap old same ∙ e;
          how = inl (same, subst (λ k. change was k) here changed);
        }

pub above_from : (change : Kin → Kin → Type 0) (parent : Option ℕ) (old new : ℕ → Option Kin)
    → ChangesAbove change parent old new → (other : ℕ) (after : Kin) → new other ≡ Some after
    → IsFrom change (parent ≡ Some other) old other after
above_from change None old new changes other after is = record {
  was = after;
  kept = sym (changes other) ∙ is;
  how = inr (λ e. cc, refl);
}
above_from change (Some parent) old new changes other after is =
    of (changed_from change parent old new changes other after is)
  where
    of : IsFrom change (other ≡ parent) old other after
        → IsFrom change (Some parent ≡ Some other) old other after
    of from = record { was = from.was; kept = from.kept; how = how from.how }
      where
        how : ((other ≡ parent) × change from.was after) ⊎ ((other ≡ parent → ⊥) × (from.was ≡ after))
            → ((Some parent ≡ Some other) × change from.was after)
            ⊎ ((Some parent ≡ Some other → ⊥) × (from.was ≡ after))
        how (inl (same, changed)) = inl (ap Some (sym same), changed)
        how (inr (apart, stays)) = inr (λ e. apart (sym (same_Some parent other e)), stays)

-- ---- of which tasks something is kept

pub kept_same : (change : Kin → Kin → Type 0) (task : ℕ) (old new : ℕ → Option Kin)
    → ChangesAt change task old new → (other : ℕ) → is_kept new other ≡ is_kept old other
kept_same change task old new changes other = elim (cases_eq other task) [
  | inl same ↦ ap (is_kept new) same ∙ of (old task) refl ∙ ap (is_kept old) (sym same)
  | inr apart ↦ ap is_some (changes.others other apart)
]
  where
    of : (o : Option Kin) → old task ≡ o → is_kept new task ≡ is_kept old task
    of None e = ap is_some (changes.absent e ∙ sym e)
    of (Some was) e =
        let there = changes.present was e in ap is_some there.1 ∙ sym (ap is_some e)

pub kept_above : (change : Kin → Kin → Type 0) (parent : Option ℕ) (old new : ℕ → Option Kin)
    → ChangesAbove change parent old new → (other : ℕ) → is_kept new other ≡ is_kept old other
kept_above change None old new changes other = ap is_some (changes other)
kept_above change (Some parent) old new changes other = kept_same change parent old new changes other

-- the change leaves whether a task is done
abbrev pub KeepsDone : (Kin → Kin → Type 0) → Type 0
KeepsDone change = (old new : Kin) → change old new → new.done ≡ old.done

pub going_same : (change : Kin → Kin → Type 0) (task : ℕ) (old new : ℕ → Option Kin)
    → ChangesAt change task old new → KeepsDone change → (other : ℕ) → is_going new other ≡ is_going old other
going_same change task old new changes keeps other = elim (cases_eq other task) [
  | inl same ↦ ap (is_going new) same ∙ of (old task) refl ∙ ap (is_going old) (sym same)
  | inr apart ↦ ap (λ o. option_map_or (λ (k : Kin). not k.done) o false) (changes.others other apart)
]
  where
    of : (o : Option Kin) → old task ≡ o → is_going new task ≡ is_going old task
    of None e = ap (λ o. option_map_or (λ (k : Kin). not k.done) o false) (changes.absent e ∙ sym e)
    of (Some was) e =
        let there = changes.present was e in
        ap (λ o. option_map_or (λ (k : Kin). not k.done) o false) there.1
        ∙ ap not (keeps was there.0 there.2)
        ∙ sym (ap (λ o. option_map_or (λ (k : Kin). not k.done) o false) e)

pub going_above : (change : Kin → Kin → Type 0) (parent : Option ℕ) (old new : ℕ → Option Kin)
    → ChangesAbove change parent old new → KeepsDone change → (other : ℕ)
    → is_going new other ≡ is_going old other
going_above change None old new changes keeps other =
    ap (λ o. option_map_or (λ (k : Kin). not k.done) o false) (changes other)
going_above change (Some parent) old new changes keeps other =
    going_same change parent old new changes keeps other

-- of a task that is not changed
pub going_other : (change : Kin → Kin → Type 0) (task : ℕ) (old new : ℕ → Option Kin)
    → ChangesAt change task old new → (other : ℕ) → other ≢ task → is_going new other ≡ is_going old other
going_other change task old new changes other apart =
    ap (λ o. option_map_or (λ (k : Kin). not k.done) o false) (changes.others other apart)

pub going_of : (table : ℕ → Option Kin) (task : ℕ) (kin : Kin) → table task ≡ Some kin
    → is_going table task ≡ not kin.done
going_of table task kin is = ap (λ o. option_map_or (λ (k : Kin). not k.done) o false) is

-- nothing is kept of the task behind the change, where nothing was
pub none_from : (table : ℕ → Option Kin) (task : ℕ) → is_kept table task ≡ false → table task ≡ None
none_from table task is = of (table task) is
  where
    of : (o : Option Kin) → is_some o ≡ false → o ≡ None
    of None e = refl
    of (Some k) e = cc
