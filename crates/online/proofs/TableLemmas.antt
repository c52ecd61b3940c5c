-- What the calls of a hash map change of what is kept of the tasks.
use Rattle.std.proofs.Common.{◌≡◌, ◌∙◌, ℕ, Option, Some, None, refl, sym, ap, subst, inl, inr}
use Rattle.std.proofs.lemmas.Bool.{ne_eqb, cases_eq}
use Rattle.std.proofs.lemmas.Option.{none-some, same_Some}
use Rattle.std.specs.Prelude.{nat_eq, IsSome, is_some, Result, Ok, Err, OnOk, OnErr}
use Rattle.std.specs.HashMap.{HashMap, get, get_by, WritesThrough, UpdatesBy}
use Rattle.online.specs.declared.kin.Kin.{Kin}
use Rattle.online.specs.Waits.{ChangesAt, ChangesAbove, Removes, IsSameTable}

pub changes_written : {S : Type 0} (change : Kin → Kin → Type 0) (task : ℕ) (old new : HashMap ℕ Kin S)
    (was after : Kin) → Some was ≡ get_by (nat_eq task) old → WritesThrough nat_eq (nat_eq task) old after new
    → change was after → ChangesAt change task (get nat_eq old) (get nat_eq new)
changes_written change task old new was after found writes changes =
    let some : IsSome (get_by (nat_eq task) old) = ap is_some (sym found) in
    let updates = writes.3 some in
    record {
      absent = λ none. absurd (none-some was (sym none ∙ sym found));
      present = λ kin is.
          let same : was ≡ kin = same_Some was kin (found ∙ is) in
          (after, updates.1, subst (λ k. change k after) same changes);
      others = λ other apart. updates.2 other (ne_eqb task other (λ e. apart (sym e)));
    }

-- where a change leaves what is kept of a task as it was
pub same_changed : (task : ℕ) (old new : ℕ → Option Kin) → ChangesAt (λ was after. after ≡ was) task old new
    → IsSameTable old new
same_changed task old new changes other = elim (cases_eq other task) [
  | inl same ↦ ap new same ∙ here (old task) refl ∙ ap old (sym same)
  | inr apart ↦ changes.others other apart
]
  where
    here : (o : Option Kin) → old task ≡ o → new task ≡ old task
    here None e = changes.absent e ∙ sym e
    here (Some kin) e = let (after, now, is) = changes.present kin e in now ∙ ap Some is ∙ sym e

pub above_written : {S : Type 0} (change : Kin → Kin → Type 0) (parent : Option ℕ) (task : ℕ)
    → parent ≡ Some task → (old new : HashMap ℕ Kin S) (was after : Kin)
    → Some was ≡ get_by (nat_eq task) old → WritesThrough nat_eq (nat_eq task) old after new
    → change was after → ChangesAbove change parent (get nat_eq old) (get nat_eq new)
above_written change parent task is old new was after found writes changes =
    let P : Option ℕ → Type 0 = λ p. ChangesAbove change p (get nat_eq old) (get nat_eq new) in
    subst P (sym is) (changes_written change task old new was after found writes changes)

pub removes_from : {S : Type 0} (task : ℕ) (old new : HashMap ℕ Kin S)
    → UpdatesBy nat_eq (nat_eq task) old new None → Removes task (get nat_eq old) (get nat_eq new)
removes_from task old new updates = record {
  here = updates.1;
  others = λ other apart. updates.2 other (ne_eqb task other (λ e. apart (sym e)));
}

pub ok_weaker : {T E : Type 0} (r : Result T E) (P Q : Type 0) → (P → Q) → OnOk r P → OnOk r Q
ok_weaker (Ok x) P Q so h = so h
ok_weaker (Err e) P Q so h = h

pub err_weaker : {T E : Type 0} (r : Result T E) (P Q : Type 0) → (P → Q) → OnErr r P → OnErr r Q
err_weaker (Ok x) P Q so h = h
err_weaker (Err e) P Q so h = so h
