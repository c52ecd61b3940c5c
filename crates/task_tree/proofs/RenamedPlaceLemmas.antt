-- Records in another order: what stands at a place, each task's own records and the members of teams.
use Rattle.std.proofs.Common.{◌≡◌, ◌∙◌, ℕ, ◌<◌, ◌≤◌, List, length, Option, Some, None, true, false, Bool}
use Rattle.std.proofs.Common.{refl, sym, ap, arith, inl, inr, map}
use Rattle.std.proofs.lemmas.Bool.{cases_eq, cases_lt, false≢true}
use Rattle.std.specs.Prelude.{◌==◌, is_some}
use Rattle.std.specs.List.{range_with_len}
use Rattle.std.specs.Option.{option_map_or}
use Rattle.ompt_events.specs.declared.records.Record.{Record}
use Rattle.ompt_events.specs.declared.records.Body.{Body}
use Rattle.ompt_events.specs.Records.{running, joined}
use Rattle.ompt_events.specs.Places.{at, is_own, own_before}
use Rattle.ompt_events.proofs.PlaceLemmas.{at_within, some_within}
use Rattle.task_tree.specs.Renaming.{IsRenaming, SayAlike, untold}
use Rattle.task_tree.proofs.BlindLemmas.{IsBlind, blind_at, blind_running, blind_joined}
use Rattle.task_tree.proofs.RisingListLemmas.{IsIn, filter_in, IsCut, IsSameTest, cut_at, cut_places}

-- what a renaming says of the places of records alone, without those at which members of teams begin; it
-- holds the other way round too
pub record IsReordered (rs ss : List Record) (to back : ℕ → ℕ) : Type 0 where
  pub to_within : (i : ℕ) → i < length rs → to i < length ss
  pub back_within : (j : ℕ) → j < length ss → back j < length rs
  pub back_to : (i : ℕ) → i < length rs → back (to i) ≡ i
  pub to_back : (j : ℕ) → j < length ss → to (back j) ≡ j
  pub alike : (i : ℕ) → i < length rs → SayAlike ss (to i) rs i
  pub own_rise : (task i k : ℕ) → is_own rs task i ≡ true → is_own rs task k ≡ true → i < k → to i < to k

-- what it says of the records at which members of teams begin
abbrev pub DoMembersRise : List Record → (ℕ → ℕ) → Type 0
DoMembersRise rs to = (i k : ℕ) → is_some (at joined rs i) ≡ true → is_some (at joined rs k) ≡ true → i < k
    → to i < to k

pub reordered : {rs ss : List Record} {to back : ℕ → ℕ} → IsRenaming rs ss to back → IsReordered rs ss to back
reordered r = record {
  to_within = r.to_within;
  back_within = r.back_within;
  back_to = r.back_to;
  to_back = r.to_back;
  alike = r.alike;
  own_rise = r.own_rise;
}

-- ---- what is said at a place

pub same_at : {X : Type 0} (f : Body → Option X) → IsBlind f → {rs ss : List Record} {to back : ℕ → ℕ}
    → IsReordered rs ss to back → (i : ℕ) → i < length rs → at f ss (to i) ≡ at f rs i
same_at f blind {rs} {ss} {to} r i within = blind_at f blind ss (to i) rs i (r.alike i within)

-- what is said at a place is said where its record stands in the other order
pub moved_at : {X : Type 0} (f : Body → Option X) → IsBlind f
    → (x : X) {rs ss : List Record} {to back : ℕ → ℕ} → IsReordered rs ss to back → (i : ℕ)
    → at f rs i ≡ Some x → at f ss (to i) ≡ Some x
moved_at f blind x {rs} r i says = same_at f blind r i (at_within f rs i x says) ∙ says

pub same_own : {rs ss : List Record} {to back : ℕ → ℕ} → IsReordered rs ss to back → (task i : ℕ)
    → i < length rs → is_own ss task (to i) ≡ is_own rs task i
same_own r task i within =
    ap (λ (o : Option ℕ). option_map_or (λ t. t == task) o false) (same_at running blind_running r i within)

pub own_within : (rs : List Record) (task i : ℕ) → is_own rs task i ≡ true → i < length rs
own_within rs task i own = there (at running rs i) refl own
  where
    there : (o : Option ℕ) → at running rs i ≡ o → option_map_or (λ t. t == task) o false ≡ true
        → i < length rs
    there None e is = absurd (false≢true is)
    there (Some t) e is = at_within running rs i t e

-- ---- the other way round

-- an order that is kept is kept on the way back
rises_back : (p q : ℕ → Bool) (to back : ℕ → ℕ) → ((i k : ℕ) → p i ≡ true → p k ≡ true → i < k → to i < to k)
    → ((j : ℕ) → q j ≡ true → p (back j) ≡ true) → ((j : ℕ) → q j ≡ true → to (back j) ≡ j) → (j l : ℕ)
    → q j ≡ true → q l ≡ true → j < l → back j < back l
rises_back p q to back rises passes to_back j l j_is l_is below = elim (cases_lt (back j) (back l)) [
  | inl less ↦ less
  | inr more ↦ elim (cases_eq (back j) (back l)) [
    | inl same ↦ absurd (omega (arith, to_back j j_is, to_back l l_is, ap to same, below))
    | inr apart ↦
        absurd
        (omega (
          arith,
          to_back j j_is,
          to_back l l_is,
          rises (back l) (back j) (passes l l_is) (passes j j_is) (omega (arith, more, apart)),
          below,
        ))
  ]
]

same_back : {X : Type 0} (f : Body → Option X) → IsBlind f → {rs ss : List Record} {to back : ℕ → ℕ}
    → IsReordered rs ss to back → (j : ℕ) → j < length ss → at f rs (back j) ≡ at f ss j
same_back f blind {ss = ss} {back = back} r j within =
    sym (same_at f blind r (back j) (r.back_within j within)) ∙ ap (at f ss) (r.to_back j within)

own_back : {rs ss : List Record} {to back : ℕ → ℕ} → IsReordered rs ss to back → (task j : ℕ)
    → is_own ss task j ≡ true → is_own rs task (back j) ≡ true
own_back {ss = ss} r task j own =
    ap (λ (o : Option ℕ). option_map_or (λ t. t == task) o false)
    (same_back running blind_running r j (own_within ss task j own))
    ∙ own

pub reordered_back : {rs ss : List Record} {to back : ℕ → ℕ} → IsReordered rs ss to back
    → IsReordered ss rs back to
reordered_back {rs} {ss} {to} {back} r = record {
  to_within = r.back_within;
  back_within = r.to_within;
  back_to = r.to_back;
  to_back = r.back_to;
  alike =
      λ j within.
      sym (r.alike (back j) (r.back_within j within))
      ∙ ap (at (λ body. Some (untold body)) ss) (r.to_back j within);
  own_rise =
      λ task.
      rises_back (is_own rs task) (is_own ss task) to back (r.own_rise task) (own_back r task)
      (λ j own. r.to_back j (own_within ss task j own));
}

pub members_back : {rs ss : List Record} {to back : ℕ → ℕ} → IsReordered rs ss to back → DoMembersRise rs to
    → DoMembersRise ss back
members_back {rs} {ss} {to} {back} r rise =
    rises_back (λ i. is_some (at joined rs i)) (λ j. is_some (at joined ss j)) to back rise
    (λ j joins. ap is_some (same_back joined blind_joined r j (some_within joined ss j joins)) ∙ joins)
    (λ j joins. r.to_back j (some_within joined ss j joins))

-- ---- a task's own records

pub own_test : {rs ss : List Record} {to back : ℕ → ℕ} → IsReordered rs ss to back → (task : ℕ)
    → IsSameTest (is_own rs task) (is_own ss task) to back
own_test {rs} {ss} r task = record {
  kept = λ k own. same_own r task k (own_within rs task k own) ∙ own;
  given = own_back r task;
  to_back = λ j own. r.to_back j (own_within ss task j own);
  rises = r.own_rise task;
}

pub own_cut : {rs ss : List Record} {to back : ℕ → ℕ} → IsReordered rs ss to back → (task i : ℕ)
    → is_own rs task i ≡ true → IsCut (is_own rs task) to i (to i)
own_cut r task i own = cut_at (own_test r task) i own

-- past the end all records of the task are before
pub past_cut : {rs ss : List Record} {to back : ℕ → ℕ} → IsReordered rs ss to back → (task n m : ℕ)
    → length rs ≤ n → length ss ≤ m → IsCut (is_own rs task) to n m
past_cut {rs} {ss} r task n m past_n past_m = record {
  forth = λ k own below. omega (arith, r.to_within k (own_within rs task k own), past_m);
  back = λ k own below. omega (arith, own_within rs task k own, past_n);
}

pub own_before_cut : {rs ss : List Record} {to back : ℕ → ℕ} → IsReordered rs ss to back → (task n m : ℕ)
    → IsCut (is_own rs task) to n m → own_before ss task m ≡ map to (own_before rs task n)
own_before_cut r task n m cut = cut_places (own_test r task) n m cut

-- what is in the list of a task's own records is one of them
pub own_in : (rs : List Record) (task n k : ℕ) → IsIn k (own_before rs task n) → is_own rs task k ≡ true
own_in rs task n k is = (filter_in (is_own rs task) k (range_with_len 0 n) is).1
