-- Which children the end of a region covers, by their numbers.
use Rattle.std.proofs.Common.{◌≡◌, ◌∙◌, ℕ, zero, suc, ◌<◌, ◌≤◌, ◌+◌, ◌-◌, List, [], ◌∷◌, length, drop, get_or}
use Rattle.std.proofs.Common.{Some, sym, ap, subst, arith, inl, inr}
use Rattle.std.specs.Prelude.{slice_get, Contains}
use Rattle.std.proofs.lemmas.Bool.{cases_lt}
use Rattle.std.proofs.lemmas.Option.{slice_get-get_or, slice_get_past, slice_get_within}
use Rattle.ompt_events.specs.declared.records.Record.{Record}
use Rattle.ompt_events.specs.declared.names.Endpoint.{Endpoint}
use Rattle.ompt_events.specs.declared.names.SyncKind.{SyncKind}
use Rattle.ompt_events.specs.Records.{region}
use Rattle.ompt_events.specs.Places.{at, seen_at}
use Rattle.ompt_events.specs.Tree.{children_before, child_number, IsChild}
use Rattle.ompt_events.specs.Completion.{IsPartFinished, CountsAt, IsCompleteAt, StartsTask}
use Rattle.ompt_events.specs.declared.records.Part.{Part}
use Rattle.ompt_events.proofs.ListLemmas.{get_contains, contains_get}
use Rattle.ompt_events.proofs.RegionLemmas.{region_starts_none}
use Rattle.ompt_events.proofs.TreeLemmas.{children_stay}
use Rattle.credit_ledger.specs.TraceEntries.{IsDone}

-- ---- children by their numbers

-- a child keeps its number to the end
pub child_stays : (rs : List Record) (parent n m number child : ℕ)
    → slice_get (children_before rs parent n) number ≡ Some child → n ≤ m
    → slice_get (children_before rs parent m) number ≡ Some child
child_stays rs parent n zero number child is less =
    let P : ℕ → Type 0 = λ k. slice_get (children_before rs parent k) number ≡ Some child in
    let same : n ≡ zero = omega (arith, less) in subst P same is
child_stays rs parent n (suc m) number child is less = elim (cases_lt n (suc m)) [
  | inl earlier ↦
      let P : ℕ → Type 0 = λ k. slice_get (children_before rs parent k) number ≡ Some child in
      let step : m + 1 ≡ suc m = omega arith in
      subst P step
      (children_stay rs parent m number child
      (child_stays rs parent n m number child is (omega (arith, earlier))))
  | inr here ↦
      let P : ℕ → Type 0 = λ k. slice_get (children_before rs parent k) number ≡ Some child in
      let same : n ≡ suc m = omega (arith, here, less) in subst P same is
]

-- the child with a number, of those before a place
pub record IsChildBefore (rs : List Record) (parent n number task : ℕ) : Type 0 where
  pub there : slice_get (children_before rs parent n) number ≡ Some task
  pub numbered : IsChild rs parent number task

pub child_with : (rs : List Record) (parent n number : ℕ) → n ≤ length rs → number < child_number rs parent n
    → (task : ℕ) × IsChildBefore rs parent n number task
child_with rs parent n number inside less =
    let there = slice_get-get_or (children_before rs parent n) number 0 less in (
      get_or (children_before rs parent n) number 0,
      record {
        there = there;
        numbered =
            child_stays rs parent n (length rs) number (get_or (children_before rs parent n) number 0) there
            inside;
      },
    )

get_drop : {X : Type 0} (xs : List X) (from k : ℕ) → slice_get (drop from xs) k ≡ slice_get xs (from + k)
get_drop xs zero k = let e : k ≡ 0 + k = omega arith in ap (slice_get xs) e
get_drop [] (suc from) k = sym (slice_get_past [] (suc from + k) (omega arith))
get_drop (x ∷ xs) (suc from) k =
    let e : suc (from + k) ≡ suc from + k = omega arith in get_drop xs from k ∙ ap (slice_get (x ∷ xs)) e

pub dropped : {X : Type 0} (xs : List X) (from k : ℕ) (x : X) → from ≤ k → slice_get xs k ≡ Some x
    → Contains (drop from xs) x
dropped xs from k x less is =
    let same : from + (k - from) ≡ k = omega (arith, less) in
    get_contains (drop from xs) x (k - from) (get_drop xs from (k - from) ∙ ap (slice_get xs) same ∙ is)

-- the number of a contained child
pub record HasNumber (rs : List Record) (parent n from task : ℕ) : Type 0 where
  pub number : ℕ
  pub enough : from ≤ number
  pub few : number < child_number rs parent n
  pub numbered : IsChild rs parent number task

pub number_between : (rs : List Record) (parent n from task : ℕ) → n ≤ length rs
    → Contains (drop from (children_before rs parent n)) task → HasNumber rs parent n from task
number_between rs parent n from task inside found =
    let found_at = contains_get (drop from (children_before rs parent n)) task found in
    let is = sym (get_drop (children_before rs parent n) from found_at.0) ∙ found_at.1 in
    record {
      number = from + found_at.0;
      enough = omega arith;
      few = slice_get_within (children_before rs parent n) (from + found_at.0) task is;
      numbered = child_stays rs parent n (length rs) (from + found_at.0) task is inside;
    }

-- ---- complete at the end is finished below its length

part_below : (rs : List Record) (i task : ℕ) (part : Part) → (StartsTask rs i → ⊥)
    → IsPartFinished rs (CountsAt rs i) task part
    → IsPartFinished rs (λ k. seen_at rs k < seen_at rs i) task part
part_below rs i task part no_start (k, is, counts) =
    (k, is, elim counts [ inl seen ↦ seen | inr here ↦ absurd (no_start here.1) ])

part_counts : (rs : List Record) (i task : ℕ) (part : Part)
    → IsPartFinished rs (λ k. seen_at rs k < seen_at rs i) task part
    → IsPartFinished rs (CountsAt rs i) task part
part_counts rs i task part (k, is, seen) = (k, is, inl seen)

pub done_there : (rs : List Record) (i own task : ℕ) (kind : SyncKind) (endpoint : Endpoint)
    → at region rs i ≡ Some (own, kind, endpoint) → IsCompleteAt rs task i → IsDone rs (seen_at rs i) task
done_there rs i own task kind endpoint says complete = elim complete [
  | inl whole ↦ inl (part_below rs i task _ no_start whole)
  | inr both ↦ inr (part_below rs i task _ no_start both.0, part_below rs i task _ no_start both.1)
]
  where
    no_start : StartsTask rs i → ⊥
    no_start = region_starts_none rs i own kind endpoint says

pub complete_there : (rs : List Record) (i task : ℕ) → IsDone rs (seen_at rs i) task → IsCompleteAt rs task i
complete_there rs i task done = elim done [
  | inl whole ↦ inl (part_counts rs i task _ whole)
  | inr both ↦ inr (part_counts rs i task _ both.0, part_counts rs i task _ both.1)
]
