-- Which causes depend on a record and those before it alone.
use Rattle.std.proofs.Common.{◌≡◌, ◌∙◌, ℕ, zero, suc, ◌<◌, ◌≤◌, false, List, [], ◌∷◌, ◌++◌}
use Rattle.std.proofs.Common.{length, take, Option, refl, sym, ap, arith}
use Rattle.std.specs.Prelude.{slice_get, option_and_then, option_map, count_by, ◌==◌}
use Rattle.std.specs.Option.{option_map_or}
use Rattle.std.proofs.lemmas.List.{take-append-le}
use Rattle.ompt_events.specs.declared.records.Record.{Record}
use Rattle.ompt_events.specs.declared.records.Body.{Body}
use Rattle.ompt_events.specs.Records.{made, forked}
use Rattle.ompt_events.specs.Places.{at, thread_at, seen_at, nests_at}
use Rattle.ompt_events.specs.Causes.{HasSeqGap, IsMadeAgain, IsForkedAgain}

-- ---- two lists with the same first records

pub record IsSameTo (n : ℕ) (xs ys : List Record) : Type 0 where
  pub there : (k : ℕ) → k < n → slice_get xs k ≡ slice_get ys k
  pub before : (k : ℕ) → k ≤ n → take k xs ≡ take k ys

pub same_back : (n : ℕ) (xs ys : List Record) → IsSameTo n xs ys → IsSameTo n ys xs
same_back n xs ys same = record {
  there = λ k below. sym (same.there k below);
  before = λ k most. sym (same.before k most);
}

pub get_left : {X : Type 0} (xs ys : List X) (k : ℕ) → k < length xs → slice_get (xs ++ ys) k ≡ slice_get xs k
get_left [] ys k below = absurd (omega arith)
get_left (x ∷ xs) ys zero below = refl
get_left (x ∷ xs) ys (suc k) below = get_left xs ys k (omega (arith, below))

pub same_append : (xs ys : List Record) → IsSameTo (length xs) (xs ++ ys) xs
same_append xs ys = record {
  there = λ k below. get_left xs ys k below;
  before = λ k most. take-append-le k xs ys most;
}

pub same_whole : (xs ys : List Record) → IsSameTo (length xs) xs (xs ++ ys)
same_whole xs ys = same_back (length xs) (xs ++ ys) xs (same_append xs ys)

pub at_same : {X : Type 0} (f : Body → Option X) (n : ℕ) (xs ys : List Record) → IsSameTo n xs ys → (k : ℕ)
    → k < n
    → at f xs k ≡ at f ys k
at_same f n xs ys same k below = ap (option_and_then (λ (r : Record). f r.body)) (same.there k below)

pub thread_same : (n : ℕ) (xs ys : List Record) → IsSameTo n xs ys → (k : ℕ) → k < n
    → thread_at xs k ≡ thread_at ys k
thread_same n xs ys same k below = ap (option_map (λ (r : Record). r.thread)) (same.there k below)

pub seen_same : (n : ℕ) (xs ys : List Record) → IsSameTo n xs ys → (k : ℕ) → k < n
    → seen_at xs k ≡ seen_at ys k
seen_same n xs ys same k below = ap (λ o. option_map_or (λ (r : Record). r.seen) o 0) (same.there k below)

pub nests_same : (n : ℕ) (xs ys : List Record) → IsSameTo n xs ys → (k : ℕ) → k < n
    → nests_at xs k ≡ nests_at ys k
nests_same n xs ys same k below =
    ap (λ o. option_map_or (λ (r : Record). r.nests) o false) (same.there k below)

-- ---- causes of a record and those before it

pub seq_same : (n : ℕ) (xs ys : List Record) → IsSameTo n xs ys → (i : ℕ) → i < n → HasSeqGap xs i
    → HasSeqGap ys i
seq_same n xs ys same i below (r, stands, gap) = (
  r,
  sym (same.there i below) ∙ stands,
  λ is.
      let first = sym (same.before i (omega (arith, below))) in
      gap (is ∙ ap (count_by (λ (q : Record). q.thread == r.thread)) first),
)

pub made_same : (n : ℕ) (xs ys : List Record) → IsSameTo n xs ys → (i : ℕ) → i < n → IsMadeAgain xs i
    → IsMadeAgain ys i
made_same n xs ys same i below (task, k, earlier, first, again) = (
  task,
  k,
  earlier,
  sym (at_same made n xs ys same k (omega (arith, earlier, below))) ∙ first,
  sym (at_same made n xs ys same i below) ∙ again,
)

pub forked_same : (n : ℕ) (xs ys : List Record) → IsSameTo n xs ys → (i : ℕ) → i < n → IsForkedAgain xs i
    → IsForkedAgain ys i
forked_same n xs ys same i below (parallel, k, own, other, earlier, first, again) = (
  parallel,
  k,
  own,
  other,
  earlier,
  sym (at_same forked n xs ys same k (omega (arith, earlier, below))) ∙ first,
  sym (at_same forked n xs ys same i below) ∙ again,
)
