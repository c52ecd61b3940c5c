-- What is counted over all buffers, and buffers next to one another.
use Rattle.std.proofs.Common.{◌≡◌, ℕ, suc, zero, ◌≤◌, ◌<◌, ◌+◌, List, [], ◌∷◌, ◌++◌, length, take, get_or}
use Rattle.std.proofs.Common.{Some, refl, ap, subst, arith}
use Rattle.std.specs.Prelude.{◌≢◌, slice_get, is_some, if◌then◌else◌}
use Rattle.std.specs.List.Sorted.{IsNonDecreasingBy}
use Rattle.std.proofs.lemmas.List.{length-append}
use Rattle.std.proofs.lemmas.List.Sums.{sum_by-append}
use Rattle.std.proofs.lemmas.Option.{none-some, same_Some, slice_get_within, slice_get-get_or}
use Rattle.std.proofs.lemmas.Option.{get_or_from_slice_get}
use Rattle.ompt_events.specs.declared.records.Record.{Record}
use Rattle.ompt_events.specs.Records.{finish, made}
use Rattle.callbacks.specs.Buffers.{BufferView}
use Rattle.callbacks.specs.declared.gathering.Counted.{Counted}
use Rattle.callbacks.specs.declared.gathering.Counted.TheVariants.{Entries, Records, Tasks}
use Rattle.callbacks.specs.Gathered.{gathered, HaveOwnThreads, count_of}

pub count-append : (what : Counted) (xs ys : List Record)
    → count_of what (xs ++ ys) ≡ count_of what xs + count_of what ys
count-append Entries xs ys = sum_by-append (λ r. if is_some (finish r.body) then 1 else 0) xs ys
count-append Records xs ys = length-append xs ys
count-append Tasks xs ys = sum_by-append (λ r. if is_some (made r.body) then 1 else 0) xs ys

-- a buffer and those before it have no more than all
pub count-below : (what : Counted) (buffers : List BufferView) (i : ℕ) (b : BufferView)
    → slice_get buffers i ≡ Some b
    → count_of what (gathered (take i buffers)) + count_of what b.records ≤ count_of what (gathered buffers)
count-below what [] i b is = absurd (none-some b is)
count-below what (x ∷ buffers) zero b is =
    let same : count_of what x.records ≡ count_of what b.records =
    ap (λ (y : BufferView). count_of what y.records) (same_Some x b is) in
    omega (arith, same, count-append what x.records (gathered buffers), count-none what)
  where
    count-none : (w : Counted) → count_of w [] ≡ 0
    count-none Entries = refl
    count-none Records = refl
    count-none Tasks = refl
count-below what (x ∷ buffers) (suc i) b is =
    omega (
      arith,
      count-below what buffers i b is,
      count-append what x.records (gathered buffers),
      count-append what x.records (gathered (take i buffers)),
    )

-- where each differs from the next one, no two are the same
pub apart-from_next : (buffers : List BufferView) → IsNonDecreasingBy (λ (b : BufferView). b.thread) buffers
    → ((i : ℕ) (a b : BufferView) → i + 1 < length buffers → slice_get buffers i ≡ Some a
    → slice_get buffers (i + 1) ≡ Some b → a.thread ≢ b.thread)
    → HaveOwnThreads buffers
apart-from_next buffers sorted next i j a b less is_a is_b same =
    let far = slice_get_within buffers j b is_b in
    let c : BufferView = get_or buffers (i + 1) a in
    let is_c = slice_get-get_or buffers (i + 1) a (omega (arith, less, far)) in
    let low = sorted i (i + 1) a (omega arith) (omega (arith, less, far)) in
    let high = sorted (i + 1) j a (omega (arith, less)) far in
    let first : get_or buffers i a ≡ a = get_or_from_slice_get buffers i a a is_a in
    let last : get_or buffers j a ≡ b = get_or_from_slice_get buffers j b a is_b in
    let from : a.thread ≤ c.thread = subst (λ (x : BufferView). x.thread ≤ c.thread) first low in
    let to : c.thread ≤ b.thread = subst (λ (x : BufferView). c.thread ≤ x.thread) last high in
    next i a c (omega (arith, less, far)) is_a is_c (omega (arith, from, to, same))
