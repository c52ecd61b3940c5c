-- Where a record of the gathered trace stands in the buffer of its thread.
use Rattle.std.proofs.Common.{◌≡◌, ◌∙◌, ℕ, zero, suc, ◌+◌, ◌<◌, ◌⊎◌, Bool, true, false, List, [], ◌∷◌}
use Rattle.std.proofs.Common.{◌++◌, length, take, get_or, Option, Some, refl, sym, ap, subst, arith}
use Rattle.std.proofs.Common.{inl, inr}
use Rattle.std.specs.Prelude.{◌==◌, All, slice_get, filter}
use Rattle.std.specs.Option.{option_map_or}
use Rattle.std.proofs.lemmas.Bool.{cases_order, eq-eqb, ne_eqb}
use Rattle.std.proofs.lemmas.Option.{none-some, same_Some, slice_get_within, slice_get-get_or}
use Rattle.std.proofs.lemmas.List.{append_assoc, length-append, take-append-le}
use Rattle.std.proofs.lemmas.List.Elements.{filter-append}
use Rattle.std.proofs.Math.Seq.{take-append-add}
use Rattle.ompt_events.specs.declared.records.Record.{Record}
use Rattle.ompt_events.specs.Places.{seen_at}
use Rattle.ompt_events.proofs.ListLemmas.{all_get, filter_none, filter_all}
use Rattle.callbacks.specs.Buffers.{BufferView}
use Rattle.credit_ledger.proofs.EntryLemmas.{get_take}
use Rattle.callbacks.specs.Logs.{Follows}
use Rattle.callbacks.specs.Closed.{ClosedView, IsBuffer, AreClosed}
use Rattle.callbacks.specs.Gathered.{gathered, HaveOwnThreads}

-- ---- lists

pub all_from_get : {X : Type 0} (P : X → Type 0) (xs : List X)
    → ((i : ℕ) (x : X) → slice_get xs i ≡ Some x → P x) → All P xs
all_from_get P xs each i d within = each i (get_or xs i d) (slice_get-get_or xs i d within)

pub get_first : {X : Type 0} (xs ys : List X) (i : ℕ) (x : X) → slice_get xs i ≡ Some x
    → slice_get (xs ++ ys) i ≡ Some x
get_first [] ys i x is = absurd (none-some x is)
get_first (z ∷ xs) ys zero x is = is
get_first (z ∷ xs) ys (suc i) x is = get_first xs ys i x is

pub get_second : {X : Type 0} (xs ys : List X) (i : ℕ) → slice_get (xs ++ ys) (length xs + i) ≡ slice_get ys i
get_second [] ys i = ap (slice_get ys) (omega arith)
get_second (z ∷ xs) ys i =
    ap (slice_get (z ∷ (xs ++ ys))) (let e : length (z ∷ xs) + i ≡ suc (length xs + i) = omega arith in e)
    ∙ get_second xs ys i

-- an element of two lists stands in the first one or in the second
abbrev IsInOne : {X : Type 0} → List X → List X → ℕ → X → Type 0
IsInOne xs ys i x = (slice_get xs i ≡ Some x) ⊎ ((j : ℕ) × (i ≡ length xs + j) × (slice_get ys j ≡ Some x))

get_cases : {X : Type 0} (xs ys : List X) (i : ℕ) (x : X) → slice_get (xs ++ ys) i ≡ Some x
    → IsInOne xs ys i x
get_cases [] ys i x is = inr (i, omega arith, is)
get_cases (z ∷ xs) ys zero x is = inl is
get_cases (z ∷ xs) ys (suc i) x is = elim (get_cases xs ys i x is) [
  | inl first ↦ inl first
  | inr second ↦ inr (second.0, omega (arith, second.1), second.2)
]

-- ---- records

-- the record at i is that at a place of a buffer, before which the earlier buffers stand
pub record IsGathered (buffers : List BufferView) (i : ℕ) (r : Record) : Type 0 where
  pub number : ℕ
  pub buffer : BufferView
  pub stands : slice_get buffers number ≡ Some buffer
  pub place : ℕ
  pub is : slice_get buffer.records place ≡ Some r
  pub here : i ≡ length (gathered (take number buffers)) + place
  pub before : take i (gathered buffers) ≡ gathered (take number buffers) ++ take place buffer.records

pub from_buffer : (buffers : List BufferView) (i : ℕ) (r : Record) → slice_get (gathered buffers) i ≡ Some r
    → IsGathered buffers i r
from_buffer [] i r is = absurd (none-some r is)
from_buffer (b ∷ buffers) i r is = elim (get_cases b.records (gathered buffers) i r is) [
  | inl first ↦ record {
    number = 0;
    buffer = b;
    stands = refl;
    place = i;
    is = first;
    here = omega arith;
    before = take-append-le i b.records (gathered buffers)
        (omega (arith, slice_get_within b.records i r first));
  }
  | inr (j, later, second) ↦ further j later (from_buffer buffers j r second)
]
  where
    further : (j : ℕ) → i ≡ length b.records + j → IsGathered buffers j r → IsGathered (b ∷ buffers) i r
    further j later from = record {
      number = suc from.number;
      buffer = from.buffer;
      stands = from.stands;
      place = from.place;
      is = from.is;
      here = let long = length-append b.records (gathered (take from.number buffers)) in
          omega (arith, later, from.here, long);
      before =
          ap (λ n. take n (b.records ++ gathered buffers)) later
          ∙ take-append-add b.records (gathered buffers) j
          ∙ ap (λ l. b.records ++ l) from.before
          ∙ sym (append_assoc b.records (gathered (take from.number buffers))
          (take from.place from.buffer.records));
    }

-- a record of a buffer stands in the trace
pub in_gathered : (buffers : List BufferView) (number place : ℕ) (b : BufferView) (r : Record)
    → slice_get buffers number ≡ Some b → slice_get b.records place ≡ Some r
    → slice_get (gathered buffers) (length (gathered (take number buffers)) + place) ≡ Some r
in_gathered [] number place b r stands is = absurd (none-some b stands)
in_gathered (c ∷ buffers) zero place b r stands is =
    ap (slice_get (gathered (c ∷ buffers))) (omega arith)
    ∙ get_first c.records (gathered buffers) place r
    (subst (λ (x : BufferView). slice_get x.records place ≡ Some r) (sym (same_Some c b stands)) is)
in_gathered (c ∷ buffers) (suc number) place b r stands is =
    let long = length-append c.records (gathered (take number buffers)) in
    let there : length (gathered (take (suc number) (c ∷ buffers))) + place
    ≡ length c.records + (length (gathered (take number buffers)) + place) = omega (arith, long) in
    ap (slice_get (gathered (c ∷ buffers))) there
    ∙ get_second c.records (gathered buffers) (length (gathered (take number buffers)) + place)
    ∙ in_gathered buffers number place b r stands is

-- what each record satisfies is what those of each buffer do
pub all_gathered : (P : Record → Type 0) (buffers : List BufferView)
    → ((i : ℕ) (b : BufferView) → slice_get buffers i ≡ Some b → All P b.records) → All P (gathered buffers)
all_gathered P buffers each = all_from_get P (gathered buffers) (λ i r is.
    let from = from_buffer buffers i r is in
    all_get P from.buffer.records from.place r (each from.number from.buffer from.stands) from.is)

pub all_of_buffer : (P : Record → Type 0) (buffers : List BufferView) (i : ℕ) (b : BufferView)
    → slice_get buffers i ≡ Some b → All P (gathered buffers) → All P b.records
all_of_buffer P buffers i b stands all = all_from_get P b.records (λ k r is.
    all_get P (gathered buffers) (length (gathered (take i buffers)) + k) r all
    (in_gathered buffers i k b r stands is))

-- ---- what stands at a place

pub seen_get : (rs : List Record) (i : ℕ) (r : Record) → slice_get rs i ≡ Some r → seen_at rs i ≡ r.seen
seen_get rs i r is = ap (λ (o : Option Record). option_map_or (λ (q : Record). q.seen) o 0) is

-- ---- buffers that are apart

-- what a record of closed recorders has in its buffer
pub buffer_of : (closed : ClosedView) (i : ℕ) (r : Record) → AreClosed closed
    → (from : IsGathered closed.buffers i r) → IsBuffer closed.entries from.buffer
buffer_of closed i r are from =
    all_get (IsBuffer closed.entries) closed.buffers from.number from.buffer are.buffers from.stands

pub follows_of : (closed : ClosedView) (i : ℕ) (r : Record) → AreClosed closed
    → (from : IsGathered closed.buffers i r)
    → Follows from.buffer.thread (take from.place from.buffer.records) r
follows_of closed i r are from = (buffer_of closed i r are from).orderly from.place r from.is

-- two buffers of one thread are one
same_buffer : (buffers : List BufferView) (m n : ℕ) (a b : BufferView) → HaveOwnThreads buffers
    → slice_get buffers m ≡ Some a → slice_get buffers n ≡ Some b → a.thread ≡ b.thread → m ≡ n
same_buffer buffers m n a b apart first second same = elim (cases_order m n) [
  | inl is ↦ is
  | inr (inl less) ↦ absurd (apart m n a b less first second same)
  | inr (inr more) ↦ absurd (apart n m b a more second first (sym same))
]

-- two records of one thread stand in one buffer, in the same order
pub record AreOfOne (buffers : List BufferView) (k i : ℕ) (q r : Record) : Type 0 where
  pub number : ℕ
  pub buffer : BufferView
  pub stands : slice_get buffers number ≡ Some buffer
  pub first : ℕ
  pub second : ℕ
  pub rises : first < second
  pub first_is : slice_get buffer.records first ≡ Some q
  pub second_is : slice_get buffer.records second ≡ Some r

pub of_one : (closed : ClosedView) (k i : ℕ) (q r : Record) → AreClosed closed → HaveOwnThreads closed.buffers
    → k < i → slice_get (gathered closed.buffers) k ≡ Some q → slice_get (gathered closed.buffers) i ≡ Some r
    → q.thread ≡ r.thread → AreOfOne closed.buffers k i q r
of_one closed k i q r are apart less first second same =
    let from = from_buffer closed.buffers k q first in
    let to = from_buffer closed.buffers i r second in
    let thread : from.buffer.thread ≡ to.buffer.thread =
    sym (follows_of closed k q are from).thread_is ∙ same ∙ (follows_of closed i r are to).thread_is in
    let one = same_buffer closed.buffers from.number to.number from.buffer to.buffer apart in
    let number = one from.stands to.stands thread in
    let buffer : from.buffer ≡ to.buffer = same_Some from.buffer to.buffer
    (sym from.stands ∙ ap (slice_get closed.buffers) number ∙ to.stands) in
    let begin = ap (λ n. length (gathered (take n closed.buffers))) number in
    record {
      number = to.number;
      buffer = to.buffer;
      stands = to.stands;
      first = from.place;
      second = to.place;
      rises = omega (arith, less, from.here, to.here, begin);
      first_is = subst (λ (b : BufferView). slice_get b.records from.place ≡ Some q) buffer from.is;
      second_is = to.is;
    }

-- whether a record is of the thread
abbrev is_of : ℕ → Record → Bool
is_of thread q = q.thread == thread

-- an earlier buffer is of another thread
other_thread : (closed : ClosedView) (i : ℕ) (r : Record) → AreClosed closed → HaveOwnThreads closed.buffers
    → (from : IsGathered closed.buffers i r) → (k : ℕ) (q : Record)
    → slice_get (gathered (take from.number closed.buffers)) k ≡ Some q → is_of r.thread q ≡ false
other_thread closed i r are apart from k q is =
    let early = from_buffer (take from.number closed.buffers) k q is in
    let (below, there) = get_take closed.buffers from.number early.number early.buffer early.stands in
    let each = all_get (IsBuffer closed.entries) closed.buffers early.number early.buffer are.buffers in
    let orderly = (each there).orderly in
    let its : q.thread ≡ early.buffer.thread = (orderly early.place q early.is).thread_is in
    let own : r.thread ≡ from.buffer.thread = (follows_of closed i r are from).thread_is in
    let differ = apart early.number from.number early.buffer from.buffer below there from.stands in
    ne_eqb q.thread r.thread (λ e. differ (sym its ∙ e ∙ own))

-- the earlier records of the buffer are of the same one
same_thread : (closed : ClosedView) (i : ℕ) (r : Record) → AreClosed closed
    → (from : IsGathered closed.buffers i r)
    → (k : ℕ) (q : Record) → slice_get (take from.place from.buffer.records) k ≡ Some q
    → is_of r.thread q ≡ true
same_thread closed i r are from k q is =
    let (below, there) = get_take from.buffer.records from.place k q is in
    let its = ((buffer_of closed i r are from).orderly k q there).thread_is in
    eq-eqb q.thread r.thread (its ∙ sym (follows_of closed i r are from).thread_is)

-- the records of the thread before i are those before it in its buffer
pub buffer_before : (closed : ClosedView) (i : ℕ) (r : Record) → AreClosed closed
    → HaveOwnThreads closed.buffers
    → (from : IsGathered closed.buffers i r)
    → filter (λ q. q.thread == r.thread) (take i (gathered closed.buffers))
    ≡ take from.place from.buffer.records
buffer_before closed i r are apart from =
    let earlier = gathered (take from.number closed.buffers) in
    let own = take from.place from.buffer.records in
    ap (filter (is_of r.thread)) from.before
    ∙ filter-append (is_of r.thread) earlier own
    ∙ ap (λ l. l ++ filter (is_of r.thread) own)
    (filter_none (is_of r.thread) earlier (other_thread closed i r are apart from))
    ∙ filter_all (is_of r.thread) own (same_thread closed i r are from)
