-- How many entries there are before a record, and when file order is an order.
use Rattle.std.proofs.Common.{zero-add, ◌≡◌, ◌∙◌, ℕ, ◌<◌, ◌≤◌, ◌+◌, false, cond, List, length, take}
use Rattle.std.proofs.Common.{sym, ap, subst, arith}
use Rattle.std.specs.Prelude.{is_some, Contains, ⊤}
use Rattle.std.proofs.lemmas.List.{take-take, length-take, get_or-take}
use Rattle.std.proofs.lemmas.List.Sums.{sum_by-take-le, count_by_more_yes, count_by_more_no}
use Rattle.std.proofs.lemmas.List.FromFn.{length-range_with_len, get_or-range_with_len}
use Rattle.std.proofs.lemmas.List.Sorted.{IsPermutation-refl}
use Rattle.ompt_events.specs.declared.records.Record.{Record}
use Rattle.ompt_events.specs.Records.{finish}
use Rattle.ompt_events.specs.Places.{at, places}
use Rattle.ompt_events.specs.HappensBefore.{IsFinishing, IsStep, HappensBefore, step, chain}
use Rattle.ompt_events.specs.Linearization.{IsLinearization, IsGreedy, IsFirstReady}
use Rattle.ompt_events.specs.Causes.{entries_in, entries_before}
use Rattle.ompt_events.proofs.ListLemmas.{get_within}
use Rattle.ompt_events.proofs.PlaceLemmas.{at_index}
use Rattle.ompt_events.proofs.HappensBeforeLemmas.{before_to, finishing_within}

-- ---- how many entries there are before a record

pub entries_same : (rs : List Record) (n : ℕ) → n < length rs → is_some (at finish rs n) ≡ false
    → entries_before rs (n + 1) ≡ entries_before rs n
entries_same rs n within none =
    let (r, here) = get_within rs n within in
    count_by_more_no (λ (q : Record). is_some (finish q.body)) rs n r within
    (sym (ap is_some (at_index finish rs n r within)) ∙ none)

pub entries_more : (rs : List Record) (n : ℕ) → IsFinishing rs n
    → entries_before rs (n + 1) ≡ entries_before rs n + 1
entries_more rs n finishes =
    let within = finishing_within rs n finishes in
    let (r, here) = get_within rs n within in
    count_by_more_yes (λ (q : Record). is_some (finish q.body)) rs n r within
    (sym (ap is_some (at_index finish rs n r within)) ∙ finishes)

-- with more records there are no fewer
pub entries_le : (rs : List Record) (k n : ℕ) → k ≤ n → entries_before rs k ≤ entries_before rs n
entries_le rs k n low =
    let same : entries_in (take k (take n rs)) ≡ entries_before rs k = ap entries_in (take-take k n rs low) in
    let fewer : entries_in (take k (take n rs)) ≤ entries_before rs n =
    sum_by-take-le (λ (r : Record). cond (is_some (finish r.body)) 1 0) (take n rs) k in
    omega (arith, same, fewer)

pub entries_all : (rs : List Record) (n : ℕ) → entries_before rs n ≤ entries_in rs
entries_all rs n = sum_by-take-le (λ (r : Record). cond (is_some (finish r.body)) 1 0) rs n

-- and behind one that makes an entry more
pub entries_less : (rs : List Record) (k n : ℕ) → IsFinishing rs k → k < n
    → entries_before rs k < entries_before rs n
entries_less rs k n makes low =
    let more = entries_more rs k makes in
    let most = entries_le rs (k + 1) n (omega (arith, low)) in
    omega (arith, more, most)

-- ---- when file order is an order

-- a chain of steps leads on
before_less : (rs : List Record) → ((a b : ℕ) → IsStep rs a b → a < b) → (a b : ℕ) → HappensBefore rs a b
    → a < b
before_less rs steps a b (step s) = steps a b s
before_less rs steps a b (chain {b = mid} first second) =
    let one = before_less rs steps a mid first in
    let two = before_less rs steps mid b second in
    omega (arith, one, two)

-- file order is a linearization where each step leads on, and the greedy one
pub file_linear : (rs : List Record) → ((a b : ℕ) → IsStep rs a b → a < b) → IsLinearization rs (places rs)
file_linear rs steps = record {
  all_once = IsPermutation-refl (places rs);
  rising = λ a b before.
      let inside = before_to rs a b before in
      record {
        first = a;
        second = b;
        apart = before_less rs steps a b before;
        within = rw (length-range_with_len 0 (length rs)) inside;
        a_stands =
            get_or-range_with_len 0 (length rs) a 0
            (let less = before_less rs steps a b before in omega arith)
            ∙ zero-add a;
        b_stands = get_or-range_with_len 0 (length rs) b 0 inside ∙ zero-add b;
      };
}

pub file_greedy : (rs : List Record) → ((a b : ℕ) → IsStep rs a b → a < b) → IsGreedy rs (places rs)
file_greedy rs steps k below =
    let inside : k < length rs = rw (length-range_with_len 0 (length rs)) at below in
    let P : ℕ → Type 0 = λ i. IsFirstReady rs (λ _. ⊤) (take k (places rs)) i in
    subst P (sym (get_or-range_with_len 0 (length rs) k 0 inside ∙ zero-add k)) (record {
      ready = record {
        within = inside;
        taken = tt;
        missing = λ c. let h = taken_below k c in absurd (omega arith);
        due = λ a before. below_taken k inside a (before_less rs steps a k before);
      };
      first = λ j earlier ready. ready.missing (below_taken k inside j earlier);
    })
  where
    taken_below : (n : ℕ) {i : ℕ} → Contains (take n (places rs)) i → i < n
    taken_below n {i} (q, low, is) =
        let q_low : q < n = let t = length-take n (places rs) in omega (arith, low, t) in
        let q_in : q < length rs =
        let t = length-take n (places rs) in
        let l = length-range_with_len 0 (length rs) in omega (arith, low, t, l) in
        let same : q ≡ i =
        sym (get_or-range_with_len 0 (length rs) q i q_in ∙ zero-add q)
        ∙ sym (get_or-take n (places rs) q i q_low) ∙ is in
        omega arith

    below_taken : (n : ℕ) → n < length rs → (i : ℕ) → i < n → Contains (take n (places rs)) i
    below_taken n inside i low = (
      i,
      (let t = length-take n (places rs) in
          let l = length-range_with_len 0 (length rs) in omega (arith, t, l)),
      get_or-take n (places rs) i i low ∙ get_or-range_with_len 0 (length rs) i i (omega arith)
          ∙ zero-add i,
    )
