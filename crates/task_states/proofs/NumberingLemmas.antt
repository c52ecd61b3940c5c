-- How the records of each thread are counted, and when one breaks its thread's count.
use Rattle.std.proofs.Common.{◌≡◌, ◌≢◌, ◌∙◌, ℕ, ◌<◌, ◌≤◌, ◌+◌, ◌==◌, List, length, take, get_or, set, arith}
use Rattle.std.proofs.Common.{sym, ap, subst, get_or-set_other, get_or-set_same, eq-eqb, inl, inr}
use Rattle.std.specs.Prelude.{◌↔◌, IsTrue, not, count_by}
use Rattle.std.proofs.lemmas.Bool.{cases_eq, ne_eqb, false≢true}
use Rattle.std.proofs.lemmas.List.Sums.{count_by_more_yes, count_by_more_no}
use Rattle.std.proofs.lemmas.Option.{slice_get_within, same_Some}
use Rattle.ompt_events.specs.declared.records.Record.{Record}
use Rattle.ompt_events.proofs.PlaceLemmas.{read_get}
use Rattle.ompt_events.specs.declared.cause.Cause.TheVariants.{SeqGap}
use Rattle.ompt_events.specs.Shown.{AreAllBelow, AreAllWith}
use Rattle.ompt_events.proofs.ShownLemmas.{all_with}
use Rattle.ompt_events.specs.Causes.{HasCause, HasSeqGap, seq_gap, IsFirstWith, IsFreeOf}

-- how many records of the thread stand before i
abbrev pub thread_records_before : List Record → ℕ → ℕ → ℕ
thread_records_before rs i thread = count_by (λ (q : Record). q.thread == thread) (take i rs)

pub is_seq_gap : (rs : List Record) (i : ℕ) → HasCause rs i SeqGap → HasSeqGap rs i
is_seq_gap rs i (seq_gap has) = has

-- the record that was read has the number of its thread's earlier ones
pub no_seq_gap : (rs : List Record) (i : ℕ) (r : Record) → i < length rs → r ≡ get_or rs i r
    → r.seq ≡ thread_records_before rs i r.thread → HasSeqGap rs i → ⊥
no_seq_gap rs i r within read numbered (q, found, apart) =
    let same : q ≡ r = same_Some q r (sym found ∙ read_get rs i r within read) in
    apart (subst (λ (x : Record). x.seq ≡ thread_records_before rs i x.thread) (sym same) numbered)

-- one record more is counted for its own thread
pub counted_more : (rs : List Record) (i : ℕ) (r : Record) (counts : List ℕ) → i < length rs
    → r ≡ get_or rs i r → r.thread < length counts
    → ((t : ℕ) → t < 256 → get_or counts t 0 ≡ thread_records_before rs i t)
    → (t : ℕ) → t < 256
    → get_or (set counts r.thread (get_or counts r.thread 0 + 1)) t 0 ≡ thread_records_before rs (i + 1) t
counted_more rs i r counts within read fits counted t below = elim (cases_eq t r.thread) [
  | inl same ↦
      let here : (get_or rs i r).thread ≡ t = ap (λ (q : Record). q.thread) (sym read) ∙ sym same in
      let more : thread_records_before rs (i + 1) t ≡ thread_records_before rs i t + 1 =
      count_by_more_yes (λ (q : Record). q.thread == t) rs i r within
      (eq-eqb (get_or rs i r).thread t here) in
      ap (λ j. get_or (set counts r.thread (get_or counts r.thread 0 + 1)) j 0) same
      ∙ get_or-set_same counts r.thread (get_or counts r.thread 0 + 1) 0 fits
      ∙ ap (λ j. get_or counts j 0 + 1) (sym same)
      ∙ ap (λ n. n + 1) (counted t below)
      ∙ sym more
  | inr apart ↦
      let here : (get_or rs i r).thread ≢ t = λ e. apart (sym e ∙ ap (λ (q : Record). q.thread) (sym read)) in
      let same : thread_records_before rs (i + 1) t ≡ thread_records_before rs i t =
      count_by_more_no (λ (q : Record). q.thread == t) rs i r within
      (ne_eqb (get_or rs i r).thread t here) in
      get_or-set_other counts r.thread t (get_or counts r.thread 0 + 1) 0 apart
      ∙ counted t below
      ∙ sym same
]

-- the first record with another number
pub first_gap : (rs : List Record) (i : ℕ) (r : Record) → i < length rs → r ≡ get_or rs i r
    → r.seq ≢ thread_records_before rs i r.thread → ((k : ℕ) → k < i → HasSeqGap rs k → ⊥)
    → IsFirstWith rs SeqGap i
first_gap rs i r within read apart free = record {
  within = within;
  has = seq_gap (r, read_get rs i r within read, apart);
  first = λ k below has. free k below (is_seq_gap rs k has);
}

-- where no record up to the end has another number, none has
pub free_of_gaps : (rs : List Record) (i : ℕ) → ((k : ℕ) → k < i → HasSeqGap rs k → ⊥) → length rs ≤ i
    → IsFreeOf rs SeqGap
free_of_gaps rs i free end k has =
    let gap = is_seq_gap rs k has in
    let within : k < length rs = slice_get_within rs k gap.0 gap.1 in
    free k (omega arith) gap

-- whether the record that was read has another number
pub other_number : (rs : List Record) (i : ℕ) (r : Record) (seq count : ℕ) → i < length rs
    → r ≡ get_or rs i r → r.seq ≡ seq → count ≡ thread_records_before rs i r.thread
    → IsTrue (not (seq == count)) ↔ HasSeqGap rs i
other_number rs i r seq count within read number counted = (
  λ yes. (
    r,
    read_get rs i r within read,
    λ same.
        false≢true
        (sym (ap not (eq-eqb seq count (sym number ∙ same ∙ sym counted))) ∙ yes),
  ),
  λ has. ap not (ne_eqb seq count (λ same. no_seq_gap rs i r within read (number ∙ same ∙ counted) has)),
)

-- the places that were found up to the end are all
pub all_gaps : (rs : List Record) (n : ℕ) (places : List ℕ) → length rs ≡ n
    → AreAllBelow (HasSeqGap rs) n places → AreAllWith rs SeqGap places
all_gaps rs n places all are =
    all_with rs SeqGap (HasSeqGap rs) n places all (λ i gap. seq_gap gap)
    (λ i has.
    let gap = is_seq_gap rs i has in
    let inside = slice_get_within rs i gap.0 gap.1 in (omega (arith, inside, all), gap))
    are
