-- What each thread knows of the ledger, and which record is the first that names less than was known.
use Rattle.std.proofs.Common.{◌≡◌, ◌≢◌, ◌∙◌, ℕ, ◌<◌, ◌≤◌, ◌+◌, Bool, true, false, cond, List, length, get_or}
use Rattle.std.proofs.Common.{set, replicate, Option, Some, None, sym, ap, arith, inl, inr, ◌⊎◌, ltb}
use Rattle.std.proofs.Common.{get_or-set_same, get_or-set_other}
use Rattle.std.specs.Prelude.{◌↔◌, IsTrue, is_some}
use Rattle.std.proofs.lemmas.Bool.{false≢true, cases_eq, cases_lt, ltb-true, lt-ltb}
use Rattle.std.proofs.lemmas.Option.{none-some, same_Some}
use Rattle.std.proofs.lemmas.List.{length-set, length-replicate, get_or-replicate}
use Rattle.ompt_events.specs.declared.records.Record.{Record}
use Rattle.ompt_events.specs.declared.cause.Cause.TheVariants.{LengthBack}
use Rattle.ompt_events.specs.Records.{finish}
use Rattle.ompt_events.specs.Places.{at, thread_at, seen_at}
use Rattle.ompt_events.specs.HappensBefore.{IsProgramStep, thread_order, creation, resumption, discard}
use Rattle.ompt_events.specs.HappensBefore.{fulfilment}
use Rattle.ompt_events.specs.Causes.{HasCause, IsBehind, known_after, length_back, IsFreeOf, IsFirstWith}
use Rattle.ompt_events.proofs.TurnLemmas.{start_starts}
use Rattle.ompt_events.proofs.PlaceLemmas.{at_within}
use Rattle.checker.specs.Lengths.{PrecedesAwaited, AreKnownLengths}
use Rattle.checker.specs.Schedule.{Awaits, EachAwaitsOne}
use Rattle.checker.proofs.ScheduleLemmas.{program_awaits, awaits_program, known_awaited, awaits_within}

-- ---- what a record knows

pub known_least : (rs : List Record) (i : ℕ) → seen_at rs i ≤ known_after rs i
known_least rs i = of (is_some (at finish rs i))
  where
    of : (b : Bool) → seen_at rs i ≤ cond b (seen_at rs i + 1) (seen_at rs i)
    of true = omega arith
    of false = omega arith

-- ---- what a thread knows

pub known_start : (rs : List Record) → AreKnownLengths rs 0 (replicate 256 0)
known_start rs = record {
  all = length-replicate {A = ℕ} 256 0;
  most = λ k thread below is. absurd (omega (arith, below));
  last = λ thread more. absurd (none_known thread more);
}
  where
    none_known : (thread : ℕ) → 0 < get_or (replicate 256 0) thread 0 → ⊥
    none_known thread more = elim (cases_lt thread 256) [
      | inl less ↦
          let zero_there : get_or (replicate 256 0) thread 0 ≡ 0 =
          get_or-replicate {A = ℕ} 256 thread 0 0 less in
          omega (arith, more, zero_there)
      | inr past ↦
          let zero_there : get_or (replicate 256 0) thread 0 ≡ 0 =
          Rattle.std.proofs.lemmas.List.get_or_past {X = ℕ} (replicate 256 0) thread 0
          (let len = length-replicate {A = ℕ} 256 0 in omega (arith, past, len)) in
          omega (arith, more, zero_there)
    ]

pub known_raised : (rs : List Record) (n own after : ℕ) (known : List ℕ) → thread_at rs n ≡ Some own
    → own < 256 → after ≡ known_after rs n → get_or known own 0 ≤ after → AreKnownLengths rs n known
    → AreKnownLengths rs (n + 1) (set known own after)
known_raised rs n own after known runs low is more are = record {
  all = length-set known own after ∙ are.all;
  most = λ k thread below its. most k thread below its (cases_eq thread own);
  last = λ thread positive. last thread positive (cases_eq thread own);
}
  where
    there : (thread : ℕ) → thread ≡ own → get_or (set known own after) thread 0 ≡ known_after rs n
    there thread same =
        ap (λ t. get_or (set known own after) t 0) same
        ∙ get_or-set_same known own after 0 (let all = are.all in omega (arith, low, all)) ∙ is

    elsewhere : (thread : ℕ) → thread ≢ own → get_or (set known own after) thread 0 ≡ get_or known thread 0
    elsewhere thread apart = get_or-set_other known own thread after 0 apart

    own_thread : (k thread : ℕ) → k ≡ n → thread_at rs k ≡ Some thread → thread ≡ own
    own_thread k thread same here = same_Some thread own (sym here ∙ ap (thread_at rs) same ∙ runs)

    most : (k thread : ℕ) → k < n + 1 → thread_at rs k ≡ Some thread → (thread ≡ own) ⊎ (thread ≢ own)
        → known_after rs k ≤ get_or (set known own after) thread 0
    most k thread below its (inl same) = elim (cases_eq k n) [
      | inl here ↦
          let value = there thread same in let knows = ap (known_after rs) here in omega (arith, value, knows)
      | inr before ↦
          let value = there thread same in
          let old = are.most k thread (omega (arith, below, before)) its in
          let slot = ap (λ t. get_or known t 0) same in
          omega (arith, value, is, old, slot, more)
    ]
    most k thread below its (inr apart) =
        let value = elsewhere thread apart in
        let old = are.most k thread (before (cases_eq k n)) its in
        omega (arith, value, old)
      where
        before : (k ≡ n) ⊎ (k ≢ n) → k < n
        before (inl here) = absurd (apart (own_thread k thread here its))
        before (inr not_here) = omega (arith, below, not_here)

    last : (thread : ℕ) → 0 < get_or (set known own after) thread 0 → (thread ≡ own) ⊎ (thread ≢ own)
        → (k : ℕ) × (k < n + 1) × (thread_at rs k ≡ Some thread)
        × (known_after rs k ≡ get_or (set known own after) thread 0)
    last thread positive (inl same) = (n, omega arith, runs ∙ ap Some (sym same), sym (there thread same))
    last thread positive (inr apart) =
        let value = elsewhere thread apart in
        let old = are.last thread (omega (arith, positive, value)) in
        (old.0, omega (arith, old.1), old.2, old.3 ∙ sym value)

pub known_more : (rs : List Record) (n own after : ℕ) (known : List ℕ) → thread_at rs n ≡ Some own → own < 256
    → after ≡ known_after rs n → get_or known own 0 ≤ seen_at rs n → AreKnownLengths rs n known
    → AreKnownLengths rs (n + 1) (set known own after)
known_more rs n own after known runs low is more are =
    known_raised rs n own after known runs low is
    (let least = known_least rs n in omega (arith, is, more, least)) are

-- ---- the first that names less

pub behind : (rs : List Record) (i : ℕ) → HasCause rs i LengthBack → IsBehind rs i
behind rs i (length_back has) = has

pub behind_known : (rs : List Record) (n thread : ℕ) (known : List ℕ) → n < length rs
    → thread_at rs n ≡ Some thread → seen_at rs n < get_or known thread 0 → AreKnownLengths rs n known
    → IsBehind rs n
behind_known rs n thread known within own less are =
    let last = are.last thread (omega (arith, less)) in
    let value = last.3 in
    (last.0, thread_order last.1 within (last.2 ∙ sym own), omega (arith, less, value))

pub step_behind : (rs : List Record) (c i : ℕ) → IsProgramStep rs c i → seen_at rs i < seen_at rs c
    → IsBehind rs i
step_behind rs c i step less = (c, step, let least = known_least rs c in omega (arith, least, less))

pub behind_awaited : (rs : List Record) (n : ℕ) → EachAwaitsOne rs → ((k : ℕ) → k < n → IsBehind rs k → ⊥)
    → PrecedesAwaited rs n → IsBehind rs n
behind_awaited rs n facts free (c, awaits, less) = elim (awaits_program rs n c facts awaits) [
  | inl is ↦ step_behind rs c n is less
  | inr (s, is, earlier) ↦ elim (cases_lt (seen_at rs s) (seen_at rs c)) [
    | inl back ↦ absurd (free s earlier.earlier (step_behind rs c s is back))
    | inr on ↦
        let least = known_least rs s in
        (s, thread_order earlier.earlier earlier.within earlier.same, omega (arith, least, on, less))
  ]
]

pub not_behind : (rs : List Record) (n thread : ℕ) (known : List ℕ) → EachAwaitsOne rs
    → thread_at rs n ≡ Some thread → get_or known thread 0 ≤ seen_at rs n → (PrecedesAwaited rs n → ⊥)
    → AreKnownLengths rs n known → IsBehind rs n → ⊥
not_behind rs n thread known facts own more none are (k, is, less) = elim (program_awaits rs k n facts is) [
  | inl earlier ↦
      let most = are.most k thread earlier.earlier (earlier.same ∙ own) in omega (arith, most, more, less)
  | inr awaits ↦ let knows = known_awaited rs n k awaits in none (k, awaits, omega (arith, knows, less))
]

pub first_back : (rs : List Record) (n : ℕ) → n < length rs → IsBehind rs n
    → ((k : ℕ) → k < n → IsBehind rs k → ⊥) → IsFirstWith rs LengthBack n
first_back rs n within is free = record {
  within = within;
  has = length_back is;
  first = λ k below has. free k below (behind rs k has);
}

pub step_within : (rs : List Record) (a b : ℕ) → IsProgramStep rs a b → b < length rs
step_within rs a b (thread_order below within same) = within
step_within rs a b (creation task creates start) =
    at_within Rattle.ompt_events.specs.Records.started rs b task (start_starts rs b task start)
step_within rs a b (resumption again) =
    at_within Rattle.ompt_events.specs.Records.begun_turn rs b (again.task, again.turn + 1) again.resumes
step_within rs a b (discard task creates gone) =
    at_within Rattle.ompt_events.specs.Records.discarded rs b task gone
step_within rs a b (fulfilment task creates fulfils) =
    at_within Rattle.ompt_events.specs.Records.fulfilled rs b task fulfils

pub free_of_back : (rs : List Record) (n : ℕ) → ((k : ℕ) → k < n → IsBehind rs k → ⊥) → length rs ≤ n
    → IsFreeOf rs LengthBack
free_of_back rs n free end i has =
    let is = behind rs i has in
    let within = step_within rs is.0 i is.1 in
    free i (omega (arith, within, end)) is

-- ---- what a record awaits

pub precedes_is : (rs : List Record) (i place own other : ℕ) (found : Option ℕ)
    → ((c : ℕ) → (found ≡ Some c) ↔ Awaits rs i c) → found ≡ Some place → own ≡ seen_at rs i
    → other ≡ seen_at rs place → IsTrue (ltb own other) ↔ PrecedesAwaited rs i
precedes_is rs i place own other found awaits is seen there = (
  λ less. (place, (awaits place).0 is, let lt = ltb-true own other less in omega (arith, lt, seen, there)),
  λ (c, waits, less).
      let same = same_Some c place (sym ((awaits c).1 waits) ∙ is) in
      let value = ap (seen_at rs) same in
      lt-ltb own other (omega (arith, less, value, seen, there)),
)

pub precedes_none : (rs : List Record) (i : ℕ) (found : Option ℕ)
    → ((c : ℕ) → (found ≡ Some c) ↔ Awaits rs i c) → found ≡ None → IsTrue false ↔ PrecedesAwaited rs i
precedes_none rs i found awaits is =
    (λ no. absurd (false≢true no), λ (c, waits, less). absurd (none-some c (sym is ∙ (awaits c).1 waits)))

pub awaited_within : (rs : List Record) (i place : ℕ) (found : Option ℕ)
    → ((c : ℕ) → (found ≡ Some c) ↔ Awaits rs i c) → found ≡ Some place → place < length rs
awaited_within rs i place found awaits is = awaits_within rs i place ((awaits place).0 is)
