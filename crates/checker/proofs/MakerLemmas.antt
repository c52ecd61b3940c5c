-- How the table of the records that make entries grows, and the ledger length that it tells.
use Rattle.std.proofs.Common.{◌≡◌, ◌≢◌, ◌∙◌, ℕ, ◌<◌, ◌≤◌, ◌+◌, List, length, Bool, sym, ap, arith, inl, inr}
use Rattle.std.proofs.Common.{set}
use Rattle.std.proofs.lemmas.Bool.{cases_eq, cases_lt}
use Rattle.std.proofs.lemmas.List.{length-set, get_or-set_same, get_or-set_other}
use Rattle.std.specs.Prelude.{slice_index}
use Rattle.ompt_events.specs.declared.records.Record.{Record}
use Rattle.ompt_events.specs.declared.cause.Cause.TheVariants.{LengthAhead}
use Rattle.ompt_events.specs.Places.{seen_at}
use Rattle.ompt_events.specs.HappensBefore.{IsFinishing}
use Rattle.ompt_events.specs.Causes.{entries_in, ledger_length, length_ahead, IsFreeOf}
use Rattle.ompt_events.proofs.HappensBeforeLemmas.{finishing_within}
use Rattle.checker.specs.Entries.{AreEntryPlaces}
use Rattle.checker.specs.Merge.{Stands, IsUnplaced, IsLow}
use Rattle.checker.proofs.MergeLemmas.{stands_same}

-- a finishing record whose entry was not named before
pub makers_more : (rs : List Record) (n seen : ℕ) (old new : List ℕ) → AreEntryPlaces rs n old → n < length rs
    → IsFinishing rs n → seen_at rs n ≡ seen → (seen < length old → length rs ≤ slice_index old seen)
    → new ≡ set old seen n → AreEntryPlaces rs (n + 1) new
makers_more rs n seen old new are inside finishes is free noted = rw noted (record {
  each = λ i below finishing low. elim (cases_eq i n) [
    | inl same ↦
        let here = ap (seen_at rs) same in
        let within : seen < length old = rw (length-set old seen n, here, is) at low in
        ap (slice_index (set old seen n)) (here ∙ is) ∙ get_or-set_same old seen n 0 within ∙ sym same
    | inr apart ↦
        let within : seen_at rs i < length old = rw (length-set old seen n) at low in
        let before = are.each i (omega (arith, below, apart)) finishing within in
        let other : seen_at rs i ≢ seen =
        (λ same.
        let there = ap (slice_index old) (sym same) ∙ before in
        let past = free (let l = within in omega (arith, l, same)) in
        let real = finishing_within rs i finishing in omega (arith, past, there, real)) in
        get_or-set_other old seen (seen_at rs i) n 0 other ∙ before
  ];
  only = λ entry below low. elim (cases_eq entry seen) [
    | inl same ↦
        let within : seen < length old = rw (length-set old seen n, same) at below in
        let here : slice_index (set old seen n) entry ≡ n =
        ap (slice_index (set old seen n)) same ∙ get_or-set_same old seen n 0 within in
        rw here (finishes, is ∙ sym same)
    | inr apart ↦
        let there : slice_index (set old seen n) entry ≡ slice_index old entry =
        get_or-set_other old seen entry n 0 apart in
        rw there (are.only entry (rw (length-set old seen n) at below) (rw there at low))
  ];
})

-- the first entry whose record doesn't stand tells the length that is reached
pub low_reached : (rs : List Record) (placed : List Bool) (makers : List ℕ) (low : ℕ)
    → AreEntryPlaces rs (length rs) makers → length makers ≡ entries_in rs → IsFreeOf rs LengthAhead
    → length placed ≡ length rs → low ≤ length makers
    → ((k : ℕ) → k < low → slice_index makers k < length placed → Stands placed (slice_index makers k))
    → (low < length makers → IsUnplaced placed (slice_index makers low)) → IsLow rs placed low
low_reached rs placed makers low are entries reached all within passed missing = record {
  below = λ i finishes less.
      let is = are.each i (finishing_within rs i finishes) finishes (omega (arith, less, within)) in
      stands_same placed (slice_index makers (seen_at rs i)) i is
      (passed (seen_at rs i) less (rw (is, all) (finishing_within rs i finishes)));
  next = λ i more. elim (cases_lt low (length makers)) [
    | inl inside ↦
        let lacks = missing inside in
        let made = are.only low inside (rw all at lacks.within) in
        (slice_index makers low, made.0, made.1, lacks.missing)
    | inr past ↦ absurd (reached i (length_ahead (ledger_length (omega (arith, more, past, entries)))))
  ];
}
