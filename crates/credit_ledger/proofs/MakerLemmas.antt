-- How the table of the records that make entries grows, and that it is full at the end.
use Rattle.std.proofs.Common.{◌≡◌, ◌∙◌, ℕ, zero, suc, ◌<◌, ◌+◌, Bool, true, false, List, [], ◌∷◌, length}
use Rattle.std.proofs.Common.{get_or, take}
use Rattle.std.proofs.Common.{Option, Some, None, refl, sym, ap, subst, arith, inl, inr}
use Rattle.std.specs.Int.{from_bool}
use Rattle.std.specs.Prelude.{count_by, is_some, slice_get, replicate}
use Rattle.std.proofs.Math.ListN.{set}
use Rattle.std.proofs.lemmas.Bool.{cases_eq, cases_lt}
use Rattle.std.proofs.lemmas.Option.{none-some, same_Some, slice_get_within, slice_get-get_or}
use Rattle.std.proofs.lemmas.Option.{get_or_from_slice_get}
use Rattle.std.proofs.lemmas.List.{length-set, length-replicate, take_all}
use Rattle.std.proofs.lemmas.List.Sums.{count_by_more_yes, count_by_more_no}
use Rattle.ompt_events.specs.declared.records.Record.{Record}
use Rattle.ompt_events.specs.declared.cause.Cause.TheVariants.{EntryTwice, LengthAhead}
use Rattle.ompt_events.specs.Records.{finish}
use Rattle.ompt_events.specs.Places.{at, seen_at}
use Rattle.ompt_events.specs.HappensBefore.{IsFinishing}
use Rattle.ompt_events.specs.Causes.{entry_twice, entries_in, entry, length_ahead, IsFreeOf}
use Rattle.ompt_events.proofs.FileOrderLemmas.{entries_same, entries_more}
use Rattle.task_tree.proofs.LinkLemmas.{get_set_same, get_set_other}
use Rattle.credit_ledger.specs.TraceMakers.{IsEntryRecord, free_entries, AreEntryRecords}

-- ---- entries without a record

free_set : (makers : List (Option ℕ)) (index place : ℕ) → slice_get makers index ≡ Some None
    → free_entries (set makers index (Some place)) + 1 ≡ free_entries makers
free_set [] index place is = absurd (none-some None is)
free_set (None ∷ makers) zero place is = omega arith
free_set (Some other ∷ makers) zero place is = absurd (none-some other (sym (same_Some (Some other) None is)))
free_set (None ∷ makers) (suc k) place is = let rest = free_set makers k place is in omega (arith, rest)
free_set (Some other ∷ makers) (suc k) place is = free_set makers k place is

free_all : (n : ℕ) → free_entries (replicate n None) ≡ n
free_all zero = refl
free_all (suc n) = let rest = free_all n in omega (arith, rest)

none_free : (makers : List (Option ℕ)) (index : ℕ) → free_entries makers ≡ 0
    → slice_get makers index ≡ Some None → ⊥
none_free [] index none is = none-some None is
none_free (None ∷ makers) index none is = omega (arith, none)
none_free (Some other ∷ makers) zero none is = none-some other (sym (same_Some (Some other) None is))
none_free (Some other ∷ makers) (suc k) none is = none_free makers k none is

none_placed : (n index place : ℕ) → slice_get (replicate n None) index ≡ Some (Some place) → ⊥
none_placed zero index place is = none-some (Some place) is
none_placed (suc n) zero place is = none-some place (same_Some None (Some place) is)
none_placed (suc n) (suc k) place is = none_placed n k place is

-- ---- the table

maker_later : (rs : List Record) (n index place : ℕ) → IsEntryRecord rs n index place
    → IsEntryRecord rs (n + 1) index place
maker_later rs n index place (below, finishes, seen) = (omega (arith, below), finishes, seen)

pub makers_start : (rs : List Record) (makers : List (Option ℕ)) → makers ≡ replicate (entries_in rs) None
    → AreEntryRecords rs 0 makers
makers_start rs makers empty = record {
  entries = ap length empty ∙ length-replicate (entries_in rs) None;
  makes = λ index place is. absurd (none_placed (entries_in rs) index place
      (ap (λ l. slice_get l index) (sym empty) ∙ is));
  all = λ apart ahead. let few = ap free_entries empty ∙ free_all (entries_in rs) in
      let long = ap length empty ∙ length-replicate (entries_in rs) None in omega (arith, few, long);
}

pub makers_same : (rs : List Record) (n : ℕ) (makers : List (Option ℕ)) → n < length rs
    → is_some (at finish rs n) ≡ false → AreEntryRecords rs n makers → AreEntryRecords rs (n + 1) makers
makers_same rs n makers within none are = record {
  entries = are.entries;
  makes = λ index place is. maker_later rs n index place (are.makes index place is);
  all =
      λ apart ahead. ap (λ k. free_entries makers + k) (entries_same rs n within none) ∙ are.all apart ahead;
}

-- a finishing record names an entry of the table, which no earlier one names
entry_free : (rs : List Record) (n : ℕ) (makers : List (Option ℕ)) → IsFinishing rs n → IsFreeOf rs EntryTwice
    → IsFreeOf rs LengthAhead → AreEntryRecords rs n makers → slice_get makers (seen_at rs n) ≡ Some None
entry_free rs n makers finishes apart ahead are = elim (cases_lt (seen_at rs n) (length makers)) [
  | inr past ↦ absurd (ahead n
      (length_ahead (entry finishes (let all = are.entries in omega (arith, past, all)))))
  | inl within ↦ of (get_or makers (seen_at rs n) None) (slice_get-get_or makers (seen_at rs n) None within)
]
  where
    of : (slot : Option ℕ) → slice_get makers (seen_at rs n) ≡ Some slot
        → slice_get makers (seen_at rs n) ≡ Some None
    of None is = is
    of (Some place) is =
        let (below, earlier, seen) = are.makes (seen_at rs n) place is in
        absurd (apart n (entry_twice (place, below, earlier, finishes, seen)))

pub makers_more : (rs : List Record) (n : ℕ) (old new : List (Option ℕ)) → n < length rs → IsFinishing rs n
    → new ≡ set old (seen_at rs n) (Some n) → AreEntryRecords rs n old → AreEntryRecords rs (n + 1) new
makers_more rs n old new within finishes noted are = record {
  entries = ap length noted ∙ length-set old (seen_at rs n) (Some n) ∙ are.entries;
  makes = λ index place is. named index place (ap (λ l. slice_get l index) (sym noted) ∙ is);
  all = λ apart ahead.
      let few = ap free_entries noted in
      let less = free_set old (seen_at rs n) n (entry_free rs n old finishes apart ahead are) in
      let more = entries_more rs n finishes in
      let before = are.all apart ahead in
      let long = ap length noted ∙ length-set old (seen_at rs n) (Some n) in
      omega (arith, few, less, more, before, long);
}
  where
    named : (index place : ℕ) → slice_get (set old (seen_at rs n) (Some n)) index ≡ Some (Some place)
        → IsEntryRecord rs (n + 1) index place
    named index place is = elim (cases_eq index (seen_at rs n)) [
      | inr apart ↦ maker_later rs n index place (are.makes index place
          (sym (get_set_other old (seen_at rs n) index (Some n) apart) ∙ is))
      | inl here ↦
          let inside : seen_at rs n < length old = (
          let low = slice_get_within (set old (seen_at rs n) (Some n)) index (Some place) is in
          let long = length-set old (seen_at rs n) (Some n) in omega (arith, low, long, here)) in
          let there : slice_get (set old (seen_at rs n) (Some n)) index ≡ Some (Some n) =
          ap (slice_get (set old (seen_at rs n) (Some n))) here
          ∙ get_set_same old (seen_at rs n) (Some n) inside in
          let same : n ≡ place = same_Some n place (same_Some (Some n) (Some place) (sym there ∙ is)) in
          (omega (arith, same), subst (IsFinishing rs) same finishes, ap (seen_at rs) (sym same) ∙ sym here)
    ]

-- at the end each entry has its record
pub all_made : (rs : List Record) (makers : List (Option ℕ)) (index : ℕ)
    → AreEntryRecords rs (length rs) makers
    → IsFreeOf rs EntryTwice → IsFreeOf rs LengthAhead → slice_get makers index ≡ Some None → ⊥
all_made rs makers index are apart ahead is =
    let all = are.all apart ahead in
    let count : entries_in (take (length rs) rs) ≡ entries_in rs =
    ap entries_in (take_all (length rs) rs (omega arith)) in
    let long = are.entries in
    none_free makers index (omega (arith, all, count, long)) is

-- with one record more, its entry is counted too
pub one_counted : (rs : List Record) (i : ℕ) (r : Record) (finishes : Bool) (one count : ℕ)
    → slice_get rs i ≡ Some r → finishes ≡ is_some (finish r.body) → one ≡ from_bool finishes
    → count ≡ count_by (λ (q : Record). is_some (finish q.body)) (take i rs) → (more : ℕ) → more ≡ count + one
    → more ≡ count_by (λ (q : Record). is_some (finish q.body)) (take (i + 1) rs)
one_counted rs i r true one count stands is so counted more added =
    let grown =
    count_by_more_yes (λ (q : Record). is_some (finish q.body)) rs i r (slice_get_within rs i r stands)
    (ap (λ (q : Record). is_some (finish q.body)) (get_or_from_slice_get rs i r r stands) ∙ sym is) in
    let one_is : one ≡ 1 = so in
    omega (arith, grown, one_is, counted, added)
one_counted rs i r false one count stands is so counted more added =
    let same =
    count_by_more_no (λ (q : Record). is_some (finish q.body)) rs i r (slice_get_within rs i r stands)
    (ap (λ (q : Record). is_some (finish q.body)) (get_or_from_slice_get rs i r r stands) ∙ sym is) in
    let none_is : one ≡ 0 = so in
    omega (arith, same, none_is, counted, added)
