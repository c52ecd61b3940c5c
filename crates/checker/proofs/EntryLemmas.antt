-- Which entries are named, and which records name one again or one past the end.
use Rattle.std.proofs.Common.{◌≡◌, ◌∙◌, ℕ, ◌<◌, ◌≤◌, ◌+◌, ◌==◌, Bool, true, false, cond, ltb, List}
use Rattle.std.proofs.Common.{zero, suc, [], ◌∷◌, length, Result, Ok, Err, refl, sym, ap, arith, inl, inr}
use Rattle.std.specs.Prelude.{◌||◌, ◌↔◌, Contains, IfOk, IsTrue, OnOk, slice_index, slice_set}
use Rattle.std.specs.Ordering.{nat_cmp}
use Rattle.std.specs.BTreeSet.{contains}
use Rattle.std.proofs.lemmas.Bool.{false≢true, cases_eq, cases_lt, lt-ltb, eqb-true, eq-eqb, or_cases}
use Rattle.std.proofs.lemmas.Bool.{or_left, or_right}
use Rattle.ompt_events.specs.declared.records.Record.{Record}
use Rattle.ompt_events.specs.declared.cause.Cause.{Cause}
use Rattle.ompt_events.specs.declared.cause.Cause.TheVariants.{EntryTwice, LengthAhead}
use Rattle.ompt_events.specs.declared.fault.Fault.{Fault}
use Rattle.ompt_events.specs.declared.fault.Fault.TheVariants.{Memory, Malformed}
use Rattle.ompt_events.specs.CauseNames.{cause_number}
use Rattle.ompt_events.specs.Faults.{IsFault}
use Rattle.ompt_events.specs.Places.{seen_at}
use Rattle.ompt_events.specs.HappensBefore.{IsFinishing}
use Rattle.ompt_events.specs.Causes.{HasCause, RepeatsEntry, entry_twice, entries_in, IsAhead, entry}
use Rattle.ompt_events.specs.Causes.{ledger_length, length_ahead, IsFreeOf}
use Rattle.ompt_events.specs.Shown.{AreAllBelow, AreAllWith}
use Rattle.ompt_events.proofs.PlaceLemmas.{seen_within}
use Rattle.ompt_events.proofs.HappensBeforeLemmas.{finishing_within}
use Rattle.ompt_events.proofs.ShownLemmas.{all_with}
use Rattle.checker.specs.declared.makers.Named.{Named}
use Rattle.checker.specs.Entries.{AreEntryPlaces}
use Rattle.checker.specs.Makers.{is_named, IsMadeBelow, AreEntriesNamed}
use Rattle.checker.proofs.MakerLemmas.{makers_more}

-- ---- one record more

made_later : (rs : List Record) (n e : ℕ) → IsMadeBelow rs n e → IsMadeBelow rs (n + 1) e
made_later rs n e (k, below, finishes, seen) = (k, omega (arith, below), finishes, seen)

-- one that does names its own
named_more : (rs : List Record) (n own : ℕ) (old new : Named) → IsFinishing rs n → seen_at rs n ≡ own
    → ((e : ℕ) → is_named (length rs) new e ≡ ((e == own) || is_named (length rs) old e))
    → AreEntriesNamed rs n old
    → AreEntriesNamed rs (n + 1) new
named_more rs n own old new finishes seen more are e = (
  λ is. elim (or_cases (e == own) (is_named (length rs) old e) (sym (more e) ∙ is)) [
    | inl here ↦ (n, omega arith, finishes, seen ∙ sym (eqb-true e own here))
    | inr before ↦ made_later rs n e ((are e).0 before)
  ],
  λ (k, below, ends, is). elim (cases_eq k n) [
    | inl same ↦
        more e
        ∙ or_left (e == own) (is_named (length rs) old e)
        (eq-eqb e own (sym is ∙ ap (seen_at rs) same ∙ seen))
    | inr apart ↦
        more e
        ∙ or_right (e == own) (is_named (length rs) old e)
        ((are e).1 (k, omega (arith, below, apart), ends, is))
  ],
)

pub entries_named : {E : Type 0} (rs : List Record) (n own : ℕ) (old new : Named) (result : Result Bool E)
    → IsFinishing rs n → seen_at rs n ≡ own
    → OnOk result ((e : ℕ) → is_named (length rs) new e ≡ ((e == own) || is_named (length rs) old e))
    → AreEntriesNamed rs n old → OnOk result (AreEntriesNamed rs (n + 1) new)
entries_named rs n own old new (Err fault) finishes seen more are = tt
entries_named rs n own old new (Ok told) finishes seen more are =
    named_more rs n own old new finishes seen more are

-- ---- the record that makes each

-- where the table has an entry that is not named, it has no record at it
unnamed_free : (records : ℕ) (told : Named) (own : ℕ) → false ≡ is_named records told own
    → own < length told.makers.items → records ≤ slice_index told.makers.items own
unnamed_free records told own is low = elim (cases_lt (slice_index told.makers.items own) records) [
  | inl less ↦
      absurd
      (false≢true
      (is ∙ inside (ltb own (length told.makers.items)) (lt-ltb own (length told.makers.items) low)
      ∙ lt-ltb (slice_index told.makers.items own) records less))
  | inr more ↦ more
]
  where
    inside : (test : Bool) → test ≡ true
        → cond test (ltb (slice_index told.makers.items own) records) (contains nat_cmp told.beyond own)
        ≡ ltb (slice_index told.makers.items own) records
    inside true is' = refl
    inside false is' = absurd (false≢true is')

pub makers_named : {E : Type 0} (rs : List Record) (n own : ℕ) (old new : Named) (result : Result Bool E)
    → n < length rs → IsFinishing rs n → seen_at rs n ≡ own
    → IfOk result (λ known. known ≡ is_named (length rs) old own)
    → OnOk result (new.makers.items ≡ slice_set old.makers.items own n)
    → IfOk result
    (λ known. known ≡ false → AreEntryPlaces rs n old.makers.items
    → AreEntryPlaces rs (n + 1) new.makers.items)
makers_named rs n own old new (Err fault) within finishes seen known makers = tt
makers_named rs n own old new (Ok told) within finishes seen known makers = λ is are.
    makers_more rs n own old.makers.items new.makers.items are within finishes seen
    (unnamed_free (length rs) old own (sym is ∙ known)) makers

-- as long as no entry is repeated, the table has the record that makes each
pub makers_next : (rs : List Record) (n : ℕ) (again : Bool) (old new : List ℕ)
    → IsTrue again ↔ RepeatsEntry rs n
    → (again ≡ false → AreEntryPlaces rs n old → AreEntryPlaces rs (n + 1) new)
    → (((k : ℕ) → k < n → RepeatsEntry rs k → ⊥) → AreEntryPlaces rs n old)
    → ((k : ℕ) → k < n + 1 → RepeatsEntry rs k → ⊥) → AreEntryPlaces rs (n + 1) new
makers_next rs n again old new exact next are none =
    next (flag again (λ holds. none n (omega arith) (exact.0 holds)))
    (are (λ k below. none k (omega (arith, below))))
  where
    flag : (b : Bool) → (b ≡ true → ⊥) → b ≡ false
    flag true never = absurd (never refl)
    flag false never = refl

-- ---- those that repeat an entry

repeats : (rs : List Record) (i : ℕ) → HasCause rs i EntryTwice → RepeatsEntry rs i
repeats rs i (entry_twice has) = has

-- the records so far that repeat an entry are, along the whole file, all
pub all_repeats : (rs : List Record) (n : ℕ) (places : List ℕ) → length rs ≡ n
    → AreAllBelow (RepeatsEntry rs) n places → AreAllWith rs EntryTwice places
all_repeats rs n places all are =
    all_with rs EntryTwice (RepeatsEntry rs) n places all (λ i is. entry_twice is)
    (λ i has.
    let is = repeats rs i has in
    let within = finishing_within rs i is.3 in
    (omega (arith, within, all), is))
    are

pub free_of_repeats : (rs : List Record) (n : ℕ) → ((k : ℕ) → k < n → RepeatsEntry rs k → ⊥) → length rs ≤ n
    → IsFreeOf rs EntryTwice
free_of_repeats rs n free end i has =
    let again = repeats rs i has in
    let within = finishing_within rs i again.3 in
    free i (omega (arith, within, end)) again

-- ---- those that are ahead

ahead : (rs : List Record) (i : ℕ) → HasCause rs i LengthAhead → IsAhead rs i
ahead rs i (length_ahead has) = has

ahead_within : (rs : List Record) (i : ℕ) → IsAhead rs i → i < length rs
ahead_within rs i (ledger_length more) = seen_within rs i (entries_in rs) more
ahead_within rs i (entry finishes more) = finishing_within rs i finishes

-- the records so far that are ahead are, along the whole file, all
pub all_ahead : (rs : List Record) (n : ℕ) (places : List ℕ) → length rs ≡ n
    → AreAllBelow (IsAhead rs) n places → AreAllWith rs LengthAhead places
all_ahead rs n places all are =
    all_with rs LengthAhead (IsAhead rs) n places all (λ i is. length_ahead is)
    (λ i has.
    let is = ahead rs i has in
    let within = ahead_within rs i is in
    (omega (arith, within, all), is))
    are

pub free_of_ahead : (rs : List Record) (n : ℕ) → ((k : ℕ) → k < n → IsAhead rs k → ⊥) → length rs ≤ n
    → IsFreeOf rs LengthAhead
free_of_ahead rs n free end i has =
    let is = ahead rs i has in
    let within = ahead_within rs i is in
    free i (omega (arith, within, end)) is

-- a repeated entry is told before a length that is never reached
pub repeat_fault : (rs : List Record) (fault : Fault) → IsFault rs (EntryTwice ∷ []) fault
    → IsFault rs (EntryTwice ∷ LengthAhead ∷ []) fault
repeat_fault rs Memory is = tt
repeat_fault rs (Malformed i told) is = record {
  sought_for = of is.sought_for;
  found = is.found;
  least = λ other sought less. absurd (before other sought is.sought_for less);
}
  where
    of : Contains (EntryTwice ∷ []) told → Contains (EntryTwice ∷ LengthAhead ∷ []) told
    of (zero, below, same) = (0, omega arith, same)
    of (suc k, below, same) = absurd (omega (arith, below))

    before : (other : Cause) → Contains (EntryTwice ∷ LengthAhead ∷ []) other
        → Contains (EntryTwice ∷ []) told → cause_number other < cause_number told → ⊥
    before other (zero, below, same) (zero, below', same') less =
        let e = ap cause_number same in let f = ap cause_number same' in omega (arith, less, e, f)
    before other (suc zero, below, same) (zero, below', same') less =
        let e = ap cause_number same in let f = ap cause_number same' in omega (arith, less, e, f)
    before other (suc (suc k), below, same) sought less = omega (arith, below)
    before other place (suc k, below', same') less = omega (arith, below')
