-- How the ledger of a trace grows, and why no entry is refused.
use Rattle.std.proofs.Common.{◌≡◌, ◌∙◌, ℕ, ◌<◌, ◌≤◌, ◌+◌, ◌^◌, false, List, [], ◌∷◌, ◌++◌, length, get_or}
use Rattle.std.proofs.Common.{Option, Some, refl, sym, ap, subst, arith, inl, inr}
use Rattle.std.specs.Prelude.{is_some, slice_get}
use Rattle.std.specs.Option.{option_and_then, option_map_or}
use Rattle.std.proofs.lemmas.Bool.{cases_lt, cond-false, lt-leb}
use Rattle.std.proofs.lemmas.Option.{none-some, same_Some, slice_get_within, slice_get_read, slice_get-get_or}
use Rattle.std.proofs.lemmas.Option.{get_or_from_slice_get}
use Rattle.std.proofs.lemmas.List.Folds.{list_any_none}
use Rattle.std.proofs.lemmas.List.Sums.{count_by-le-length}
use Rattle.std.proofs.lemmas.List.{length_push}
use Rattle.ompt_events.specs.declared.records.Record.{Record}
use Rattle.ompt_events.specs.declared.cause.Cause.TheVariants.{EntryTwice, LengthAhead}
use Rattle.ompt_events.specs.Records.{finish}
use Rattle.ompt_events.specs.Places.{at, seen_at}
use Rattle.ompt_events.specs.Traces.{IsTrace, IsSound}
use Rattle.ompt_events.specs.HappensBefore.{IsFinishing}
use Rattle.ompt_events.specs.Causes.{entry_twice, entries_in, entry, length_ahead, IsFreeOf}
use Rattle.ompt_events.proofs.ListLemmas.{pushed_cases}
use Rattle.ompt_events.proofs.PlaceLemmas.{some_of}
use Rattle.credit_ledger.specs.declared.entry.Entry.{Entry}
use Rattle.credit_ledger.specs.declared.fault.LedgerFault.{LedgerFault}
use Rattle.credit_ledger.specs.declared.fault.LedgerFault.TheVariants.{Memory, Overlap}
use Rattle.credit_ledger.specs.declared.view.Call.TheVariants.{Enter}
use Rattle.credit_ledger.specs.Entries.{is_overlap, is_ledger_full, entry_fault}
use Rattle.credit_ledger.specs.Histories.{IsPossible}
use Rattle.credit_ledger.proofs.OverlapLemmas.{position_from-none}
use Rattle.credit_ledger.specs.TraceEntries.{entry_of, IsEntryAt, IsLedgerOf, HasRightEntries}
use Rattle.credit_ledger.specs.TraceLedger.{AreEntered}
use Rattle.credit_ledger.specs.TraceMakers.{AreEntryRecords}
use Rattle.credit_ledger.proofs.EntryLemmas.{entry_says, entry_made}
use Rattle.credit_ledger.proofs.ApartLaw.{entries_apart}

-- ---- one entry

-- an entry that may be entered is refused for want of memory alone
pub possible_fault : (entries : List Entry) (e : Entry) (fault : LedgerFault) → IsPossible entries (Enter e)
    → fault ≡ entry_fault entries e → fault ≡ Memory
possible_fault entries e fault possible is =
    is ∙ cond-false (is_ledger_full entries) _ _ possible.0
    ∙ ap (λ o. option_map_or (λ index. Overlap index) o Memory)
    (position_from-none (is_overlap e) entries 0 possible.1)

-- ---- the entry of a maker

sound_there : (rs : List Record) (i : ℕ) (r : Record) → IsTrace rs → slice_get rs i ≡ Some r → IsSound r.body
sound_there rs i r trace here =
    subst (λ (q : Record). IsSound q.body) (get_or_from_slice_get rs i r r here)
    (trace.sound i r (slice_get_within rs i r here))

-- the record makes an entry, and its own one
pub record MakesEntry (rs : List Record) (i index : ℕ) (r : Record) : Type 0 where
  pub sound : IsSound r.body
  pub entry : Entry
  pub made : entry_of r ≡ Some entry
  pub there : IsEntryAt rs i index entry

pub made_by : (rs : List Record) (makers : List (Option ℕ)) (index i : ℕ) (r : Record) → IsTrace rs
    → AreEntryRecords rs (length rs) makers → slice_get makers index ≡ Some (Some i) → slice_get rs i ≡ Some r
    → MakesEntry rs i index r
made_by rs makers index i r trace are is here =
    let (below, finishes, seen) = are.makes index i is in
    let (what, says) = some_of (at finish rs i) finishes in
    let (e, entered) = entry_made rs i what.0 what.1 trace says in
    record {
      sound = sound_there rs i r trace here;
      entry = e;
      made = sym (ap (option_and_then entry_of) here) ∙ entered.made.made;
      there = record { made = entered.made.made; seen = seen };
    }

-- the table names a record of the trace
pub maker_below : (rs : List Record) (makers : List (Option ℕ)) (n index i : ℕ) (slot : Option ℕ)
    → AreEntryRecords rs (length rs) makers → n ≡ length makers → index < n
    → slot ≡ get_or makers index slot → slot ≡ Some i → i < length rs
maker_below rs makers n index i slot are long within read is =
    (are.makes index i (slice_get_read makers n index slot long within read ∙ ap Some is)).0

-- and that record makes the entry
pub maker_makes : (rs : List Record) (makers : List (Option ℕ)) (n index i : ℕ) (slot : Option ℕ) (r : Record)
    → IsTrace rs → AreEntryRecords rs (length rs) makers → n ≡ length makers
    → index < n → slot ≡ get_or makers index slot → slot ≡ Some i → slice_get rs i ≡ Some r
    → MakesEntry rs i index r
maker_makes rs makers n index i slot r trace are long within read is here =
    made_by rs makers index i r trace are (slice_get_read makers n index slot long within read ∙ ap Some is)
    here

-- ---- why it may be entered

few_entries : (rs : List Record) → IsTrace rs → entries_in rs ≤ 2 ^ 22
few_entries rs trace =
    let few = trace.few_records in
    let less = count_by-le-length (λ (q : Record). is_some (finish q.body)) rs in
    omega (arith, few, less)

pub may_enter : (rs : List Record) (entries : List Entry) (i n : ℕ) (e : Entry) → IsTrace rs
    → HasRightEntries rs → n < entries_in rs → AreEntered rs n entries → IsEntryAt rs i n e
    → IsPossible entries (Enter e)
may_enter rs entries i n e trace right within are made = (
  lt-leb (2 ^ 22) (length entries) (let few = few_entries rs trace in let long = are.long in
      omega (arith, few, long, within)),
  list_any_none (is_overlap e) entries (λ k d inside. apart k (get_or entries k d) inside
      (slice_get-get_or entries k d inside)),
)
  where
    apart : (k : ℕ) (f : Entry) → k < length entries → slice_get entries k ≡ Some f → is_overlap e f ≡ false
    apart k f inside is =
        let (j, also) = are.made k f is in
        entries_apart rs i j n k e f right (λ same. let mine = made.seen in let other = also.seen in
        let one = ap (seen_at rs) same in let long = are.long in
        omega (arith, mine, other, one, long, inside)) made also

-- ---- the entries so far

pub none_entered : (rs : List Record) → AreEntered rs 0 []
none_entered rs = record { long = refl; made = λ index entry is. absurd (none-some entry is) }

pub one_entered : (rs : List Record) (old new : List Entry) (i n : ℕ) (e : Entry) → new ≡ old ++ e ∷ []
    → AreEntered rs n old → IsEntryAt rs i n e → AreEntered rs (n + 1) new
one_entered rs old new i n e is are made = record {
  long = ap length is ∙ length_push old e ∙ ap (λ k. k + 1) are.long;
  made = λ index entry there. elim (pushed_cases old e entry index
      (ap (λ l. slice_get l index) (sym is) ∙ there)) [
        | inl before ↦ are.made index entry before
        | inr last ↦ (
          i,
          record {
            made = made.made ∙ ap Some last.1;
            seen = made.seen ∙ sym are.long ∙ sym last.0;
          },
        )
      ];
}

-- ---- at the end

finishing : (rs : List Record) (i index : ℕ) (e : Entry) → IsEntryAt rs i index e → IsFinishing rs i
finishing rs i index e made = ap is_some ((entry_says rs i e made.made).finishes)

-- the record of an entry that the ledger has is the one that made it
one_maker : (rs : List Record) (i j index : ℕ) (e f : Entry) → IsFreeOf rs EntryTwice → IsEntryAt rs i index e
    → IsEntryAt rs j index f → f ≡ e
one_maker rs i j index e f apart made also =
    let seen : seen_at rs i ≡ seen_at rs j = made.seen ∙ sym also.seen in
    let first = finishing rs i index e made in
    let second = finishing rs j index f also in
    let same : j ≡ i = elim (cases_lt i j) [
      | inl less ↦ absurd (apart j (entry_twice (i, less, first, second, seen)))
      | inr most ↦ elim (cases_lt j i) [
        | inl less ↦ absurd (apart i (entry_twice (j, less, second, first, sym seen)))
        | inr least ↦ omega (arith, most, least)
      ]
    ] in
    same_Some f e (sym also.made ∙ ap (λ k. option_and_then entry_of (slice_get rs k)) same ∙ made.made)

pub are_all : (rs : List Record) (entries : List Entry) → IsFreeOf rs EntryTwice → IsFreeOf rs LengthAhead
    → AreEntered rs (entries_in rs) entries → IsLedgerOf rs entries
are_all rs entries apart ahead are index e = (are.made index e, λ made. there made.0 made.1)
  where
    there : (i : ℕ) → IsEntryAt rs i index e → slice_get entries index ≡ Some e
    there i made = elim (cases_lt index (length entries)) [
      | inr past ↦ absurd (ahead i
          (length_ahead (entry (finishing rs i index e made)
          (let long = are.long in let seen = made.seen in omega (arith, past, long, seen)))))
      | inl inside ↦
          let is = slice_get-get_or entries index e inside in
          let (j, also) = are.made index (get_or entries index e) is in
          is ∙ ap Some (one_maker rs i j index e (get_or entries index e) apart made also)
    ]
