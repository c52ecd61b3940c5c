-- Each trace with right entries has a ledger.
use Rattle.std.proofs.Common.{◌≡◌, ℕ, zero, suc, ◌<◌, ◌≤◌, Bool, true, false, List, [], ◌∷◌, ◌++◌, length}
use Rattle.std.proofs.Common.{get_or, Option, Some, None, refl, subst, arith}
use Rattle.std.specs.Prelude.{is_some, slice_get, replicate}
use Rattle.std.proofs.Math.ListN.{set}
use Rattle.std.proofs.lemmas.Option.{slice_get-get_or}
use Rattle.ompt_events.specs.declared.records.Record.{Record}
use Rattle.ompt_events.specs.Records.{finish}
use Rattle.ompt_events.specs.Places.{at, seen_at}
use Rattle.ompt_events.specs.Traces.{IsTrace}
use Rattle.ompt_events.specs.Causes.{entries_in}
use Rattle.ompt_events.proofs.ListLemmas.{get_within}
use Rattle.credit_ledger.specs.declared.entry.Entry.{Entry}
use Rattle.credit_ledger.specs.TraceEntries.{IsEntryAt, IsLedgerOf, HasRightEntries}
use Rattle.credit_ledger.specs.TraceLedger.{AreEntered}
use Rattle.credit_ledger.specs.TraceMakers.{AreEntryRecords}
use Rattle.credit_ledger.proofs.MakerLemmas.{makers_start, makers_same, makers_more, all_made}
use Rattle.credit_ledger.proofs.TraceLedgerLemmas.{made_by, none_entered, one_entered, are_all}

-- a table of the records that make entries
makers_there : (rs : List Record) (n : ℕ) → n ≤ length rs
    → (makers : List (Option ℕ)) × AreEntryRecords rs n makers
makers_there rs zero low =
    (replicate (entries_in rs) None, makers_start rs (replicate (entries_in rs) None) refl)
makers_there rs (suc n) low = of (is_some (at finish rs n)) refl (makers_there rs n (omega (arith, low)))
  where
    of : (b : Bool) → is_some (at finish rs n) ≡ b → (makers : List (Option ℕ)) × AreEntryRecords rs n makers
        → (makers : List (Option ℕ)) × AreEntryRecords rs (suc n) makers
    of true finishes (makers, are) = (
      set makers (seen_at rs n) (Some n),
      subst (λ k. AreEntryRecords rs k (set makers (seen_at rs n) (Some n))) (omega arith)
          (makers_more rs n makers (set makers (seen_at rs n) (Some n)) (omega (arith, low)) finishes refl
          are),
    )
    of false none (makers, are) = (
      makers,
      subst (λ k. AreEntryRecords rs k makers) (omega arith)
          (makers_same rs n makers (omega (arith, low)) none are),
    )

-- the entries with the first n indices
entered_there : (rs : List Record) (makers : List (Option ℕ)) (n : ℕ) → IsTrace rs → HasRightEntries rs
    → AreEntryRecords rs (length rs) makers → n ≤ entries_in rs
    → (entries : List Entry) × AreEntered rs n entries
entered_there rs makers zero trace right are low = ([], none_entered rs)
entered_there rs makers (suc n) trace right are low =
    let (entries, entered) = entered_there rs makers n trace right are (omega (arith, low)) in
    let (i, e, made) = maker (get_or makers n None) (slice_get-get_or makers n None within) in (
      entries ++ e ∷ [],
      subst (λ k. AreEntered rs k (entries ++ e ∷ [])) (omega arith)
          (one_entered rs entries (entries ++ e ∷ []) i n e refl entered made),
    )
  where
    within : n < length makers
    within = let long = are.entries in omega (arith, low, long)

    maker : (slot : Option ℕ) → slice_get makers n ≡ Some slot → (i : ℕ) × (e : Entry) × IsEntryAt rs i n e
    maker None is = absurd (all_made rs makers n are right.apart right.within is)
    maker (Some i) is =
        let below = (are.makes n i is).0 in
        let (r, here) = get_within rs i below in
        let makes = made_by rs makers n i r trace are is here in
        (i, makes.entry, makes.there)

pub ledger_there : (rs : List Record) → IsTrace rs → HasRightEntries rs
    → (entries : List Entry) × IsLedgerOf rs entries
ledger_there rs trace right =
    let (makers, are) = makers_there rs (length rs) (omega arith) in
    let (entries, entered) = entered_there rs makers (entries_in rs) trace right are (omega arith) in
    (entries, are_all rs entries right.apart right.within entered)
