-- The finishing records and the entries pair off exactly where there are as many of these as of those.
use Rattle.std.proofs.Common.{◌≡◌, ◌∙◌, ℕ, zero, suc, ◌+◌, ◌<◌, ◌≤◌, true, eqb, List, [], ◌∷◌, length, Option}
use Rattle.std.proofs.Common.{Some, None, refl, sym, ap, arith}
use Rattle.std.specs.Prelude.{◌↔◌, slice_get, is_some, option_map, option_and_then, if◌then◌else◌}
use Rattle.std.specs.List.{list_any}
use Rattle.std.proofs.lemmas.Bool.{false≢true}
use Rattle.std.proofs.lemmas.Option.{none-some, same_Some, slice_get_within}
use Rattle.std.proofs.lemmas.Map.Steps.{length-le_from_distinct_below, le-length_from_below}
use Rattle.ompt_events.specs.declared.records.Record.{Record}
use Rattle.ompt_events.specs.declared.records.Claim.{Claim}
use Rattle.ompt_events.specs.declared.records.Part.{Part}
use Rattle.ompt_events.specs.declared.cause.Cause.TheVariants.{EntryTwice, LengthAhead}
use Rattle.ompt_events.specs.Records.{finish, claim}
use Rattle.ompt_events.specs.HappensBefore.{IsFinishing}
use Rattle.ompt_events.specs.Causes.{IsAhead, IsFreeOf, RepeatsEntry, entries_in, entry_twice, length_ahead}
use Rattle.ompt_events.specs.Causes.{entry, ledger_length}
use Rattle.ompt_events.proofs.PlaceLemmas.{seen_within}
use Rattle.ompt_events.proofs.ListLemmas.{get_within}
use Rattle.credit_ledger.specs.declared.entry.Entry.{Entry}
use Rattle.credit_ledger.specs.TraceEntries.{claimed_entry, entry_of, IsEntryAt}
use Rattle.callbacks.specs.Logs.{known_from}
use Rattle.callbacks.specs.Closed.{ClosedView, AreClosed}
use Rattle.callbacks.specs.Gathered.{gathered, HaveOwnThreads, ArePaired}
use Rattle.callbacks.proofs.GatherLemmas.{from_buffer, buffer_of, follows_of, seen_get}
use Rattle.callbacks.proofs.KnownLaw.{seen_known, known_within, known_later}
use Rattle.callbacks.proofs.SeenLemmas.{finishes, seens, seens_length, in_seens, seen_among, all_taken}
use Rattle.callbacks.proofs.SeenLemmas.{AreOnce, seens_distinct}

-- ---- the entry of a finishing record

-- the entry that a record makes by what it finishes and claims
abbrev entry_from : ℕ → Option (ℕ × Part) → Option Claim → Option Entry
entry_from thread finished claimed =
    option_and_then (λ f. option_map (claimed_entry thread f) claimed) finished

entry_there : (thread : ℕ) (finished : Option (ℕ × Part)) (claimed : Option Claim)
    → is_some claimed ≡ is_some finished → is_some finished ≡ true
    → (e : Entry) × (entry_from thread finished claimed ≡ Some e)
entry_there thread None claimed both makes = absurd (false≢true makes)
entry_there thread (Some f) None both makes = absurd (false≢true both)
entry_there thread (Some f) (Some c) both makes = (claimed_entry thread f c, refl)

entry_thread : (thread : ℕ) (finished : Option (ℕ × Part)) (claimed : Option Claim) (e : Entry)
    → entry_from thread finished claimed ≡ Some e → e.thread ≡ thread
entry_thread thread None claimed e is = absurd (none-some e is)
entry_thread thread (Some f) None e is = absurd (none-some e is)
entry_thread thread (Some f) (Some c) e is =
    ap (λ (x : Entry). x.thread) (sym (same_Some (claimed_entry thread f c) e is))

entry_finishes : (thread : ℕ) (finished : Option (ℕ × Part)) (claimed : Option Claim) (e : Entry)
    → entry_from thread finished claimed ≡ Some e → is_some finished ≡ true
entry_finishes thread None claimed e is = absurd (none-some e is)
entry_finishes thread (Some f) claimed e is = refl

-- a finishing record's entry stands in the ledger where the record says
record MakesEntry (entries : List Entry) (r : Record) : Type 0 where
  made : Entry
  makes : entry_of r ≡ Some made
  stands : slice_get entries r.seen ≡ Some made

entered : (closed : ClosedView) (i : ℕ) (r : Record) → AreClosed closed
    → slice_get (gathered closed.buffers) i ≡ Some r → finishes r ≡ true → MakesEntry closed.entries r
entered closed i r are is makes =
    let from = from_buffer closed.buffers i r is in
    let sound = (follows_of closed i r are from).sound.0 in
    let (e, here) = entry_there r.thread (finish r.body) (claim r.body) sound.claimed makes in
    let stands = (buffer_of closed i r are from).entered from.place r e from.is here in
    record { made = e; makes = here; stands = stands }

finishing_get : (rs : List Record) (i : ℕ) → IsFinishing rs i
    → (r : Record) × (slice_get rs i ≡ Some r) × (finishes r ≡ true)
finishing_get rs i is = of (slice_get rs i) refl is
  where
    of : (o : Option Record) → slice_get rs i ≡ o
        → is_some (option_and_then (λ (q : Record). finish q.body) o) ≡ true
        → (r : Record) × (slice_get rs i ≡ Some r) × (finishes r ≡ true)
    of None here is = absurd (false≢true is)
    of (Some r) here is = (r, here, is)

entry_get : (rs : List Record) (i index : ℕ) (e : Entry) → IsEntryAt rs i index e
    → (r : Record) × (slice_get rs i ≡ Some r) × (entry_of r ≡ Some e) × (r.seen ≡ index)
entry_get rs i index e made = of (slice_get rs i) refl made.made
  where
    of : (o : Option Record) → slice_get rs i ≡ o → option_and_then entry_of o ≡ Some e
        → (r : Record) × (slice_get rs i ≡ Some r) × (entry_of r ≡ Some e) × (r.seen ≡ index)
    of None here is = absurd (none-some e is)
    of (Some r) here is = (r, here, is, sym (seen_get rs i r here) ∙ made.seen)

-- ---- no two finishing records name one entry

known_finishing : (r : Record) → finishes r ≡ true → known_from r.seen r.body ≡ r.seen + 1
known_finishing r makes = ap (λ b. if b then r.seen + 1 else r.seen) makes

-- two such records would be of one thread, along which the indices rise
named_once : (closed : ClosedView) → AreClosed closed → HaveOwnThreads closed.buffers
    → AreOnce (gathered closed.buffers)
named_once closed are apart k i a b less first second makes_a makes_b same =
    let of_a = entered closed k a are first makes_a in
    let of_b = entered closed i b are second makes_b in
    let entry_same : of_a.made ≡ of_b.made =
    same_Some of_a.made of_b.made (sym of_a.stands ∙ ap (slice_get closed.entries) same ∙ of_b.stands) in
    let thread : a.thread ≡ b.thread =
    sym (entry_thread a.thread (finish a.body) (claim a.body) of_a.made of_a.makes)
    ∙ ap (λ (e : Entry). e.thread) entry_same
    ∙ entry_thread b.thread (finish b.body) (claim b.body) of_b.made of_b.makes in
    let later = known_later closed k i a b are apart less first second thread in
    omega (arith, later, known_finishing a makes_a, same)

repeats_none : (rs : List Record) (i : ℕ) → AreOnce rs → RepeatsEntry rs i → ⊥
repeats_none rs i apart (k, less, first, second, same) =
    let (a, is_a, makes_a) = finishing_get rs k first in
    let (b, is_b, makes_b) = finishing_get rs i second in
    apart k i a b less is_a is_b makes_a makes_b (sym (seen_get rs k a is_a) ∙ same ∙ seen_get rs i b is_b)

pub none_twice : (closed : ClosedView) → AreClosed closed → HaveOwnThreads closed.buffers
    → IsFreeOf (gathered closed.buffers) EntryTwice
none_twice closed are apart i (entry_twice repeats) =
    repeats_none (gathered closed.buffers) i (named_once closed are apart) repeats

-- ---- as many records as entries

-- an index that is named is one of the ledger
seens_below : (closed : ClosedView) (q : ℕ) → AreClosed closed
    → list_any (eqb q) (seens (gathered closed.buffers)) ≡ true → q < length closed.entries
seens_below closed q are is =
    let named = in_seens (gathered closed.buffers) q is in
    let there = entered closed named.place named.by are named.is named.finishing in
    let within = slice_get_within closed.entries named.by.seen there.made there.stands in
    omega (arith, within, named.names)

-- where the numbers are the same, each entry is one that a record names
ledger_to : (closed : ClosedView) (index : ℕ) (e : Entry) → AreClosed closed → HaveOwnThreads closed.buffers
    → entries_in (gathered closed.buffers) ≡ length closed.entries → slice_get closed.entries index ≡ Some e
    → (i : ℕ) × IsEntryAt (gathered closed.buffers) i index e
ledger_to closed index e are apart many is =
    let rs = gathered closed.buffers in
    let differ = seens_distinct rs (named_once closed are apart) in
    let taken = all_taken (seens rs) (length closed.entries) index differ (λ q. seens_below closed q are)
    (seens_length rs ∙ many) (slice_get_within closed.entries index e is) in
    let named = in_seens rs index taken in
    let there = entered closed named.place named.by are named.is named.finishing in
    let same : there.made ≡ e =
    same_Some there.made e (sym there.stands ∙ ap (slice_get closed.entries) named.names ∙ is) in (
      named.place,
      record {
        made = ap (option_and_then entry_of) named.is ∙ there.makes ∙ ap Some same;
        seen = seen_get rs named.place named.by named.is ∙ named.names;
      },
    )

ledger_back : (closed : ClosedView) (index : ℕ) (e : Entry) → AreClosed closed
    → (i : ℕ) × IsEntryAt (gathered closed.buffers) i index e → slice_get closed.entries index ≡ Some e
ledger_back closed index e are (i, made) =
    let (r, is, makes, seen) = entry_get (gathered closed.buffers) i index e made in
    let from = from_buffer closed.buffers i r is in
    ap (slice_get closed.entries) (sym seen)
    ∙ (buffer_of closed i r are from).entered from.place r e from.is makes

pub paired_from_count : (closed : ClosedView) → AreClosed closed → HaveOwnThreads closed.buffers
    → entries_in (gathered closed.buffers) ≡ length closed.entries → ArePaired closed
paired_from_count closed are apart many = record {
  ledger = λ index e. (ledger_to closed index e are apart many, ledger_back closed index e are);
  once = none_twice closed are apart;
}

entry_at : (entries : List Entry) (q : ℕ) → q < length entries → (e : Entry) × (slice_get entries q ≡ Some e)
entry_at [] q below = absurd (omega arith)
entry_at (e ∷ entries) zero below = (e, refl)
entry_at (e ∷ entries) (suc q) below = entry_at entries q (omega (arith, below))

-- where they pair off, each index of the ledger is named
all_named : (closed : ClosedView) (q : ℕ) → ArePaired closed → q < length closed.entries
    → list_any (eqb q) (seens (gathered closed.buffers)) ≡ true
all_named closed q paired below =
    let rs = gathered closed.buffers in
    let (e, is) = entry_at closed.entries q below in
    let (i, made) = (paired.ledger q e).0 is in
    let (r, here, makes, seen) = entry_get rs i q e made in
    seen_among rs i q r here (entry_finishes r.thread (finish r.body) (claim r.body) e makes) seen

pub count_from_paired : (closed : ClosedView) → AreClosed closed → HaveOwnThreads closed.buffers
    → ArePaired closed
    → entries_in (gathered closed.buffers) ≡ length closed.entries
count_from_paired closed are apart paired =
    let rs = gathered closed.buffers in
    let low = length-le_from_distinct_below (seens rs) (length closed.entries)
    (seens_distinct rs (named_once closed are apart)) (λ q. seens_below closed q are) in
    let high = le-length_from_below (seens rs) (length closed.entries) (λ q. all_named closed q paired) in
    omega (arith, low, high, seens_length rs)

pub as_many_pair : (closed : ClosedView) → AreClosed closed → HaveOwnThreads closed.buffers
    → (entries_in (gathered closed.buffers) ≡ length closed.entries) ↔ ArePaired closed
as_many_pair closed are apart = (paired_from_count closed are apart, count_from_paired closed are apart)

-- ---- no length is ahead

known_below : (closed : ClosedView) (i : ℕ) (r : Record) → AreClosed closed
    → slice_get (gathered closed.buffers) i ≡ Some r → r.seen ≤ length closed.entries
known_below closed i r are is =
    let from = from_buffer closed.buffers i r is in
    let buffer = buffer_of closed i r are from in
    let within = known_within from.buffer.thread from.buffer.records from.place r buffer.orderly from.is in
    omega (arith, within, buffer.known, seen_known r.seen r.body)

not_ahead : (closed : ClosedView) (i : ℕ) → AreClosed closed
    → entries_in (gathered closed.buffers) ≡ length closed.entries → IsAhead (gathered closed.buffers) i → ⊥
not_ahead closed i are many (entry finishing past) =
    let (r, is, makes) = finishing_get (gathered closed.buffers) i finishing in
    let there = entered closed i r are is makes in
    let within = slice_get_within closed.entries r.seen there.made there.stands in
    omega (arith, within, many, past, seen_get (gathered closed.buffers) i r is)
not_ahead closed i are many (ledger_length past) =
    let rs = gathered closed.buffers in
    let (r, is) = get_within rs i (seen_within rs i (entries_in rs) past) in
    omega (arith, known_below closed i r are is, many, past, seen_get rs i r is)

pub none_ahead : (closed : ClosedView) → AreClosed closed → HaveOwnThreads closed.buffers → ArePaired closed
    → IsFreeOf (gathered closed.buffers) LengthAhead
none_ahead closed are apart paired i (length_ahead ahead) =
    not_ahead closed i are (count_from_paired closed are apart paired) ahead
