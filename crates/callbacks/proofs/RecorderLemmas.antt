-- What a recorder's records say of the ledger, after one more.
use Rattle.std.proofs.Common.{◌≡◌, ◌∙◌, ℕ, ◌≤◌, ◌<◌, ◌+◌, List, [], ◌∷◌, ◌++◌, length, Some, None, refl, sym}
use Rattle.std.proofs.Common.{ap, subst, arith, inl, inr, Bool, true, false, Option, ◌^◌}
use Rattle.std.specs.Prelude.{slice_get, option_map, option_and_then, is_some, if◌then◌else◌}
use Rattle.std.specs.Option.{option_map_or}
use Rattle.std.proofs.lemmas.List.{append-nil, append_assoc}
use Rattle.std.proofs.lemmas.List.Concat.{flat_map-append}
use Rattle.std.proofs.lemmas.Option.{none-some}
use Rattle.ompt_events.specs.declared.records.Record.{Record}
use Rattle.ompt_events.specs.declared.records.Body.{Body}
use Rattle.ompt_events.specs.Limits.{max_records}
use Rattle.ompt_events.specs.Records.{finish, claim}
use Rattle.ompt_events.specs.declared.records.Part.{Part}
use Rattle.ompt_events.proofs.ListLemmas.{pushed_cases}
use Rattle.credit_ledger.specs.declared.entry.Entry.{Entry}
use Rattle.credit_ledger.specs.declared.view.Call.{Call}
use Rattle.credit_ledger.specs.declared.view.Call.TheVariants.{Enter, Look}
use Rattle.credit_ledger.specs.declared.view.View.{View}
use Rattle.credit_ledger.specs.declared.view.Step.{Step}
use Rattle.credit_ledger.specs.Seats.{Extends, told_of, is_enter}
use Rattle.credit_ledger.proofs.ExtendsLemmas.{GoOn, go_on-refl, extends-go_on, looked-length}
use Rattle.credit_ledger.proofs.ExtendsLemmas.{entered-there, reply-known, joined-go_on}
use Rattle.credit_ledger.specs.TraceEntries.{claimed_entry, entry_of}
use Rattle.callbacks.specs.Logs.{LogView, IsSameLog, known_from}
use Rattle.atomic_table.specs.Seated.{TableId}
use Rattle.credit_ledger.specs.Entries as ledger
use Rattle.callbacks.specs.declared.fault.CallFault.{CallFault}
use Rattle.callbacks.specs.Calls.{ledger_refusal}
use Rattle.callbacks.specs.Recorders.{RecorderView, entries_of, HaveEntries, IsBacked, entry_by}
use Rattle.callbacks.specs.Recorders.{IsFinishRefused, uses_ledger, replied, ledger_call, ledger_calls}
use Rattle.callbacks.specs.Recorders.{IsWithLooks}
use Rattle.callbacks.specs.Recorders.{by_ledger}

entered-pushed : (own : List Record) (r : Record) (first later : List Entry) → HaveEntries own first
    → GoOn first later → ((e : Entry) → entry_of r ≡ Some e → slice_get later r.seen ≡ Some e)
    → HaveEntries (own ++ r ∷ []) later
entered-pushed own r first later entered on here i x e is makes = elim (pushed_cases own r x i is) [
  | inl old ↦ on.kept x.seen e (entered i x e old makes)
  | inr last ↦ subst (λ (q : Record). slice_get later q.seen ≡ Some e) last.1
      (here e (subst (λ (q : Record). entry_of q ≡ Some e) (sym last.1) makes))
]

makes-none : (r : Record) (e : Entry) → finish r.body ≡ None → entry_of r ≡ Some e → (X : Type 0) → X
makes-none r e unfinished makes X =
    absurd (none-some e (sym (ap (λ f. option_and_then
    (λ g. option_map (claimed_entry r.thread g) (claim r.body)) f) unfinished) ∙ makes))

-- ---- the calls on the ledger

calls-pushed : (number : ℕ) (own : List Record) (r : Record)
    → ledger_calls number (own ++ r ∷ []) ≡ ledger_calls number own ++ ledger_call number r
calls-pushed number own r =
    flat_map-append (ledger_call number) own (r ∷ [])
    ∙ ap (λ l. ledger_calls number own ++ l) (append-nil (ledger_call number r))

-- one more call, which is that of a record, or a look
with-call : (calls own : List Step) (s : Step) → IsWithLooks calls own
    → IsWithLooks (calls ++ s ∷ []) (own ++ s ∷ [])
with-call calls [] s are = inr ([], ap (λ l. l ++ s ∷ []) are, refl)
with-call calls (x ∷ own) s (inl look) = inl (look.0, with-call calls own s look.1)
with-call calls (x ∷ own) s (inr call) =
    inr (call.0 ++ s ∷ [], ap (λ l. l ++ s ∷ []) call.1, with-call call.0 own s call.2)

with-look : (calls own : List Step) (s : Step) → is_enter s.call ≡ false → IsWithLooks calls own
    → IsWithLooks calls (own ++ s ∷ [])
with-look calls [] s look are = inl (look, are)
with-look calls (x ∷ own) s look (inl first) = inl (first.0, with-look calls own s look first.1)
with-look calls (x ∷ own) s look (inr call) = inr (call.0, call.1, with-look call.0 own s look call.2)

-- the seat's calls are these, and then those of these records and looks
abbrev AreCalls : List Step → List Record → View → Type 0
AreCalls before own v =
    (more : List Step) × (v.own ≡ before ++ more) × IsWithLooks (ledger_calls v.number own) more

-- the calls since then are these and one more
one-call : (before more : List Step) (s : Step) (v w : View) → w.own ≡ v.own ++ s ∷ []
    → v.own ≡ before ++ more → w.own ≡ before ++ (more ++ s ∷ [])
one-call before more s v w longer is = longer ∙ ap (λ l. l ++ s ∷ []) is ∙ append_assoc before more (s ∷ [])

-- after a look for no record
calls-looked : (before : List Step) (own : List Record) (v w : View) (reply : ℕ) → AreCalls before own v
    → Extends v Look reply w → AreCalls before own w
calls-looked before own v w reply are e =
    let look : Step = record { seat = v.number; call = Look; reply = reply } in (
      are.0 ++ look ∷ [],
      one-call before are.0 look v w e.own are.1,
      subst (λ n. IsWithLooks (ledger_calls n own) (are.0 ++ look ∷ [])) (sym e.number)
          (with-look (ledger_calls v.number own) are.0 look refl are.2),
    )

-- after a call for a record
calls-recorded : (before : List Step) (own : List Record) (r : Record) (call : Call) (v w : View)
    → AreCalls before own v → Extends v call r.seen w → ledger_call v.number r ≡ replied v.number r call ∷ []
    → AreCalls before (own ++ r ∷ []) w
calls-recorded before own r call v w are e is =
    let s = replied v.number r call in (
      are.0 ++ s ∷ [],
      one-call before are.0 s v w e.own are.1,
      subst (λ n. IsWithLooks (ledger_calls n (own ++ r ∷ [])) (are.0 ++ s ∷ [])) (sym e.number)
          (subst (λ l. IsWithLooks l (are.0 ++ s ∷ []))
          (sym (calls-pushed v.number own r ∙ ap (λ l. ledger_calls v.number own ++ l) is))
          (with-call (ledger_calls v.number own) are.0 s are.2)),
    )

-- after a record with no call
calls-alone : (before : List Step) (own : List Record) (r : Record) (v : View) → AreCalls before own v
    → ledger_call v.number r ≡ [] → AreCalls before (own ++ r ∷ []) v
calls-alone before own r v are none = (
  are.0,
  are.1,
  subst (λ l. IsWithLooks l are.0)
      (sym
      (calls-pushed v.number own r ∙ ap (λ l. ledger_calls v.number own ++ l) none
      ∙ append-nil (ledger_calls v.number own)))
      are.2,
)

entry-none : (r : Record) → finish r.body ≡ None → entry_of r ≡ None
entry-none r unfinished = ap (λ f. option_and_then
    (λ g. option_map (claimed_entry r.thread g) (claim r.body)) f) unfinished

abbrev call-by : ℕ → Record → Option Entry → Bool → List Step
call-by number r entry uses = option_map_or (λ e. replied number r (Enter e) ∷ []) entry
    (if uses then replied number r Look ∷ [] else [])

call-looks : (number : ℕ) (r : Record) → finish r.body ≡ None → uses_ledger r.body ≡ true
    → ledger_call number r ≡ replied number r Look ∷ []
call-looks number r unfinished looks =
    ap (λ e. call-by number r e (uses_ledger r.body)) (entry-none r unfinished)
    ∙ ap (λ b. call-by number r None b) looks

call-none : (number : ℕ) (r : Record) → finish r.body ≡ None → uses_ledger r.body ≡ false
    → ledger_call number r ≡ []
call-none number r unfinished alone =
    ap (λ e. call-by number r e (uses_ledger r.body)) (entry-none r unfinished)
    ∙ ap (λ b. call-by number r None b) alone

call-enters : (number : ℕ) (r : Record) (e : Entry) → entry_of r ≡ Some e
    → ledger_call number r ≡ replied number r (Enter e) ∷ []
call-enters number r e makes = ap (λ f. call-by number r f (uses_ledger r.body)) makes

-- ---- what the seat has seen

-- a record that finishes no task, which names a length that the seat knows
backed-more : (before : List Step) (own : List Record) (r : Record) (known : ℕ) (v w : View)
    → IsBacked before own known v
    → GoOn (entries_of v) (entries_of w) → r.seen ≤ length (entries_of w) → finish r.body ≡ None
    → AreCalls before (own ++ r ∷ []) w → IsBacked before (own ++ r ∷ []) (known_from r.seen r.body) w
backed-more before own r known v w backed on seen unfinished calls = record {
  calls = calls;
  seen = subst (λ n. n ≤ length (entries_of w))
      (sym (ap (λ f. if is_some f then r.seen + 1 else r.seen) unfinished)) seen;
  entered = entered-pushed own r (entries_of v) (entries_of w) backed.entered on
      (λ e makes. makes-none r e unfinished makes (slice_get (entries_of w) r.seen ≡ Some e));
}

-- a seat that knows more entries
backed-on : (before : List Step) (own : List Record) (known later : ℕ) (v w : View)
    → IsBacked before own known v
    → GoOn (entries_of v) (entries_of w) → later ≤ length (entries_of w) → AreCalls before own w
    → IsBacked before own later w
backed-on before own known later v w backed on seen calls = record {
  calls = calls;
  seen = seen;
  entered = λ i r e is makes. on.kept r.seen e (backed.entered i r e is makes);
}

finishes : (r : Record) (e : Entry) → entry_of r ≡ Some e → is_some (finish r.body) ≡ true
finishes r e makes = from (finish r.body) makes
  where
    from : (f : Option (ℕ × Part)) → option_and_then
        (λ g. option_map (claimed_entry r.thread g) (claim r.body)) f ≡ Some e → is_some f ≡ true
    from None is = absurd (none-some e is)
    from (Some g) is = refl

-- a record that makes the entry that stands last
pub backed-entered : (before : List Step) (own : List Record) (r : Record) (known : ℕ) (v w : View)
    (e : Entry) → IsBacked before own known v → Extends v (Enter e) r.seen w → entry_of r ≡ Some e
    → IsBacked before (own ++ r ∷ []) (known_from r.seen r.body) w
backed-entered before own r known v w e backed extends makes =
    let there = entered-there v w e r.seen extends in
    record {
      calls = calls-recorded before own r (Enter e) v w backed.calls extends (call-enters v.number r e makes);
      seen = subst (λ b. (if b then r.seen + 1 else r.seen) ≤ length (entries_of w))
          (sym (finishes r e makes)) (omega (arith, there.last));
      entered = entered-pushed own r (entries_of v) (entries_of w) backed.entered
          (extends-go_on v w (Enter e) r.seen extends)
          (λ f is. there.stands ∙ (sym makes ∙ is));
    }

-- what a seat knew, it learns no less of from a look or an entry
pub known-below : (before : List Step) (own : List Record) (known reply : ℕ) (v w : View) (call : Call)
    → IsBacked before own known v → Extends v call reply w → known ≤ reply
known-below before own known reply v w call backed extends =
    omega (arith, backed.seen, reply-known v w call reply extends)

-- ---- as a recorder's calls leave it: the log after room was made in it, and after the record

pub observed : (before : List Step) (old kept new : LogView) (v w : View) (r : Record)
    → IsBacked before old.records old.known v → IsSameLog old kept
    → Extends v Look r.seen w → finish r.body ≡ None → uses_ledger r.body ≡ true
    → new.records ≡ kept.records ++ r ∷ []
    → new.known ≡ known_from r.seen r.body → IsBacked before new.records new.known w
observed before old kept new v w r backed same extends unfinished looks pushed known =
    let seen : r.seen ≤ length (entries_of w) = omega (arith, looked-length v w r.seen extends) in
    let more = backed-more before old.records r old.known v w backed
    (extends-go_on v w Look r.seen extends) seen unfinished
    (calls-recorded before old.records r Look v w backed.calls extends
    (call-looks v.number r unfinished looks)) in
    subst (λ l. IsBacked before l new.known w) (sym (pushed ∙ ap (λ l. l ++ r ∷ []) same.records))
    (subst (λ n. IsBacked before (old.records ++ r ∷ []) n w) (sym known) more)

-- a record of a call that does not use the ledger
pub alone : (before : List Step) (old kept new : LogView) (v : View) (r : Record)
    → IsBacked before old.records old.known v → IsSameLog old kept → r.seen ≡ kept.known
    → finish r.body ≡ None → uses_ledger r.body ≡ false
    → new.records ≡ kept.records ++ r ∷ [] → new.known ≡ known_from r.seen r.body
    → IsBacked before new.records new.known v
alone before old kept new v r backed same is unfinished unused pushed known =
    let more = backed-more before old.records r old.known v v backed (go_on-refl (entries_of v))
    (omega (arith, is, same.known, backed.seen)) unfinished
    (calls-alone before old.records r v backed.calls (call-none v.number r unfinished unused)) in
    subst (λ l. IsBacked before l new.known v) (sym (pushed ∙ ap (λ l. l ++ r ∷ []) same.records))
    (subst (λ n. IsBacked before (old.records ++ r ∷ []) n v) (sym known) more)

pub concluded : (before : List Step) (old kept new : LogView) (v w : View) (r : Record) (e : Entry)
    → IsBacked before old.records old.known v → IsSameLog old kept
    → Extends v (Enter e) r.seen w → entry_by old.thread r.body ≡ Some e → r.thread ≡ old.thread
    → new.records ≡ kept.records ++ r ∷ []
    → new.known ≡ known_from r.seen r.body → IsBacked before new.records new.known w
concluded before old kept new v w r e backed same extends makes is_thread pushed known =
    let more = backed-entered before old.records r old.known v w e backed extends
    (subst (λ t. entry_by t r.body ≡ Some e) (sym is_thread) makes) in
    subst (λ l. IsBacked before l new.known w) (sym (pushed ∙ ap (λ l. l ++ r ∷ []) same.records))
    (subst (λ n. IsBacked before (old.records ++ r ∷ []) n w) (sym known) more)

pub looked-again : (before : List Step) (old kept : LogView) (v w : View) (reply : ℕ)
    → IsBacked before old.records old.known v → IsSameLog old kept → Extends v Look reply w
    → IsBacked before kept.records kept.known w
looked-again before old kept v w reply backed same extends =
    subst (λ l. IsBacked before l kept.known w) (sym same.records)
    (subst (λ n. IsBacked before old.records n w) (sym same.known)
    (backed-on before old.records old.known old.known v w backed (extends-go_on v w Look reply extends)
    (omega (
      arith,
      known-below before old.records old.known reply v w Look backed extends,
      looked-length v w reply extends,
    ))
    (calls-looked before old.records v w reply backed.calls extends)))

-- a seat that takes in another one
pub known-joined : (before : List Step) (own : List Record) (known reply : ℕ) (v u w : View)
    → IsBacked before own known v → Extends (told_of v u) Look reply w → known ≤ reply
known-joined before own known reply v u w backed extends =
    omega (arith, backed.seen, reply-known (told_of v u) w Look reply extends)

pub met : (before : List Step) (old new : LogView) (v u w : View) (reply : ℕ)
    → IsBacked before old.records old.known v
    → Extends (told_of v u) Look reply w → new.records ≡ old.records
    → new.known ≡ reply → IsBacked before new.records new.known w
met before old new v u w reply backed extends same known =
    subst (λ l. IsBacked before l new.known w) (sym same)
    (backed-on before old.records old.known new.known v w backed
    (extends-go_on (told_of v u) w Look reply extends)
    (omega (arith, known, looked-length (told_of v u) w reply extends))
    (calls-looked before old.records (told_of v u) w reply backed.calls extends))

pub met-known : (v u w : View) (known : ℕ) → Extends (told_of v u) Look known w
    → length (entries_of u) ≤ known
met-known v u w known extends =
    omega (
      arith,
      (joined-go_on v u w known extends).length_kept,
      looked-length (told_of v u) w known extends,
    )

-- an index is small, so the length after it is a number of 32 bits
pub small-known : (v w : View) (e : Entry) (index : ℕ) (body : Body) → Extends v (Enter e) index w
    → known_from index body < 2 ^ 32
small-known v w e index body extends = by (is_some (finish body))
  where
    by : (b : Bool) → (if b then index + 1 else index) < 2 ^ 32
    by true = omega (arith, (entered-there v w e index extends).small)
    by false = omega (arith, (entered-there v w e index extends).small)

-- a call that the ledger refuses, after room was made in the log
pub refused-late : (old : RecorderView) (log kept : LogView) (first id : TableId) (before : List Step)
    (v w : View) (entry : Entry) (seen : ℕ) (fault : CallFault)
    → record {
      thread = log.thread;
      nests = log.nests;
      records = log.records;
      capacity = max_records;
      known = log.known;
      ledger = first;
      before = before;
      seat = v;
    } ≡ old
    → IsSameLog log kept → id ≡ first
    → Extends v Look seen w → fault ≡ ledger_refusal (ledger.entry_fault (entries_of w) entry)
    → IsFinishRefused old None (Some entry) (record {
      thread = kept.thread;
      nests = kept.nests;
      records = kept.records;
      capacity = max_records;
      known = kept.known;
      ledger = id;
      before = before;
      seat = w;
    }) fault
refused-late old log kept first id before v w entry seen fault is same same_id looked fault_is =
    subst (λ (o : RecorderView). IsFinishRefused o None (Some entry)
    (record {
      thread = kept.thread;
      nests = kept.nests;
      records = kept.records;
      capacity = max_records;
      known = kept.known;
      ledger = id;
      before = before;
      seat = w;
    }) fault) is
    (by_ledger entry refl refl (record {
      seen = seen;
      looked = looked;
      unchanged = rw (same.thread, same.nests, same.records, same.known, same_id) refl;
      fault_is = fault_is;
    }))
