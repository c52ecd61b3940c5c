-- What a recorder knows of the ledger after its steps, and what its records name.
use Rattle.std.proofs.Common.{ℕ, ◌≡◌, ◌∙◌, ◌++◌, ◌∷◌, ◌+◌, ◌<◌, ◌≤◌, ◌⊎◌, [], List, Some, None, Option}
use Rattle.std.proofs.Common.{Bool, true, false, length, take, refl, sym, ap, subst, arith, inl, inr, cond}
use Rattle.std.proofs.Common.{zero, suc}
use Rattle.std.specs.Prelude.{◌==◌, slice_get, option_and_then, is_some}
use Rattle.std.specs.Option.{option_map_or}
use Rattle.std.proofs.lemmas.Bool.{cases_eq, cases_lt, eq-eqb, ne_eqb, false≢true}
use Rattle.std.proofs.lemmas.List.{append-nil, append_assoc, length-map, length_push}
use Rattle.std.proofs.lemmas.Option.{same_Some, slice_get_within}
use Rattle.ompt_events.specs.declared.records.Record.{Record}
use Rattle.ompt_events.proofs.ListLemmas.{get_last, get_within, pushed_cases}
use Rattle.credit_ledger.specs.declared.view.Call.{Call}
use Rattle.credit_ledger.specs.declared.view.Call.TheVariants.{Enter, Look}
use Rattle.credit_ledger.specs.declared.view.Step as seat_step
use Rattle.credit_ledger.specs.declared.view.View.{View}
use Rattle.credit_ledger.specs.Seats.{Extends, StartsWith, seat_calls, told_of}
use Rattle.credit_ledger.proofs.ExtendsLemmas.{met, reply-known, looked-length, entered-there}
use Rattle.scripts.specs.declared.script.Step.{Step}
use Rattle.scripts.specs.Scripts.{ScriptView, step_count}
use Rattle.callbacks.specs.Recorders.{RecorderView, NoteView, entries_of}
use Rattle.callbacks.specs.Tasks.{TaskView}
use Rattle.scripts.specs.RunCalls.{first_given, second_given, reads_ledger}
use Rattle.scripts.specs.RunCalls.{recorded_body}
use Rattle.scripts.specs.HandOvers.{IsNextUse, ComesAfter, is_reader}
use Rattle.scripts.specs.Progress.{own_records, refused_at, without_seen, thread_records, progress_to}
use Rattle.scripts.specs.Progress.{progress_with}
use Rattle.scripts.specs.Progress.{Progress, step_refusal}
use Rattle.scripts.specs.Parts.{HasCalled, alone, looked, entered, EndsWithCall, HasKnown, IsKnownTo}
use Rattle.scripts.specs.Parts.{HasSeat, HasRecordAt, HasNamed, IsAware, HasMet, HasHeard, IsMet}
use Rattle.scripts.specs.Parts.{IsStepKnown}
use Rattle.scripts.specs.Parts.{HasRun, IsNext, IsCalled, IsStepOf}
use Rattle.scripts.specs.Parts.{notes_met}
use Rattle.scripts.specs.Parts.{calls_at, ledger_count, number_of, seat_of, IsNewSeat}
use Rattle.scripts.proofs.KnownLemmas.{known_later, known_to_later}
use Rattle.scripts.proofs.PlaceLemmas.{none_between, step_there}
use Rattle.scripts.proofs.ProgressLemmas.{own_next, own_other, progress_next}
use Rattle.callbacks.specs.declared.fault.CallFault.{CallFault}

-- ---- one call of the seat

-- after any call the seat has seen all that it had seen, with one call more of its own
extended_seat : (seats : List (Option View)) (count : ℕ) (old new : RecorderView) (view : View) (call : Call)
    (reply : ℕ) → HasSeat seats count old → view.number ≡ old.seat.number → view.own ≡ old.seat.own
    → new.thread ≡ old.thread → Extends view call reply new.seat → new.known ≤ length (entries_of new.seat)
    → HasSeat seats (count + 1) new
extended_seat seats count old new view call reply seat number own thread extends low = record {
  number =
      extends.number ∙ number ∙ seat.number ∙ ap (number_of seats) (sym thread);
  calls =
      ap length extends.own ∙ length_push view.own _ ∙ ap (λ n. n + 1) (ap length own ∙ seat.calls);
  alone = ap (λ n. seat_calls n new.seat.seen) extends.number ∙ extends.alone;
  ends = inr (record {
    before = extends.before;
    call = record { seat = view.number; call = call; reply = reply };
    is = extends.ends;
    of_seat = sym extends.number;
  });
  low = low;
}

-- what was seen begins what is seen then
seen_before : (view : View) (call : Call) (reply : ℕ) (new : View) → Extends view call reply new
    → StartsWith new.seen view.seen
seen_before view call reply new extends = (
  extends.seen.0 ++ last ∷ [],
  extends.ends ∙ ap (λ l. l ++ last ∷ []) extends.seen.1
      ∙ append_assoc view.seen extends.seen.0 (last ∷ []),
)
  where
    last : seat_step.Step
    last = record { seat = view.number; call = call; reply = reply }

told_before : (view : View) (call : Call) (reply : ℕ) (new : View) → Extends view call reply new
    → StartsWith new.seen view.told
told_before view call reply new extends = (
  extends.told.0 ++ last ∷ [],
  extends.ends ∙ ap (λ l. l ++ last ∷ []) extends.told.1
      ∙ append_assoc view.told extends.told.0 (last ∷ []),
)
  where
    last : seat_step.Step
    last = record { seat = view.number; call = call; reply = reply }

-- a note that is met
pub met_one : (seats : List (Option View)) (count : ℕ) (old new : RecorderView) (note : NoteView)
    → HasSeat seats count old → new.thread ≡ old.thread → IsMet old (Some note) new
    → HasSeat seats (count + 1) new × StartsWith new.seat.seen old.seat.seen × (old.known ≤ new.known)
    × ((seat calls : ℕ) → calls ≤ length (seat_calls seat note.seat.seen)
    → IsKnownTo new.seat.seen seat calls new.known)
met_one seats count old new note seat thread (extends, most) =
    let view = told_of old.seat note.seat in
    let known : length (entries_of new.seat) ≡ new.known = looked-length view new.seat new.known extends in
    let rises = reply-known view new.seat Look new.known extends in
    let low = seat.low in (
      extended_seat seats count old new view Look new.known seat refl refl thread extends
          (omega (arith, known)),
      seen_before view Look new.known new.seat extends,
      omega (arith, low, rises),
      λ number calls many. record {
        moment = note.seat.seen;
        begins = told_before view Look new.known new.seat extends;
        calls = many;
        high = most;
      },
    )

-- a recorder with one more record
pub called_seat : (seats : List (Option View)) (count : ℕ) (old new : RecorderView) (seen : ℕ) (uses : Bool)
    → HasSeat seats count old → new.thread ≡ old.thread → HasCalled old seen new uses
    → HasSeat seats (count + cond uses 1 0) new × StartsWith new.seat.seen old.seat.seen
    × (old.known ≤ seen) × (seen ≤ length (entries_of new.seat))
called_seat seats count old new seen uses seat thread (alone same is known) =
    let low = seat.low in
    let here = ap (λ (v : View). length (entries_of v)) same in (
      record {
        number = ap (λ (v : View). v.number) same ∙ seat.number ∙ ap (number_of seats) (sym thread);
        calls = ap (λ (v : View). length v.own) same ∙ seat.calls ∙ omega arith;
        alone =
            subst (λ (v : View). seat_calls v.number v.seen ≡ v.own) (sym same) seat.alone;
        ends =
            subst (λ (v : View). (v.seen ≡ []) ⊎ EndsWithCall v.number v.seen) (sym same) seat.ends;
        low = omega (arith, known, is, low, here);
      },
      ([], ap (λ (v : View). v.seen) same ∙ sym (append-nil old.seat.seen)),
      omega (arith, is),
      omega (arith, is, low, here),
    )
called_seat seats count old new seen uses seat thread (looked extends known) =
    let all : length (entries_of new.seat) ≡ seen = looked-length old.seat new.seat seen extends in
    let rises = reply-known old.seat new.seat Look seen extends in
    let low = seat.low in (
      extended_seat seats count old new old.seat Look seen seat refl refl thread extends
          (omega (arith, known, all)),
      seen_before old.seat Look seen new.seat extends,
      omega (arith, low, rises),
      omega (arith, all),
    )
called_seat seats count old new seen uses seat thread (entered entry extends known) =
    let there = entered-there old.seat new.seat entry seen extends in
    let last = there.last in
    let rises = reply-known old.seat new.seat (Enter entry) seen extends in
    let low = seat.low in (
      extended_seat seats count old new old.seat (Enter entry) seen seat refl refl thread extends
          (omega (arith, known, last)),
      seen_before old.seat (Enter entry) seen new.seat extends,
      omega (arith, low, rises),
      omega (arith, last),
    )

-- a call on the ledger learns what the seat was told
told_call : (v w : View) (call : Call) (reply seat calls : ℕ) → Extends v call reply w
    → calls ≤ length (seat_calls seat v.told) → IsKnownTo w.seen seat calls reply
told_call v w call reply seat calls extends many = record {
  moment = v.told;
  begins = told_before v call reply w extends;
  calls = many;
  high = let m = met v w call reply extends in omega (arith, m.2.length_kept, m.4);
}

-- and the record of a step that uses the ledger names its length
told_known : (old new : RecorderView) (seen : ℕ) (uses : Bool) (seat calls : ℕ) → uses ≡ true
    → HasCalled old seen new uses → calls ≤ length (seat_calls seat old.seat.told)
    → IsKnownTo new.seat.seen seat calls seen
told_known old new seen uses seat calls reads (alone same is known) many = absurd (false≢true reads)
told_known old new seen uses seat calls reads (looked extends known) many =
    told_call old.seat new.seat Look seen seat calls extends many
told_known old new seen uses seat calls reads (entered entry extends known) many =
    told_call old.seat new.seat (Enter entry) seen seat calls extends many

-- at the moment the seat has made all its calls
now_known : (seats : List (Option View)) (count : ℕ) (r : RecorderView) (known : ℕ) → HasSeat seats count r
    → known ≤ length (entries_of r.seat) → HasKnown r.seat.seen r.seat.number count known
now_known seats count r known seat low = record {
  moment = r.seat.seen;
  begins = ([], sym (append-nil r.seat.seen));
  calls = ap length seat.alone ∙ seat.calls;
  ends = seat.ends;
  low = low;
}

-- who knows a length knows it of a later record too
pub known_more : (seen : List seat_step.Step) (seat count low high : ℕ) → low ≤ high
    → IsKnownTo seen seat count low → IsKnownTo seen seat count high
known_more seen seat count low high rises to = record {
  moment = to.moment;
  begins = to.begins;
  calls = to.calls;
  high = let most = to.high in omega (arith, most, rises);
}

-- ---- how many calls a thread has made

count_step : (steps : List Step) (thread at : ℕ) (s : Step) → slice_get steps at ≡ Some s
    → ledger_count steps thread (suc at)
    ≡ ledger_count steps thread at + cond (s.thread == thread) (calls_at steps at s) 0
count_step steps thread at s is =
    ap (λ (o : Option Step). ledger_count steps thread at
    + option_map_or (λ (q : Step). cond (q.thread == thread) (calls_at steps at q) 0) o 0) is

count_own : (steps : List Step) (thread at : ℕ) (s : Step) → slice_get steps at ≡ Some s → s.thread ≡ thread
    → ledger_count steps thread (at + 1) ≡ ledger_count steps thread at + calls_at steps at s
count_own steps thread at s is own =
    let one : at + 1 ≡ suc at = omega arith in
    ap (ledger_count steps thread) one ∙ count_step steps thread at s is
    ∙ ap (λ b. ledger_count steps thread at + cond b (calls_at steps at s) 0) (eq-eqb s.thread thread own)

-- it makes none where it has no step
count_same : (steps : List Step) (thread n m : ℕ) → n ≤ m → m ≤ length steps
    → step_count (take n steps) thread ≡ step_count (take m steps) thread
    → ledger_count steps thread n ≡ ledger_count steps thread m
count_same steps thread n m low within same = up_to m low (omega arith)
  where
    up_to : (k : ℕ) → n ≤ k → k ≤ m → ledger_count steps thread n ≡ ledger_count steps thread k
    up_to zero from to = let first : n ≡ zero = omega arith in ap (ledger_count steps thread) first
    up_to (suc k) from to = elim (cases_lt n (suc k)) [
      | inl less ↦
          let (s, is) = get_within steps k (omega arith) in
          let next = count_step steps thread k s is in
          let other =
          ap (λ b. cond b (calls_at steps k s) 0)
          (ne_eqb s.thread thread (none_between steps thread n m same k s (omega arith) (omega arith) is)) in
          up_to k (omega arith) (omega arith) ∙ omega (arith, next, other)
      | inr past ↦ let last : n ≡ suc k = omega arith in ap (ledger_count steps thread) last
    ]

-- ---- the records of a thread

own_step_grows : (script : ScriptView) (thread at : ℕ) (s : Step) → slice_get script.steps at ≡ Some s
    → length (own_records script at thread) ≤ length (own_records script (at + 1) thread)
own_step_grows script thread at s is = elim (cases_eq s.thread thread) [
  | inl same ↦ subst (λ t. length (own_records script at t) ≤ length (own_records script (at + 1) t)) same
      (by (refused_at script at) refl)
  | inr other ↦ let equal = ap length (own_other script at s thread is other) in omega (arith, equal)
]
  where
    by : (o : Option CallFault) → refused_at script at ≡ o
        → length (own_records script at s.thread) ≤ length (own_records script (at + 1) s.thread)
    by None accepted =
        let equal = ap length (own_next script at s is accepted)
        ∙ length_push (own_records script at s.thread) _ in
        omega (arith, equal)
    by (Some fault) refused =
        let p = progress_to script at in
        let same : progress_to script (at + 1) ≡ p =
        progress_next script at s is
        ∙ ap (λ found. cond (is_some found) p (progress_with script.nests p s))
        (sym (ap (option_and_then (λ q. step_refusal script.capacity script.nests p q)) is) ∙ refused) in
        let equal = ap (λ (q : Progress). length (thread_records q.records s.thread)) same in
        omega (arith, equal)

own_grows : (script : ScriptView) (thread n m : ℕ) → n ≤ m → m ≤ length script.steps
    → length (own_records script n thread) ≤ length (own_records script m thread)
own_grows script thread n m low within = up_to m low (omega arith)
  where
    up_to : (k : ℕ) → n ≤ k → k ≤ m
        → length (own_records script n thread) ≤ length (own_records script k thread)
    up_to zero from to =
        let first : n ≡ zero = omega arith in
        let same = ap (λ i. length (own_records script i thread)) first in omega (arith, same)
    up_to (suc k) from to = elim (cases_lt n (suc k)) [
      | inl less ↦
          let (s, is) = get_within script.steps k (omega arith) in
          let one : k + 1 ≡ suc k = omega arith in
          let same = ap (λ i. length (own_records script i thread)) one in
          let before = up_to k (omega arith) (omega arith) in
          let next = own_step_grows script thread k s is in
          omega (arith, before, next, same)
      | inr past ↦
          let last : n ≡ suc k = omega arith in
          let same = ap (λ i. length (own_records script i thread)) last in omega (arith, same)
    ]

-- a step that is accepted has a record before those of later steps
own_past : (script : ScriptView) (thread at n : ℕ) → IsStepOf script.steps at thread
    → refused_at script at ≡ None → at < n → n ≤ length script.steps
    → length (own_records script at thread) < length (own_records script n thread)
own_past script thread at n of accepted less within =
    let (s, is, own) = step_there script.steps at thread of in
    let one =
    ap length (own_next script at s is accepted) ∙ length_push (own_records script at s.thread) _ in
    let here : length (own_records script (at + 1) thread) ≡ length (own_records script at thread) + 1 =
    subst (λ t. length (own_records script (at + 1) t) ≡ length (own_records script at t) + 1) own one in
    let grows = own_grows script thread (at + 1) n (omega arith) within in
    omega (arith, here, grows)

run_length : (script : ScriptView) (at : ℕ) (r : RecorderView) → HasRun script at r
    → length r.records ≡ length (own_records script at r.thread)
run_length script at r run = sym (length-map r.records without_seen) ∙ ap length run.records

-- ---- what the records name

-- what the records name stays, while the seat sees more
pub named_later : (script : ScriptView) (seats : List (Option View)) (n : ℕ) (old new : RecorderView)
    → HasNamed script seats n old → new.thread ≡ old.thread → new.records ≡ old.records
    → new.seat.number ≡ old.seat.number → StartsWith new.seat.seen old.seat.seen
    → HasNamed script seats n new
named_later script seats n old new has thread records number grown = record {
  known = λ at q below there.
      subst (λ k. HasKnown new.seat.seen k (ledger_count script.steps new.thread (at + 1)) q.seen)
      (sym number)
      (subst (λ t. HasKnown new.seat.seen old.seat.number (ledger_count script.steps t (at + 1)) q.seen)
      (sym thread)
      (known_later old.seat.seen new.seat.seen old.seat.number (ledger_count script.steps old.thread (at + 1))
      q.seen grown (has.known at q below (was at q there))));
  passed = λ task first at t q below there uses is apart.
      known_to_later old.seat.seen new.seat.seen (number_of seats t.thread)
      (ledger_count script.steps t.thread (first + 1)) q.seen grown
      (has.passed task first at t q below (was at q there) uses is (λ e. apart (e ∙ sym thread)));
  awaited = λ first at q below there comes reads apart.
      known_to_later old.seat.seen new.seat.seen (number_of seats comes.before.thread)
      (ledger_count script.steps comes.before.thread (first + 1)) q.seen grown
      (has.awaited first at q below (was at q there) comes reads (λ e. apart (e ∙ sym thread)));
}
  where
    was : (at : ℕ) (q : Record) → HasRecordAt script new at q → HasRecordAt script old at q
    was at q there = record {
      of_thread = there.of_thread ∙ ap Some thread;
      accepted = there.accepted;
      stands =
          ap (λ l. slice_get l (length (own_records script at old.thread))) (sym records)
          ∙ ap (λ t. slice_get new.records (length (own_records script at t))) (sym thread) ∙ there.stands;
    }

-- ---- a step

-- a record that was there is there still
pub was_there : (script : ScriptView) (at n : ℕ) (x q : Record) (old new : RecorderView)
    → HasRun script at old
    → at ≤ length script.steps → new.thread ≡ old.thread → new.records ≡ old.records ++ x ∷ [] → n < at
    → HasRecordAt script new n q → HasRecordAt script old n q
was_there script at n x q old new run within thread records below there =
    let of_thread : IsStepOf script.steps n old.thread = there.of_thread ∙ ap Some thread in
    let past = own_past script old.thread n at of_thread there.accepted below within in
    let long = run_length script at old run in
    let stands : slice_get (old.records ++ x ∷ []) (length (own_records script n old.thread)) ≡ Some q =
    ap (λ l. slice_get l (length (own_records script n old.thread))) (sym records)
    ∙ ap (λ t. slice_get new.records (length (own_records script n t))) (sym thread) ∙ there.stands in
    record {
      of_thread = of_thread;
      accepted = there.accepted;
      stands = elim (pushed_cases old.records x q (length (own_records script n old.thread)) stands) [
        | inl before ↦ before
        | inr (last, same) ↦ absurd (omega (arith, last, past, long))
      ];
    }

-- the record of the step
is_new : (script : ScriptView) (at : ℕ) (x q : Record) (old new : RecorderView) → HasRun script at old
    → new.thread ≡ old.thread → new.records ≡ old.records ++ x ∷ [] → HasRecordAt script new at q → x ≡ q
is_new script at x q old new run thread records there =
    let long = run_length script at old run in
    same_Some x q
    (sym (get_last old.records x (length (own_records script at old.thread)) (sym long))
    ∙ ap (λ l. slice_get l (length (own_records script at old.thread))) (sym records)
    ∙ ap (λ t. slice_get new.records (length (own_records script at t))) (sym thread) ∙ there.stands)

-- after the call of the step
pub aware_next : (script : ScriptView) (seats : List (Option View)) (at : ℕ) (s : Step)
    (old new : RecorderView) (first second first_after second_after : Option TaskView)
    → IsNext script at s old first second → HasMet script seats at s old → HasHeard script seats at old
    → IsCalled old s.body first second new first_after second_after → IsAware script seats (at + 1) new
aware_next script seats at s old new first second first_after second_after next ready heard called = record {
  seat =
      subst (λ n. HasSeat seats n new)
      (ap (λ t. ledger_count script.steps t at + first_notes + second_notes + reads) (sym next.of_thread)
      ∙ counted
      ∙ ap (λ t. ledger_count script.steps t (at + 1)) (next.of_thread ∙ sym thread)) made.0;
  named = record {
    known = λ n q below there. elim (cases_lt n at) [
      | inl earlier ↦
          subst (λ k. HasKnown new.seat.seen k (ledger_count script.steps new.thread (n + 1)) q.seen)
          (sym number)
          (subst (λ t. HasKnown new.seat.seen old.seat.number (ledger_count script.steps t (n + 1)) q.seen)
          (sym thread)
          (known_later old.seat.seen new.seat.seen old.seat.number
          (ledger_count script.steps old.thread (n + 1))
          q.seen made.1
          (ready.named.known n q earlier
          (was_there script at n x q old new next.run within thread records earlier there))))
      | inr late ↦
          let here : n ≡ at = omega (arith, below, late) in
          let own : x ≡ q =
          is_new script at x q old new next.run thread records
          (subst (λ k. HasRecordAt script new k q) here there) in
          subst (λ k. HasKnown new.seat.seen new.seat.number (ledger_count script.steps new.thread (k + 1))
          q.seen)
          (sym here)
          (subst (λ (y : Record). HasKnown new.seat.seen new.seat.number
          (ledger_count script.steps new.thread (at + 1)) y.seen) own
          (now_known seats (ledger_count script.steps new.thread (at + 1)) new x.seen after made.3))
    ];
    passed = λ task from n t q below there uses is apart. elim (cases_lt n at) [
      | inl earlier ↦
          known_to_later old.seat.seen new.seat.seen (number_of seats t.thread)
          (ledger_count script.steps t.thread (from + 1)) q.seen made.1
          (ready.named.passed task from n t q earlier
          (was_there script at n x q old new next.run within thread records earlier there) uses is
          (λ e. apart (e ∙ sym thread)))
      | inr late ↦
          let here : n ≡ at = omega (arith, below, late) in
          let own : x ≡ q =
          is_new script at x q old new next.run thread records
          (subst (λ k. HasRecordAt script new k q) here there) in
          subst (λ (y : Record). IsStepKnown script seats new.seat.seen from t y.seen) own
          (known_more new.seat.seen (number_of seats t.thread) (ledger_count script.steps t.thread (from + 1))
          old.known x.seen made.2
          (known_to_later old.seat.seen new.seat.seen (number_of seats t.thread)
          (ledger_count script.steps t.thread (from + 1)) old.known made.1
          (ready.heard task from t (subst (IsNextUse script.steps task from) here uses) is
          (λ e. apart (e ∙ sym thread)))))
    ];
    awaited = λ from n q below there comes reads apart. elim (cases_lt n at) [
      | inl earlier ↦
          known_to_later old.seat.seen new.seat.seen (number_of seats comes.before.thread)
          (ledger_count script.steps comes.before.thread (from + 1)) q.seen made.1
          (ready.named.awaited from n q earlier
          (was_there script at n x q old new next.run within thread records earlier there) comes reads
          (λ e. apart (e ∙ sym thread)))
      | inr late ↦
          let here : n ≡ at = omega (arith, below, late) in
          let own : x ≡ q =
          is_new script at x q old new next.run thread records
          (subst (λ k. HasRecordAt script new k q) here there) in
          let moved : ComesAfter script.steps from at = record {
            before = comes.before;
            step = comes.step;
            below = let low = comes.below in omega (arith, low, here);
            is_before = comes.is_before;
            is_step = ap (slice_get script.steps) (sym here) ∙ comes.is_step;
            named = comes.named;
          } in
          subst (λ (y : Record). IsStepKnown script seats new.seat.seen from comes.before y.seen) own
          (told_known old new x.seen (reads_ledger s.body) (number_of seats comes.before.thread)
          (ledger_count script.steps comes.before.thread (from + 1))
          (sym
          (ap (λ (o : Option Step). option_map_or (λ (p : Step). reads_ledger p.body) o false) next.there)
          ∙ ap (is_reader script.steps) (sym here) ∙ reads) called.seat (heard from moved))
    ];
  };
}
  where
    first_notes : ℕ
    first_notes = notes_met script.steps at s.thread (first_given s.body)

    second_notes : ℕ
    second_notes = notes_met script.steps at s.thread (second_given s.body)

    reads : ℕ
    reads = cond (reads_ledger s.body) 1 0

    x : Record
    x = record {
      thread = old.thread;
      nests = old.nests;
      seq = length old.records;
      seen = called.seen;
      body = recorded_body s.body first second;
    }

    thread : new.thread ≡ old.thread
    thread = ap (λ (r : RecorderView). r.thread) called.recorded_is

    records : new.records ≡ old.records ++ x ∷ []
    records = ap (λ (r : RecorderView). r.records) called.recorded_is

    within : at ≤ length script.steps
    within = let low = slice_get_within script.steps at s next.there in omega arith

    made : HasSeat seats
        (ledger_count script.steps old.thread at + first_notes + second_notes + reads) new
        × StartsWith new.seat.seen old.seat.seen × (old.known ≤ called.seen)
        × (called.seen ≤ length (entries_of new.seat))
    made =
        called_seat seats (ledger_count script.steps old.thread at + first_notes + second_notes) old new
        called.seen (reads_ledger s.body) ready.seat thread called.seat

    number : new.seat.number ≡ old.seat.number
    number = made.0.number ∙ ap (number_of seats) thread ∙ sym ready.seat.number

    counted : ledger_count script.steps s.thread at + first_notes + second_notes + reads
        ≡ ledger_count script.steps s.thread (at + 1)
    counted = let own = count_own script.steps s.thread at s next.there refl in omega (arith, own)

    after : HasSeat seats (ledger_count script.steps new.thread (at + 1)) new
    after =
        subst (λ n. HasSeat seats n new)
        (ap (λ t. ledger_count script.steps t at + first_notes + second_notes + reads) (sym next.of_thread)
        ∙ counted ∙ ap (λ t. ledger_count script.steps t (at + 1)) (next.of_thread ∙ sym thread)) made.0

-- ---- between the steps of a thread

-- a recorder without records, with a new seat
pub aware_first : (script : ScriptView) (seats : List (Option View)) (n : ℕ) (r : RecorderView) (v : View)
    → n ≤ length script.steps → step_count (take n script.steps) r.thread ≡ 0
    → seat_of seats r.thread ≡ Some v → r.seat ≡ v → IsNewSeat v → r.known ≡ 0 → IsAware script seats n r
aware_first script seats n r v within none is same new known = record {
  seat = record {
    number =
        ap (λ (w : View). w.number) same
        ∙ sym (ap (λ (o : Option View). option_map_or (λ (w : View). w.number) o 0) is);
    calls = ap (λ (w : View). length w.own) same ∙ ap length new.own
        ∙ count_same script.steps r.thread 0 n (omega arith) within (sym none);
    alone =
        ap (seat_calls r.seat.number) (ap (λ (w : View). w.seen) same ∙ new.seen)
        ∙ sym (ap (λ (w : View). w.own) same ∙ new.own);
    ends = inl (ap (λ (w : View). w.seen) same ∙ new.seen);
    low = omega (arith, known);
  };
  named = record {
    known = λ at q below there. absurd (never at below there.of_thread);
    passed = λ task first at t q below there uses stands apart. absurd (never at below there.of_thread);
    awaited = λ first at q below there comes reads apart. absurd (never at below there.of_thread);
  };
}
  where
    never : (at : ℕ) → at < n → IsStepOf script.steps at r.thread → ⊥
    never at below of =
        let (s, stands, own) = step_there script.steps at r.thread of in
        none_between script.steps r.thread 0 n (sym none) at s (omega arith) below stands own

-- up to the next step of the thread
pub aware_between : (script : ScriptView) (seats : List (Option View)) (n m : ℕ) (r : RecorderView) → n ≤ m
    → m ≤ length script.steps
    → step_count (take n script.steps) r.thread ≡ step_count (take m script.steps) r.thread
    → IsAware script seats n r → IsAware script seats m r
aware_between script seats n m r low within same aware = record {
  seat =
      subst (λ k. HasSeat seats k r) (count_same script.steps r.thread n m low within same) aware.seat;
  named = record {
    known = λ at q below there. aware.named.known at q (earlier at below there.of_thread) there;
    passed = λ task first at t q below there.
        aware.named.passed task first at t q (earlier at below there.of_thread) there;
    awaited = λ first at q below there.
        aware.named.awaited first at q (earlier at below there.of_thread) there;
  };
}
  where
    earlier : (at : ℕ) → at < m → IsStepOf script.steps at r.thread → at < n
    earlier at below of = elim (cases_lt at n) [
      | inl less ↦ less
      | inr from ↦
          let (s, stands, own) = step_there script.steps at r.thread of in
          absurd (none_between script.steps r.thread n m same at s from below stands own)
    ]
