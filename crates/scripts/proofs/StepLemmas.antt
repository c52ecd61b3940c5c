-- A step that a thread takes, and one that fails.
use Rattle.std.proofs.Common.{ℕ, ◌≡◌, ◌≢◌, ◌∙◌, ◌++◌, ◌∷◌, ◌+◌, ◌<◌, ◌≤◌, ◌⊎◌, [], List, Some, None, Option}
use Rattle.std.proofs.Common.{get_or, length, refl, ap, sym, subst, inl, inr, arith}
use Rattle.std.specs.Prelude.{slice_get, option_map, map}
use Rattle.std.specs.Prelude.{option_and_then}
use Rattle.std.specs.Global.{Vec}
use Rattle.std.proofs.lemmas.List.{length-map, map-append}
use Rattle.std.proofs.lemmas.Option.{none-some, slice_get_within, get_or_from_slice_get}
use Rattle.ompt_events.specs.declared.records.Record.{Record}
use Rattle.ompt_events.specs.declared.records.Body.{Body}
use Rattle.task_states.specs.Rows.{row_at, row_items}
use Rattle.callbacks.specs.declared.fault.CallFault.{CallFault}
use Rattle.callbacks.specs.Recorders.{RecorderView}
use Rattle.callbacks.specs.Tasks.{TaskView}
use Rattle.callbacks.specs.declared.fault.CallFault.TheVariants as call
use Rattle.scripts.specs.declared.script.Step.{Step}
use Rattle.scripts.specs.Scripts.{ScriptView, IsScript}
use Rattle.packed_trace.specs.Named.{subject, object}
use Rattle.scripts.specs.RunCalls.{first_given, second_given, recorded_body, call_refusal}
use Rattle.scripts.specs.Progress.{Progress, value}
use Rattle.scripts.specs.Progress.{progress_to, refused_at}
use Rattle.scripts.specs.Progress.{without_seen, own_records}
use Rattle.scripts.specs.Parts.{HasRun, IsCalled, IsSameRun, IsTaken}
use Rattle.scripts.specs.Parts.{IsValueAfter, IsStepOf, IsUsed, IsNext, IsCallFault}
use Rattle.scripts.specs.Parts.{id_of, fixed_of, fault_of_call, refused, out_of_memory, in_ledger}
use Rattle.scripts.specs.declared.run_fault.Stop.{Stop}
use Rattle.scripts.specs.declared.run_fault.Stop.TheVariants.{Refused}
use Rattle.scripts.specs.Parts.{IsStopAt, without_memory, by_recorder, by_ledger, entry_at}
use Rattle.callbacks.specs.Recorders.{entry_by}
use Rattle.scripts.specs.declared.run_fault.RunFault.TheVariants.{Call}
use Rattle.scripts.specs.declared.uses.Use.{Use}
use Rattle.scripts.specs.declared.uses.Uses.{Uses}
use Rattle.scripts.proofs.PlaceLemmas.{step_there}
use Rattle.scripts.proofs.ProgressLemmas.{given_first, given_second, own_next, record_by}
use Rattle.scripts.proofs.ProgressLemmas.{step_accepted, step_refused, taken_id, value_taken}

-- ---- a step that is taken

-- the step that is read at a place of the script
pub step_read : (script own : ScriptView) (xs : List Step) (at thread : ℕ) (s : Step) → xs ≡ own.steps
    → own ≡ script → s ≡ get_or xs at s → IsStepOf script.steps at thread
    → (slice_get script.steps at ≡ Some s) × (s.thread ≡ thread)
step_read script own xs at thread s same is_own read of =
    let (t, is, by) = step_there script.steps at thread of in
    let here : s ≡ t =
    read ∙ ap (λ (l : List Step). get_or l at s) (same ∙ ap (λ (v : ScriptView). v.steps) is_own)
    ∙ get_or_from_slice_get script.steps at t s is in
    (is ∙ ap Some (sym here), ap (λ (x : Step). x.thread) here ∙ by)

-- a thread that has a step has a row
pub row_within : {X : Type 0} (rows : List (Vec X)) (thread number : ℕ) (x : X)
    → slice_get (row_at rows thread) number ≡ Some x → thread < length rows
row_within {X = X} rows thread number x is = found (slice_get rows thread) refl is
  where
    found : (o : Option (Vec X)) → slice_get rows thread ≡ o → slice_get (row_items o) number ≡ Some x
        → thread < length rows
    found None here there = absurd (none-some x there)
    found (Some row) here there = slice_get_within rows thread row here

-- the records of a recorder that is as it was
pub run_same : (script : ScriptView) (at : ℕ) (old new : RecorderView) → IsSameRun old new
    → HasRun script at old → HasRun script at new
run_same script at old new same run = record {
  nests = same.nests ∙ run.nests;
  capacity = same.capacity ∙ run.capacity;
  records =
      ap (map without_seen) same.records ∙ run.records ∙ ap (own_records script at) (sym same.thread);
}

-- a recorder is about to take the step, with the values of the tasks that were taken for it
pub next_step : {H : Type 0} (since_of : H → ℕ) (task_of : H → TaskView) (script : ScriptView) (n at : ℕ)
    (s : Step) (old r : RecorderView) (uses : Uses) (one two : Option H) (first second : Option TaskView)
    → IsScript script.steps → slice_get script.steps at ≡ Some s → s.thread ≡ old.thread
    → HasRun script at old → IsSameRun old r → IsUsed script.steps n at uses
    → ((h : H) → IsValueAfter script (since_of h) (task_of h))
    → IsTaken (first_given s.body) (option_map (λ (u : Use). u.since) uses.first)
    (option_map (λ h. (since_of h, task_of h)) one)
    → IsTaken (second_given s.body) (option_map (λ (u : Use). u.since) uses.second)
    (option_map (λ h. (since_of h, task_of h)) two)
    → first ≡ option_map task_of one → second ≡ option_map task_of two → IsNext script at s r first second
next_step since_of task_of script n at s old r uses one two first second rules there own run same used are
    taken too first_is second_is = record {
      rules = rules;
      there = there;
      of_thread = own ∙ sym same.thread;
      run = run_same script at old r same run;
      given = record {
        first_is = ap (λ (o : Option TaskView). id_of o) first_is ∙ taken_id since_of task_of _ _ one taken;
        second_is = ap (λ (o : Option TaskView). id_of o) second_is ∙ taken_id since_of task_of _ _ two too;
      };
      first_is =
          first_is
          ∙ sym
          (value_taken since_of task_of script n at (first_given s.body) (subject s.body) _ one within are
          (given_first s.body) (used.first s there) taken);
      second_is =
          second_is
          ∙ sym
          (value_taken since_of task_of script n at (second_given s.body) (object s.body) _ two within
          are
          (given_second s.body) (used.second s there) too);
    }
  where
    within : at ≤ length script.steps
    within = let low = slice_get_within script.steps at s there in omega arith

-- a recorder that has made the call has the records of its thread up to the step
pub run_next : (script : ScriptView) (at : ℕ) (s : Step) (r called new : RecorderView)
    (first second first_after second_after : Option TaskView) → IsNext script at s r first second
    → IsCalled r s.body first second called first_after second_after → IsSameRun called new
    → HasRun script (at + 1) new
run_next script at s r called new first second first_after second_after next made same =
    run_same script (at + 1) called new same record {
      nests = ap (λ (x : RecorderView). x.nests) made.recorded_is ∙ next.run.nests;
      capacity = ap (λ (x : RecorderView). x.capacity) made.recorded_is ∙ next.run.capacity;
      records =
          ap (λ (x : RecorderView). map without_seen x.records) made.recorded_is
          ∙ map-append without_seen r.records (last ∷ [])
          ∙ ap (λ (own : List Record). own ++ record_by s.body r.thread r.nests r.records first second ∷ [])
          next.run.records
          ∙ ap (λ x. own_records script at r.thread ++ x ∷ []) recorded_same
          ∙ ap
          (λ thread. own_records script at thread
          ++ record_by s.body thread script.nests (own_records script at thread)
          (value p.values (first_given s.body)) (value p.values (second_given s.body))
          ∷ [])
          (sym next.of_thread)
          ∙ sym (own_next script at s next.there
          (step_accepted script at s r called first second first_after second_after next made))
          ∙ ap (own_records script (at + 1)) (next.of_thread ∙ sym thread_is);
    }
  where
    p : Progress
    p = progress_to script at

    last : Record
    last = record {
      thread = r.thread;
      nests = r.nests;
      seq = length r.records;
      seen = made.seen;
      body = recorded_body s.body first second;
    }

    thread_is : called.thread ≡ r.thread
    thread_is = ap (λ (x : RecorderView). x.thread) made.recorded_is

    as_many : length r.records ≡ length (own_records script at r.thread)
    as_many = sym (length-map r.records without_seen) ∙ ap length next.run.records

    recorded_same : record_by s.body r.thread r.nests r.records first second
        ≡ record_by s.body r.thread script.nests (own_records script at r.thread)
        (value p.values (first_given s.body)) (value p.values (second_given s.body))
    recorded_same =
        ap (λ nests. record_by s.body r.thread nests r.records first second) next.run.nests
        ∙ ap
        (λ n. record (record_by s.body r.thread script.nests r.records first second) { seq = n })
        as_many
        ∙ ap
        (λ one. record_by s.body r.thread script.nests (own_records script at r.thread) one second)
        next.first_is
        ∙ ap
        (record_by s.body r.thread script.nests (own_records script at r.thread)
        (value p.values (first_given s.body)))
        next.second_is

-- ---- a step that fails

-- a call that fails leaves the recorder, but for what its seat has seen
pub fault_same : (old new : RecorderView) (found : Option CallFault) (told : Body) (fault : CallFault)
    → IsCallFault old found told new fault → IsSameRun old new
fault_same old new found told fault (refused reason same is) = record {
  ledger = ap (λ (r : RecorderView). r.ledger) same;
  thread = ap (λ (r : RecorderView). r.thread) same;
  nests = ap (λ (r : RecorderView). r.nests) same;
  records = ap (λ (r : RecorderView). r.records) same;
  capacity = ap (λ (r : RecorderView). r.capacity) same;
  fixed = ap fixed_of same;
}
fault_same old new found told fault (out_of_memory same) = record {
  ledger = ap (λ (r : RecorderView). r.ledger) same;
  thread = ap (λ (r : RecorderView). r.thread) same;
  nests = ap (λ (r : RecorderView). r.nests) same;
  records = ap (λ (r : RecorderView). r.records) same;
  capacity = ap (λ (r : RecorderView). r.capacity) same;
  fixed = ap fixed_of same;
}
fault_same old new found told fault (in_ledger reason entry none made by) = record {
  ledger = ap (λ (r : RecorderView). r.ledger) by.unchanged;
  thread = ap (λ (r : RecorderView). r.thread) by.unchanged;
  nests = ap (λ (r : RecorderView). r.nests) by.unchanged;
  records = ap (λ (r : RecorderView). r.records) by.unchanged;
  capacity = ap (λ (r : RecorderView). r.capacity) by.unchanged;
  fixed =
      ap (λ b. (b, (new.seat.shares, new.seat.claims))) (ap (λ (r : RecorderView). r.before) by.unchanged)
      ∙ ap (λ s. (old.before, (s, new.seat.claims))) by.looked.shares
      ∙ ap (λ cs. (old.before, (old.seat.shares, cs))) by.looked.claims;
}

-- the recorder still has the records of its thread up to the step
pub run_stays : (script : ScriptView) (at : ℕ) (s : Step) (r called : RecorderView)
    (first second : Option TaskView) (fault : CallFault) → IsNext script at s r first second
    → IsCallFault r (call_refusal r s.body first second) (recorded_body s.body first second) called fault
    → HasRun script at called
run_stays script at s r called first second fault next failed =
    run_same script at r called (fault_same r called _ _ fault failed) next.run

-- a fault of memory is on no line, each other one on that of the call
on_line : (line : ℕ) (fault : CallFault)
    → (fault ≡ call.Memory) ⊎ ((fault ≢ call.Memory) × (fault_of_call line fault ≡ Call line fault))
on_line line call.Memory = inl refl
on_line line call.Full = inr (λ same. cc, refl)
on_line line call.WrongState = inr (λ same. cc, refl)
on_line line call.TooDeep = inr (λ same. cc, refl)
on_line line call.Overlap = inr (λ same. cc, refl)

-- the thread stops at the place of the step
stop_by : (script : ScriptView) (at : ℕ) (old new : RecorderView) (told : Body) (fault : CallFault)
    → entry_by old.thread told ≡ entry_at script at → IsCallFault old (refused_at script at) told new fault
    → IsStopAt script at new (Refused (fault_of_call (at + 2) fault))
stop_by script at old new told fault makes (refused reason same is) = elim (on_line (at + 2) reason) [
  | inl memory ↦
      subst (λ f. IsStopAt script at new (Refused (fault_of_call (at + 2) f))) (sym memory) without_memory
  | inr called ↦ subst (λ f. IsStopAt script at new (Refused f)) (sym called.1) (by_recorder reason is)
]
stop_by script at old new told fault makes (out_of_memory same) = without_memory
stop_by script at old new told fault makes
    (in_ledger reason entry none made by) = elim (on_line (at + 2) reason) [
      | inl memory ↦
          subst (λ f. IsStopAt script at new (Refused (fault_of_call (at + 2) f))) (sym memory) without_memory
      | inr called ↦
          subst (λ f. IsStopAt script at new (Refused f)) (sym called.1)
          (by_ledger reason entry called.0 none (sym makes ∙ made) by.fault_is)
    ]

-- a step whose call fails
pub stopped_at : (script : ScriptView) (at : ℕ) (s : Step) (r called : RecorderView)
    (first second : Option TaskView) (fault : CallFault) (stop : Stop)
    → stop ≡ Refused (fault_of_call s.line fault)
    → IsNext script at s r first second
    → IsCallFault r (call_refusal r s.body first second) (recorded_body s.body first second) called fault
    → IsStopAt script at called stop
stopped_at script at s r called first second fault stop is next failed =
    subst (IsStopAt script at called)
    (sym (is ∙ ap (λ line. Refused (fault_of_call line fault)) (next.rules.lines at s next.there)))
    (stop_by script at r called (recorded_body s.body first second) fault makes
    (subst (λ o. IsCallFault r o (recorded_body s.body first second) called fault)
    (step_refused script at s r first second next) failed))
  where
    p : Progress
    p = progress_to script at

    makes : entry_by r.thread (recorded_body s.body first second) ≡ entry_at script at
    makes =
        ap (λ thread. entry_by thread (recorded_body s.body first second)) (sym next.of_thread)
        ∙ ap (λ o. entry_by s.thread (recorded_body s.body o second)) next.first_is
        ∙ ap (λ o. entry_by s.thread (recorded_body s.body (value p.values (first_given s.body)) o))
        next.second_is
        ∙ ap (option_and_then (λ (x : Step). entry_by x.thread (recorded_body x.body
        (value p.values (first_given x.body)) (value p.values (second_given x.body)))))
        (sym next.there)
