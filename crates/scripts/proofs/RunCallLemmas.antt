-- What a call of a recorder does, as the call of a step.
use Rattle.std.proofs.Common.{ℕ, ◌≡◌, ◌≤◌, ◌∙◌, ◌+◌, Some, None, Option, Bool, true, false, ap, sym, refl}
use Rattle.std.proofs.Common.{subst}
use Rattle.std.proofs.Common.{arith, cond}
use Rattle.std.specs.Prelude.{is_some, not, option_map, option_and_then, if◌then◌else◌}
use Rattle.std.specs.Prelude.{Result, Ok, Err, OnOk, OnErr, IfErr, IsErr}
use Rattle.std.proofs.lemmas.Bool.{false≢true}
use Rattle.std.proofs.lemmas.Option.{same_Some}
use Rattle.std.specs.Int.Bits.{bit_and, bit_or, or_add_and}
use Rattle.ompt_events.specs.declared.records.Body.{Body}
use Rattle.ompt_events.specs.declared.records.Body.TheVariants.{TaskSchedule, SyncRegion, Cancel}
use Rattle.ompt_events.specs.declared.names.SyncKind.{SyncKind}
use Rattle.ompt_events.specs.declared.names.Endpoint.TheVariants.{Begin}
use Rattle.ompt_events.specs.declared.records.Claim.{Claim}
use Rattle.ompt_events.specs.declared.records.Part.{Part}
use Rattle.ompt_events.specs.declared.records.Turns.{Turns}
use Rattle.ompt_events.specs.declared.names.Status.{Status}
use Rattle.ompt_events.specs.declared.flags.CancelFlags.{CancelFlags}
use Rattle.ompt_events.specs.Names.{status_part}
use Rattle.ompt_events.specs.Records.{finish}
use Rattle.ompt_events.specs.Flags.{has_flag}
use Rattle.credit_ledger.specs.declared.entry.Entry.{Entry}
use Rattle.callbacks.specs.declared.fault.CallFault.{CallFault}
use Rattle.callbacks.specs.declared.fault.CallFault.TheVariants as call
use Rattle.callbacks.specs.Tasks.{TaskView}
use Rattle.callbacks.specs.Tasks.{after_start, with_region, is_barred, entry_of_part}
use Rattle.credit_ledger.specs.TraceEntries.{claimed_entry}
use Rattle.ompt_events.specs.declared.records.Part.TheVariants.{Whole}
use Rattle.std.proofs.lemmas.Bool.{eqb-true}
use Rattle.callbacks.specs.Schedules.{ScheduleView, schedule_body, schedule_of, schedule_refusal, left_of}
use Rattle.callbacks.specs.Schedules.{IsStopped, IsStoppedBy, discard_body, discard_refusal}
use Rattle.callbacks.specs.Calls.{call_fault, may_cancel}
use Rattle.callbacks.specs.Recorders.{RecorderView, recorded, recorded_alone, IsFinishRefused, IsConcluded}
use Rattle.callbacks.specs.Recorders.{refusal_at, entry_by}
use Rattle.callbacks.specs.Recorders.{before, by_ledger}
use Rattle.scripts.specs.RunCalls.{recorded_body, first_left, second_left, call_refusal, reads_ledger}
use Rattle.credit_ledger.specs.declared.view.Call.{Call}
use Rattle.credit_ledger.specs.declared.view.Call.TheVariants.{Enter, Look}
use Rattle.credit_ledger.specs.declared.view.View.{View}
use Rattle.credit_ledger.specs.Seats.{Extends}
use Rattle.scripts.specs.Parts.{fixed_of, IsCalled, HasCalled, alone, looked, entered}
use Rattle.scripts.specs.Parts.{IsCallFault, refused, out_of_memory, in_ledger}

-- ---- calls that succeed

-- there is no reason against a call that succeeds
pub unrefused : (found : Option CallFault) → (is_some found ≡ true → false ≡ true) → found ≡ None
unrefused None never = refl
unrefused (Some fault) never = absurd (false≢true (never refl))

-- the seat that made a call is the same one
extended : {call : Call} {reply : ℕ} (seen : ℕ) (told : Body) (old new : RecorderView)
    → Extends old.seat call reply new.seat → new ≡ recorded old seen new.seat told
    → fixed_of new ≡ fixed_of old
extended seen told old new extends is =
    ap (λ b. (b, (new.seat.shares, new.seat.claims))) (ap (λ (r : RecorderView). r.before) is)
    ∙ ap (λ s. (old.before, (s, new.seat.claims))) extends.shares
    ∙ ap (λ cs. (old.before, (old.seat.shares, cs))) extends.claims

fixed_by : (uses : Bool) (seen : ℕ) (told : Body) (old new : RecorderView) → HasCalled old seen new uses
    → new ≡ recorded old seen new.seat told → fixed_of new ≡ fixed_of old
fixed_by uses seen told old new (alone same known now) is =
    ap (λ b. (b, (new.seat.shares, new.seat.claims))) (ap (λ (r : RecorderView). r.before) is)
    ∙ ap (λ (v : View). (old.before, (v.shares, v.claims))) same
fixed_by uses seen told old new (looked extends now) is = extended seen told old new extends is
fixed_by uses seen told old new (entered entry extends most) is = extended seen told old new extends is

-- the ledger was looked at for a record that finishes nothing
pub looked_by : (old new : RecorderView) (seen : ℕ) (told : Body) → Extends old.seat Look seen new.seat
    → new ≡ recorded old seen new.seat told → finish told ≡ None → HasCalled old seen new true
looked_by old new seen told extends is none =
    looked extends
    (ap (λ (r : RecorderView). r.known) is ∙ ap (λ o. cond (is_some o) (seen + 1) seen) none)

-- an entry was entered
pub entered_by : (old new : RecorderView) (index : ℕ) (entry : Entry) (told : Body)
    → Extends old.seat (Enter entry) index new.seat → new ≡ recorded old index new.seat told
    → HasCalled old index new true
entered_by old new index entry told extends is =
    entered entry extends
    (let known = ap (λ (r : RecorderView). r.known) is in
    let most = by (is_some (finish told)) in
    omega (arith, known, most))
  where
    by : (b : Bool) → cond b (index + 1) index ≤ index + 1
    by true = omega arith
    by false = omega arith

-- a record was added
pub called : (old new : RecorderView) (seen : ℕ) (body told : Body)
    (first second first_after second_after : Option TaskView) → call_refusal old body first second ≡ None
    → new ≡ recorded old seen new.seat told → HasCalled old seen new (reads_ledger body)
    → told ≡ recorded_body body first second
    → first_after ≡ first_left old.thread body first → second_after ≡ second_left body first second
    → IsCalled old body first second new first_after second_after
called old new seen body told first second first_after second_after accepted is seat same first_is
    second_is = record {
      accepted = accepted;
      seen = seen;
      recorded_is = is ∙ ap (recorded old seen new.seat) same;
      fixed = fixed_by (reads_ledger body) seen told old new seat is;
      seat = seat;
      first_is = first_is;
      second_is = second_is;
    }

-- the same without the ledger; what finishes a task uses it
pub called_alone : (old new : RecorderView) (body told : Body)
    (first second first_after second_after : Option TaskView) → reads_ledger body ≡ false
    → finish told ≡ None → call_refusal old body first second ≡ None
    → new ≡ recorded_alone old told → told ≡ recorded_body body first second
    → first_after ≡ first_left old.thread body first → second_after ≡ second_left body first second
    → IsCalled old body first second new first_after second_after
called_alone old new body told first second first_after second_after unread unfinished accepted is =
    let seat : new.seat ≡ old.seat = ap (λ (r : RecorderView). r.seat) is in
    called old new old.known body told first second first_after second_after accepted
    (is ∙ ap (λ s. recorded old old.known s told) (sym seat))
    (subst (HasCalled old old.known new) (sym unread)
    (alone seat refl
    (ap (λ (r : RecorderView). r.known) is
    ∙ ap (λ o. cond (is_some o) (old.known + 1) old.known) unfinished)))

-- ---- calls that fail

-- before the ledger is used
pub not_called : (old new : RecorderView) (found : Option CallFault) (told : Body) (fault : CallFault)
    → new ≡ old → fault ≡ call_fault found → IsCallFault old found told new fault
not_called old new None told fault same is =
    subst (IsCallFault old None told new) (sym is) (out_of_memory same)
not_called old new (Some reason) told fault same is =
    subst (IsCallFault old (Some reason) told new) (sym is) (refused reason same refl)

-- a call that finishes a task
pub not_finished : (old new : RecorderView) (found : Option CallFault) (entry : Option Entry) (told : Body)
    (fault : CallFault) → entry_by old.thread told ≡ entry → IsFinishRefused old found entry new fault
    → IsCallFault old found told new fault
not_finished old new found entry told fault makes (before same is) =
    not_called old new found told fault same is
not_finished old new found entry told fault makes (by_ledger made none is by) =
    in_ledger fault made none (makes ∙ is) by

-- the entry of a schedule, if it finishes a part of its task
pub schedule_entry : (thread : ℕ) (s : ScheduleView)
    → entry_by thread (schedule_body s (option_map (λ _. s.prior.claim) (status_part s.status)))
    ≡ option_map (λ part. entry_of_part thread part s.prior) (status_part s.status)
schedule_entry thread s = by (status_part s.status)
  where
    by : (part : Option Part)
        → option_and_then (λ f. option_map (claimed_entry thread f) (option_map (λ _. s.prior.claim) part))
        (option_map (λ p. (s.prior.id, p)) part)
        ≡ option_map (λ p. entry_of_part thread p s.prior) part
    by None = refl
    by (Some part) = refl

-- the entry of a discard
pub discard_entry : (thread : ℕ) (t : TaskView) (given : CancelFlags) → has_flag given.0 64 ≡ true
    → entry_by thread (discard_body t given (Some t.claim)) ≡ Some (entry_of_part thread Whole t)
discard_entry thread t given has =
    rw (same) (rw has refl)
  where
    same : bit_or given.0 64 ≡ given.0
    same = omega (arith, or_add_and given.0 64, eqb-true (bit_and given.0 64) 64 has)

-- out of memory
pub no_memory : (old : RecorderView) (found : Option CallFault) (told : Body)
    → IsCallFault old found told old call.Memory
no_memory old found told = out_of_memory refl

-- the same of a call's result
pub failed : {T : Type 0} (old new : RecorderView) (found : Option CallFault) (told : Body)
    (result : Result T CallFault) → OnErr result (new ≡ old)
    → IfErr result (λ fault. fault ≡ call_fault found)
    → IfErr result (IsCallFault old found told new)
failed old new found told (Ok x) same is = tt
failed old new found told (Err fault) same is = not_called old new found told fault same is

-- the value's task
pub is_id : (t : TaskView) (task : ℕ) → Some t.id ≡ Some task → t.id ≡ task
is_id t task same = same_Some t.id task same

-- a call that does not use the ledger and leaves its values, by its result
pub kept : {T : Type 0} (result : Result T CallFault) (old new : RecorderView) (body told : Body)
    (t : TaskView) (second : Option TaskView) (found : Option CallFault)
    → reads_ledger body ≡ false → finish told ≡ None
    → found ≡ call_refusal old body (Some t) second → told ≡ recorded_body body (Some t) second
    → Some t ≡ first_left old.thread body (Some t) → second ≡ second_left body (Some t) second
    → (is_some found ≡ true → IsErr result) → OnOk result (new ≡ recorded_alone old told)
    → OnOk result (IsCalled old body (Some t) second new (Some t) second)
kept (Ok x) old new body told t second found unread unfinished same same_body first_is second_is never made =
    called_alone old new body told (Some t) second (Some t) second unread unfinished
    (sym same ∙ unrefused found never) made
    same_body first_is second_is
kept (Err fault) old new body told t second found unread unfinished same same_body first_is second_is never
    made = tt

-- the record of a schedule
stopped_as : (part : Option Part) (old new : RecorderView) (s : ScheduleView) → status_part s.status ≡ part
    → IsStoppedBy part old s new
    → (seen : ℕ) × (new ≡ recorded old seen new.seat (schedule_body s (option_map (λ _. s.prior.claim) part)))
    × HasCalled old seen new true
stopped_as None old new s none (seen, observed) = (
  seen,
  observed.1,
  looked_by old new seen (schedule_body s None) observed.0 observed.1
      (ap (option_map (λ part. (s.prior.id, part))) none),
)
stopped_as (Some part) old new s some (index, concluded) =
    (index, concluded.1, entered_by old new index _ _ concluded.0 concluded.1)

-- a task that stops or is fulfilled, and the one that runs next
pub scheduled : (old new : RecorderView) (t : TaskView) (status : Status) (turns : Option Turns) (prior : ℕ)
    (next : Option ℕ) (claimed : Option Claim) (second back after : Option TaskView)
    → IsStopped old (schedule_of t status second) new
    → (is_some (schedule_refusal old (schedule_of t status second)) ≡ true → false ≡ true)
    → back ≡ left_of t status → after ≡ option_map after_start second
    → IsCalled old (TaskSchedule status turns prior next claimed) (Some t) second new back after
scheduled old new t status turns prior next claimed second back after stopped never back_is after_is =
    let (seen, is, seat) =
    stopped_as (status_part status) old new (schedule_of t status second) refl stopped in
    called old new seen (TaskSchedule status turns prior next claimed)
    (schedule_body (schedule_of t status second) (option_map (λ _. t.claim) (status_part status)))
    (Some t) second back after (unrefused _ never) is seat refl back_is after_is

-- a task is discarded: its flags say so already
pub discarded : (old new : RecorderView) (t : TaskView) (given : CancelFlags) (index : ℕ) (entry : Entry)
    (task : ℕ) (claimed : Option Claim) (second second_after : Option TaskView)
    → IsConcluded old entry index (discard_body t given (Some t.claim)) new
    → has_flag given.0 64 ≡ true → (is_some (discard_refusal old t given) ≡ true → false ≡ true)
    → second_after ≡ second → IsCalled old (Cancel given task claimed) (Some t) second new None second_after
discarded old new t given index entry task claimed second second_after concluded has never same =
    called old new index (Cancel given task claimed) (discard_body t given (Some t.claim))
    (Some t) second None
    second_after
    (rw has (unrefused _ never)) concluded.1
    (subst (HasCalled old index new) (sym has)
    (entered_by old new index entry (discard_body t given (Some t.claim)) concluded.0 concluded.1))
    (rw has refl) (rw has refl) same

-- a region is cancelled or seen cancelled, by the result of the call
pub cancelled : {T : Type 0} (result : Result T CallFault) (old new : RecorderView) (t : TaskView)
    (given : CancelFlags) (task : ℕ) (claimed : Option Claim) (second second_after : Option TaskView)
    → t.id ≡ task → has_flag given.0 64 ≡ false
    → (is_some (refusal_at old (may_cancel given.0) false false (Cancel given t.id None)) ≡ true
    → IsErr result)
    → OnOk result (new ≡ recorded_alone old (Cancel given t.id None)) → second_after ≡ second
    → OnOk result (IsCalled old (Cancel given task claimed) (Some t) second new (Some t) second_after)
cancelled result old new t given task claimed second second_after id has never made same =
    let found : ℕ → Option CallFault = λ n.
    refusal_at old (may_cancel given.0) false false (Cancel given n None) in
    subst (λ after. OnOk result (IsCalled old (Cancel given task claimed) (Some t) second new (Some t) after))
    (sym same)
    (kept result old new (Cancel given task claimed) (Cancel given t.id None) t second (found t.id) has
    (rw has refl)
    (ap found id ∙ rw has refl) (ap (λ n. Cancel given n None) id ∙ rw has refl)
    (rw has refl) refl never made)

pub not_cancelled : {T : Type 0} (result : Result T CallFault) (old new : RecorderView) (t : TaskView)
    (given : CancelFlags) (task : ℕ) (claimed : Option Claim) (second : Option TaskView)
    → t.id ≡ task → has_flag given.0 64 ≡ false → OnErr result (new ≡ old)
    → IfErr result (λ fault. fault
    ≡ call_fault (refusal_at old (may_cancel given.0) false false (Cancel given t.id None)))
    → IfErr result (IsCallFault old (call_refusal old (Cancel given task claimed) (Some t) second)
    (recorded_body (Cancel given task claimed) (Some t) second) new)
not_cancelled result old new t given task claimed second id has same is =
    let found : ℕ → Option CallFault = λ n.
    refusal_at old (may_cancel given.0) false false (Cancel given n None) in
    let told = recorded_body (Cancel given task claimed) (Some t) second in
    subst (λ reason. IfErr result (IsCallFault old reason told new))
    (ap found id ∙ ap (λ (b : Bool). if b then discard_refusal old t given else found task) (sym has))
    (failed old new (found t.id) told result same is)

-- a region is begun, by the result of the call
pub region_begun : {T : Type 0} (result : Result T CallFault) (old new : RecorderView) (kind : SyncKind)
    (parallel : Option ℕ) (task : ℕ) (t after : TaskView) (second : Option TaskView) → t.id ≡ task
    → (is_some (refusal_at old (not (is_barred t kind)) false false
    (SyncRegion kind Begin parallel t.id)) ≡ true
    → IsErr result)
    → OnOk result (new ≡ recorded_alone old (SyncRegion kind Begin parallel t.id))
    → OnOk result (after ≡ with_region t kind)
    → OnOk result (IsCalled old (SyncRegion kind Begin parallel task) (Some t) second new (Some after) second)
region_begun (Ok x) old new kind parallel task t after second id never made begun =
    let found : ℕ → Option CallFault = λ n.
    refusal_at old (not (is_barred t kind)) false false (SyncRegion kind Begin parallel n) in
    called_alone old new (SyncRegion kind Begin parallel task) (SyncRegion kind Begin parallel t.id) (Some t)
    second (Some after) second refl refl (sym (ap found id) ∙ unrefused (found t.id) never) made
    (ap (λ n. SyncRegion kind Begin parallel n) id) (ap Some begun) refl
region_begun (Err fault) old new kind parallel task t after second id never made begun = tt

-- a call that is given no task, by its result
pub thread_called : {T : Type 0} (result : Result T CallFault) (old new : RecorderView) (body : Body)
    (first second : Option TaskView) (found : Option CallFault) → reads_ledger body ≡ false
    → finish body ≡ None → found ≡ call_refusal old body first second
    → body ≡ recorded_body body first second → first ≡ first_left old.thread body first
    → second ≡ second_left body first second → (is_some found ≡ true → IsErr result)
    → OnOk result (new ≡ recorded_alone old body)
    → OnOk result (IsCalled old body first second new first second)
thread_called (Ok x) old new body first second found unread unfinished same same_body first_is second_is never
    made =
    called_alone old new body body first second first second unread unfinished
    (sym same ∙ unrefused found never) made same_body
    first_is second_is
thread_called (Err fault) old new body first second found unread unfinished same same_body first_is second_is
    never made = tt
