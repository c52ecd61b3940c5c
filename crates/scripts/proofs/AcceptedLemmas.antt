-- What is known of a call that a recorder accepts.
use Rattle.std.proofs.Common.{ℕ, ◌≡◌, ◌∙◌, Bool, true, false, Option, Some, None, refl, sym, ap, cond}
use Rattle.std.specs.Prelude.{◌&&◌, ◌||◌, not, is_some}
use Rattle.std.specs.Option.{option_map_or}
use Rattle.std.proofs.lemmas.Bool.{and_parts}
use Rattle.std.proofs.lemmas.Option.{none-some, same_Some}
use Rattle.ompt_events.specs.declared.records.Body.{Body}
use Rattle.ompt_events.specs.declared.records.Body.TheVariants.{ThreadBegin, ThreadEnd, ParallelBegin}
use Rattle.ompt_events.specs.declared.records.Body.TheVariants.{ParallelEnd, ImplicitTask, TaskCreate}
use Rattle.ompt_events.specs.declared.records.Body.TheVariants.{Dependences, TaskSchedule, SyncRegion, Cancel}
use Rattle.ompt_events.specs.declared.names.Endpoint.TheVariants.{Begin, End, BeginEnd}
use Rattle.ompt_events.specs.declared.names.Status.{Status}
use Rattle.ompt_events.specs.Names.{demands_next}
use Rattle.ompt_events.specs.Flags as flag
use Rattle.ompt_events.specs.Flags.{has_flag, task_flags, are_named}
use Rattle.ompt_events.specs.Records.{running, ended_root}
use Rattle.ompt_events.specs.States as states
use Rattle.ompt_events.specs.States.{is_task}
use Rattle.ompt_events.proofs.PlaceLemmas.{is_the_task}
use Rattle.callbacks.specs.Calls.{refusal, may_cancel}
use Rattle.callbacks.specs.Standing.{standing_of, innermost, is_in_place, runs_its_task, ends_innermost, fits}
use Rattle.callbacks.specs.Standing.{allows, is_outside, is_on_host, begins_own_region}
use Rattle.callbacks.specs.Tasks.{TaskView, state_moved, may_create, is_deep, is_crowded, is_barred}
use Rattle.callbacks.specs.Tasks.{is_innermost_region, is_root_on, end_of_root}
use Rattle.callbacks.specs.Schedules.{schedule_of, schedule_body, schedule_refusal, may_schedule}
use Rattle.callbacks.specs.Schedules.{has_its_next}
use Rattle.callbacks.specs.Schedules.{is_by_parent, may_start, is_last_turn, discard_refusal}
use Rattle.callbacks.specs.Recorders.{RecorderView, refusal_at, allowed, may_fork, is_log_full}
use Rattle.scripts.specs.RunCalls.{call_refusal, first_given}
use Rattle.scripts.specs.Parts.{id_of}

-- ---- any call

-- the tasks allow it, so do the records of the thread, and there is room
pub record IsAllowed (r : RecorderView) (may full : Bool) (body : Body) : Type 0 where
  pub allows_it : may ≡ true
  pub allowed : allowed r body ≡ true
  pub room : full ≡ false

pub allowed_by : (r : RecorderView) (may deep full : Bool) (body : Body)
    → refusal_at r may deep full body ≡ None → IsAllowed r may full body
unfolding refusal_at
allowed_by r may deep full body accepted =
    let (both, room) = by (may && allowed r body) deep (full || is_log_full r) accepted in
    let parts = and_parts may (allowed r body) both in
    record { allows_it = parts.0; allowed = parts.1; room = left full (is_log_full r) room }
  where
    by : (b d f : Bool) → refusal b d f ≡ None → (b ≡ true) × (f ≡ false)
    by true true f none = cc
    by true false true none = cc
    by true false false none = (refl, refl)
    by false d f none = cc

    left : (a b : Bool) → (a || b) ≡ false → a ≡ false
    left true b none = none
    left false b none = refl

-- the record fits the state of the thread
fits_by : (r : RecorderView) (body : Body) → allowed r body ≡ true → fits (standing_of r.records) body ≡ true
fits_by r body is = by r.nests is
  where
    by : (b : Bool) → allows b r.records body ≡ true → fits (standing_of r.records) body ≡ true
    by true own = (and_parts (fits (standing_of r.records) body) (begins_own_region r.records body) own).0
    by false flat =
        (and_parts (fits (standing_of r.records) body)
        (is_outside (standing_of r.records) body && is_on_host body) flat).0

-- so it is of the task that the thread runs
current_by : (r : RecorderView) (body : Body) (task : ℕ) → allowed r body ≡ true → running body ≡ Some task
    → (standing_of r.records).walk.current ≡ Some task
current_by r body task is runs =
    let s = standing_of r.records in
    let all = fits_by r body is in
    let two = and_parts (is_in_place s body && runs_its_task s body) (ends_innermost s body) all in
    let one = and_parts (is_in_place s body) (runs_its_task s body) two.0 in
    is_the_task task s.walk.current
    (sym (ap (λ o. option_map_or (λ t. is_task t s.walk.current) o true) runs) ∙ one.1)

-- and a root that ends is the innermost one
innermost_by : (r : RecorderView) (body : Body) (task : ℕ) → allowed r body ≡ true
    → ended_root body ≡ Some task → innermost (standing_of r.records) ≡ Some task
innermost_by r body task is ends =
    let s = standing_of r.records in
    let all = fits_by r body is in
    let two = and_parts (is_in_place s body && runs_its_task s body) (ends_innermost s body) all in
    is_the_task task (innermost s)
    (sym (ap (λ o. option_map_or (λ t. is_task t (innermost s)) o true) ends) ∙ two.1)

-- ---- a schedule

pub record IsScheduled (r : RecorderView) (t : TaskView) (status : Status) (next : Option TaskView)
    : Type 0 where
  pub moved : is_some (state_moved t (states.Stopped status)) ≡ true
  pub has_next : has_its_next (schedule_of t status next) ≡ true
  pub by_parent : is_by_parent r t status ≡ true
  pub starts : option_map_or (may_start r) next true ≡ true
  pub another : is_last_turn (schedule_of t status next) ≡ false
  pub allowed : allowed r (schedule_body (schedule_of t status next) None) ≡ true

pub scheduled_by : (r : RecorderView) (t : TaskView) (status : Status) (next : Option TaskView)
    → schedule_refusal r (schedule_of t status next) ≡ None → IsScheduled r t status next
scheduled_by r t status next accepted =
    let s = schedule_of t status next in
    let is = allowed_by r (may_schedule r s) false (is_last_turn s) (schedule_body s None) accepted in
    let moved = is_some (state_moved t (states.Stopped status)) in
    let three =
    and_parts (moved && has_its_next s && is_by_parent r t status) (option_map_or (may_start r) next true)
    is.allows_it in
    let two = and_parts (moved && has_its_next s) (is_by_parent r t status) three.0 in
    let one = and_parts moved (has_its_next s) two.0 in
    record {
      moved = one.0;
      has_next = one.1;
      by_parent = two.1;
      starts = three.1;
      another = is.room;
      allowed = is.allowed;
    }

-- ---- the task that runs

-- an accepted call is of the task that its thread runs
pub runs_current : (r : RecorderView) (body : Body) (first second : Option TaskView) (task : ℕ)
    → call_refusal r body first second ≡ None → id_of first ≡ first_given body → running body ≡ Some task
    → (standing_of r.records).walk.current ≡ Some task
runs_current r (ThreadBegin kind) first second task accepted id runs = absurd (none-some task runs)
runs_current r ThreadEnd first second task accepted id runs = absurd (none-some task runs)
runs_current r (ParallelBegin requested own parallel) None second task accepted id runs =
    absurd (none-some own id)
runs_current r (ParallelBegin requested own parallel) (Some t) second task accepted id runs =
    current_by r (ParallelBegin requested own parallel) task
    (allowed_by r (may_fork r t) false false (ParallelBegin requested own parallel) accepted).allowed runs
runs_current r (ParallelEnd own parallel) None second task accepted id runs = absurd (none-some own id)
runs_current r (ParallelEnd own parallel) (Some t) second task accepted id runs =
    current_by r (ParallelEnd own parallel) task
    (allowed_by r true false false (ParallelEnd own parallel) accepted).allowed runs
runs_current r (ImplicitTask Begin actual index given parallel own) first second task accepted id runs =
    absurd (none-some task runs)
runs_current r (ImplicitTask End actual index given parallel own) None second task accepted id runs =
    absurd (none-some own id)
runs_current r (ImplicitTask End actual index given parallel own) (Some t) second task accepted id runs =
    current_by r (end_of_root t parallel) task
    (allowed_by r (is_root_on r.thread t) false false (end_of_root t parallel) accepted).allowed (id ∙ runs)
runs_current r (ImplicitTask BeginEnd actual index given parallel own) first second task accepted id runs =
    absurd (none-some task runs)
runs_current r (TaskCreate deps given own child) None second task accepted id runs = absurd (none-some own id)
runs_current r (TaskCreate deps given own child) (Some t) second task accepted id runs =
    current_by r (TaskCreate deps given own child) task
    (allowed_by r (may_create t given) (is_deep t) (is_crowded t) (TaskCreate deps given own child)
    accepted).allowed runs
runs_current r (Dependences own list) first second task accepted id runs = absurd (none-some task runs)
runs_current r (TaskSchedule status turns prior next claimed) None second task accepted id runs =
    absurd (none-some prior id)
runs_current r (TaskSchedule status turns prior next claimed) (Some t) second task accepted id runs =
    current_by r (schedule_body (schedule_of t status second) None) task
    (scheduled_by r t status second accepted).allowed
    (ap (λ n. cond (demands_next status) (Some n) None) (same_Some t.id prior id) ∙ runs)
runs_current r (SyncRegion kind endpoint parallel own) None second task accepted id runs =
    absurd (none-some own id)
runs_current r (SyncRegion kind Begin parallel own) (Some t) second task accepted id runs =
    current_by r (SyncRegion kind Begin parallel own) task
    (allowed_by r (not (is_barred t kind)) false false (SyncRegion kind Begin parallel own) accepted).allowed
    runs
runs_current r (SyncRegion kind End parallel own) (Some t) second task accepted id runs =
    current_by r (SyncRegion kind End parallel own) task
    (allowed_by r (is_innermost_region t kind && not (is_barred t kind)) false false
    (SyncRegion kind End parallel own) accepted).allowed runs
runs_current r (SyncRegion kind BeginEnd parallel own) (Some t) second task accepted id runs =
    current_by r (SyncRegion kind BeginEnd parallel own) task
    (allowed_by r (not (is_barred t kind)) false false (SyncRegion kind BeginEnd parallel own)
    accepted).allowed runs
runs_current r (Cancel given own claimed) None second task accepted id runs = absurd (none-some own id)
runs_current r (Cancel given own claimed) (Some t) second task accepted id runs =
    by (has_flag given.0 flag.discarded_task) accepted runs
  where
    by : (b : Bool)
        → cond b (discard_refusal r t given)
        (refusal_at r (may_cancel given.0) false false (Cancel given own None)) ≡ None
        → cond b None (Some own) ≡ Some task → (standing_of r.records).walk.current ≡ Some task
    by true is none = absurd (none-some task none)
    by false is there =
        current_by r (Cancel given own None) task
        (allowed_by r (may_cancel given.0) false false (Cancel given own None) is).allowed runs

-- a root ends where it is the innermost one
pub ends_current : (r : RecorderView) (body : Body) (first second : Option TaskView) (task : ℕ)
    → call_refusal r body first second ≡ None → id_of first ≡ first_given body → ended_root body ≡ Some task
    → innermost (standing_of r.records) ≡ Some task
ends_current r (ImplicitTask End actual index given parallel own) None second task accepted id ends =
    absurd (none-some own id)
ends_current r (ImplicitTask End actual index given parallel own) (Some t) second task accepted id ends =
    innermost_by r (end_of_root t parallel) task
    (allowed_by r (is_root_on r.thread t) false false (end_of_root t parallel) accepted).allowed (id ∙ ends)
ends_current r _ first second task accepted id ends = absurd (none-some task ends)
