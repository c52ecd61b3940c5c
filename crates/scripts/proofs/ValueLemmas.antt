-- What a call that is accepted does to what live tasks would still enter, and what its record enters.
use Rattle.std.proofs.Common.{ℕ, ◌≡◌, ◌∙◌, Bool, true, false, refl, sym, ap}
use Rattle.std.proofs.Common.{subst, inl, inr, Option, Some, None, cond}
use Rattle.std.specs.Prelude.{◌&&◌, ◌||◌, option_map, option_and_then, is_some, if◌then◌else◌}
use Rattle.std.specs.Option.{option_map_or}
use Rattle.std.proofs.lemmas.Bool.{cases_Bool, and_parts, false≢true}
use Rattle.std.proofs.lemmas.Option.{none-some, same_Some}
use Rattle.ompt_events.specs.declared.records.Body.{Body}
use Rattle.ompt_events.specs.declared.records.Body.TheVariants.{ThreadBegin, ThreadEnd, ParallelBegin}
use Rattle.ompt_events.specs.declared.records.Body.TheVariants.{ParallelEnd, ImplicitTask, TaskCreate}
use Rattle.ompt_events.specs.declared.records.Body.TheVariants.{Dependences, TaskSchedule, SyncRegion}
use Rattle.ompt_events.specs.declared.records.Body.TheVariants.{Cancel}
use Rattle.ompt_events.specs.declared.records.Part.{Part}
use Rattle.ompt_events.specs.declared.records.Part.TheVariants as part
use Rattle.ompt_events.specs.declared.records.Claim.{Claim}
use Rattle.ompt_events.specs.declared.flags.CancelFlags.{CancelFlags}
use Rattle.ompt_events.specs.declared.flags.TaskFlags.{TaskFlags}
use Rattle.ompt_events.specs.declared.names.Endpoint.TheVariants.{Begin, End, BeginEnd}
use Rattle.ompt_events.specs.declared.names.Status.{Status}
use Rattle.ompt_events.specs.declared.names.Status.TheVariants as status
use Rattle.ompt_events.specs.declared.state.State.{State}
use Rattle.ompt_events.specs.declared.state.State.TheVariants.{Created, Running, Suspended, EarlyRunning}
use Rattle.ompt_events.specs.declared.state.State.TheVariants.{EarlyWaiting, Detached, Done}
use Rattle.ompt_events.specs.Flags as flag
use Rattle.ompt_events.specs.Flags.{has_flag, are_named, task_flags}
use Rattle.ompt_events.specs.Names.{status_part}
use Rattle.ompt_events.specs.Records.{claim, finish}
use Rattle.ompt_events.specs.States as states
use Rattle.ompt_events.specs.States.{may, next_state_of, start_state_of, discard_state_of}
use Rattle.credit_ledger.specs.declared.entry.Entry.{Entry}
use Rattle.credit_ledger.specs.TraceEntries.{claimed_entry}
use Rattle.callbacks.specs.Calls.{refusal, may_cancel}
use Rattle.callbacks.specs.Recorders.{RecorderView, refusal_at, allowed, is_log_full, entry_by}
use Rattle.callbacks.specs.Schedules.{schedule_of, schedule_body, schedule_refusal, may_schedule, left_of}
use Rattle.callbacks.specs.Schedules.{comes_back, discard_body, discard_refusal, may_discard, is_by_parent}
use Rattle.callbacks.specs.Schedules.{with_discarded, has_its_next, may_start, is_last_turn}
use Rattle.callbacks.specs.Tasks.{TaskView, nature, state_moved, after_stop, after_start, started_in}
use Rattle.callbacks.specs.Tasks.{in_state}
use Rattle.callbacks.specs.Tasks.{running_in, is_detached, is_running, may_create, with_child, is_deep}
use Rattle.callbacks.specs.Tasks.{is_crowded, turn_begun_next, with_region, without_region}
use Rattle.packed_trace.specs.Named.{subject}
use Rattle.scripts.specs.RunCalls.{first_given, recorded_body}
use Rattle.scripts.specs.RunCalls.{first_left, call_refusal}
use Rattle.scripts.proofs.ShareLemmas.{AreDisjoint, IsWithin, within_itself, within_whole, within_same}
use Rattle.scripts.proofs.ShareLemmas.{part_left, pending, creator_within, halves_disjoint}

-- ---- what an accepted call knows

-- it may come
pub may_come : (r : RecorderView) (may_be deep full : Bool) (body : Body)
    → refusal_at r may_be deep full body ≡ None → may_be ≡ true
unfolding refusal_at
may_come r may_be deep full body accepted = by (may_be && allowed r body) may_be refl accepted
  where
    by : (b c : Bool) → (c && allowed r body) ≡ b → refusal b deep (full || is_log_full r) ≡ None → c ≡ true
    by true c both none = (and_parts c (allowed r body) both).0
    by false c both none = cc

-- the state that a move leads to
pub reached : (b : Bool) (next : Option State) → is_some (if b then next else None) ≡ true
    → (after : State) × (next ≡ Some after) × ((if b then next else None) ≡ Some after)
reached true (Some after) is = (after, refl, refl)
reached true None is = absurd (false≢true is)
reached false next is = absurd (false≢true is)

-- ---- the values that it leaves

-- what the task of a value would still enter, the task of an earlier value would have entered too
pub record ComesFrom (first : Option TaskView) (t : TaskView) : Type 0 where
  pub from : TaskView
  pub was : first ≡ Some from
  pub within : IsWithin (pending t) (pending from)

same_value : (first : Option TaskView) (t : TaskView) → first ≡ Some t → ComesFrom first t
same_value first t is = record { from = t; was = is; within = within_itself (pending t) }

-- a task that was not detached, with the same share
from_whole : (t u : TaskView) → u.claim ≡ t.claim → is_detached t.state ≡ false
    → IsWithin (pending u) (pending t)
from_whole t u same alive =
    within_whole (pending u) (pending t) (ap (λ (c : Claim). c.root) same) (ap (λ (c : Claim). c.path) same)
    (ap (λ (c : Claim). c.kept) same) (ap part_left alive)

running_whole : (state : State) → is_running state ≡ true → is_detached state ≡ false
running_whole Detached is = absurd (false≢true is)
running_whole Created is = refl
running_whole Running is = refl
running_whole Suspended is = refl
running_whole EarlyRunning is = refl
running_whole EarlyWaiting is = refl
running_whole Done is = refl

pub creator_whole : (t : TaskView) (given : TaskFlags) → may_create t given ≡ true
    → is_detached t.state ≡ false
creator_whole t given may =
    running_whole t.state (and_parts (are_named task_flags given.0) (is_running t.state) may).1

-- a detached task has no further status but `late_fulfill`
back_whole : (state after : State) (s : Status) → comes_back s ≡ true → next_state_of state s ≡ Some after
    → is_detached state ≡ false
back_whole Detached after status.LateFulfill back is = absurd (false≢true back)
back_whole Detached after s back is = absurd (let none : next_state_of Detached s ≡ Some after = is in cc)
back_whole Created after s back is = refl
back_whole Running after s back is = refl
back_whole Suspended after s back is = refl
back_whole EarlyRunning after s back is = refl
back_whole EarlyWaiting after s back is = refl
back_whole Done after s back is = refl

stop_within : (t : TaskView) (s : Status) → comes_back s ≡ true
    → IsWithin (pending (after_stop t s)) (pending t)
stop_within t s back =
    by (may (nature t) (states.Stopped s)) (next_state_of t.state s)
    (λ after is. from_whole t (in_state t after) refl (back_whole t.state after s back is))
  where
    by : (b : Bool) (next : Option State)
        → ((after : State) → next ≡ Some after → IsWithin (pending (in_state t after)) (pending t))
        → IsWithin (pending (option_map_or (in_state t) (if b then next else None) t)) (pending t)
    by true (Some after) each = each after refl
    by true None each = within_itself (pending t)
    by false next each = within_itself (pending t)

start_whole : (state after : State) → start_state_of state ≡ Some after → is_detached state ≡ false
start_whole Detached after is = absurd (none-some after is)
start_whole Created after is = refl
start_whole Running after is = refl
start_whole Suspended after is = refl
start_whole EarlyRunning after is = refl
start_whole EarlyWaiting after is = refl
start_whole Done after is = refl

start_within : (t : TaskView) → IsWithin (pending (after_start t)) (pending t)
start_within t =
    by (may (nature t) states.Started) (start_state_of t.state) (turn_begun_next t)
    (λ after turn is. from_whole t (running_in t after turn) refl (start_whole t.state after is))
  where
    by : (b : Bool) (next : Option State) (turn : Option ℕ)
        → ((after : State) (n : ℕ) → next ≡ Some after
        → IsWithin (pending (running_in t after n)) (pending t))
        → IsWithin (pending (started_in t (if b then next else None) turn)) (pending t)
    by true (Some after) (Some n) each = each after n refl
    by true (Some after) None each = within_itself (pending t)
    by true None turn each = within_itself (pending t)
    by false next turn each = within_itself (pending t)

left_stopped : (t u : TaskView) (s : Status) → left_of t s ≡ Some u → IsWithin (pending u) (pending t)
left_stopped t u s is = elim (cases_Bool (comes_back s)) [
  | inl back ↦
      let same : after_stop t s ≡ u =
      same_Some (after_stop t s) u (sym (ap (λ b. cond b (Some (after_stop t s)) None) back) ∙ is) in
      subst (λ x. IsWithin (pending x) (pending t)) same (stop_within t s back)
  | inr ends ↦ absurd (none-some u (sym (ap (λ b. cond b (Some (after_stop t s)) None) ends) ∙ is))
]

left_cancelled : (b : Bool) (first : Option TaskView) (u : TaskView) → cond b None first ≡ Some u
    → ComesFrom first u
left_cancelled true first u is = absurd (none-some u is)
left_cancelled false first u is = same_value first u is

left_after : (f : TaskView → TaskView) (first : Option TaskView) (u : TaskView)
    → ((t : TaskView) → first ≡ Some t → IsWithin (pending (f t)) (pending t)) → option_map f first ≡ Some u
    → ComesFrom first u
left_after f None u each is = absurd (none-some u is)
left_after f (Some t) u each is = record {
  from = t;
  was = refl;
  within = subst (λ x. IsWithin (pending x) (pending t)) (same_Some (f t) u is) (each t refl);
}

-- the value of the task that an accepted call names first, and does not make
pub first_comes : (r : RecorderView) (thread : ℕ) (body : Body) (first second : Option TaskView)
    (u : TaskView)
    → first_given body ≡ subject body → call_refusal r body first second ≡ None
    → first_left thread body first ≡ Some u → ComesFrom first u
first_comes r thread (ThreadBegin kind) first second u given accepted is = same_value first u is
first_comes r thread ThreadEnd first second u given accepted is = same_value first u is
first_comes r thread (ParallelBegin requested task parallel) first second u given accepted is =
    same_value first u is
first_comes r thread (ParallelEnd task parallel) first second u given accepted is = same_value first u is
first_comes r thread (ImplicitTask Begin actual index flags parallel task) first second u given accepted is =
    absurd (none-some task given)
first_comes r thread (ImplicitTask End actual index flags parallel task) first second u given accepted is =
    absurd (none-some u is)
first_comes r thread (ImplicitTask BeginEnd actual index flags parallel task) first second u given accepted
    is =
    same_value first u is
first_comes r thread (TaskCreate deps flags task child) None second u given accepted is =
    absurd (none-some u is)
first_comes r thread (TaskCreate deps flags task child) (Some t) second u given accepted is =
    left_after with_child (Some t) u (λ v same.
    subst (λ x. IsWithin (pending (with_child x)) (pending x)) (same_Some t v same)
    (creator_within t (creator_whole t flags
    (may_come r (may_create t flags) (is_deep t) (is_crowded t) (TaskCreate deps flags task child)
    accepted)))) is
first_comes r thread (Dependences task list) first second u given accepted is = same_value first u is
first_comes r thread (TaskSchedule s turns prior next claimed) None second u given accepted is =
    absurd (none-some u is)
first_comes r thread (TaskSchedule s turns prior next claimed) (Some t) second u given accepted is =
    record { from = t; was = refl; within = left_stopped t u s is }
first_comes r thread (SyncRegion kind Begin parallel task) first second u given accepted is =
    left_after (λ t. with_region t kind) first u (λ t same. within_itself (pending t)) is
first_comes r thread (SyncRegion kind End parallel task) first second u given accepted is =
    left_after without_region first u (λ t same. within_itself (pending t)) is
first_comes r thread (SyncRegion kind BeginEnd parallel task) first second u given accepted is =
    same_value first u is
first_comes r thread (Cancel flags task claimed) first second u given accepted is =
    left_cancelled (has_flag flags.0 flag.discarded_task) first u is

-- the value of the task that runs next
pub next_comes : (second : Option TaskView) (u : TaskView) → option_map after_start second ≡ Some u
    → ComesFrom second u
next_comes second u is = left_after after_start second u (λ t same. start_within t) is

-- ---- the entry that it makes

-- the entry is of what a task would still have entered, and shares nothing with what is left of it
pub record IsEntered (thread : ℕ) (body : Body) (first : Option TaskView) (e : Entry) : Type 0 where
  pub from : TaskView
  pub was : first ≡ Some from
  pub within : IsWithin e (pending from)
  pub left : (u : TaskView) → first_left thread body first ≡ Some u → AreDisjoint e (pending u)

pub entry_unclaimed : (thread : ℕ) (body : Body) → claim body ≡ None → entry_by thread body ≡ None
entry_unclaimed thread body unclaimed = by (finish body) (claim body) unclaimed
  where
    by : (f : Option (ℕ × Part)) (c : Option Claim) → c ≡ None
        → option_and_then (λ g. option_map (claimed_entry thread g) c) f ≡ None
    by None c is = refl
    by (Some g) c is = ap (option_map (claimed_entry thread g)) is

-- the entry of a part of a task
abbrev pub entry_for : ℕ → TaskView → Part → Entry
entry_for thread t p = claimed_entry thread (t.id, p) t.claim

pub moved_state : (r : RecorderView) (t : TaskView) (s : Status) (next : Option TaskView)
    → schedule_refusal r (schedule_of t s next) ≡ None
    → (after : State) × (next_state_of t.state s ≡ Some after)
    × (state_moved t (states.Stopped s) ≡ Some after)
moved_state r t s next accepted =
    let v = schedule_of t s next in
    let may = may_come r (may_schedule r v) false (is_last_turn v) (schedule_body v None) accepted in
    let start = option_map_or (may_start r) next true in
    let moved = is_some (state_moved t (states.Stopped s)) in
    let parts = and_parts (moved && has_its_next v && is_by_parent r t s) start may in
    let two = and_parts (moved && has_its_next v) (is_by_parent r t s) parts.0 in
    let one = and_parts moved (has_its_next v) two.0 in
    reached (states.may (nature t) (states.Stopped s)) (next_state_of t.state s) one.0

-- a status that ends the task
whole_entered : (thread : ℕ) (body : Body) (t : TaskView) (e : Entry)
    → first_left thread body (Some t) ≡ None → is_detached t.state ≡ false
    → Some (entry_for thread t part.Whole) ≡ Some e → IsEntered thread body (Some t) e
whole_entered thread body t e gone alive is =
    let same = same_Some (entry_for thread t part.Whole) e is in
    record {
      from = t;
      was = refl;
      within =
          subst (λ x. IsWithin x (pending t)) same
          (within_whole (entry_for thread t part.Whole) (pending t) refl refl refl (ap part_left alive));
      left = λ u left. absurd (none-some u (sym gone ∙ left));
    }

pub ends_whole : (state after : State) → next_state_of state status.Complete ≡ Some after
    → is_detached state ≡ false
ends_whole Detached after is = absurd (none-some after is)
ends_whole Created after is = refl
ends_whole Running after is = refl
ends_whole Suspended after is = refl
ends_whole EarlyRunning after is = refl
ends_whole EarlyWaiting after is = refl
ends_whole Done after is = refl

pub cancels_whole : (state after : State) → next_state_of state status.Cancel ≡ Some after
    → is_detached state ≡ false
cancels_whole Detached after is = absurd (none-some after is)
cancels_whole Created after is = refl
cancels_whole Running after is = refl
cancels_whole Suspended after is = refl
cancels_whole EarlyRunning after is = refl
cancels_whole EarlyWaiting after is = refl
cancels_whole Done after is = refl

pub waits_whole : (state after : State) → next_state_of state status.TaskwaitComplete ≡ Some after
    → is_detached state ≡ false
waits_whole Detached after is = absurd (none-some after is)
waits_whole Created after is = refl
waits_whole Running after is = refl
waits_whole Suspended after is = refl
waits_whole EarlyRunning after is = refl
waits_whole EarlyWaiting after is = refl
waits_whole Done after is = refl

pub discards_whole : (state after : State) → discard_state_of state ≡ Some after → is_detached state ≡ false
discards_whole Detached after is = absurd (none-some after is)
discards_whole Created after is = refl
discards_whole Running after is = refl
discards_whole Suspended after is = refl
discards_whole EarlyRunning after is = refl
discards_whole EarlyWaiting after is = refl
discards_whole Done after is = refl

pub fulfils_detached : (state after : State) → next_state_of state status.LateFulfill ≡ Some after
    → is_detached state ≡ true
fulfils_detached Detached after is = refl
fulfils_detached Created after is = absurd (none-some after is)
fulfils_detached Running after is = absurd (none-some after is)
fulfils_detached Suspended after is = absurd (none-some after is)
fulfils_detached EarlyRunning after is = absurd (none-some after is)
fulfils_detached EarlyWaiting after is = absurd (none-some after is)
fulfils_detached Done after is = absurd (none-some after is)

pub detaches : (state after : State) → next_state_of state status.Detach ≡ Some after
    → (is_detached state ≡ false) × (after ≡ Detached)
detaches Running after is = (refl, sym (same_Some Detached after is))
detaches Detached after is = absurd (none-some after is)
detaches Created after is = absurd (none-some after is)
detaches Suspended after is = absurd (none-some after is)
detaches EarlyRunning after is = absurd (none-some after is)
detaches EarlyWaiting after is = absurd (none-some after is)
detaches Done after is = absurd (none-some after is)

schedule_entered : (r : RecorderView) (thread : ℕ) (s : Status) (body : Body) (t : TaskView)
    (second : Option TaskView) (e : Entry)
    → first_left thread body (Some t) ≡ left_of t s → schedule_refusal r (schedule_of t s second) ≡ None
    → entry_by thread (schedule_body (schedule_of t s second) (option_map (λ p. t.claim) (status_part s)))
    ≡ Some e
    → IsEntered thread body (Some t) e
schedule_entered r thread status.Complete body t second e left accepted is =
    let moved = moved_state r t status.Complete second accepted in
    whole_entered thread body t e left (ends_whole t.state moved.0 moved.1) is
schedule_entered r thread status.Cancel body t second e left accepted is =
    let moved = moved_state r t status.Cancel second accepted in
    whole_entered thread body t e left (cancels_whole t.state moved.0 moved.1) is
schedule_entered r thread status.TaskwaitComplete body t second e left accepted is =
    let moved = moved_state r t status.TaskwaitComplete second accepted in
    whole_entered thread body t e left (waits_whole t.state moved.0 moved.1) is
schedule_entered r thread status.LateFulfill body t second e left accepted is =
    let moved = moved_state r t status.LateFulfill second accepted in
    let same = same_Some (entry_for thread t part.Event) e is in
    let detached = fulfils_detached t.state moved.0 moved.1 in
    record {
      from = t;
      was = refl;
      within =
          subst (λ x. IsWithin x (pending t)) same
          (within_same (entry_for thread t part.Event) (pending t) refl refl refl
          (sym (ap part_left detached)));
      left = λ u leaves. absurd (none-some u (sym left ∙ leaves));
    }
schedule_entered r thread status.Detach body t second e left accepted is =
    let moved = moved_state r t status.Detach second accepted in
    let same = same_Some (entry_for thread t part.Body) e is in
    let found = detaches t.state moved.0 moved.1 in
    let stops : after_stop t status.Detach ≡ in_state t Detached =
    ap (λ o. option_map_or (in_state t) o t) moved.2 ∙ ap (in_state t) found.1 in
    record {
      from = t;
      was = refl;
      within =
          subst (λ x. IsWithin x (pending t)) same
          (within_whole (entry_for thread t part.Body) (pending t) refl refl refl (ap part_left found.0));
      left = λ u leaves.
          let one : in_state t Detached ≡ u =
          sym stops ∙ same_Some (after_stop t status.Detach) u (sym left ∙ leaves) in
          subst (λ x. AreDisjoint x (pending u)) same
          (subst (λ v. AreDisjoint (entry_for thread t part.Body) (pending v)) one
          (halves_disjoint (entry_for thread t part.Body) (pending (in_state t Detached)) refl refl refl
          refl));
    }
schedule_entered r thread status.Yield body t second e left accepted is = absurd (none-some e is)
schedule_entered r thread status.Switch body t second e left accepted is = absurd (none-some e is)
schedule_entered r thread status.EarlyFulfill body t second e left accepted is = absurd (none-some e is)

discard_entered : (r : RecorderView) (thread : ℕ) (b : Bool) (body : Body) (given : CancelFlags) (task : ℕ)
    (t : TaskView) (e : Entry)
    → first_left thread body (Some t) ≡ cond b None (Some t)
    → cond b (discard_refusal r t given)
    (refusal_at r (may_cancel given.0) false false (Cancel given task None))
    ≡ None
    → entry_by thread (cond b (discard_body t given (Some t.claim)) (Cancel given task None)) ≡ Some e
    → IsEntered thread body (Some t) e
discard_entered r thread false body given task t e left accepted is =
    absurd (none-some e (sym (entry_unclaimed thread (Cancel given task None) refl) ∙ is))
discard_entered r thread true body given task t e left accepted is =
    let may = may_come r (may_discard t given) false false (discard_body t given None) accepted in
    let moved = (and_parts (is_some (state_moved t states.Discarded)) _ may).0 in
    let reach = reached (states.may (nature t) states.Discarded) (discard_state_of t.state) moved in
    by (has_flag (with_discarded given).0 flag.discarded_task) (discards_whole t.state reach.0 reach.1) is
  where
    by : (b : Bool) → is_detached t.state ≡ false
        → option_and_then (λ (g : ℕ × Part). option_map (claimed_entry thread g) (Some t.claim))
        (cond b (Some (t.id, part.Whole)) None)
        ≡ Some e
        → IsEntered thread body (Some t) e
    by true alive makes = whole_entered thread body t e left alive makes
    by false alive makes = absurd (none-some e makes)

-- the entry of the record of an accepted call, which has no claim
pub entry_entered : (r : RecorderView) (thread : ℕ) (body : Body) (first second : Option TaskView) (e : Entry)
    → claim body ≡ None → call_refusal r body first second ≡ None
    → entry_by thread (recorded_body body first second) ≡ Some e → IsEntered thread body first e
entry_entered r thread (TaskSchedule s turns prior next claimed) (Some t) second e unclaimed accepted is =
    schedule_entered r thread s (TaskSchedule s turns prior next claimed) t second e refl accepted is
entry_entered r thread (TaskSchedule s turns prior next claimed) None second e unclaimed accepted is =
    absurd
    (none-some e (sym (entry_unclaimed thread (TaskSchedule s turns prior next claimed) unclaimed) ∙ is))
entry_entered r thread (Cancel given task claimed) (Some t) second e unclaimed accepted is =
    discard_entered r thread (has_flag given.0 flag.discarded_task) (Cancel given task claimed) given task t e
    refl accepted is
entry_entered r thread (Cancel given task claimed) None second e unclaimed accepted is =
    absurd (none-some e (sym (entry_unclaimed thread (Cancel given task claimed) unclaimed) ∙ is))
entry_entered r thread (ThreadBegin kind) first second e unclaimed accepted is = absurd (none-some e is)
entry_entered r thread ThreadEnd first second e unclaimed accepted is = absurd (none-some e is)
entry_entered r thread (ParallelBegin requested task parallel) first second e unclaimed accepted is =
    absurd (none-some e is)
entry_entered r thread (ParallelEnd task parallel) first second e unclaimed accepted is =
    absurd (none-some e is)
entry_entered r thread (ImplicitTask Begin actual index flags parallel task) first second e unclaimed accepted
    is =
    absurd (none-some e is)
entry_entered r thread (ImplicitTask End actual index flags parallel task) None second e unclaimed accepted
    is =
    absurd (none-some e is)
entry_entered r thread (ImplicitTask End actual index flags parallel task) (Some t) second e unclaimed
    accepted is =
    absurd (none-some e is)
entry_entered r thread (ImplicitTask BeginEnd actual index flags parallel task) first second e unclaimed
    accepted is =
    absurd (none-some e is)
entry_entered r thread (TaskCreate deps flags task child) first second e unclaimed accepted is =
    absurd (none-some e is)
entry_entered r thread (Dependences task list) first second e unclaimed accepted is = absurd (none-some e is)
entry_entered r thread (SyncRegion kind endpoint parallel task) first second e unclaimed accepted is =
    absurd (none-some e is)
