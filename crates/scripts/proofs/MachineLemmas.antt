-- Each call of a run keeps the credits those of the machine.
use Rattle.std.proofs.Common.{ℕ, ◌≡◌, ◌≢◌, ◌∙◌, ◌++◌, ◌∷◌, ◌+◌, [], List, Bool, true, false, refl, sym}
use Rattle.std.proofs.Common.{ap, subst, inl, inr, Option, Some, None, cond, take}
use Rattle.std.proofs.Common.{fold}
use Rattle.std.specs.Prelude.{◌==◌, ◌&&◌, slice_get, option_map, option_and_then}
use Rattle.std.specs.Prelude.{is_some}
use Rattle.std.specs.Option.{option_map_or}
use Rattle.std.specs.Int.RustNames.{bit_and}
use Rattle.std.proofs.lemmas.Bool.{cases_Bool, cases_eq, cond_both, and_parts, eqb-true, eq-eqb}
use Rattle.std.proofs.lemmas.Bool.{ne_eqb}
use Rattle.std.proofs.lemmas.Option.{none-some, same_Some}
use Rattle.ompt_events.specs.declared.records.Record.{Record}
use Rattle.ompt_events.specs.declared.records.Body.{Body}
use Rattle.ompt_events.specs.declared.records.Body.TheVariants.{ThreadBegin, ThreadEnd, ParallelBegin}
use Rattle.ompt_events.specs.declared.records.Body.TheVariants.{ParallelEnd, ImplicitTask, TaskCreate}
use Rattle.ompt_events.specs.declared.records.Body.TheVariants.{Dependences, TaskSchedule, SyncRegion}
use Rattle.ompt_events.specs.declared.records.Body.TheVariants.{Cancel}
use Rattle.ompt_events.specs.declared.records.Part.TheVariants as part
use Rattle.ompt_events.specs.declared.names.Endpoint.TheVariants.{Begin, End, BeginEnd}
use Rattle.ompt_events.specs.declared.names.Status.{Status}
use Rattle.ompt_events.specs.declared.names.Status.TheVariants as status
use Rattle.ompt_events.specs.declared.flags.CancelFlags.{CancelFlags}
use Rattle.ompt_events.specs.declared.flags.TaskFlags.{TaskFlags}
use Rattle.ompt_events.specs.declared.state.State.TheVariants.{Detached}
use Rattle.ompt_events.specs.Flags as flag
use Rattle.ompt_events.specs.Flags.{has_flag, are_named, task_flags, cancel_flags}
use Rattle.ompt_events.specs.Records.{made, claim, ended_root, begun_root, creation}
use Rattle.ompt_events.specs.declared.records.Claim.{Claim}
use Rattle.ompt_events.specs.declared.records.Part.{Part}
use Rattle.ompt_events.specs.declared.records.Turns.{Turns}
use Rattle.ompt_events.specs.States as states
use Rattle.ompt_events.specs.States.{is_task, may, next_state_of, start_state_of, discard_state_of}
use Rattle.ompt_events.proofs.PlaceLemmas.{the_task}
use Rattle.credit_ledger.specs.Credits as credits
use Rattle.credit_ledger.specs.Credits.{Credit, Event, next_credits, credits_after, has_task_share}
use Rattle.credit_ledger.specs.Credits.{has_event_share}
use Rattle.credit_ledger.specs.Credits.{shared_halves, exchange, whole_credit, entered_credit}
use Rattle.credit_ledger.specs.Credits.{detached_halves}
use Rattle.credit_ledger.specs.declared.entry.Entry.{Entry}
use Rattle.credit_ledger.specs.TraceEntries.{entry_of, claimed_entry}
use Rattle.scripts.specs.declared.script.Step.{Step}
use Rattle.scripts.specs.Rules.{IsMadeByStep}
use Rattle.callbacks.specs.declared.fault.CallFault.{CallFault}
use Rattle.callbacks.specs.Calls.{may_cancel}
use Rattle.callbacks.specs.Recorders.{RecorderView, entry_by, refusal_at}
use Rattle.callbacks.specs.Schedules.{with_discarded, discard_body, may_discard}
use Rattle.callbacks.specs.Schedules.{discard_refusal}
use Rattle.callbacks.specs.Tasks.{TaskView, credit_of, entered_credit_of, after_start}
use Rattle.callbacks.specs.Tasks.{state_moved, holder_in, with_child, child_of}
use Rattle.callbacks.specs.Tasks.{is_detached, is_running, may_create, is_deep, is_crowded, nature, in_state}
use Rattle.callbacks.specs.Tasks.{after_stop, with_region, without_region}
use Rattle.callbacks.specs.declared.fault.CallFault.TheVariants.{WrongState}
use Rattle.packed_trace.specs.Named.{subject, object}
use Rattle.scripts.specs.RunCalls.{first_given, second_given, recorded_body}
use Rattle.scripts.specs.RunCalls.{first_left, second_left, call_refusal}
use Rattle.scripts.specs.Progress.{Values, value}
use Rattle.scripts.specs.Tiling.{Holder, of_task, of_record, held_credit, credit_events}
use Rattle.scripts.specs.Tiling.{events_of, value_or, entry_event}
use Rattle.scripts.proofs.CalledLemmas.{or_there}
use Rattle.scripts.proofs.HolderLemmas.{exchanged_none}
use Rattle.scripts.proofs.HeldLemmas.{IsTiled, plain_tiled, begun_tiled, ended_tiled, detached_tiled}
use Rattle.scripts.proofs.HeldLemmas.{created_tiled, unmade_none, unmade, and_false}
use Rattle.scripts.proofs.ProgressLemmas.{record_by}
use Rattle.scripts.proofs.TilingLemmas.{values_by, the_one}
use Rattle.scripts.proofs.ValueLemmas.{moved_state, ends_whole, cancels_whole, waits_whole, detaches}
use Rattle.scripts.proofs.ValueLemmas.{discards_whole, fulfils_detached, reached, entry_unclaimed}
use Rattle.scripts.proofs.ValueLemmas.{entry_for, may_come, creator_whole}
use Rattle.scripts.proofs.MoveLemmas.{yields_alike, switches_alike, fulfils_alike, start_credit}
use Rattle.scripts.proofs.MoveLemmas.{stop_credit, running_holder, moved_holder, discarded_holder}
use Rattle.scripts.proofs.MoveLemmas.{event_holder, task_passes, event_passes, whole_gives, event_gives}
use Rattle.scripts.proofs.MoveLemmas.{body_gives}

-- ---- the last values

abbrev pub last : Values → Values → Values
last values left task = value_or (values task) (left task)

last_same : (a b l m : Option TaskView) → option_map credit_of a ≡ option_map credit_of b → l ≡ m
    → option_map credit_of (value_or a l) ≡ option_map credit_of (value_or b m)
last_same None None l m same left = ap (option_map credit_of) left
last_same (Some t) (Some u) l m same left = same
last_same None (Some u) l m same left = absurd (none-some (credit_of u) same)
last_same (Some t) None l m same left = absurd (none-some (credit_of t) (sym same))

-- a task that a call neither makes nor names first keeps its credit
other_credit : (values : Values) (thread : ℕ) (body : Body) (task : ℕ) → made body ≢ Some task
    → is_task task (subject body) ≡ false
    → option_map credit_of (values task) ≡ option_map credit_of (values_by values thread body task)
other_credit values thread body task other apart =
    cond_both (is_task task (object body)) second (values task) (λ (o : Option TaskView).
    option_map credit_of (values task) ≡ option_map credit_of o)
    (λ here. second_credit body (the_one task (object body) here) other) (λ gone. refl)
    ∙ ap (λ b. option_map credit_of (cond b first rest)) (sym apart)
  where
    first : Option TaskView
    first = first_left thread body (value values (first_given body))

    second : Option TaskView
    second = second_left body (value values (first_given body)) (value values (second_given body))

    rest : Option TaskView
    rest = cond (is_task task (object body)) second (values task)

    started : (o : Option TaskView) → option_map credit_of o ≡ option_map credit_of (option_map after_start o)
    started None = refl
    started (Some t) = ap Some (sym (start_credit t))

    second_credit : (b : Body) → object b ≡ Some task → made b ≢ Some task
        → option_map credit_of (values task)
        ≡ option_map credit_of
        (second_left b (value values (first_given b)) (value values (second_given b)))
    second_credit (TaskCreate deps flags creator child) is unmade = absurd (unmade is)
    second_credit (TaskSchedule s turns prior next claimed) is unmade =
        ap (option_map credit_of) (ap (value values) (sym is)) ∙ started (value values next)
    second_credit _ is unmade = absurd (none-some task is)

-- the task that it names first
first_value : (values : Values) (thread : ℕ) (body : Body) (task : ℕ) → subject body ≡ Some task
    → values_by values thread body task ≡ first_left thread body (value values (first_given body))
first_value values thread body task is =
    ap (λ b. cond b (first_left thread body (value values (first_given body))) rest)
    (the_task task (subject body) is)
  where
    rest : Option TaskView
    rest =
        cond (is_task task (object body))
        (second_left body (value values (first_given body)) (value values (second_given body)))
        (values task)

not_named : (named : Option ℕ) (a task : ℕ) → named ≡ Some a → task ≢ a → is_task task named ≡ false
not_named named a task is other =
    ap (is_task task) is ∙ ne_eqb a task (λ same. other (sym same))

-- a call that leaves the credit of the task that it names first
quiet_last : (values left left_after : Values) (thread : ℕ) (body : Body)
    → ((task : ℕ) → made body ≢ Some task) → ended_root body ≡ None
    → first_given body ≡ subject body
    → ((task : ℕ) → left_after task ≡ cond (is_task task (ended_root body)) (values task) (left task))
    → option_map credit_of (value values (first_given body))
    ≡ option_map credit_of (first_left thread body (value values (first_given body)))
    → (task : ℕ) → option_map credit_of (last values left task)
    ≡ option_map credit_of (last (values_by values thread body) left_after task)
quiet_last values left left_after thread body unmade unended given lefts same task =
    last_same (values task) (values_by values thread body task) (left task) (left_after task) credit
    (sym (lefts task ∙ ap (λ o. cond (is_task task o) (values task) (left task)) unended))
  where
    credit : option_map credit_of (values task) ≡ option_map credit_of (values_by values thread body task)
    credit = elim (cases_Bool (is_task task (subject body))) [
      | inl here ↦
          let names = the_one task (subject body) here in
          ap (λ o. option_map credit_of (value values o)) (sym (given ∙ names)) ∙ same
          ∙ ap (option_map credit_of) (sym (first_value values thread body task names))
      | inr apart ↦ other_credit values thread body task (unmade task) apart
    ]

-- ---- one call

-- what a record on this thread, with this body, tells of credit
abbrev credit_events_by : ℕ → Body → List Event
credit_events_by thread body =
    option_map_or (λ task. credits.Root task ∷ []) (begun_root body) []
    ++ option_map_or (λ (p : ℕ × ℕ). credits.Create p.0 p.1 ∷ []) (creation body) []
    ++ option_map_or (λ (e : Entry). entry_event e.part e.task ∷ []) (entry_by thread body) []

-- where the call comes: after n steps, with these values and records, at the recorder of a thread
pub record Place : Type 0 where
  pub steps : List Step
  pub n : ℕ
  pub s : Step
  pub view : RecorderView
  pub nests : Bool
  pub own : List Record
  pub values : Values
  pub left : Values
  pub left_after : Values
  pub rs : List Record

pub record IsNextCall (p : Place) (body : Body) : Type 0 where
  pub there : slice_get p.steps p.n ≡ Some p.s
  pub is_body : p.s.body ≡ body
  pub unclaimed : claim body ≡ None
  pub new : (task : ℕ) → made body ≡ Some task → IsMadeByStep (take p.n p.steps) task → ⊥
  pub apart : (a b : ℕ) → subject body ≡ Some a → object body ≡ Some b → a ≢ b
  pub none : (task : ℕ) → first_given body ≡ Some task → p.left task ≡ None
  pub lefts : (task : ℕ)
      → p.left_after task ≡ cond (is_task task (ended_root body)) (p.values task) (p.left task)
  pub accepted : call_refusal p.view body (value p.values (first_given body))
      (value p.values (second_given body))
      ≡ None
  pub tiled : IsTiled p.steps p.n (last p.values p.left) p.rs

abbrev pub record_at : Place → Body → Option TaskView → Option TaskView → Record
record_at p body first second = record_by body p.view.thread p.nests p.own first second

abbrev pub values_next : Place → Body → Values
values_next p body = last (values_by p.values p.view.thread body) p.left_after

abbrev pub IsNextTiled : Place → Body → Option TaskView → Option TaskView → Type 0
IsNextTiled p body first second =
    IsTiled p.steps (p.n + 1) (values_next p body) (p.rs ++ record_at p body first second ∷ [])

quiet_next : (p : Place) (body : Body) (first second : Option TaskView) → IsNextCall p body
    → ((task : ℕ) → made body ≢ Some task) → ended_root body ≡ None
    → first_given body ≡ subject body → value p.values (first_given body) ≡ first
    → option_map credit_of first ≡ option_map credit_of (first_left p.view.thread body first)
    → credit_events (record_at p body first second) ≡ []
    → entry_of (record_at p body first second) ≡ None → IsNextTiled p body first second
quiet_next p body first second call unmade unended given was same quiet none =
    plain_tiled p.steps p.n p.s (last p.values p.left) (values_next p body) p.rs
    (record_at p body first second) call.there
    (ap (fold next_credits (credits_after (events_of p.rs))) quiet) none
    (quiet_last p.values p.left p.left_after p.view.thread body unmade unended given call.lefts
    (subst (λ o. option_map credit_of o ≡ option_map credit_of (first_left p.view.thread body o)) (sym was)
    same))
    call.tiled

-- the credits of other tasks
others_same : (p : Place) (body : Body) (prior : ℕ) → IsNextCall p body → ((task : ℕ) → made body ≢ Some task)
    → ended_root body ≡ None → subject body ≡ Some prior → (task : ℕ) → task ≢ prior
    → option_map credit_of (last p.values p.left task) ≡ option_map credit_of (values_next p body task)
others_same p body prior call unmade unended named task other =
    last_same (p.values task) (values_by p.values p.view.thread body task) (p.left task) (p.left_after task)
    (other_credit p.values p.view.thread body task (unmade task)
    (not_named (subject body) prior task named other))
    (sym (call.lefts task ∙ ap (λ o. cond (is_task task o) (p.values task) (p.left task)) unended))

-- the value of the task that it names first
first_next : (p : Place) (body : Body) (prior : ℕ) (v : TaskView) → subject body ≡ Some prior
    → first_given body ≡ Some prior → p.values prior ≡ Some v
    → values_by p.values p.view.thread body prior ≡ first_left p.view.thread body (Some v)
first_next p body prior v named given was =
    first_value p.values p.view.thread body prior named
    ∙ ap (first_left p.view.thread body) (ap (value p.values) given ∙ was)

ended_next : (p : Place) (body : Body) (prior : ℕ) (v : TaskView) (second : Option TaskView) (e : Entry)
    (passes : Credit → Bool) (others : Credit → List Credit)
    → IsNextCall p body → ((task : ℕ) → made body ≢ Some task) → ended_root body ≡ None
    → subject body ≡ Some prior → first_given body ≡ Some prior → p.values prior ≡ Some v
    → fold next_credits (credits_after (events_of p.rs)) (credit_events (record_at p body (Some v) second))
    ≡ exchange passes others (credits_after (events_of p.rs))
    → entry_of (record_at p body (Some v) second) ≡ Some e → e.task ≡ v.id → passes (credit_of v) ≡ true
    → ((c : Credit) → c.task ≢ v.id → passes c ≡ false)
    → ((f : Entry) → passes (entered_credit_of f) ≡ false)
    → first_left p.view.thread body (Some v) ≡ None → others (credit_of v) ≡ entered_credit_of e ∷ []
    → IsNextTiled p body (Some v) second
ended_next p body prior v second e passes others call unmade unended named given was exchanges makes own pass
    fail fail_entered gone gives =
    ended_tiled p.steps p.n p.s (last p.values p.left) (values_next p body) p.rs
    (record_at p body (Some v) second) prior passes others v e call.there call.tiled exchanges
    (ap (λ o. value_or o (p.left prior)) was) makes own pass fail fail_entered
    (others_same p body prior call unmade unended named)
    (ap (λ o. option_map credit_of (value_or o (p.left_after prior)))
    (first_next p body prior v named given was ∙ gone)
    ∙ ap (option_map credit_of)
    (call.lefts prior ∙ ap (λ o. cond (is_task prior o) (p.values prior) (p.left prior)) unended
    ∙ call.none prior given))
    gives

task_fails : (task : ℕ) (c : Credit) → c.task ≢ task → has_task_share task c ≡ false
task_fails task c other = ap (λ b. b && credits.is_running c.holder) (ne_eqb c.task task other)

event_fails : (task : ℕ) (c : Credit) → c.task ≢ task → has_event_share task c ≡ false
event_fails task c other = ap (λ b. b && credits.is_awaited c.holder) (ne_eqb c.task task other)

-- ---- a schedule

-- a call whose record makes no entry tells nothing of credit, unless it makes a task
no_events : (r : Record) → entry_of r ≡ None
    → option_map_or (λ (e : Entry). entry_event e.part e.task ∷ []) (entry_of r) [] ≡ []
no_events r none = ap (λ o. option_map_or (λ (e : Entry). entry_event e.part e.task ∷ []) o []) none

whole_next : (p : Place) (body : Body) (prior : ℕ) (v : TaskView) (second : Option TaskView)
    → IsNextCall p body → ((task : ℕ) → made body ≢ Some task) → ended_root body ≡ None
    → subject body ≡ Some prior → first_given body ≡ Some prior → p.values prior ≡ Some v
    → credit_events (record_at p body (Some v) second) ≡ credits.Finish v.id ∷ []
    → entry_of (record_at p body (Some v) second) ≡ Some (entry_for p.view.thread v part.Whole)
    → holder_in v.state ≡ credits.Running → is_detached v.state ≡ false
    → first_left p.view.thread body (Some v) ≡ None → IsNextTiled p body (Some v) second
whole_next p body prior v second call unmade unended named given was event makes holder alive gone =
    ended_next p body prior v second (entry_for p.view.thread v part.Whole) (has_task_share v.id)
    entered_credit call unmade unended named given was
    (ap (fold next_credits (credits_after (events_of p.rs))) event) makes refl (task_passes v holder)
    (task_fails v.id) (λ f. and_false (f.task == v.id)) gone (whole_gives p.view.thread v alive)

scheduled_next : (p : Place) (s : Status) (turns : Option Turns) (prior : ℕ) (next : Option ℕ)
    (claimed : Option Claim) (first : Option TaskView)
    → IsNextCall p (TaskSchedule s turns prior next claimed) → p.values prior ≡ first
    → call_refusal p.view (TaskSchedule s turns prior next claimed) first (value p.values next) ≡ None
    → IsNextTiled p (TaskSchedule s turns prior next claimed) first (value p.values next)
scheduled_next p s turns prior next claimed None call was accepted =
    let body = TaskSchedule s turns prior next claimed in
    let none = entry_unclaimed p.view.thread body call.unclaimed in
    quiet_next p body None (value p.values next) call (λ task. none-some task) refl refl was refl
    (no_events (record_at p body None (value p.values next)) none) none
scheduled_next p status.Yield turns prior next claimed (Some v) call was accepted =
    quiet_next p (TaskSchedule status.Yield turns prior next claimed) (Some v) (value p.values next) call
    (λ task. none-some task) refl refl was
    (ap Some (sym (stop_credit v status.Yield (yields_alike v.state)))) refl refl
scheduled_next p status.Switch turns prior next claimed (Some v) call was accepted =
    quiet_next p (TaskSchedule status.Switch turns prior next claimed) (Some v) (value p.values next) call
    (λ task. none-some task) refl refl was
    (ap Some (sym (stop_credit v status.Switch (switches_alike v.state)))) refl refl
scheduled_next p status.EarlyFulfill turns prior next claimed (Some v) call was accepted =
    quiet_next p (TaskSchedule status.EarlyFulfill turns prior next claimed) (Some v) (value p.values next)
    call (λ task. none-some task) refl refl was
    (ap Some (sym (stop_credit v status.EarlyFulfill (fulfils_alike v.state)))) refl refl
scheduled_next p status.Complete turns prior next claimed (Some v) call was accepted =
    let moved = moved_state p.view v status.Complete (value p.values next) accepted in
    let alive = ends_whole v.state moved.0 moved.1 in
    whole_next p (TaskSchedule status.Complete turns prior next claimed) prior v (value p.values next) call
    (λ task. none-some task) refl refl refl was refl refl
    (moved_holder v.state moved.0 status.Complete moved.1 alive) alive refl
scheduled_next p status.Cancel turns prior next claimed (Some v) call was accepted =
    let moved = moved_state p.view v status.Cancel (value p.values next) accepted in
    let alive = cancels_whole v.state moved.0 moved.1 in
    whole_next p (TaskSchedule status.Cancel turns prior next claimed) prior v (value p.values next) call
    (λ task. none-some task) refl refl refl was refl refl
    (moved_holder v.state moved.0 status.Cancel moved.1 alive) alive refl
scheduled_next p status.TaskwaitComplete turns prior next claimed (Some v) call was accepted =
    let moved = moved_state p.view v status.TaskwaitComplete (value p.values next) accepted in
    let alive = waits_whole v.state moved.0 moved.1 in
    whole_next p (TaskSchedule status.TaskwaitComplete turns prior next claimed) prior v (value p.values next)
    call (λ task. none-some task) refl refl refl was refl refl
    (moved_holder v.state moved.0 status.TaskwaitComplete moved.1 alive) alive refl
scheduled_next p status.LateFulfill turns prior next claimed (Some v) call was accepted =
    let moved = moved_state p.view v status.LateFulfill (value p.values next) accepted in
    let detached = fulfils_detached v.state moved.0 moved.1 in
    ended_next p (TaskSchedule status.LateFulfill turns prior next claimed) prior v (value p.values next)
    (entry_for p.view.thread v part.Event) (has_event_share v.id) entered_credit call
    (λ task. none-some task) refl refl refl was refl refl refl
    (event_passes v (event_holder v.state detached))
    (event_fails v.id) (λ f. and_false (f.task == v.id)) refl (event_gives p.view.thread v detached)
scheduled_next p status.Detach turns prior next claimed (Some v) call was accepted =
    let body = TaskSchedule status.Detach turns prior next claimed in
    let moved = moved_state p.view v status.Detach (value p.values next) accepted in
    let found = detaches v.state moved.0 moved.1 in
    let stops : after_stop v status.Detach ≡ in_state v Detached =
    ap (λ o. option_map_or (in_state v) o v) moved.2 ∙ ap (in_state v) found.1 in
    detached_tiled p.steps p.n p.s (last p.values p.left) (values_next p body) p.rs
    (record_at p body (Some v) (value p.values next)) prior (has_task_share v.id) detached_halves v
    (in_state v Detached) (entry_for p.view.thread v part.Body) call.there call.tiled refl
    (ap (λ o. value_or o (p.left prior)) was) refl refl
    (task_passes v (moved_holder v.state moved.0 status.Detach moved.1 found.0)) (task_fails v.id)
    (λ f. and_false (f.task == v.id))
    (others_same p body prior call (λ task. none-some task) refl refl)
    (ap (λ o. value_or o (p.left_after prior))
    (first_next p body prior v refl refl was ∙ ap Some stops)) refl
    (body_gives p.view.thread v found.0)

-- ---- a cancellation

cancelled_next : (p : Place) (given : CancelFlags) (task : ℕ) (claimed : Option Claim)
    (first : Option TaskView)
    → IsNextCall p (Cancel given task claimed) → p.values task ≡ first
    → call_refusal p.view (Cancel given task claimed) first None ≡ None
    → IsNextTiled p (Cancel given task claimed) first None
cancelled_next p given task claimed None call was accepted =
    let body = Cancel given task claimed in
    let none = entry_unclaimed p.view.thread body call.unclaimed in
    quiet_next p body None None call (λ t. none-some t) refl refl was
    (still (has_flag given.0 flag.discarded_task))
    (no_events (record_at p body None None) none) none
  where
    still : (b : Bool) → None ≡ option_map credit_of (cond b None None)
    still true = refl
    still false = refl
cancelled_next p given task claimed (Some v) call was accepted =
    by (has_flag given.0 flag.discarded_task) refl
  where
    body : Body
    body = Cancel given task claimed

    plain : Option CallFault
    plain = refusal_at p.view (may_cancel given.0) false false (Cancel given task None)

    discards : has_flag given.0 flag.discarded_task ≡ true → IsNextTiled p body (Some v) None
    discards found =
        let bits : with_discarded given ≡ given =
        ap (λ n. record { 0 = n })
        (or_there given.0 flag.discarded_task
        (eqb-true (bit_and given.0 flag.discarded_task) flag.discarded_task found)) in
        let refused : discard_refusal p.view v given ≡ None =
        sym (ap (λ b. cond b (discard_refusal p.view v given) plain) found) ∙ accepted in
        let may_be = may_come p.view (may_discard v given) false false (discard_body v given None) refused in
        let moved = (and_parts (is_some (state_moved v states.Discarded))
        (are_named cancel_flags (with_discarded given).0) may_be).0 in
        let reach = reached (states.may (nature v) states.Discarded) (discard_state_of v.state) moved in
        let recorded : recorded_body body (Some v) None ≡ Cancel given v.id (Some v.claim) =
        ap (λ b. cond b (discard_body v given (Some v.claim)) (Cancel given task None)) found
        ∙ ap (λ f. Cancel f v.id (Some v.claim)) bits in
        let makes : entry_of (record_at p body (Some v) None) ≡ Some (entry_for p.view.thread v part.Whole) =
        ap (entry_by p.view.thread) recorded
        ∙ ap
        (λ b. option_and_then (λ (f : ℕ × Part). Some (claimed_entry p.view.thread f v.claim))
        (cond b (Some (v.id, part.Whole)) None)) found in
        whole_next p body task v None call (λ t. none-some t) refl refl refl was
        (ap (credit_events_by p.view.thread) recorded
        ∙ ap
        (λ b. option_map_or (λ (e : Entry). entry_event e.part e.task ∷ [])
        (option_and_then (λ (f : ℕ × Part). Some (claimed_entry p.view.thread f v.claim))
        (cond b (Some (v.id, part.Whole)) None)) []) found)
        makes (discarded_holder v.state reach.0 reach.1) (discards_whole v.state reach.0 reach.1)
        (ap (λ b. cond b None (Some v)) found)

    keeps : has_flag given.0 flag.discarded_task ≡ false → IsNextTiled p body (Some v) None
    keeps no_discard =
        let recorded : recorded_body body (Some v) None ≡ Cancel given task None =
        ap (λ b. cond b (discard_body v given (Some v.claim)) (Cancel given task None)) no_discard in
        let none : entry_of (record_at p body (Some v) None) ≡ None =
        ap (entry_by p.view.thread) recorded ∙ entry_unclaimed p.view.thread (Cancel given task None) refl in
        quiet_next p body (Some v) None call (λ t. none-some t) refl refl was
        (ap (λ b. option_map credit_of (cond b None (Some v))) (sym no_discard))
        (ap (credit_events_by p.view.thread) recorded
        ∙ ap (λ o. option_map_or (λ (e : Entry). entry_event e.part e.task ∷ []) o [])
        (entry_unclaimed p.view.thread (Cancel given task None) refl)) none

    by : (b : Bool) → has_flag given.0 flag.discarded_task ≡ b → IsNextTiled p body (Some v) None
    by true found = discards found
    by false no_discard = keeps no_discard

-- ---- a task that is made

-- where the creator has no value, nothing is made
absent_fails : (p : Place) (creator : ℕ)
    → IsTiled p.steps p.n (last p.values p.left) p.rs → p.values creator ≡ None → p.left creator ≡ None
    → (h : Holder) (c : Credit) → held_credit (last p.values p.left) p.rs h ≡ Some c
    → has_task_share creator c ≡ false
absent_fails p creator tiled gone none (of_task task) c has = elim (cases_eq task creator) [
  | inl one ↦
      absurd
      (none-some c
      (sym (ap (λ t. option_map credit_of (last p.values p.left t)) one
      ∙ ap (λ o. option_map credit_of (value_or o (p.left creator))) gone ∙ ap (option_map credit_of) none)
      ∙ has))
  | inr other ↦ task_fails creator c (λ same. other (sym (tiled.tasks task c has) ∙ same))
]
absent_fails p creator tiled gone none (of_record at) c has =
    by (option_and_then entry_of (slice_get p.rs at)) has
  where
    by : (o : Option Entry) → option_map entered_credit_of o ≡ Some c → has_task_share creator c ≡ false
    by None is = absurd (none-some c is)
    by (Some e) is =
        ap (has_task_share creator) (sym (same_Some (entered_credit_of e) c is)) ∙ and_false
        (e.task == creator)

none_or : (a l : Option TaskView) → option_map credit_of (value_or a l) ≡ None
    → option_map credit_of l ≡ None
none_or None l is = is
none_or (Some t) l is = absurd (none-some (credit_of t) (sym is))

created_next : (p : Place) (deps : Bool) (given : TaskFlags) (creator child : ℕ) (first : Option TaskView)
    → IsNextCall p (TaskCreate deps given creator child) → p.values creator ≡ first
    → call_refusal p.view (TaskCreate deps given creator child) first None ≡ None
    → IsNextTiled p (TaskCreate deps given creator child) first None
created_next p deps given creator child None call was accepted =
    plain_tiled p.steps p.n p.s (last p.values p.left) (values_next p body) p.rs (record_at p body None None)
    call.there
    (ap (λ b. cond b cs (exchange (has_task_share creator) (shared_halves child) cs))
    (unmade p.steps p.n (last p.values p.left) p.rs child call.tiled (call.new child refl))
    ∙ exchanged_none (held_credit (last p.values p.left) p.rs) (has_task_share creator) (shared_halves child)
    cs call.tiled.holders call.tiled.held.are
    (absent_fails p creator call.tiled was (call.none creator refl)))
    refl same call.tiled
  where
    body : Body
    body = TaskCreate deps given creator child

    cs : List Credit
    cs = credits_after (events_of p.rs)

    at_child : creator ≢ child → option_map credit_of (last p.values p.left child)
        ≡ option_map credit_of (values_next p body child)
    at_child other =
        let none =
        unmade_none p.steps p.n (last p.values p.left) p.rs child call.tiled (call.new child refl) in
        let gone : values_by p.values p.view.thread body child ≡ None =
        ap
        (λ b.
        cond b (option_map with_child (p.values creator))
        (cond (child == child) (option_map (λ t. child_of t child given) (p.values creator))
        (p.values child)))
        (ne_eqb creator child other)
        ∙ ap (λ b. cond b (option_map (λ t. child_of t child given) (p.values creator)) (p.values child))
        (eq-eqb child child refl)
        ∙ ap (option_map (λ t. child_of t child given)) was in
        none
        ∙ sym
        (ap (λ o. option_map credit_of (value_or o (p.left_after child))) gone
        ∙ ap (option_map credit_of) (call.lefts child) ∙ none_or (p.values child) (p.left child) none)

    same : (task : ℕ) → option_map credit_of (last p.values p.left task)
        ≡ option_map credit_of (values_next p body task)
    same task = elim (cases_eq creator task) [
      | inl one ↦
          subst
          (λ t. option_map credit_of (last p.values p.left t) ≡ option_map credit_of (values_next p body t))
          one
          (last_same (p.values creator) (values_by p.values p.view.thread body creator) (p.left creator)
          (p.left_after creator)
          (ap (option_map credit_of)
          (was
          ∙ sym
          (first_value p.values p.view.thread body creator refl ∙ ap (option_map with_child) was)))
          (sym (call.lefts creator)))
      | inr other ↦ elim (cases_eq child task) [
        | inl one ↦
            subst
            (λ t. option_map credit_of (last p.values p.left t)
            ≡ option_map credit_of (values_next p body t)) one
            (at_child (λ both. other (both ∙ one)))
        | inr apart ↦
            last_same (p.values task) (values_by p.values p.view.thread body task) (p.left task)
            (p.left_after task)
            (other_credit p.values p.view.thread body task (λ m. apart (same_Some child task m))
            (not_named (Some creator) creator task refl (λ x. other (sym x))))
            (sym (call.lefts task))
      ]
    ]
created_next p deps given creator child (Some v) call was accepted =
    let may_be = may_come p.view (may_create v given) (is_deep v) (is_crowded v) body accepted in
    created_tiled p.steps p.n p.s (last p.values p.left) (values_next p body) p.rs
    (record_at p body (Some v) None) creator child v given call.there call.tiled (ap made call.is_body)
    (call.new child refl) refl refl (ap (λ o. value_or o (p.left creator)) was)
    (running_holder v.state (and_parts (are_named task_flags given.0) (is_running v.state) may_be).1)
    (creator_whole v given may_be)
    (λ t other apart.
    last_same (p.values t) (values_by p.values p.view.thread body t) (p.left t) (p.left_after t)
    (other_credit p.values p.view.thread body t (λ m. apart (sym (same_Some child t m)))
    (not_named (Some creator) creator t refl other))
    (sym (call.lefts t)))
    (call.apart creator child refl refl)
    (ap (λ o. value_or o (p.left_after creator)) (first_next p body creator v refl refl was))
    (ap (λ o. value_or o (p.left_after child))
    (ap
    (λ b.
    cond b (option_map with_child (p.values creator))
    (cond (child == child) (option_map (λ t. child_of t child given) (p.values creator))
    (p.values child)))
    (ne_eqb creator child (call.apart creator child refl refl))
    ∙ ap (λ b. cond b (option_map (λ t. child_of t child given) (p.values creator)) (p.values child))
    (eq-eqb child child refl)
    ∙ ap (option_map (λ t. child_of t child given)) was))
  where
    body : Body
    body = TaskCreate deps given creator child

-- ---- a root

root_next : (p : Place) (actual index parallel task : ℕ) (given : TaskFlags)
    → IsNextCall p (ImplicitTask Begin actual index given parallel task)
    → IsNextTiled p (ImplicitTask Begin actual index given parallel task) None None
root_next p actual index parallel task given call =
    begun_tiled p.steps p.n p.s (last p.values p.left) (values_next p body) p.rs (record_at p body None None)
    task call.there (ap made call.is_body) (call.new task refl) refl refl
    (ap (λ o. option_map credit_of (value_or o (p.left_after task)))
    (first_value p.values p.view.thread body task refl))
    (λ t other.
    last_same (p.values t) (values_by p.values p.view.thread body t) (p.left t) (p.left_after t)
    (other_credit p.values p.view.thread body t (λ m. other (sym (same_Some task t m)))
    (not_named (Some task) task t refl other))
    (sym (call.lefts t))) call.tiled
  where
    body : Body
    body = ImplicitTask Begin actual index given parallel task

end_same : (a l : Option TaskView) → l ≡ None
    → option_map credit_of (value_or a l) ≡ option_map credit_of (value_or None a)
end_same None l none = ap (option_map credit_of) none
end_same (Some t) l none = refl

end_next : (p : Place) (actual index parallel task : ℕ) (given : TaskFlags) (first : Option TaskView)
    → IsNextCall p (ImplicitTask End actual index given parallel task)
    → IsNextTiled p (ImplicitTask End actual index given parallel task) first None
end_next p actual index parallel task given first call =
    by first
  where
    body : Body
    body = ImplicitTask End actual index given parallel task

    at_root : option_map credit_of (last p.values p.left task)
        ≡ option_map credit_of (values_next p body task)
    at_root =
        end_same (p.values task) (p.left task) (call.none task refl)
        ∙ sym
        (ap (λ o. option_map credit_of (value_or o (p.left_after task)))
        (first_value p.values p.view.thread body task refl)
        ∙ ap (option_map credit_of)
        (call.lefts task ∙ ap (λ b. cond b (p.values task) (p.left task)) (eq-eqb task task refl)))

    same : (t : ℕ) → option_map credit_of (last p.values p.left t)
        ≡ option_map credit_of (values_next p body t)
    same t = elim (cases_eq task t) [
      | inl one ↦
          subst
          (λ x. option_map credit_of (last p.values p.left x) ≡ option_map credit_of (values_next p body x))
          one at_root
      | inr other ↦
          last_same (p.values t) (values_by p.values p.view.thread body t) (p.left t) (p.left_after t)
          (other_credit p.values p.view.thread body t (λ m. none-some t m)
          (not_named (Some task) task t refl (λ x. other (sym x))))
          (sym (call.lefts t ∙ ap (λ b. cond b (p.values t) (p.left t)) (ne_eqb task t other)))
    ]

    by : (o : Option TaskView) → IsNextTiled p body o None
    by None =
        plain_tiled p.steps p.n p.s (last p.values p.left) (values_next p body) p.rs
        (record_at p body None None) call.there refl refl same call.tiled
    by (Some v) =
        plain_tiled p.steps p.n p.s (last p.values p.left) (values_next p body) p.rs
        (record_at p body (Some v) None) call.there refl refl same call.tiled

-- ---- any call

mapped : (f : TaskView → TaskView) → ((t : TaskView) → credit_of t ≡ credit_of (f t))
    → (o : Option TaskView) → option_map credit_of o ≡ option_map credit_of (option_map f o)
mapped f same None = refl
mapped f same (Some t) = ap Some (same t)

pub body_next : (p : Place) (body : Body) → IsNextCall p body
    → IsNextTiled p body (value p.values (first_given body)) (value p.values (second_given body))
body_next p (ImplicitTask Begin actual index given parallel task) call =
    root_next p actual index parallel task given call
body_next p (ImplicitTask End actual index given parallel task) call =
    end_next p actual index parallel task given (p.values task) call
body_next p (ImplicitTask BeginEnd actual index given parallel task) call =
    absurd (none-some WrongState (sym call.accepted))
body_next p (TaskCreate deps given creator child) call =
    created_next p deps given creator child (p.values creator) call refl call.accepted
body_next p (TaskSchedule s turns prior next claimed) call =
    scheduled_next p s turns prior next claimed (p.values prior) call refl call.accepted
body_next p (Cancel given task claimed) call =
    cancelled_next p given task claimed (p.values task) call refl call.accepted
body_next p (ThreadBegin kind) call =
    quiet_next p (ThreadBegin kind) None None call (λ t. none-some t) refl refl refl refl refl refl
body_next p ThreadEnd call =
    quiet_next p ThreadEnd None None call (λ t. none-some t) refl refl refl refl refl refl
body_next p (ParallelBegin requested task parallel) call =
    quiet_next p (ParallelBegin requested task parallel) (p.values task) None call (λ t. none-some t) refl
    refl refl refl refl refl
body_next p (ParallelEnd task parallel) call =
    quiet_next p (ParallelEnd task parallel) (p.values task) None call (λ t. none-some t) refl refl refl refl
    refl refl
body_next p (Dependences task list) call =
    quiet_next p (Dependences task list) (p.values task) None call (λ t. none-some t) refl refl refl refl
    refl refl
body_next p (SyncRegion kind Begin parallel task) call =
    quiet_next p (SyncRegion kind Begin parallel task) (p.values task) None call (λ t. none-some t) refl refl
    refl (mapped (λ t. with_region t kind) (λ t. refl) (p.values task)) refl refl
body_next p (SyncRegion kind End parallel task) call =
    quiet_next p (SyncRegion kind End parallel task) (p.values task) None call (λ t. none-some t) refl refl
    refl (mapped without_region (λ t. refl) (p.values task)) refl refl
body_next p (SyncRegion kind BeginEnd parallel task) call =
    quiet_next p (SyncRegion kind BeginEnd parallel task) (p.values task) None call (λ t. none-some t) refl
    refl refl refl refl refl
