-- The record of a call that a recorder accepts, and what the call does to the live tasks.
use Rattle.std.proofs.Common.{◌≡◌, ◌≢◌, ◌∙◌, ℕ, ◌<◌, ◌≤◌, Bool, true, false, cond, List, length, Option}
use Rattle.std.proofs.Common.{Some, None, refl, sym, ap, subst, arith, inl, inr, ◌⊎◌}
use Rattle.std.specs.Prelude.{is_some, option_map, not, nat_lt, ◌==◌, ◌&&◌, ◌||◌}
use Rattle.std.proofs.lemmas.Bool.{eqb-true, ne_eqb, lt-leb, false≢true}
use Rattle.std.proofs.lemmas.Option.{none-some, same_Some}
use Rattle.ompt_events.specs.declared.records.Record.{Record}
use Rattle.ompt_events.specs.declared.records.Body.{Body}
use Rattle.ompt_events.specs.declared.records.Body.TheVariants.{ThreadBegin, ThreadEnd, ParallelBegin}
use Rattle.ompt_events.specs.declared.records.Body.TheVariants.{ParallelEnd, ImplicitTask, TaskCreate}
use Rattle.ompt_events.specs.declared.records.Body.TheVariants.{Dependences, TaskSchedule, SyncRegion, Cancel}
use Rattle.ompt_events.specs.declared.names.Endpoint.TheVariants.{Begin, End, BeginEnd}
use Rattle.ompt_events.specs.declared.names.SyncKind.{SyncKind}
use Rattle.ompt_events.specs.declared.names.ThreadKind.{ThreadKind}
use Rattle.ompt_events.specs.declared.flags.TaskFlags.{TaskFlags}
use Rattle.ompt_events.specs.declared.deps.Dep.{Dep}
use Rattle.ompt_events.specs.declared.names.Status.{Status}
use Rattle.ompt_events.specs.declared.records.Part.{Part}
use Rattle.ompt_events.specs.declared.records.Turns.{Turns}
use Rattle.ompt_events.specs.declared.records.Claim.{Claim}
use Rattle.ompt_events.specs.Names.{status_part}
use Rattle.ompt_events.specs.declared.flags.CancelFlags.{CancelFlags}
use Rattle.ompt_events.specs.Flags as flag
use Rattle.ompt_events.specs.Flags.{task_flags, cancel_flags, are_named, has_flag}
use Rattle.ompt_events.specs.States as states
use Rattle.callbacks.specs.Standing.{allows}
use Rattle.callbacks.specs.Tasks.{TaskView, root_of, child_of, with_child, with_region, without_region}
use Rattle.callbacks.specs.Tasks.{end_of_root, is_root_on, is_initial_task, is_running, is_deep, is_crowded}
use Rattle.callbacks.specs.Tasks.{is_barred, is_innermost_region, may_create, state_moved}
use Rattle.callbacks.specs.Calls.{may_cancel}
use Rattle.callbacks.specs.Schedules.{ScheduleView, with_discarded, discard_refusal, schedule_of}
use Rattle.callbacks.specs.Schedules.{schedule_body, may_schedule, is_last_turn}
use Rattle.scripts.proofs.CalledLemmas.{or_there}
use Rattle.callbacks.specs.Recorders.{RecorderView, refusal_at}
use Rattle.packed_trace.specs.Named.{subject, object}
use Rattle.scripts.specs.Progress.{Values, value, values_after, recorder_with}
use Rattle.scripts.specs.RunCalls.{first_given, second_given, recorded_body, call_refusal}
use Rattle.online.specs.declared.calls.Place.{Place}
use Rattle.online.specs.declared.tasks.Tasks.{Tasks}
use Rattle.online.specs.Tasks.{value_of, IsChanged}
use Rattle.online.specs.Replays.{call_of, call_on, max_replayed, Makes, Takes, MayTake}

-- ---- a call is accepted

pub accepted : (nests : Bool) (thread : ℕ) (own : List Record) (may deep full : Bool) (body : Body)
    → may ≡ true → allows nests own body ≡ true → deep ≡ false → full ≡ false → length own < max_replayed
    → refusal_at (recorder_with max_replayed nests thread own) may deep full body ≡ None
unfolding refusal_at
accepted nests thread own may deep full body may_is allowed deep_is full_is few =
    rw (may_is, allowed, deep_is, full_is, lt-leb max_replayed (length own) few) refl

-- the same where its tasks allow it
allowed_here : (own : List Record) (place : Place) (may : Bool) (body : Body) → may ≡ true
    → MayTake own place body
    → refusal_at (recorder_with max_replayed place.state.now.nests place.number own) may false false body
    ≡ None
allowed_here own place may body may_is may_take =
    accepted place.state.now.nests place.number own may false false body may_is may_take.allowed refl refl
    may_take.few

-- ---- what is kept of the tasks

-- a call that leaves its own task as it is
same_here : (f : Values) (own task : ℕ) → f task ≡ cond (own == task) (f own) (f task)
same_here f own task = of (own == task) refl
  where
    of : (b : Bool) → (own == task) ≡ b → f task ≡ cond b (f own) (f task)
    of true e = ap f (sym (eqb-true own task e))
    of false e = refl

live_here : (tasks : Tasks) (own task : ℕ) (t : TaskView) → value_of tasks own ≡ Some t → Some own ≡ Some task
    → is_some (value_of tasks task) ≡ true
live_here tasks own task t is same =
    subst (λ k. is_some (value_of tasks k) ≡ true) (same_Some own task same) (ap is_some is)

-- a live task has a value
pub some_value : (o : Option TaskView) → is_some o ≡ true → (t : TaskView) × (o ≡ Some t)
some_value None is = absurd (false≢true is)
some_value (Some t) is = (t, refl)

-- ---- records of threads and regions

thread_begin_takes : (own : List Record) (place : Place) (tasks : Tasks) (kind : ThreadKind)
    → MayTake own place (ThreadBegin kind)
    → Takes place.state.now.nests place.number own (ThreadBegin kind) tasks tasks
thread_begin_takes own place tasks kind may = record {
  made = record { accepts = allowed_here own place true (ThreadBegin kind) refl may; makes = refl };
  left = λ id. refl;
  first = λ task e. absurd (none-some task e);
  second = λ task e. absurd (none-some task e);
  apart = λ one other e f. absurd (none-some one e);
}

thread_end_takes : (own : List Record) (place : Place) (tasks : Tasks) → MayTake own place ThreadEnd
    → Takes place.state.now.nests place.number own ThreadEnd tasks tasks
thread_end_takes own place tasks may = record {
  made = record { accepts = allowed_here own place true ThreadEnd refl may; makes = refl };
  left = λ id. refl;
  first = λ task e. absurd (none-some task e);
  second = λ task e. absurd (none-some task e);
  apart = λ one other e f. absurd (none-some one e);
}

pub thread_takes : (own : List Record) (place : Place) (tasks : Tasks) (body : Body)
    → ((kind : ThreadKind) × (body ≡ ThreadBegin kind)) ⊎ (body ≡ ThreadEnd) → MayTake own place body
    → Takes place.state.now.nests place.number own body tasks tasks
thread_takes own place tasks body of_thread may = elim of_thread [
  | inl (kind, is) ↦ subst P (sym is) (thread_begin_takes own place tasks kind) may
  | inr is ↦ subst P (sym is) (thread_end_takes own place tasks) may
]
  where
    P : Body → Type 0
    P b = MayTake own place b → Takes place.state.now.nests place.number own b tasks tasks

-- a call that is given one live task, and leaves it as it is
one_task : (own : List Record) (place : Place) (tasks : Tasks) (task : ℕ) (t : TaskView) (body : Body)
    → value_of tasks task ≡ Some t
    → call_refusal (recorder_with max_replayed place.state.now.nests place.number own) body (Some t) None
    ≡ None
    → first_given (call_of body) ≡ Some task → second_given (call_of body) ≡ None → object body ≡ None
    → ((o : Option TaskView) → recorded_body (call_of body) o None ≡ body)
    → ((id : ℕ) → values_after (value_of tasks) (call_on place.number body) id
    ≡ cond (task == id) (value_of tasks task) (value_of tasks id))
    → call_of body ≡ body
    → Takes place.state.now.nests place.number own body tasks tasks
one_task own place tasks task t body is accepts first second object_is makes left call = record {
  made = record {
    accepts =
        ap (λ b. call_refusal r b (value f (first_given (call_of body)))
        (value f (second_given (call_of body)))) call
        ∙ ap (λ o. call_refusal r body (value f o) (value f (second_given (call_of body)))) first
        ∙ ap (λ o. call_refusal r body (f task) (value f o)) second
        ∙ ap (λ o. call_refusal r body o None) is ∙ accepts;
    makes =
        ap (λ o. recorded_body (call_of body) (value f (first_given (call_of body))) (value f o)) second
        ∙ makes (value f (first_given (call_of body)));
  };
  left = λ id. same_here f task id ∙ sym (left id);
  first = λ other e. live_here tasks task other t is (sym first ∙ e);
  second = λ other e. absurd (none-some other (sym second ∙ e));
  apart = λ one other e g. absurd (none-some other (sym object_is ∙ g));
}
  where
    r : RecorderView
    r = recorder_with max_replayed place.state.now.nests place.number own

    f : Values
    f = value_of tasks

pub fork_takes : (own : List Record) (place : Place) (tasks : Tasks) (requested task parallel : ℕ)
    (t : TaskView)
    → value_of tasks task ≡ Some t → (place.state.now.nests || is_initial_task t) ≡ true
    → MayTake own place (ParallelBegin requested task parallel)
    → Takes place.state.now.nests place.number own (ParallelBegin requested task parallel) tasks tasks
fork_takes own place tasks requested task parallel t is forks may =
    one_task own place tasks task t (ParallelBegin requested task parallel) is
    (allowed_here own place (place.state.now.nests || is_initial_task t)
    (ParallelBegin requested task parallel)
    forks may)
    refl refl refl (λ o. refl) (λ id. refl) refl

pub join_takes : (own : List Record) (place : Place) (tasks : Tasks) (task parallel : ℕ) (t : TaskView)
    → value_of tasks task ≡ Some t → MayTake own place (ParallelEnd task parallel)
    → Takes place.state.now.nests place.number own (ParallelEnd task parallel) tasks tasks
join_takes own place tasks task parallel t is may =
    one_task own place tasks task t (ParallelEnd task parallel) is
    (allowed_here own place true (ParallelEnd task parallel) refl may) refl refl refl (λ o. refl)
    (λ id. refl) refl

pub list_takes : (own : List Record) (place : Place) (tasks : Tasks) (task : ℕ) (list : List Dep)
    (t : TaskView)
    → value_of tasks task ≡ Some t → length list ≤ 64 → MayTake own place (Dependences task list)
    → Takes place.state.now.nests place.number own (Dependences task list) tasks tasks
list_takes own place tasks task list t is short may =
    one_task own place tasks task t (Dependences task list) is
    (accepted place.state.now.nests place.number own true false (nat_lt 64 (length list))
    (Dependences task list)
    refl may.allowed refl (lt-leb 65 (length list) (omega (arith, short))) may.few)
    refl refl refl (λ o. refl) (λ id. refl) refl

pub region_in_one_takes : (own : List Record) (place : Place) (tasks : Tasks) (kind : SyncKind)
    (parallel : Option ℕ) (task : ℕ) (t : TaskView) → value_of tasks task ≡ Some t → is_barred t kind ≡ false
    → MayTake own place (SyncRegion kind BeginEnd parallel task)
    → Takes place.state.now.nests place.number own (SyncRegion kind BeginEnd parallel task) tasks tasks
region_in_one_takes own place tasks kind parallel task t is free may =
    one_task own place tasks task t (SyncRegion kind BeginEnd parallel task) is
    (allowed_here own place (not (is_barred t kind)) (SyncRegion kind BeginEnd parallel task) (ap not free)
    may)
    refl refl refl (λ o. refl) (λ id. refl) refl

-- ---- records that change a task

pub begin_takes : (own : List Record) (place : Place) (tasks later : Tasks)
    (actual index parallel task : ℕ) (given : TaskFlags) → are_named task_flags given.0 ≡ true
    → MayTake own place (ImplicitTask Begin actual index given parallel task)
    → IsChanged tasks later task
    (λ _. Some (root_of task (record { home = place.number; actual = actual; index = index }) given))
    → Takes place.state.now.nests place.number own (ImplicitTask Begin actual index given parallel task) tasks
    later
begin_takes own place tasks later actual index parallel task given named may changed = record {
  made = record {
    accepts =
        allowed_here own place (are_named task_flags given.0)
        (ImplicitTask Begin actual index given parallel task) named may;
    makes = refl;
  };
  left = changed;
  first = λ other e. absurd (none-some other e);
  second = λ other e. absurd (none-some other e);
  apart = λ one other e g. absurd (none-some other g);
}

pub end_takes : (own : List Record) (place : Place) (tasks later : Tasks) (t : TaskView) (parallel : ℕ)
    → value_of tasks t.id ≡ Some t → is_root_on place.number t ≡ true
    → MayTake own place (end_of_root t parallel)
    → IsChanged tasks later t.id (λ _. None)
    → Takes place.state.now.nests place.number own (end_of_root t parallel) tasks later
end_takes own place tasks later t parallel is home may changed = record {
  made = record {
    accepts =
        ap (λ o. call_refusal (recorder_with max_replayed place.state.now.nests place.number own)
        (end_of_root t parallel)
        o None)
        is
        ∙ allowed_here own place (is_root_on place.number t) (end_of_root t parallel) home may;
    makes = ap (λ o. recorded_body (end_of_root t parallel) o None) is;
  };
  left = changed;
  first = λ other e. live_here tasks t.id other t is e;
  second = λ other e. absurd (none-some other e);
  apart = λ one other e g. absurd (none-some other g);
}

pub create_takes : (own : List Record) (place : Place) (tasks middle later : Tasks) (deps : Bool)
    (given : TaskFlags) (task child : ℕ) (t : TaskView) → value_of tasks task ≡ Some t → task ≢ child
    → are_named task_flags given.0 ≡ true → is_running t.state ≡ true → is_deep t ≡ false
    → is_crowded t ≡ false
    → MayTake own place (TaskCreate deps given task child)
    → IsChanged tasks middle task (option_map with_child)
    → IsChanged middle later child (λ _. Some (child_of t child given))
    → Takes place.state.now.nests place.number own (TaskCreate deps given task child) tasks later
create_takes own place tasks middle later deps given task child t is apart named running shallow room may
    counted
    added = record {
      made = record {
        accepts =
            ap (λ o. call_refusal r body o None) is
            ∙ accepted place.state.now.nests place.number own (may_create t given) (is_deep t) (is_crowded t)
            body
            (ap (λ b. b && is_running t.state) named ∙ running) may.allowed shallow room may.few;
        makes = refl;
      };
      left = λ id. added id ∙ of id (task == id) refl;
      first = λ other e. live_here tasks task other t is e;
      second = λ other e. absurd (none-some other e);
      apart = λ one other e g same. apart (same_Some task one e ∙ same ∙ sym (same_Some child other g));
    }
  where
    r : RecorderView
    r = recorder_with max_replayed place.state.now.nests place.number own

    body : Body
    body = TaskCreate deps given task child

    made : Option TaskView
    made = Some (child_of t child given)

    of : (id : ℕ) (b : Bool) → (task == id) ≡ b
        → cond (child == id) made (value_of middle id)
        ≡ values_after (value_of tasks) (call_on place.number body) id
    of id true e =
        ap (λ c. cond c made (value_of middle id))
        (ne_eqb child id (λ same. apart (eqb-true task id e ∙ sym same)))
        ∙ counted id
        ∙ ap (λ c. cond c (option_map with_child (value_of tasks task)) (value_of tasks id)) e
        ∙ sym
        (ap (λ c. cond c (option_map with_child (value_of tasks task))
        (cond (child == id) (option_map (λ x. child_of x child given) (value_of tasks task))
        (value_of tasks id)))
        e)
    of id false e =
        ap (cond (child == id) made)
        (counted id ∙ ap (λ c. cond c (option_map with_child (value_of tasks task)) (value_of tasks id)) e)
        ∙ ap (λ o. cond (child == id) (option_map (λ x. child_of x child given) o) (value_of tasks id))
        (sym is)
        ∙ sym
        (ap (λ c. cond c (option_map with_child (value_of tasks task))
        (cond (child == id) (option_map (λ x. child_of x child given) (value_of tasks task))
        (value_of tasks id)))
        e)

pub region_begin_takes : (own : List Record) (place : Place) (tasks later : Tasks) (kind : SyncKind)
    (parallel : Option ℕ) (task : ℕ) (t : TaskView) → value_of tasks task ≡ Some t → is_barred t kind ≡ false
    → MayTake own place (SyncRegion kind Begin parallel task)
    → IsChanged tasks later task (option_map (λ x. with_region x kind))
    → Takes place.state.now.nests place.number own (SyncRegion kind Begin parallel task) tasks later
region_begin_takes own place tasks later kind parallel task t is free may changed = record {
  made = record {
    accepts =
        ap (λ o. call_refusal (recorder_with max_replayed place.state.now.nests place.number own)
        (SyncRegion kind Begin parallel task) o None) is
        ∙ allowed_here own place (not (is_barred t kind)) (SyncRegion kind Begin parallel task) (ap not free)
        may;
    makes = refl;
  };
  left = changed;
  first = λ other e. live_here tasks task other t is e;
  second = λ other e. absurd (none-some other e);
  apart = λ one other e g. absurd (none-some other g);
}

pub region_end_takes : (own : List Record) (place : Place) (tasks later : Tasks) (kind : SyncKind)
    (parallel : Option ℕ) (task : ℕ) (t : TaskView) → value_of tasks task ≡ Some t → is_barred t kind ≡ false
    → is_innermost_region t kind ≡ true → MayTake own place (SyncRegion kind End parallel task)
    → IsChanged tasks later task (option_map without_region)
    → Takes place.state.now.nests place.number own (SyncRegion kind End parallel task) tasks later
region_end_takes own place tasks later kind parallel task t is free innermost may changed = record {
  made = record {
    accepts =
        ap (λ o. call_refusal (recorder_with max_replayed place.state.now.nests place.number own)
        (SyncRegion kind End parallel task) o None) is
        ∙ allowed_here own place (is_innermost_region t kind && not (is_barred t kind))
        (SyncRegion kind End parallel task) (rw (innermost, free) refl) may;
    makes = refl;
  };
  left = changed;
  first = λ other e. live_here tasks task other t is e;
  second = λ other e. absurd (none-some other e);
  apart = λ one other e g. absurd (none-some other g);
}

-- ---- cancellations

pub cancel_takes : (own : List Record) (place : Place) (tasks : Tasks) (given : CancelFlags) (task : ℕ)
    (t : TaskView) → value_of tasks task ≡ Some t → are_named cancel_flags given.0 ≡ true
    → has_flag given.0 flag.discarded_task ≡ false → MayTake own place (Cancel given task None)
    → Takes place.state.now.nests place.number own (Cancel given task None) tasks tasks
cancel_takes own place tasks given task t is named kept may =
    one_task own place tasks task t (Cancel given task None) is
    (ap (λ c. cond c (discard_refusal r t given) (refusal_at r (may_cancel given.0) false false
    (Cancel given task None))) kept
    ∙ allowed_here own place (may_cancel given.0) (Cancel given task None) (rw (named, kept) refl) may)
    refl refl refl (λ o. made o) (λ id. rw kept refl) refl
  where
    r : RecorderView
    r = recorder_with max_replayed place.state.now.nests place.number own

    made : (o : Option TaskView) → recorded_body (Cancel given task None) o None ≡ Cancel given task None
    made None = refl
    made (Some x) = rw kept refl

pub discard_takes : (own : List Record) (place : Place) (tasks later : Tasks) (given : CancelFlags)
    (t : TaskView)
    → value_of tasks t.id ≡ Some t → are_named cancel_flags given.0 ≡ true
    → has_flag given.0 flag.discarded_task ≡ true → is_some (state_moved t states.Discarded) ≡ true
    → MayTake own place (Cancel given t.id (Some t.claim)) → IsChanged tasks later t.id (λ _. None)
    → Takes place.state.now.nests place.number own (Cancel given t.id (Some t.claim)) tasks later
discard_takes own place tasks later given t is named discards may_be may changed = record {
  made = record {
    accepts =
        ap (λ o. call_refusal r (Cancel given t.id None) o None) is
        ∙ rw discards
        (ap (λ g. refusal_at r (is_some (state_moved t states.Discarded) && are_named cancel_flags g.0) false
        false
        (Cancel g t.id None)) flags_same
        ∙ allowed_here own place (is_some (state_moved t states.Discarded) && are_named cancel_flags given.0)
        (Cancel given t.id None) (rw (may_be, named) refl)
        (record { left = may.left; allowed = may.allowed; few = may.few }));
    makes =
        ap (λ o. recorded_body (Cancel given t.id None) o None) is
        ∙ rw discards (ap (λ g. Cancel g t.id (Some t.claim)) flags_same);
  };
  left = λ id. changed id ∙ sym (rw discards refl);
  first = λ other e. live_here tasks t.id other t is e;
  second = λ other e. absurd (none-some other e);
  apart = λ one other e g. absurd (none-some other g);
}
  where
    r : RecorderView
    r = recorder_with max_replayed place.state.now.nests place.number own

    flags_same : with_discarded given ≡ given
    flags_same = ap (λ bits. record { 0 = bits })
        (or_there given.0 flag.discarded_task (eqb-true _ _ discards))

-- ---- schedules

pub schedule_made : (own : List Record) (place : Place) (tasks : Tasks) (t : TaskView) (status : Status)
    (next : Option TaskView) → value_of tasks t.id ≡ Some t
    → value (value_of tasks) (option_map (λ (n : TaskView). n.id) next) ≡ next
    → may_schedule (recorder_with max_replayed place.state.now.nests place.number own)
    (schedule_of t status next)
    ≡ true
    → is_last_turn (schedule_of t status next) ≡ false
    → MayTake own place
    (schedule_body (schedule_of t status next) (option_map (λ (_ : Part). t.claim) (status_part status)))
    → Makes place.state.now.nests place.number own (value_of tasks)
    (schedule_body (schedule_of t status next) (option_map (λ (_ : Part). t.claim) (status_part status)))
schedule_made own place tasks t status next is next_is may_be more may = record {
  accepts =
      ap (λ o. call_refusal r call o (value f (option_map (λ (n : TaskView). n.id) next))) is
      ∙ ap (λ o. call_refusal r call (Some t) o) next_is
      ∙ accepted place.state.now.nests place.number own (may_schedule r s) false (is_last_turn s)
      (schedule_body s None) may_be may.allowed refl more may.few;
  makes =
      ap (λ o. recorded_body call o (value f (option_map (λ (n : TaskView). n.id) next))) is
      ∙ ap (λ o. recorded_body call (Some t) o) next_is;
}
  where
    r : RecorderView
    r = recorder_with max_replayed place.state.now.nests place.number own

    f : Values
    f = value_of tasks

    s : ScheduleView
    s = schedule_of t status next

    call : Body
    call = TaskSchedule status None t.id (option_map (λ (n : TaskView). n.id) next) None

-- the same of a record that tells of these tasks what the schedule does
pub told_makes : (own : List Record) (place : Place) (tasks : Tasks) (s : ScheduleView) (t : TaskView)
    (status : Status) (turns : Option Turns) (prior : ℕ) (next : Option ℕ) (claimed : Option Claim)
    → value_of tasks prior ≡ Some t → s.prior ≡ t → value (value_of tasks) next ≡ s.next
    → may_schedule (recorder_with max_replayed place.state.now.nests place.number own) s ≡ true
    → is_last_turn s ≡ false
    → schedule_body s (option_map (λ (_ : Part). t.claim) (status_part s.status))
    ≡ TaskSchedule status turns prior next claimed
    → MayTake own place (TaskSchedule status turns prior next claimed)
    → Makes place.state.now.nests place.number own (value_of tasks)
    (TaskSchedule status turns prior next claimed)
told_makes own place tasks s t status turns prior next claimed is same next_is may_be more told may =
    let claim_told = ap (λ (x : TaskView). schedule_body s
    (option_map (λ (_ : Part). x.claim) (status_part s.status)))
    same ∙ told in
    let P : Body → Type 0 = λ b. MayTake own place b
    → Makes place.state.now.nests place.number own (value_of tasks) b in
    subst P claim_told
    (schedule_made own place tasks s.prior s.status s.next
    (ap (value_of tasks) (same_Some s.prior.id prior (ap subject told)) ∙ is ∙ ap Some (sym same))
    (ap (value (value_of tasks)) (ap object told) ∙ next_is) may_be more)
    may
