-- What the steps of a script leave one after another.
use Rattle.std.proofs.Common.{ℕ, ◌≡◌, ◌≢◌, ◌∙◌, ◌++◌, ◌∷◌, ◌+◌, ◌≤◌, [], List, Some, None, Option}
use Rattle.std.proofs.Common.{take, length, refl, ap, sym, subst, inl, inr, arith, true, false}
use Rattle.std.proofs.Common.{Bool, cond, zero, suc}
use Rattle.std.specs.Prelude.{◌==◌, ◌&&◌, ◌||◌, not, nat_le, slice_get, option_map, map, is_none, is_some}
use Rattle.std.specs.Prelude.{if◌then◌else◌, option_and_then}
use Rattle.std.specs.List.{list_any, AllPairs}
use Rattle.std.specs.Option.{option_map_or}
use Rattle.std.proofs.lemmas.Bool.{eq-eqb, ne_eqb, cases_lt, false≢true}
use Rattle.std.proofs.lemmas.List.{append-nil, length-map}
use Rattle.std.proofs.lemmas.List.Elements.{filter-append}
use Rattle.std.proofs.lemmas.List.Folds.{fold-map}
use Rattle.std.proofs.lemmas.List.Sums.{fold_push}
use Rattle.std.proofs.lemmas.Option.{none-some, same_Some}
use Rattle.ompt_events.specs.declared.records.Record.{Record}
use Rattle.ompt_events.specs.declared.records.Body.{Body}
use Rattle.ompt_events.specs.declared.records.Body.TheVariants.{ThreadBegin, ThreadEnd, ParallelBegin}
use Rattle.ompt_events.specs.declared.records.Body.TheVariants.{ParallelEnd, ImplicitTask, TaskCreate}
use Rattle.ompt_events.specs.declared.records.Body.TheVariants.{Dependences, TaskSchedule, SyncRegion}
use Rattle.ompt_events.specs.declared.records.Body.TheVariants.{Cancel}
use Rattle.ompt_events.specs.declared.records.Membership.{Membership}
use Rattle.ompt_events.specs.declared.names.Endpoint.TheVariants.{Begin, End, BeginEnd}
use Rattle.ompt_events.specs.declared.names.Status.{Status}
use Rattle.ompt_events.specs.declared.names.Status.TheVariants.{TaskwaitComplete}
use Rattle.ompt_events.specs.Flags.{task_flags, are_named, has_flag}
use Rattle.ompt_events.specs.Records.{joined, begun_initial, named}
use Rattle.ompt_events.specs.States.{is_task}
use Rattle.ompt_events.specs.declared.state.State.{State}
use Rattle.ompt_events.proofs.ListLemmas.{get_within}
use Rattle.ompt_events.proofs.PlaceLemmas.{the_task}
use Rattle.ompt_events.specs.Flags as flag
use Rattle.ompt_events.specs.States as states
use Rattle.callbacks.specs.Begun.{has_begun, has_begun_one, begins_it, begins_one}
use Rattle.callbacks.specs.declared.fault.CallFault.{CallFault}
use Rattle.callbacks.specs.Calls.{refusal, may_cancel}
use Rattle.callbacks.specs.Recorders.{RecorderView, refusal_at, allowed, is_log_full, may_fork}
use Rattle.callbacks.specs.Schedules.{ScheduleView, schedule_of, schedule_body, schedule_refusal}
use Rattle.callbacks.specs.Schedules.{discard_refusal, may_schedule, may_start, is_by_parent, has_its_next}
use Rattle.callbacks.specs.Schedules.{is_last_turn, may_discard, discard_body, comes_back}
use Rattle.callbacks.specs.Standing.{Standing, standing_of, standing_at_start, next_standing, innermost}
use Rattle.callbacks.specs.Standing.{fits, allows, begins_own_region, is_outside, is_on_host}
use Rattle.callbacks.specs.Tasks.{TaskView, may_create, parent_of, place_of, is_root_on, state_moved, is_deep}
use Rattle.callbacks.specs.Tasks.{is_crowded, is_barred, end_of_root, is_innermost_region, after_stop}
use Rattle.callbacks.specs.Tasks.{in_state, after_start, started_in, turn_begun_next, with_child}
use Rattle.callbacks.specs.Tasks.{with_region, without_region}
use Rattle.scripts.specs.declared.script.Step.{Step}
use Rattle.scripts.specs.Scripts.{ScriptView, step_count}
use Rattle.scripts.proofs.RuleLemmas.{step_rules}
use Rattle.callbacks.proofs.KnownLaw.{take_next}
use Rattle.packed_trace.specs.Named.{subject, object}
use Rattle.scripts.specs.RunCalls.{first_given, second_given, recorded_body, refusal_by, call_refusal}
use Rattle.scripts.specs.RunCalls.{first_left, second_left, names_it}
use Rattle.scripts.specs.Progress.{Progress, Values, value, values_after, progress_after, no_progress}
use Rattle.scripts.specs.Progress.{progress_with}
use Rattle.scripts.specs.Progress.{progress, progress_to, recorder_with, step_refusal, refused_at}
use Rattle.scripts.specs.Progress.{without_seen, own_records, thread_records}
use Rattle.scripts.specs.Parts.{AreValuesAfter, IsCalled, IsTaken, IsUnusedSince}
use Rattle.scripts.specs.Parts.{IsUseOf, IsValueAfter, IsNext}
use Rattle.scripts.specs.Parts.{id_of}
use Rattle.scripts.specs.declared.uses.Use.{Use}
use Rattle.scripts.proofs.PlaceLemmas.{none_between}

-- ---- refusals

-- the recorder with its records without their ledger lengths, and no ledger of its own
abbrev pub bare : RecorderView → RecorderView
bare r = recorder_with r.capacity r.nests r.thread (map without_seen r.records)

standing_same : (own : List Record) → standing_of own ≡ standing_of (map without_seen own)
standing_same own =
    sym
    (fold-map (λ (s : Standing) (r : Record). next_standing r.nests s r.body) without_seen standing_at_start
    own)

any_same : (p : Body → Bool) (own : List Record)
    → list_any (λ (r : Record). p r.body) own ≡ list_any (λ (r : Record). p r.body) (map without_seen own)
any_same p [] = refl
any_same p (r ∷ own) = ap (λ b. p r.body || b) (any_same p own)

begun_same : (own : List Record) (found : Option ℕ) (parallel : ℕ)
    → has_begun own found parallel ≡ has_begun (map without_seen own) found parallel
begun_same own None parallel = refl
begun_same own (Some task) parallel = any_same (begins_it task parallel) own

one_same : (own : List Record) (found : Option ℕ)
    → has_begun_one own found ≡ has_begun_one (map without_seen own) found
one_same own None = refl
one_same own (Some task) = any_same (begins_one task) own

joined_same : (own : List Record) (current : Option ℕ) (found : Option Membership)
    → option_map_or (λ (m : Membership). has_begun own current m.parallel) found true
    ≡ option_map_or (λ (m : Membership). has_begun (map without_seen own) current m.parallel) found true
joined_same own current None = refl
joined_same own current (Some m) = begun_same own current m.parallel

-- what may begin in this standing, after these records
abbrev begins_at : Standing → List Record → Body → Bool
begins_at s own body =
    is_none (innermost s)
    || (option_map_or (λ (m : Membership). has_begun own s.walk.current m.parallel) (joined body) true
    && (is_none (begun_initial body) || has_begun_one own s.walk.current))

region_same : (own : List Record) (body : Body)
    → begins_own_region own body ≡ begins_own_region (map without_seen own) body
region_same own body =
    let s = standing_of (map without_seen own) in
    let same : begins_at (standing_of own) own body ≡ begins_at s own body =
    ap (λ (x : Standing). begins_at x own body) (standing_same own) in
    same
    ∙ ap
    (λ b. is_none (innermost s)
    || (b && (is_none (begun_initial body) || has_begun_one own s.walk.current)))
    (joined_same own s.walk.current (joined body))
    ∙ ap
    (λ b. is_none (innermost s)
    || (option_map_or (λ (m : Membership). has_begun (map without_seen own) s.walk.current m.parallel)
    (joined body) true
    && (is_none (begun_initial body) || b)))
    (one_same own s.walk.current)

allows_same : (nests : Bool) (own : List Record) (body : Body)
    → allows nests own body ≡ allows nests (map without_seen own) body
allows_same true own body =
    ap (λ b. fits (standing_of own) body && b) (region_same own body)
    ∙ ap (λ (s : Standing). fits s body && begins_own_region (map without_seen own) body) (standing_same own)
allows_same false own body =
    ap (λ (s : Standing). fits s body && (is_outside s body && is_on_host body)) (standing_same own)

at_same : (r : RecorderView) (may deep full : Bool) (body : Body)
    → refusal_at r may deep full body ≡ refusal_at (bare r) may deep full body
unfolding refusal_at
at_same r may deep full body =
    ap (λ b. refusal (may && b) deep (full || is_log_full r)) (allows_same r.nests r.records body)
    ∙ ap (λ n. refusal (may && allowed (bare r) body) deep (full || nat_le r.capacity n))
    (sym (length-map r.records without_seen))

parent_same : (r : RecorderView) (t : TaskView) (status : Status)
    → is_by_parent r t status ≡ is_by_parent (bare r) t status
parent_same r t TaskwaitComplete =
    ap (λ (s : Standing). option_map_or (λ parent. is_task parent s.walk.current) (parent_of t.origin) false)
    (standing_same r.records)
parent_same r t _ = refl

start_same : (r : RecorderView) (next : Option TaskView)
    → option_map_or (may_start r) next true ≡ option_map_or (may_start (bare r)) next true
start_same r None = refl
start_same r (Some t) =
    ap
    (λ (s : Standing). is_some (state_moved t states.Started)
    && (is_none (place_of t.origin) || (is_root_on r.thread t && is_task t.id (innermost s))))
    (standing_same r.records)

may_same : (r : RecorderView) (s : ScheduleView) → may_schedule r s ≡ may_schedule (bare r) s
may_same r s =
    let moved = is_some (state_moved s.prior (states.Stopped s.status)) in
    ap (λ b. moved && has_its_next s && b && option_map_or (may_start r) s.next true)
    (parent_same r s.prior s.status)
    ∙ ap (λ b. moved && has_its_next s && is_by_parent (bare r) s.prior s.status && b) (start_same r s.next)

schedule_same : (r : RecorderView) (s : ScheduleView) → schedule_refusal r s ≡ schedule_refusal (bare r) s
schedule_same r s =
    ap (λ may. refusal_at r may false (is_last_turn s) (schedule_body s None)) (may_same r s)
    ∙ at_same r (may_schedule (bare r) s) false (is_last_turn s) (schedule_body s None)

by_same : (r : RecorderView) (body : Body) (t : TaskView) (second : Option TaskView)
    → refusal_by r body t second ≡ refusal_by (bare r) body t second
by_same r (ThreadBegin kind) t second = refl
by_same r ThreadEnd t second = refl
by_same r (ParallelBegin requested task parallel) t second =
    at_same r (may_fork r t) false false (ParallelBegin requested task parallel)
by_same r (ParallelEnd task parallel) t second = at_same r true false false (ParallelEnd task parallel)
by_same r (ImplicitTask Begin actual index given parallel task) t second = refl
by_same r (ImplicitTask End actual index given parallel task) t second =
    at_same r (is_root_on r.thread t) false false (end_of_root t parallel)
by_same r (ImplicitTask BeginEnd actual index given parallel task) t second = refl
by_same r (TaskCreate deps given task child) t second =
    at_same r (may_create t given) (is_deep t) (is_crowded t) (TaskCreate deps given task child)
by_same r (Dependences task list) t second = at_same r true false _ (Dependences task list)
by_same r (TaskSchedule status turns prior next claimed) t second =
    schedule_same r (schedule_of t status second)
by_same r (SyncRegion kind Begin parallel task) t second =
    at_same r (not (is_barred t kind)) false false (SyncRegion kind Begin parallel task)
by_same r (SyncRegion kind End parallel task) t second =
    at_same r (is_innermost_region t kind && not (is_barred t kind)) false false
    (SyncRegion kind End parallel task)
by_same r (SyncRegion kind BeginEnd parallel task) t second =
    at_same r (not (is_barred t kind)) false false (SyncRegion kind BeginEnd parallel task)
by_same r (Cancel given task claimed) t second =
    let discards = has_flag given.0 flag.discarded_task in
    ap
    (λ found.
    if discards then found else refusal_at r (may_cancel given.0) false false (Cancel given task None))
    (at_same r (may_discard t given) false false (discard_body t given None))
    ∙ ap (λ found. if discards then discard_refusal (bare r) t given else found)
    (at_same r (may_cancel given.0) false false (Cancel given task None))

-- why a call is refused depends on the thread, on whether regions may lie inside others, on the records
-- without their ledger lengths, and on how many there may be
pub refusal_same : (r : RecorderView) (body : Body) (first second : Option TaskView)
    → call_refusal r body first second ≡ call_refusal (bare r) body first second
refusal_same r (ThreadBegin kind) first second = at_same r true false false (ThreadBegin kind)
refusal_same r ThreadEnd first second = at_same r true false false ThreadEnd
refusal_same r (ImplicitTask Begin actual index given parallel task) first second =
    at_same r (are_named task_flags given.0) false false
    (ImplicitTask Begin actual index given parallel task)
refusal_same r (ImplicitTask BeginEnd actual index given parallel task) first second = refl
refusal_same r body (Some t) second = by_same r body t second
refusal_same r body None second = refl

-- ---- one step more

-- what the steps leave with one more
pub progress_next : (script : ScriptView) (at : ℕ) (s : Step) → slice_get script.steps at ≡ Some s
    → progress_to script (at + 1) ≡ progress_after script.capacity script.nests (progress_to script at) s
progress_next script at s is =
    ap (progress script.capacity script.nests) (take_next script.steps at s is)
    ∙ fold_push (progress_after script.capacity script.nests) no_progress (take at script.steps) s

-- the same of a step that is accepted
pub accepted_next : (script : ScriptView) (at : ℕ) (s : Step) → slice_get script.steps at ≡ Some s
    → refused_at script at ≡ None
    → progress_to script (at + 1) ≡ progress_with script.nests (progress_to script at) s
accepted_next script at s is accepted =
    let p = progress_to script at in
    progress_next script at s is
    ∙ ap (λ found. cond (is_some found) p (progress_with script.nests p s))
    (sym (ap (option_and_then (λ q. step_refusal script.capacity script.nests p q)) is) ∙ accepted)

-- what holds whether the step is accepted or not
either_way : {X : Type 0} (b : Bool) (f : Progress → X) (p q : Progress) (x : X) → f p ≡ x → f q ≡ x
    → f (cond b p q) ≡ x
either_way true f p q x first second = first
either_way false f p q x first second = second

-- the record of a step on this thread, which has these records before it
abbrev pub record_by : Body → ℕ → Bool → List Record → Option TaskView → Option TaskView → Record
record_by body thread nests own first second = record {
  thread = thread;
  nests = nests;
  seq = length own;
  seen = 0;
  body = recorded_body body first second;
}

-- a step adds its record to those of its thread
pub own_next : (script : ScriptView) (at : ℕ) (s : Step) → slice_get script.steps at ≡ Some s
    → refused_at script at ≡ None
    → own_records script (at + 1) s.thread
    ≡ own_records script at s.thread
    ++ record_by s.body s.thread script.nests (own_records script at s.thread)
    (value (progress_to script at).values (first_given s.body))
    (value (progress_to script at).values (second_given s.body))
    ∷ []
own_next script at s is accepted =
    let p = progress_to script at in
    let own = own_records script at s.thread in
    let new =
    record_by s.body s.thread script.nests own (value p.values (first_given s.body))
    (value p.values (second_given s.body)) in
    ap (λ (q : Progress). thread_records q.records s.thread) (accepted_next script at s is accepted)
    ∙ filter-append (λ (r : Record). r.thread == s.thread) p.records (new ∷ [])
    ∙ ap (λ b. own ++ cond b (new ∷ []) []) (eq-eqb s.thread s.thread refl)

-- a step adds none to those of another thread
pub own_other : (script : ScriptView) (at : ℕ) (s : Step) (thread : ℕ) → slice_get script.steps at ≡ Some s
    → s.thread ≢ thread → own_records script (at + 1) thread ≡ own_records script at thread
own_other script at s thread is other =
    let p = progress_to script at in
    let new =
    record_by s.body s.thread script.nests (own_records script at s.thread)
    (value p.values (first_given s.body)) (value p.values (second_given s.body)) in
    ap (λ (q : Progress). thread_records q.records thread) (progress_next script at s is)
    ∙ either_way (is_some (step_refusal script.capacity script.nests p s))
    (λ q. thread_records q.records thread) p (progress_with script.nests p s) (own_records script at thread)
    refl
    (filter-append (λ (r : Record). r.thread == thread) p.records (new ∷ [])
    ∙ ap (λ b. own_records script at thread ++ cond b (new ∷ []) []) (ne_eqb s.thread thread other)
    ∙ append-nil (own_records script at thread))

-- the records of a thread stay the same up to its next step
pub own_between : (script : ScriptView) (thread n m : ℕ) → n ≤ m → m ≤ length script.steps
    → step_count (take n script.steps) thread ≡ step_count (take m script.steps) thread
    → own_records script n thread ≡ own_records script m thread
own_between script thread n m low within same = up_to m low (omega arith)
  where
    up_to : (k : ℕ) → n ≤ k → k ≤ m → own_records script n thread ≡ own_records script k thread
    up_to zero from to = let first : n ≡ zero = omega arith in ap (λ i. own_records script i thread) first
    up_to (suc k) from to = elim (cases_lt n (suc k)) [
      | inl less ↦
          let (s, is) = get_within script.steps k (omega arith) in
          let one : k + 1 ≡ suc k = omega arith in
          up_to k (omega arith) (omega arith)
          ∙ sym
          (own_other script k s thread is
          (none_between script.steps thread n m same k s (omega arith) (omega arith) is))
          ∙ ap (λ i. own_records script i thread) one
      | inr past ↦ let last : n ≡ suc k = omega arith in ap (λ i. own_records script i thread) last
    ]

-- ---- values

neither : (a b : Bool) (x y z : Option TaskView) → (a || b) ≡ false → cond a x (cond b y z) ≡ z
neither false false x y z is = refl
neither false true x y z is = absurd (false≢true (sym is))
neither true b x y z is = absurd (false≢true (sym is))

-- a step leaves the value of a task that it does not name
value_other : (values : Values) (s : Step) (task : ℕ) → names_it s.body task ≡ false
    → values_after values s task ≡ values task
value_other values s task is =
    neither (is_task task (subject s.body)) (is_task task (object s.body)) _ _ _ is

-- the value of the task that it names first
pub value_first : (values : Values) (s : Step) (task : ℕ) → subject s.body ≡ Some task
    → values_after values s task ≡ first_left s.thread s.body (value values (first_given s.body))
value_first values s task is =
    ap (λ b. cond b (first_left s.thread s.body (value values (first_given s.body))) other)
    (the_task task (subject s.body) is)
  where
    other : Option TaskView
    other =
        cond (is_task task (object s.body))
        (second_left s.body (value values (first_given s.body)) (value values (second_given s.body)))
        (values task)

-- and of the one that it names next
pub value_second : (values : Values) (s : Step) (task : ℕ) → is_task task (subject s.body) ≡ false
    → object s.body ≡ Some task
    → values_after values s task
    ≡ second_left s.body (value values (first_given s.body)) (value values (second_given s.body))
value_second values s task other is =
    ap (λ b. cond b (first_left s.thread s.body (value values (first_given s.body))) second) other
    ∙ ap (λ b. cond b left (values task)) (the_task task (object s.body) is)
  where
    left : Option TaskView
    left = second_left s.body (value values (first_given s.body)) (value values (second_given s.body))

    second : Option TaskView
    second = cond (is_task task (object s.body)) left (values task)

-- the value of a task stays the same while no step names it
pub unused_value : (script : ScriptView) (task since at : ℕ) → at ≤ length script.steps
    → IsUnusedSince script.steps task since at
    → (progress_to script at).values task ≡ (progress_to script since).values task
unused_value script task since at within unused = up_to at unused.up_to (omega arith)
  where
    up_to : (n : ℕ) → since ≤ n → n ≤ at
        → (progress_to script n).values task ≡ (progress_to script since).values task
    up_to zero from to =
        let first : zero ≡ since = omega arith in ap (λ i. (progress_to script i).values task) first
    up_to (suc n) from to = elim (cases_lt since (suc n)) [
      | inl less ↦
          let (s, is) = get_within script.steps n (omega arith) in
          let one : suc n ≡ n + 1 = omega arith in
          ap (λ i. (progress_to script i).values task) one
          ∙ ap (λ (p : Progress). p.values task) (progress_next script n s is)
          ∙ either_way (is_some (step_refusal script.capacity script.nests (progress_to script n) s))
          (λ p. p.values task) (progress_to script n) (progress_with script.nests (progress_to script n) s)
          ((progress_to script n).values task) refl
          (value_other (progress_to script n).values s task
          (sym (ap (λ (o : Option Step). option_map_or (λ (q : Step). names_it q.body task) o false) is)
          ∙ unused.unnamed n (omega arith) (omega arith)))
          ∙ up_to n (omega arith) (omega arith)
      | inr past ↦
          let last : suc n ≡ since = omega arith in ap (λ i. (progress_to script i).values task) last
    ]

-- a task that was taken for a step has the value that the step is given
pub value_taken : {H : Type 0} (since_of : H → ℕ) (task_of : H → TaskView) (script : ScriptView) (n at : ℕ)
    (given named : Option ℕ) (used : Option Use) (held : Option H) → at ≤ length script.steps
    → ((h : H) → IsValueAfter script (since_of h) (task_of h))
    → ((task : ℕ) → given ≡ Some task → named ≡ Some task) → IsUseOf script.steps n at named used
    → IsTaken given (option_map (λ (u : Use). u.since) used)
    (option_map (λ h. (since_of h, task_of h)) held)
    → value (progress_to script at).values given ≡ option_map task_of held
value_taken since_of task_of script n at given named used None within are names use_is taken =
    ap (value (progress_to script at).values) taken
value_taken since_of task_of script n at given named None (Some h) within are names use_is (is, noted) =
    absurd (none-some (since_of h) noted)
value_taken since_of task_of script n at given named (Some u) (Some h) within are names use_is (is, noted) =
    let task = (task_of h).id in
    ap (value (progress_to script at).values) is
    ∙ unused_value script task (since_of h) at within
    (subst (λ k. IsUnusedSince script.steps task k at) (same_Some u.since (since_of h) noted)
    (use_is.since task u (names task is) refl))
    ∙ are h

-- the values that are taken are those of the tasks that the call is given
pub taken_id : {H : Type 0} (since_of : H → ℕ) (task_of : H → TaskView) (given since : Option ℕ)
    (held : Option H) → IsTaken given since (option_map (λ h. (since_of h, task_of h)) held)
    → id_of (option_map task_of held) ≡ given
taken_id since_of task_of given since None taken = sym taken
taken_id since_of task_of given since (Some h) (is, noted) = sym is

-- a task that a call is given is one that it names
pub given_first : (body : Body) (task : ℕ) → first_given body ≡ Some task → subject body ≡ Some task
given_first (ThreadBegin kind) task is = is
given_first ThreadEnd task is = is
given_first (ParallelBegin requested own parallel) task is = is
given_first (ParallelEnd own parallel) task is = is
given_first (ImplicitTask Begin actual index given parallel own) task is = absurd (none-some task is)
given_first (ImplicitTask End actual index given parallel own) task is = is
given_first (ImplicitTask BeginEnd actual index given parallel own) task is = is
given_first (TaskCreate deps given own child) task is = is
given_first (Dependences own list) task is = is
given_first (TaskSchedule status turns prior next claimed) task is = is
given_first (SyncRegion kind endpoint parallel own) task is = is
given_first (Cancel given own claimed) task is = is

-- the same of the second one
pub given_second : (body : Body) (task : ℕ) → second_given body ≡ Some task → object body ≡ Some task
given_second (TaskSchedule status turns prior next claimed) task is = is
given_second _ task is = absurd (none-some task is)

-- ---- the values that a call leaves

pub stop_id : (t : TaskView) (status : Status) → (after_stop t status).id ≡ t.id
stop_id t status = by (state_moved t (states.Stopped status))
  where
    by : (o : Option State) → (option_map_or (in_state t) o t).id ≡ t.id
    by None = refl
    by (Some state) = refl

pub start_id : (t : TaskView) → (after_start t).id ≡ t.id
start_id t = by (state_moved t states.Started) (turn_begun_next t)
  where
    by : (o : Option State) (turn : Option ℕ) → (started_in t o turn).id ≡ t.id
    by None turn = refl
    by (Some state) None = refl
    by (Some state) (Some turn) = refl

none_left : (t : TaskView) (P : Type 0) → None ≡ Some t → P
none_left t P is = absurd (none-some t is)

-- a value that is left with its id is of the task of the call
kept_id : (u t : TaskView) (task : ℕ) (f : TaskView → TaskView) → Some u.id ≡ Some task → (f u).id ≡ u.id
    → Some (f u) ≡ Some t → Some task ≡ Some t.id
kept_id u t task f given keeps is =
    sym given ∙ ap Some (sym keeps) ∙ ap (λ (v : TaskView). Some v.id) (same_Some (f u) t is)

left_of_id : (u t : TaskView) (status : Status) (task : ℕ) (back : Bool) → Some u.id ≡ Some task
    → (cond back (Some (after_stop u status)) None) ≡ Some t → Some task ≡ Some t.id
left_of_id u t status task true given is =
    kept_id u t task (λ v. after_stop v status) given (stop_id u status) is
left_of_id u t status task false given is = none_left t _ is

left_undiscarded : (u t : TaskView) (task : ℕ) (discards : Bool) → Some u.id ≡ Some task
    → (cond discards None (Some u)) ≡ Some t → Some task ≡ Some t.id
left_undiscarded u t task true given is = none_left t _ is
left_undiscarded u t task false given is = kept_id u t task (λ v. v) given refl is

none_undiscarded : (t : TaskView) (discards : Bool) (P : Type 0) → (cond discards None None) ≡ Some t → P
none_undiscarded t true P is = none_left t P is
none_undiscarded t false P is = none_left t P is

-- what is left of the first value is the value of the task that the call names first
pub first_id : (thread : ℕ) (body : Body) (first : Option TaskView) (t : TaskView)
    → id_of first ≡ first_given body → first_left thread body first ≡ Some t → subject body ≡ Some t.id
first_id thread (ImplicitTask Begin actual index flags parallel task) first t given is =
    ap (λ (o : Option TaskView). id_of o) is
first_id thread (ImplicitTask End actual index flags parallel task) first t given is = none_left t _ is
first_id thread (ImplicitTask BeginEnd actual index flags parallel task) None t given is = none_left t _ is
first_id thread (ImplicitTask BeginEnd actual index flags parallel task) (Some u) t given is =
    kept_id u t task (λ v. v) given refl is
first_id thread (ThreadBegin kind) None t given is = none_left t _ is
first_id thread (ThreadBegin kind) (Some u) t given is = absurd (none-some u.id (sym given))
first_id thread ThreadEnd None t given is = none_left t _ is
first_id thread ThreadEnd (Some u) t given is = absurd (none-some u.id (sym given))
first_id thread (ParallelBegin requested task parallel) None t given is = none_left t _ is
first_id thread (ParallelBegin requested task parallel) (Some u) t given is =
    kept_id u t task (λ v. v) given refl is
first_id thread (ParallelEnd task parallel) None t given is = none_left t _ is
first_id thread (ParallelEnd task parallel) (Some u) t given is = kept_id u t task (λ v. v) given refl is
first_id thread (TaskCreate deps flags task child) None t given is = none_left t _ is
first_id thread (TaskCreate deps flags task child) (Some u) t given is =
    kept_id u t task with_child given refl is
first_id thread (Dependences task list) None t given is = none_left t _ is
first_id thread (Dependences task list) (Some u) t given is = kept_id u t task (λ v. v) given refl is
first_id thread (TaskSchedule status turns prior next claimed) None t given is = none_left t _ is
first_id thread (TaskSchedule status turns prior next claimed) (Some u) t given is =
    left_of_id u t status prior (comes_back status) given is
first_id thread (SyncRegion kind Begin parallel task) None t given is = none_left t _ is
first_id thread (SyncRegion kind Begin parallel task) (Some u) t given is =
    kept_id u t task (λ v. with_region v kind) given refl is
first_id thread (SyncRegion kind End parallel task) None t given is = none_left t _ is
first_id thread (SyncRegion kind End parallel task) (Some u) t given is =
    kept_id u t task without_region given refl is
first_id thread (SyncRegion kind BeginEnd parallel task) None t given is = none_left t _ is
first_id thread (SyncRegion kind BeginEnd parallel task) (Some u) t given is =
    kept_id u t task (λ v. v) given refl is
first_id thread (Cancel flags task claimed) None t given is =
    none_undiscarded t (has_flag flags.0 flag.discarded_task) _ is
first_id thread (Cancel flags task claimed) (Some u) t given is =
    left_undiscarded u t task (has_flag flags.0 flag.discarded_task) given is

-- and what is left of the second one that of the task that it names next
pub second_id : (body : Body) (first second : Option TaskView) (t : TaskView)
    → id_of second ≡ second_given body
    → second_left body first second ≡ Some t → object body ≡ Some t.id
second_id (TaskCreate deps flags task child) None second t given is = none_left t _ is
second_id (TaskCreate deps flags task child) (Some u) second t given is =
    ap (λ (o : Option TaskView). id_of o) is
second_id (TaskSchedule status turns prior next claimed) first None t given is = none_left t _ is
second_id (TaskSchedule status turns prior None claimed) first (Some u) t given is =
    absurd (none-some u.id (sym given))
second_id (TaskSchedule status turns prior (Some next) claimed) first (Some u) t given is =
    kept_id u t next after_start given (start_id u) is
second_id body first None t given is = none_left t _ is
second_id body first (Some u) t given is = absurd (none-some u.id (sym given))

-- the recorder refuses its call as the script says
pub step_refused : (script : ScriptView) (at : ℕ) (s : Step) (r : RecorderView)
    (first second : Option TaskView) → IsNext script at s r first second
    → call_refusal r s.body first second ≡ refused_at script at
step_refused script at s r first second next =
    let p = progress_to script at in
    let refused : ℕ → Bool → ℕ → List Record → Option TaskView → Option TaskView → Option CallFault =
    λ most nests thread own one two. call_refusal (recorder_with most nests thread own) s.body one two in
    refusal_same r s.body first second
    ∙ ap (λ own. refused r.capacity r.nests r.thread own first second) next.run.records
    ∙ ap (λ most. refused most r.nests r.thread (own_records script at r.thread) first second)
    next.run.capacity
    ∙ ap (λ nests. refused script.capacity nests r.thread (own_records script at r.thread) first second)
    next.run.nests
    ∙ ap (λ thread. refused script.capacity script.nests thread (own_records script at thread) first second)
    (sym next.of_thread)
    ∙ ap (λ one. refused script.capacity script.nests s.thread (own_records script at s.thread) one second)
    next.first_is
    ∙ ap
    (refused script.capacity script.nests s.thread (own_records script at s.thread)
    (value p.values (first_given s.body)))
    next.second_is
    ∙ ap (option_and_then (λ (x : Step). step_refusal script.capacity script.nests p x)) (sym next.there)

-- a step whose call succeeds is not refused
pub step_accepted : (script : ScriptView) (at : ℕ) (s : Step) (r called : RecorderView)
    (first second first_after second_after : Option TaskView) → IsNext script at s r first second
    → IsCalled r s.body first second called first_after second_after → refused_at script at ≡ None
step_accepted script at s r called first second first_after second_after next made =
    sym (step_refused script at s r first second next) ∙ made.accepted

-- the value that a call leaves of the task that it names first is that after the step
pub left_first : (script : ScriptView) (at : ℕ) (s : Step) (r called : RecorderView)
    (first second first_after second_after : Option TaskView) → IsNext script at s r first second
    → IsCalled r s.body first second called first_after second_after
    → AreValuesAfter script (at + 1) first_after
left_first script at s r called first second first_after second_after next made =
    after first_after
    (ap (λ thread. first_left thread s.body first) next.of_thread ∙ sym made.first_is)
  where
    accepted : refused_at script at ≡ None
    accepted = step_accepted script at s r called first second first_after second_after next made

    after : (o : Option TaskView) → first_left s.thread s.body first ≡ o → AreValuesAfter script (at + 1) o
    after None left = tt
    after (Some t) left =
        ap (λ (p : Progress). p.values t.id) (accepted_next script at s next.there accepted)
        ∙ value_first (progress_to script at).values s t.id
        (first_id s.thread s.body first t next.given.first_is left)
        ∙ ap (first_left s.thread s.body) (sym next.first_is) ∙ left

-- a call names two tasks that are apart
pub named_apart : (body : Body) (a b : ℕ) → AllPairs (λ x y. x ≢ y) (named body)
    → subject body ≡ Some a → object body ≡ Some b → a ≢ b
named_apart (TaskCreate deps flags task child) a b apart first second same =
    apart 0 1 0 (omega arith) (omega arith) (same_Some task a first ∙ same ∙ sym (same_Some child b second))
named_apart (TaskSchedule status turns prior None claimed) a b apart first second same =
    absurd (none-some b second)
named_apart (TaskSchedule status turns prior (Some next) claimed) a b apart first second same =
    apart 0 1 0 (omega arith) (omega arith) (same_Some prior a first ∙ same ∙ sym (same_Some next b second))
named_apart body a b apart first second same = absurd (none-some b second)

pub not_first : (named : Option ℕ) (task : ℕ) → ((a : ℕ) → named ≡ Some a → a ≢ task)
    → is_task task named ≡ false
not_first None task apart = refl
not_first (Some a) task apart = ne_eqb a task (apart a refl)

-- the same of the task that it names next
pub left_second : (script : ScriptView) (at : ℕ) (s : Step) (r called : RecorderView)
    (first second first_after second_after : Option TaskView) → IsNext script at s r first second
    → IsCalled r s.body first second called first_after second_after
    → AreValuesAfter script (at + 1) second_after
left_second script at s r called first second first_after second_after next made =
    after second_after (sym made.second_is)
  where
    accepted : refused_at script at ≡ None
    accepted = step_accepted script at s r called first second first_after second_after next made

    apart : (task a : ℕ) → object s.body ≡ Some task → subject s.body ≡ Some a → a ≢ task
    apart task a named first =
        named_apart s.body a task (step_rules script.steps at s next.rules next.there).apart first named

    after : (o : Option TaskView) → second_left s.body first second ≡ o → AreValuesAfter script (at + 1) o
    after None left = tt
    after (Some t) left =
        let named = second_id s.body first second t next.given.second_is left in
        ap (λ (p : Progress). p.values t.id) (accepted_next script at s next.there accepted)
        ∙ value_second (progress_to script at).values s t.id
        (not_first (subject s.body) t.id (λ a first. apart t.id a named first)) named
        ∙ ap (λ o. second_left s.body o (value (progress_to script at).values (second_given s.body)))
        (sym next.first_is)
        ∙ ap (second_left s.body first) (sym next.second_is) ∙ left
