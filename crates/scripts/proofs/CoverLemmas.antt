-- A task that a thread runs, or ran when a root began there, began its last turn on this thread.
use Rattle.std.proofs.Common.{ℕ, zero, suc, ◌≡◌, ◌≢◌, ◌∙◌, ◌+◌, ◌<◌, ◌≤◌, List, [], ◌∷◌, length, refl, Bool}
use Rattle.std.proofs.Common.{true, false, Option, Some, None, sym, ap, subst, arith, inl, inr, cond, drop}
use Rattle.std.proofs.Common.{get_or, ◌⊎◌}
use Rattle.std.specs.Prelude.{◌&&◌, ◌||◌, Contains, slice_get, is_some, is_none}
use Rattle.std.specs.Option.{option_map_or}
use Rattle.std.proofs.lemmas.Bool.{cases_Bool, cases_eq, or_cases, or_right, and_parts, false≢true}
use Rattle.std.proofs.lemmas.Option.{none-some, same_Some, slice_get_within}
use Rattle.ompt_events.specs.declared.records.Record.{Record}
use Rattle.ompt_events.specs.declared.records.Body.{Body}
use Rattle.ompt_events.specs.declared.records.Body.TheVariants.{ThreadBegin, ThreadEnd, ParallelBegin}
use Rattle.ompt_events.specs.declared.records.Body.TheVariants.{ParallelEnd, ImplicitTask, TaskCreate}
use Rattle.ompt_events.specs.declared.records.Body.TheVariants.{Dependences, TaskSchedule, SyncRegion, Cancel}
use Rattle.ompt_events.specs.declared.names.Endpoint.TheVariants.{Begin, End, BeginEnd}
use Rattle.ompt_events.specs.declared.names.Status.{Status}
use Rattle.ompt_events.specs.declared.names.Status.TheVariants as status
use Rattle.ompt_events.specs.declared.state.State.{State}
use Rattle.ompt_events.specs.declared.state.State.TheVariants.{Created, Running, Suspended, EarlyRunning}
use Rattle.ompt_events.specs.declared.state.State.TheVariants.{EarlyWaiting, Detached, Done}
use Rattle.ompt_events.specs.Flags as flag
use Rattle.ompt_events.specs.Flags.{has_flag}
use Rattle.ompt_events.specs.Names.{demands_next}
use Rattle.ompt_events.specs.Records.{named, made, begun_root, ended_root, creation, started, stopped}
use Rattle.ompt_events.specs.Records.{running, schedule}
use Rattle.ompt_events.specs.States as states
use Rattle.ompt_events.specs.States.{is_task, next_state_of, start_state_of}
use Rattle.ompt_events.specs.Threads.{Walk, after_body, uncovered}
use Rattle.ompt_events.proofs.ListLemmas.{get_within}
use Rattle.ompt_events.proofs.PlaceLemmas.{is_the_task, the_task}
use Rattle.scripts.specs.declared.script.Step.{Step}
use Rattle.scripts.specs.Scripts.{ScriptView}
use Rattle.callbacks.specs.declared.task.Origin.{Origin}
use Rattle.callbacks.specs.declared.task.TeamPlace.{TeamPlace}
use Rattle.callbacks.specs.declared.task.Origin.TheVariants.{Root, Explicit}
use Rattle.callbacks.specs.Recorders.{RecorderView}
use Rattle.callbacks.specs.Standing.{Standing, standing_of, innermost}
use Rattle.callbacks.specs.Tasks.{TaskView, parent_of, place_of, is_running, is_root_on, after_stop}
use Rattle.callbacks.specs.Tasks.{after_start, nature, in_state, started_in, state_moved, turn_begun_next}
use Rattle.callbacks.specs.Schedules.{may_start, discard_body}
use Rattle.callbacks.proofs.LogLemmas.{standing-pushed}
use Rattle.scripts.specs.RunCalls.{first_given, second_given, recorded_body, call_refusal}
use Rattle.scripts.specs.Parts.{id_of}
use Rattle.scripts.specs.Progress.{own_records, value}
use Rattle.scripts.proofs.CalledLemmas.{first_is_named}
use Rattle.scripts.proofs.HandOverLemmas.{made_first, second_is_named}
use Rattle.scripts.proofs.ProgressLemmas.{own_next, own_other, record_by}
use Rattle.scripts.proofs.AcceptedLemmas.{scheduled_by, runs_current}
use Rattle.scripts.proofs.ValueSteps.{left_stopped, IsWhole, values_at, first_at, second_at, recorder_at}
use Rattle.scripts.proofs.ValueSteps.{step_accepts, second_has, first_id_is, second_id_is, comes, Comes}
use Rattle.scripts.proofs.ValueSteps.{kept, began, created, changed, resumed, Leaves, leaves, left_same}
use Rattle.scripts.proofs.ValueSteps.{left_child, left_opened, left_closed}
use Rattle.scripts.proofs.HomeLemmas.{home, begins_turn, begins, begins_none, unnamed_begins_none, home_made}
use Rattle.scripts.proofs.HomeLemmas.{given_begins_none, created_begins_none, created_made, root_subject}
use Rattle.scripts.proofs.HomeLemmas.{starting}

-- ---- the walk of a thread, step by step

abbrev pub walk_at : ScriptView → ℕ → ℕ → Walk
walk_at script n thread = (standing_of (own_records script n thread)).walk

-- the task that runs, and those that ran where the open roots began
abbrev pub cover : Walk → List (Option ℕ)
cover w = w.current ∷ w.outer

-- a record changes the walk as its call does
after_recorded : (nests : Bool) (w : Walk) (body : Body) (first second : Option TaskView)
    → id_of first ≡ first_given body → id_of second ≡ second_given body
    → after_body nests w (recorded_body body first second) ≡ after_body nests w body
after_recorded nests w (TaskSchedule st turns prior next claimed) None second one two =
    absurd (none-some prior one)
after_recorded nests w (TaskSchedule st turns prior next claimed) (Some t) second one two =
    ap
    (λ n. cond (demands_next st) (record { roots = w.roots; outer = w.outer; current = n }) w) two
after_recorded nests w (ImplicitTask Begin actual index given parallel own) first second one two = refl
after_recorded nests w (ImplicitTask End actual index given parallel own) (Some t) second one two = refl
after_recorded nests w (ImplicitTask End actual index given parallel own) None second one two = refl
after_recorded nests w (ImplicitTask BeginEnd actual index given parallel own) first second one two = refl
after_recorded nests w (Cancel given own claimed) (Some t) second one two =
    by (has_flag given.0 flag.discarded_task)
  where
    by : (b : Bool)
        → after_body nests w (cond b (discard_body t given (Some t.claim)) (Cancel given own None)) ≡ w
    by true = refl
    by false = refl
after_recorded nests w (Cancel given own claimed) None second one two = refl
after_recorded nests w (ThreadBegin kind) first second one two = refl
after_recorded nests w ThreadEnd first second one two = refl
after_recorded nests w (ParallelBegin requested own parallel) first second one two = refl
after_recorded nests w (ParallelEnd own parallel) first second one two = refl
after_recorded nests w (TaskCreate deps given own other) first second one two = refl
after_recorded nests w (Dependences own list) first second one two = refl
after_recorded nests w (SyncRegion kind endpoint parallel own) first second one two = refl

pub walk_next : (script : ScriptView) (n : ℕ) (s : Step) → IsWhole script → slice_get script.steps n ≡ Some s
    → walk_at script (suc n) s.thread ≡ after_body script.nests (walk_at script n s.thread) s.body
walk_next script n s whole is =
    let own = own_records script n s.thread in
    let r = record_by s.body s.thread script.nests own (first_at script n s) (second_at script n s) in
    let one : suc n ≡ n + 1 = omega arith in
    ap (λ k. walk_at script k s.thread) one
    ∙ ap (λ (l : List Record). (standing_of l).walk) (own_next script n s is (whole.accepted n))
    ∙ ap (λ (x : Standing). x.walk) (standing-pushed own r)
    ∙ after_recorded script.nests (walk_at script n s.thread) s.body (first_at script n s)
    (second_at script n s) (first_id_is script n s whole is) (second_id_is script n s whole is)

pub walk_other : (script : ScriptView) (n thread : ℕ) (s : Step) → slice_get script.steps n ≡ Some s
    → s.thread ≢ thread → walk_at script (suc n) thread ≡ walk_at script n thread
walk_other script n thread s is apart =
    let one : suc n ≡ n + 1 = omega arith in
    ap (λ k. walk_at script k thread) one
    ∙ ap (λ (l : List Record). (standing_of l).walk) (own_other script n s thread is apart)

-- how a call changes the walk
pub data WalkStep (nests : Bool) (body : Body) (w after : Walk) : Type 0 where
  begins_root : (root : ℕ) → begun_root body ≡ Some root → stopped body ≡ None
      → after ≡ record { roots = root ∷ w.roots; outer = w.current ∷ w.outer; current = Some root }
      → WalkStep nests body w after
  ends_root : (root : ℕ) → ended_root body ≡ Some root → stopped body ≡ None
      → after ≡ record { roots = drop 1 w.roots; outer = drop 1 w.outer; current = uncovered nests w }
      → WalkStep nests body w after
  goes_on : (prior next : ℕ) → stopped body ≡ Some prior → started body ≡ Some next
      → after ≡ record { roots = w.roots; outer = w.outer; current = Some next }
      → WalkStep nests body w after
  stays : stopped body ≡ None → after ≡ w → WalkStep nests body w after

walk_step_by : (nests : Bool) (r : RecorderView) (body : Body) (first second : Option TaskView) (w : Walk)
    → call_refusal r body first second ≡ None → id_of first ≡ first_given body
    → id_of second ≡ second_given body → WalkStep nests body w (after_body nests w body)
walk_step_by nests r (ImplicitTask Begin actual index given parallel own) first second w accepted one two =
    begins_root own refl refl refl
walk_step_by nests r (ImplicitTask End actual index given parallel own) first second w accepted one two =
    ends_root own refl refl refl
walk_step_by nests r (ImplicitTask BeginEnd actual index given parallel own) first second w accepted one two =
    stays refl refl
walk_step_by nests r (TaskSchedule st turns prior next claimed) None second w accepted one two =
    absurd (none-some prior one)
walk_step_by nests r (TaskSchedule st turns prior next claimed) (Some t) second w accepted one two =
    by (demands_next st) refl second two (scheduled_by r t st second accepted).has_next
  where
    by : (b : Bool) → demands_next st ≡ b → (o : Option TaskView) → id_of o ≡ next
        → cond (demands_next st) (is_some o) (is_none o) ≡ true
        → WalkStep nests (TaskSchedule st turns prior next claimed) w
        (cond (demands_next st) (record { roots = w.roots; outer = w.outer; current = next }) w)
    by true demands None id has =
        absurd (false≢true (sym (ap (λ b. cond b false true) demands) ∙ has))
    by true demands (Some u) id has =
        goes_on prior u.id (ap (λ b. cond b (Some prior) None) demands) (sym id)
        (ap (λ b. cond b (record { roots = w.roots; outer = w.outer; current = next }) w) demands
        ∙ ap (λ n. record { roots = w.roots; outer = w.outer; current = n }) (sym id))
    by false demands o id has =
        stays (ap (λ b. cond b (Some prior) None) demands)
        (ap (λ b. cond b (record { roots = w.roots; outer = w.outer; current = next }) w) demands)
walk_step_by nests r (Cancel given own claimed) first second w accepted one two = stays refl refl
walk_step_by nests r (ThreadBegin kind) first second w accepted one two = stays refl refl
walk_step_by nests r ThreadEnd first second w accepted one two = stays refl refl
walk_step_by nests r (ParallelBegin requested own parallel) first second w accepted one two = stays refl refl
walk_step_by nests r (ParallelEnd own parallel) first second w accepted one two = stays refl refl
walk_step_by nests r (TaskCreate deps given own other) first second w accepted one two = stays refl refl
walk_step_by nests r (Dependences own list) first second w accepted one two = stays refl refl
walk_step_by nests r (SyncRegion kind endpoint parallel own) first second w accepted one two =
    stays refl refl

pub walk_step : (script : ScriptView) (n : ℕ) (s : Step) → IsWhole script → slice_get script.steps n ≡ Some s
    → WalkStep script.nests s.body (walk_at script n s.thread) (walk_at script (suc n) s.thread)
walk_step script n s whole is =
    subst (WalkStep script.nests s.body (walk_at script n s.thread)) (sym (walk_next script n s whole is))
    (walk_step_by script.nests (recorder_at script n s.thread) s.body (first_at script n s)
    (second_at script n s) (walk_at script n s.thread) (step_accepts script n s whole is)
    (first_id_is script n s whole is) (second_id_is script n s whole is))

-- ---- who made a task

-- a step begins the root, or creates the task
abbrev pub IsRootStep : List Step → ℕ → Type 0
IsRootStep steps task = (k : ℕ) × (s : Step) × (slice_get steps k ≡ Some s) × (begun_root s.body ≡ Some task)

abbrev pub IsCreatedStep : List Step → ℕ → ℕ → Type 0
IsCreatedStep steps parent task =
    (k : ℕ) × (s : Step) × (slice_get steps k ≡ Some s) × (creation s.body ≡ Some (parent, task))

made_is_named : (task : ℕ) (body : Body) → made body ≡ Some task → Contains (named body) task
made_is_named task (ImplicitTask Begin actual index given parallel own) is =
    first_is_named (ImplicitTask Begin actual index given parallel own) task is
made_is_named task (TaskCreate deps given own other) is =
    second_is_named (TaskCreate deps given own other) task is
made_is_named task _ is = absurd (none-some task is)

-- two steps that make a task are one
pub made_one : (script : ScriptView) (task k n : ℕ) (s t : Step) → IsWhole script
    → slice_get script.steps k ≡ Some s → made s.body ≡ Some task → slice_get script.steps n ≡ Some t
    → made t.body ≡ Some task → k ≡ n
made_one script task k n s t whole at_k makes at_n also =
    let low =
    made_first script.steps task k n s t whole.rules at_k makes at_n (made_is_named task t.body also) in
    let high =
    made_first script.steps task n k t s whole.rules at_n also at_k (made_is_named task s.body makes) in
    omega (arith, low, high)

pub not_both : (script : ScriptView) (parent task : ℕ) → IsWhole script → IsRootStep script.steps task
    → IsCreatedStep script.steps parent task → ⊥
not_both script parent task whole (k, s, at_k, begins_it) (n, t, at_n, creates) =
    let one =
    made_one script task k n s t whole at_k (root_subject s.body task begins_it).1 at_n
    (created_made t.body parent task creates).0 in
    let step : s ≡ t = same_Some s t (sym at_k ∙ ap (slice_get script.steps) one ∙ at_n) in
    none-some task (sym (created_made t.body parent task creates).2 ∙ ap (λ (x : Step). begun_root x.body)
    (sym step) ∙ begins_it)

-- as its value says
abbrev pub IsMadeAs : ScriptView → ℕ → Origin → Type 0
IsMadeAs script task (Root place) = IsRootStep script.steps task
IsMadeAs script task (Explicit parent) = IsCreatedStep script.steps parent task

stop_origin : (t : TaskView) (st : Status) → (after_stop t st).origin ≡ t.origin
stop_origin t st = by (state_moved t (states.Stopped st))
  where
    by : (o : Option State) → (option_map_or (in_state t) o t).origin ≡ t.origin
    by None = refl
    by (Some state) = refl

pub leaves_origin : (task : ℕ) (body : Body) (v w : TaskView) → Leaves task body v w → w.origin ≡ v.origin
leaves_origin task body v w (left_same is none stay) = ap (λ (t : TaskView). t.origin) is
leaves_origin task body v w (left_child other is makes stay) = ap (λ (t : TaskView). t.origin) is
leaves_origin task body v w (left_stopped st next is says none stay) =
    ap (λ (t : TaskView). t.origin) is ∙ stop_origin v st
leaves_origin task body v w (left_opened kind is says none) = ap (λ (t : TaskView). t.origin) is
leaves_origin task body v w (left_closed kind is says none) = ap (λ (t : TaskView). t.origin) is

pub start_origin : (t : TaskView) → (after_start t).origin ≡ t.origin
start_origin t = by (state_moved t states.Started) (turn_begun_next t)
  where
    by : (o : Option State) (turn : Option ℕ) → (started_in t o turn).origin ≡ t.origin
    by None turn = refl
    by (Some state) None = refl
    by (Some state) (Some turn) = refl

pub made_as : (script : ScriptView) (n task : ℕ) (v : TaskView) → IsWhole script → n ≤ length script.steps
    → values_at script n task ≡ Some v → IsMadeAs script task v.origin
made_as script zero task v whole within has = absurd (none-some v has)
made_as script (suc n) task w whole within has =
    let (s, is) = get_within script.steps n (omega (arith, within)) in
    by s is (comes script n s task w whole is has)
    (λ v was. made_as script n task v whole (omega (arith, within)) was)
  where
    by : (s : Step) → slice_get script.steps n ≡ Some s → Comes (values_at script n) s.thread s.body task w
        → ((v : TaskView) → values_at script n task ≡ Some v → IsMadeAs script task v.origin)
        → IsMadeAs script task w.origin
    by s is (kept unnamed was) before = before w was
    by s is (began place given of begins_it root) before =
        subst (λ (t : TaskView). IsMadeAs script task t.origin) (sym root) (n, s, is, begins_it)
    by s is (created parent u given flagged makes was id new) before =
        subst (λ (t : TaskView). IsMadeAs script task t.origin) (sym new)
        (n, s, is, makes ∙ ap (λ p. Some (p, task)) (sym id))
    by s is (changed v was id names given leaves_it) before =
        subst (IsMadeAs script task)
        (sym (leaves_origin task s.body v w (leaves s.thread s.body task v w given leaves_it))) (before v was)
    by s is (resumed v was id starts after) before =
        subst (IsMadeAs script task) (sym (ap (λ (t : TaskView). t.origin) after ∙ start_origin v))
        (before v was)

-- an explicit task was created by its parent
pub created_as : (script : ScriptView) (n task parent : ℕ) (v : TaskView) → IsWhole script
    → n ≤ length script.steps → values_at script n task ≡ Some v → parent_of v.origin ≡ Some parent
    → IsCreatedStep script.steps parent task
created_as script n task parent v whole within has explicit =
    by v.origin (made_as script n task v whole within has) explicit
  where
    by : (o : Origin) → IsMadeAs script task o → parent_of o ≡ Some parent
        → IsCreatedStep script.steps parent task
    by (Root place) is none = absurd (none-some parent none)
    by (Explicit p) is some = subst (λ q. IsCreatedStep script.steps q task) (same_Some p parent some) is

-- ---- its state

-- a task that starts did not run, and runs
pub start_state : (v : TaskView) (after : State) → state_moved v states.Started ≡ Some after
    → (is_running v.state ≡ false) × (is_running after ≡ true)
start_state v after is = by (states.may (nature v) states.Started) v.state is
  where
    of_state : (st : State) → start_state_of st ≡ Some after
        → (is_running st ≡ false) × (is_running after ≡ true)
    of_state Created moves = (refl, ap is_running (sym (same_Some Running after moves)))
    of_state Suspended moves = (refl, ap is_running (sym (same_Some Running after moves)))
    of_state EarlyWaiting moves = (refl, ap is_running (sym (same_Some EarlyRunning after moves)))
    of_state Running moves = absurd (none-some after moves)
    of_state EarlyRunning moves = absurd (none-some after moves)
    of_state Detached moves = absurd (none-some after moves)
    of_state Done moves = absurd (none-some after moves)

    by : (b : Bool) (st : State) → cond b (start_state_of st) None ≡ Some after
        → (is_running st ≡ false) × (is_running after ≡ true)
    by true st moves = of_state st moves
    by false st none = absurd (none-some after none)

-- a task that runs still does after a call by which it does not stop
keeps_running : (v : TaskView) (st : Status) → demands_next st ≡ false → is_running v.state ≡ true
    → is_running (after_stop v st).state ≡ true
keeps_running v st stays_on runs =
    by (states.may (nature v) (states.Stopped st)) (next_is v.state st runs stays_on)
  where
    next_is : (state : State) (s : Status) → is_running state ≡ true → demands_next s ≡ false
        → (o : Option State) × (next_state_of state s ≡ o)
        × ((after : State) → o ≡ Some after → is_running after ≡ true)
    next_is Running status.EarlyFulfill holds fails =
        (Some EarlyRunning, refl, λ after is. ap is_running (sym (same_Some EarlyRunning after is)))
    next_is Running status.LateFulfill holds fails = (None, refl, λ after is. absurd (none-some after is))
    next_is Running status.TaskwaitComplete holds fails =
        (None, refl, λ after is. absurd (none-some after is))
    next_is Running status.Complete holds fails = absurd (false≢true (sym fails))
    next_is Running status.Yield holds fails = absurd (false≢true (sym fails))
    next_is Running status.Cancel holds fails = absurd (false≢true (sym fails))
    next_is Running status.Detach holds fails = absurd (false≢true (sym fails))
    next_is Running status.Switch holds fails = absurd (false≢true (sym fails))
    next_is EarlyRunning status.EarlyFulfill holds fails =
        (None, refl, λ after is. absurd (none-some after is))
    next_is EarlyRunning status.LateFulfill holds fails =
        (None, refl, λ after is. absurd (none-some after is))
    next_is EarlyRunning status.TaskwaitComplete holds fails =
        (None, refl, λ after is. absurd (none-some after is))
    next_is EarlyRunning status.Complete holds fails = absurd (false≢true (sym fails))
    next_is EarlyRunning status.Yield holds fails = absurd (false≢true (sym fails))
    next_is EarlyRunning status.Cancel holds fails = absurd (false≢true (sym fails))
    next_is EarlyRunning status.Detach holds fails = absurd (false≢true (sym fails))
    next_is EarlyRunning status.Switch holds fails = absurd (false≢true (sym fails))
    next_is Created s holds fails = absurd (false≢true holds)
    next_is Suspended s holds fails = absurd (false≢true holds)
    next_is EarlyWaiting s holds fails = absurd (false≢true holds)
    next_is Detached s holds fails = absurd (false≢true holds)
    next_is Done s holds fails = absurd (false≢true holds)

    moved : (o : Option State) → ((after : State) → o ≡ Some after → is_running after ≡ true)
        → is_running (option_map_or (in_state v) o v).state ≡ true
    moved None each = runs
    moved (Some after) each = each after refl

    by : (b : Bool) → (o : Option State) × (next_state_of v.state st ≡ o)
        × ((after : State) → o ≡ Some after → is_running after ≡ true)
        → is_running (option_map_or (in_state v) (cond b (next_state_of v.state st) None) v).state ≡ true
    by true (o, is, each) = moved (next_state_of v.state st) (λ after some. each after (sym is ∙ some))
    by false rest = runs

-- ---- where tasks run

pub record AreInPlace (script : ScriptView) (n : ℕ) : Type 0 where
  pub covered : (thread task j : ℕ) → slice_get (cover (walk_at script n thread)) j ≡ Some (Some task)
      → home script.steps task n ≡ Some thread
  pub open_roots : (thread root k : ℕ) → slice_get (walk_at script n thread).roots k ≡ Some root
      → (home script.steps root n ≡ Some thread) × IsRootStep script.steps root
  pub runs : (thread task j parent : ℕ) (v : TaskView)
      → slice_get (cover (walk_at script n thread)) j ≡ Some (Some task) → values_at script n task ≡ Some v
      → parent_of v.origin ≡ Some parent → is_running v.state ≡ true
  pub alone : (thread task i j parent : ℕ) → IsCreatedStep script.steps parent task
      → slice_get (cover (walk_at script n thread)) i ≡ Some (Some task)
      → slice_get (cover (walk_at script n thread)) j ≡ Some (Some task) → i ≡ j

-- where a task that is covered after a step was before: it begins a turn, or it was covered, at a place that
-- moves by a fixed distance, or it is an open root
data WasCovered (script : ScriptView) (n : ℕ) (s : Step) (up down thread task j : ℕ) : Type 0 where
  new : j ≡ 0 → s.thread ≡ thread → begins_turn task s.body ≡ true
      → WasCovered script n s up down thread task j
  old : (i : ℕ) → i + up ≡ j + down → slice_get (cover (walk_at script n thread)) i ≡ Some (Some task)
      → ((prior : ℕ) → stopped s.body ≡ Some prior → s.thread ≡ thread → i ≢ 0)
      → WasCovered script n s up down thread task j
  root : (k : ℕ) → j ≡ 0 → slice_get (walk_at script n thread).roots k ≡ Some task
      → WasCovered script n s up down thread task j

get_drop : {X : Type 0} (xs : List X) (k : ℕ) (x : X) → slice_get (drop 1 xs) k ≡ Some x
    → slice_get xs (suc k) ≡ Some x
get_drop [] k x is = absurd (none-some x is)
get_drop (y ∷ xs) k x is = is

-- of the thread of the step
was_covered_own : (script : ScriptView) (n : ℕ) (s : Step) (w after : Walk)
    → w ≡ walk_at script n s.thread → WalkStep script.nests s.body w after
    → (up : ℕ) × (down : ℕ) × ((task j : ℕ) → slice_get (cover after) j ≡ Some (Some task)
    → WasCovered script n s up down s.thread task j)
was_covered_own script n s w after here (stays none is) = (
  0,
  0,
  λ task j has. old j refl
      (ap (λ (x : Walk). slice_get (cover x) j) (sym here ∙ sym is) ∙ has)
      (λ prior stops of. absurd (none-some prior (sym none ∙ stops))),
)
was_covered_own script n s w after here (goes_on prior next stops starts is) = (
  0,
  0,
  λ task j has. by task j (ap (λ (x : Walk). slice_get (cover x) j) (sym is) ∙ has),
)
  where
    by : (task j : ℕ) → slice_get (Some next ∷ w.outer) j ≡ Some (Some task)
        → WasCovered script n s 0 0 s.thread task j
    by task zero has =
        let same_task = same_Some next task (same_Some (Some next) (Some task) has) in
        new refl refl
        (ap (λ b. b || is_task task (begun_root s.body))
        (the_task task (started s.body) (starts ∙ ap Some same_task)))
    by task (suc j) has =
        old (suc j) refl (ap (λ (x : Walk). slice_get (cover x) (suc j)) (sym here) ∙ has)
        (λ p stop of zero_is. absurd (omega (arith, zero_is)))
was_covered_own script n s w after here (begins_root r begins_it none is) = (
  1,
  0,
  λ task j has. by task j (ap (λ (x : Walk). slice_get (cover x) j) (sym is) ∙ has),
)
  where
    by : (task j : ℕ) → slice_get (Some r ∷ (w.current ∷ w.outer)) j ≡ Some (Some task)
        → WasCovered script n s 1 0 s.thread task j
    by task zero has =
        let same_task = same_Some r task (same_Some (Some r) (Some task) has) in
        new refl refl
        (or_right (is_task task (started s.body)) (is_task task (begun_root s.body))
        (the_task task (begun_root s.body) (begins_it ∙ ap Some same_task)))
    by task (suc j) has =
        old j (omega arith) (ap (λ (x : Walk). slice_get (cover x) j) (sym here) ∙ has)
        (λ prior stops of. absurd (none-some prior (sym none ∙ stops)))
was_covered_own script n s w after here (ends_root r ends_it none is) = (
  0,
  1,
  λ task j has. by task j (ap (λ (x : Walk). slice_get (cover x) j) (sym is) ∙ has),
)
  where
    stopped_none : (i prior : ℕ) → stopped s.body ≡ Some prior → s.thread ≡ s.thread → i ≢ 0
    stopped_none i prior stops of zero_is = none-some prior (sym none ∙ stops)

    first : (outer : List (Option ℕ)) (task : ℕ) → get_or outer 0 None ≡ Some task
        → slice_get outer 0 ≡ Some (Some task)
    first [] task has = absurd (none-some task has)
    first (x ∷ xs) task has = ap Some has

    uncovers : (b : Bool) → script.nests ≡ b → (task : ℕ) → uncovered b w ≡ Some task
        → WasCovered script n s 0 1 s.thread task 0
    uncovers true nests task has =
        old 1 refl (ap (λ (x : Walk). slice_get (cover x) 1) (sym here) ∙ first w.outer task has)
        (stopped_none 1)
    uncovers false nests task has = root 1 refl (ap (λ (x : Walk). slice_get x.roots 1) (sym here) ∙ has)

    by : (task j : ℕ) → slice_get (uncovered script.nests w ∷ drop 1 w.outer) j ≡ Some (Some task)
        → WasCovered script n s 0 1 s.thread task j
    by task zero has =
        uncovers script.nests refl task (same_Some (uncovered script.nests w) (Some task) has)
    by task (suc j) has =
        old (suc (suc j)) (omega arith)
        (ap (λ (x : Walk). slice_get (cover x) (suc (suc j))) (sym here) ∙ get_drop w.outer j (Some task) has)
        (stopped_none (suc (suc j)))

-- of any thread
was_covered : (script : ScriptView) (n thread : ℕ) (s : Step) → IsWhole script
    → slice_get script.steps n ≡ Some s
    → (up : ℕ) × (down : ℕ) × ((task j : ℕ)
    → slice_get (cover (walk_at script (suc n) thread)) j ≡ Some (Some task)
    → WasCovered script n s up down thread task j)
was_covered script n thread s whole is = elim (cases_eq s.thread thread) [
  | inl of ↦
      subst (λ t. (up : ℕ) × (down : ℕ) × ((task j : ℕ)
      → slice_get (cover (walk_at script (suc n) t)) j ≡ Some (Some task)
      → WasCovered script n s up down t task j)) of
      (was_covered_own script n s (walk_at script n s.thread) (walk_at script (suc n) s.thread) refl
      (walk_step script n s whole is))
  | inr apart ↦ (
    0,
    0,
    λ task j has. old j refl
        (ap (λ (x : Walk). slice_get (cover x) j) (sym (walk_other script n thread s is apart)) ∙ has)
        (λ prior stops of. absurd (apart of)),
  )
]

-- a root that was open, or begins
was_open : (script : ScriptView) (n thread : ℕ) (s : Step) → IsWhole script
    → slice_get script.steps n ≡ Some s → (r k : ℕ)
    → slice_get (walk_at script (suc n) thread).roots k ≡ Some r
    → ((s.thread ≡ thread) × (begun_root s.body ≡ Some r))
    ⊎ ((i : ℕ) × (slice_get (walk_at script n thread).roots i ≡ Some r))
was_open script n thread s whole is r k has = elim (cases_eq s.thread thread) [
  | inl of ↦
      subst (λ t. slice_get (walk_at script (suc n) t).roots k ≡ Some r
      → ((s.thread ≡ t) × (begun_root s.body ≡ Some r))
      ⊎ ((i : ℕ) × (slice_get (walk_at script n t).roots i ≡ Some r))) of
      (by (walk_at script n s.thread) (walk_at script (suc n) s.thread) k (walk_step script n s whole is))
      has
  | inr apart ↦
      inr (k, ap (λ (x : Walk). slice_get x.roots k) (sym (walk_other script n thread s is apart)) ∙ has)
]
  where
    by : (w after : Walk) (j : ℕ) → WalkStep script.nests s.body w after → slice_get after.roots j ≡ Some r
        → ((s.thread ≡ s.thread) × (begun_root s.body ≡ Some r)) ⊎ ((i : ℕ) × (slice_get w.roots i ≡ Some r))
    by w after j (stays none is_same) here =
        inr (j, ap (λ (x : Walk). slice_get x.roots j) (sym is_same) ∙ here)
    by w after j (goes_on prior next stops starts is_so) here =
        inr (j, ap (λ (x : Walk). slice_get x.roots j) (sym is_so) ∙ here)
    by w after zero (begins_root x begins_it none is_so) here =
        let first = same_Some x r (ap (λ (y : Walk). slice_get y.roots 0) (sym is_so) ∙ here) in
        inl (refl, begins_it ∙ ap Some first)
    by w after (suc j) (begins_root x begins_it none is_so) here =
        inr (j, ap (λ (y : Walk). slice_get y.roots (suc j)) (sym is_so) ∙ here)
    by w after j (ends_root x ends_it none is_so) here =
        inr (suc j, get_drop w.roots j r (ap (λ (y : Walk). slice_get y.roots j) (sym is_so) ∙ here))

-- what a schedule says
pub stopped_of : (body : Body) (st : Status) (task : ℕ) (next : Option ℕ)
    → schedule body ≡ Some (st, task, next)
    → demands_next st ≡ true → stopped body ≡ Some task
stopped_of (TaskSchedule st2 turns prior next2 claimed) st task next says holds =
    let both = same_Some (st2, prior, next2) (st, task, next) says in
    ap (λ b. cond b (Some prior) None) (ap (λ (p : Status × ℕ × Option ℕ). demands_next p.0) both ∙ holds)
    ∙ ap (λ (p : Status × ℕ × Option ℕ). Some p.1) both
stopped_of _ st task next says holds = absurd (none-some (st, task, next) says)

pub running_of : (body : Body) (task : ℕ) → stopped body ≡ Some task → running body ≡ Some task
running_of (TaskSchedule st turns prior next claimed) task is = is
running_of _ task is = absurd (none-some task is)

pub second_given_of : (body : Body) (task : ℕ) → started body ≡ Some task → second_given body ≡ Some task
second_given_of (TaskSchedule st turns prior next claimed) task is = is
second_given_of _ task is = absurd (none-some task is)

-- a root that starts is the innermost one of its thread
pub starts_as_root : (script : ScriptView) (n : ℕ) (s : Step) (task : ℕ) (v : TaskView) → IsWhole script
    → slice_get script.steps n ≡ Some s → started s.body ≡ Some task → values_at script n task ≡ Some v
    → (place : TeamPlace) → v.origin ≡ Root place
    → slice_get (walk_at script n s.thread).roots 0 ≡ Some v.id
starts_as_root script n s task v whole is starts was place origin_is =
    by s.body (first_at script n s) (second_at script n s) (step_accepts script n s whole is)
    (first_id_is script n s whole is) starts
    (ap (value (values_at script n)) (second_given_of s.body task starts) ∙ was)
  where
    r : RecorderView
    r = recorder_at script n s.thread

    may : may_start r v ≡ true → slice_get (walk_at script n s.thread).roots 0 ≡ Some v.id
    may holds =
        let at_root = is_root_on r.thread v && is_task v.id (innermost (standing_of r.records)) in
        let either =
        (and_parts (is_some (state_moved v states.Started)) (is_none (place_of v.origin) || at_root)
        holds).1 in
        elim (or_cases (is_none (place_of v.origin)) at_root either) [
          | inl none ↦ absurd (false≢true (sym (ap (λ o. is_none (place_of o)) origin_is) ∙ none))
          | inr root_there ↦
              is_the_task v.id (innermost (standing_of r.records))
              (and_parts (is_root_on r.thread v) (is_task v.id (innermost (standing_of r.records)))
              root_there).1
        ]

    by : (body : Body) (first second : Option TaskView) → call_refusal r body first second ≡ None
        → id_of first ≡ first_given body → started body ≡ Some task → second ≡ Some v
        → slice_get (walk_at script n s.thread).roots 0 ≡ Some v.id
    by (TaskSchedule st turns prior next claimed) None second accepted id goes second_is =
        absurd (none-some prior id)
    by (TaskSchedule st turns prior next claimed) (Some t) second accepted id goes second_is =
        may
        (ap (λ o. option_map_or (may_start r) o true) (sym second_is)
        ∙ (scheduled_by r t st second accepted).starts)
    by _ first second accepted id goes second_is = absurd (none-some task goes)

-- ---- one step more

-- a task that begins a turn was covered on no other thread; an explicit one was covered on none
begins_there : (script : ScriptView) (n thread task : ℕ) (s : Step) → IsWhole script
    → slice_get script.steps n ≡ Some s → AreInPlace script n → begins_turn task s.body ≡ true
    → ((j : ℕ) × (slice_get (cover (walk_at script n thread)) j ≡ Some (Some task)))
    ⊎ ((k : ℕ) × (slice_get (walk_at script n thread).roots k ≡ Some task))
    → (s.thread ≡ thread) × ((parent : ℕ) → IsCreatedStep script.steps parent task → ⊥)
begins_there script n thread task s whole is places holds where_it =
    elim (or_cases (is_task task (started s.body)) (is_task task (begun_root s.body)) holds) [
      | inr here ↦
          let begins_it = is_the_task task (begun_root s.body) here in
          absurd
          (home_made script n s task thread whole is (root_subject s.body task begins_it).1
          (home_is where_it))
      | inl here ↦
          let starts = is_the_task task (started s.body) here in
          let (v, was, id) = second_has script n s whole is task (second_given_of s.body task starts) in
          by v was id starts v.origin refl (made_as script n task v whole within was)
    ]
  where
    within : n ≤ length script.steps
    within = let less = slice_get_within script.steps n s is in omega (arith, less)

    home_is : ((j : ℕ) × (slice_get (cover (walk_at script n thread)) j ≡ Some (Some task)))
        ⊎ ((k : ℕ) × (slice_get (walk_at script n thread).roots k ≡ Some task))
        → home script.steps task n ≡ Some thread
    home_is (inl (j, has)) = places.covered thread task j has
    home_is (inr (k, has)) = (places.open_roots thread task k has).0

    not_running : (v : TaskView) → values_at script n task ≡ Some v → started s.body ≡ Some task
        → is_running v.state ≡ false
    not_running v was starts =
        let go = starting script n s task v whole is starts was in (start_state v go.state go.moves).0

    by : (v : TaskView) → values_at script n task ≡ Some v → v.id ≡ task → started s.body ≡ Some task
        → (o : Origin) → v.origin ≡ o → IsMadeAs script task o
        → (s.thread ≡ thread) × ((parent : ℕ) → IsCreatedStep script.steps parent task → ⊥)
    by v was id starts (Explicit parent) origin_is made_so = elim where_it [
      | inl (j, has) ↦
          absurd
          (false≢true
          (sym (not_running v was starts)
          ∙ places.runs thread task j parent v has was (ap parent_of origin_is)))
      | inr (k, has) ↦ absurd (not_both script parent task whole (places.open_roots thread task k has).1
          made_so)
    ]
    by v was id starts (Root place) origin_is made_so =
        let may = starts_as_root script n s task v whole is starts was place origin_is in
        let there = (places.open_roots s.thread task 0 (may ∙ ap Some id)).0 in (
          same_Some s.thread thread (sym there ∙ home_is where_it),
          λ parent creates. not_both script parent task whole made_so creates,
        )

pub first_place : (script : ScriptView) → AreInPlace script 0
first_place script = record {
  covered = λ thread task j has. absurd (none_covered thread j task has);
  open_roots = λ thread r k has. absurd (none-some r has);
  runs = λ thread task j parent v has. absurd (none_covered thread j task has);
  alone = λ thread task i j parent creates has. absurd (none_covered thread i task has);
}
  where
    none_covered : (thread j task : ℕ) → slice_get (cover (walk_at script 0 thread)) j ≡ Some (Some task) → ⊥
    none_covered thread zero task has = none-some task (same_Some None (Some task) has)
    none_covered thread (suc j) task has = none-some (Some task) has

next_place : (script : ScriptView) (n : ℕ) (s : Step) → IsWhole script → slice_get script.steps n ≡ Some s
    → AreInPlace script n → AreInPlace script (suc n)
next_place script n s whole is places = record {
  covered = λ thread task j has.
      let (up, down, was) = was_covered script n thread s whole is in covers thread task (was task j has);
  open_roots = λ thread r k has. elim (was_open script n thread s whole is r k has) [
    | inl (of, begins_it) ↦ (
      (begins script.steps r n s is
          (or_right (is_task r (started s.body)) (is_task r (begun_root s.body))
          (the_task r (begun_root s.body) begins_it))).0 ∙ ap Some of,
      (n, s, is, begins_it),
    )
    | inr (i, was) ↦
        let before = places.open_roots thread r i was in
        (stays_home thread r before.0 (inr (i, was)), before.1)
  ];
  runs = λ thread task j parent v has now explicit.
      let (up, down, was) = was_covered script n thread s whole is in
      still_runs thread task parent v now explicit (was task j has)
      (comes script n s task v whole is now);
  alone = λ thread task i j parent creates one two.
      let (up, down, was) = was_covered script n thread s whole is in
      at_one thread task parent creates (was task i one) (was task j two);
}
  where
    within : n < length script.steps
    within = slice_get_within script.steps n s is

    -- the home of a task that was covered or open
    stays_home : (thread task : ℕ) → home script.steps task n ≡ Some thread
        → ((j : ℕ) × (slice_get (cover (walk_at script n thread)) j ≡ Some (Some task)))
        ⊎ ((k : ℕ) × (slice_get (walk_at script n thread).roots k ≡ Some task))
        → home script.steps task (suc n) ≡ Some thread
    stays_home thread task was where_it = elim (cases_Bool (begins_turn task s.body)) [
      | inl holds ↦
          (begins script.steps task n s is holds).0
          ∙ ap Some (begins_there script n thread task s whole is places holds where_it).0
      | inr fails ↦ (begins_none script.steps task n s is fails).0 ∙ was
    ]

    covers : {up down j : ℕ} (thread task : ℕ) → WasCovered script n s up down thread task j
        → home script.steps task (suc n) ≡ Some thread
    covers thread task (new first of holds) = (begins script.steps task n s is holds).0 ∙ ap Some of
    covers thread task (old i moved was other) =
        stays_home thread task (places.covered thread task i was) (inl (i, was))
    covers thread task (root k first was) =
        stays_home thread task (places.open_roots thread task k was).0 (inr (k, was))

    created_so : (task parent : ℕ) (v : TaskView) → values_at script (suc n) task ≡ Some v
        → parent_of v.origin ≡ Some parent → IsCreatedStep script.steps parent task
    created_so task parent v now explicit =
        created_as script (suc n) task parent v whole (omega (arith, within)) now explicit

    -- the state of an explicit task that is covered
    still_runs : {up down j : ℕ} (thread task parent : ℕ) (v : TaskView)
        → values_at script (suc n) task ≡ Some v
        → parent_of v.origin ≡ Some parent → WasCovered script n s up down thread task j
        → Comes (values_at script n) s.thread s.body task v → is_running v.state ≡ true
    still_runs thread task parent v now explicit (new first of holds) (kept unnamed was) =
        absurd (false≢true (sym (unnamed_begins_none s.body task unnamed) ∙ holds))
    still_runs thread task parent v now explicit (new first of holds)
        (began place given at_home begins_it is_root) =
        absurd (none-some parent (sym (ap (λ (t : TaskView). parent_of t.origin) is_root) ∙ explicit))
    still_runs thread task parent v now explicit (new first of holds)
        (created p u given flagged makes was id is_new) =
        absurd (false≢true (sym (created_begins_none s.body p task makes) ∙ holds))
    still_runs thread task parent v now explicit (new first of holds)
        (changed u was id names given leaves_it) =
        absurd (false≢true (sym (given_begins_none script n s task whole is names given) ∙ holds))
    still_runs thread task parent v now explicit (new first of holds) (resumed u was id starts after) =
        runs_after u v starts was after
      where
        runs_after : (u v : TaskView) → started s.body ≡ Some task → values_at script n task ≡ Some u
            → v ≡ after_start u → is_running v.state ≡ true
        runs_after u v starts was after =
            let go = starting script n s task u whole is starts was in
            ap (λ (t : TaskView). is_running t.state) after
            ∙ ap (λ (o : Option State). is_running (started_in u o (turn_begun_next u)).state) go.moves
            ∙ ap (λ (o : Option ℕ). is_running (started_in u (Some go.state) o).state) go.begins_it
            ∙ (start_state u go.state go.moves).1
    still_runs thread task parent v now explicit (root k first was) come =
        absurd
        (not_both script parent task whole (places.open_roots thread task k was).1
        (created_so task parent v now explicit))
    still_runs thread task parent v now explicit (old i moved was other) (kept unnamed had) =
        places.runs thread task i parent v was had explicit
    still_runs thread task parent v now explicit (old i moved was other)
        (began place given at_home begins_it is_root) =
        absurd (none-some parent (sym (ap (λ (t : TaskView). parent_of t.origin) is_root) ∙ explicit))
    still_runs thread task parent v now explicit (old i moved was other)
        (created p u given flagged makes had id is_new) =
        absurd
        (home_made script n s task thread whole is (created_made s.body p task makes).0
        (places.covered thread task i was))
    still_runs thread task parent v now explicit (old i moved was other) (resumed u had id starts after) =
        absurd
        ((begins_there script n thread task s whole is places
        (ap (λ b. b || is_task task (begun_root s.body)) (the_task task (started s.body) starts))
        (inl (i, was))).1 parent (created_so task parent v now explicit))
    still_runs thread task parent v now explicit (old i moved was other)
        (changed u had id names given leaves_it) =
        let left_it = leaves s.thread s.body task u v given leaves_it in
        let ran =
        places.runs thread task i parent u was had
        (ap parent_of (sym (leaves_origin task s.body u v left_it)) ∙ explicit) in
        by left_it ran
      where
        by : Leaves task s.body u v → is_running u.state ≡ true → is_running v.state ≡ true
        by (left_same is_same none stay) ran = ap (λ (t : TaskView). is_running t.state) is_same ∙ ran
        by (left_child another is_so makes stay) ran = ap (λ (t : TaskView). is_running t.state) is_so ∙ ran
        by (left_opened kind is_so says none) ran = ap (λ (t : TaskView). is_running t.state) is_so ∙ ran
        by (left_closed kind is_so says none) ran = ap (λ (t : TaskView). is_running t.state) is_so ∙ ran
        by (left_stopped st next is_so says none stay) ran = elim (cases_Bool (demands_next st)) [
          | inr fails ↦
              ap (λ (t : TaskView). is_running t.state) is_so ∙ keeps_running u st fails ran
          | inl holds ↦
              let stops = stopped_of s.body st task next says holds in
              let current =
              runs_current (recorder_at script n s.thread) s.body (first_at script n s)
              (second_at script n s) task (step_accepts script n s whole is) (first_id_is script n s whole is)
              (running_of s.body task stops) in
              let of = same_Some s.thread thread
              (sym (places.covered s.thread task 0 (ap Some current)) ∙ places.covered thread task i was) in
              let first : i ≡ 0 =
              places.alone thread task i 0 parent (created_so task parent v now explicit) was
              (subst (λ t. slice_get (cover (walk_at script n t)) 0 ≡ Some (Some task)) of
              (ap Some current)) in
              absurd (other task stops of first)
        ]

    at_one : {up down i j : ℕ} (thread task parent : ℕ) → IsCreatedStep script.steps parent task
        → WasCovered script n s up down thread task i → WasCovered script n s up down thread task j → i ≡ j
    at_one thread task parent creates (new first of holds) (new second too also) = first ∙ sym second
    at_one thread task parent creates (new first of holds) (old k moved was other) =
        absurd ((begins_there script n thread task s whole is places holds (inl (k, was))).1 parent creates)
    at_one thread task parent creates (old k moved was other) (new first of holds) =
        absurd ((begins_there script n thread task s whole is places holds (inl (k, was))).1 parent creates)
    at_one thread task parent creates (old k moved was other) (old l moves had another) =
        let one = places.alone thread task k l parent creates was had in omega (arith, one, moved, moves)
    at_one thread task parent creates (root k first was) two =
        absurd (not_both script parent task whole (places.open_roots thread task k was).1 creates)
    at_one thread task parent creates one (root k first was) =
        absurd (not_both script parent task whole (places.open_roots thread task k was).1 creates)

pub all_in_place : (script : ScriptView) (n : ℕ) → IsWhole script → n ≤ length script.steps
    → AreInPlace script n
all_in_place script zero whole within = first_place script
all_in_place script (suc n) whole within =
    let (s, is) = get_within script.steps n (omega (arith, within)) in
    next_place script n s whole is (all_in_place script n whole (omega (arith, within)))

-- ---- what follows

-- a step is made on the home of the task that it runs
pub at_home : (script : ScriptView) (n : ℕ) (s : Step) (task : ℕ) → IsWhole script
    → slice_get script.steps n ≡ Some s → running s.body ≡ Some task
    → home script.steps task n ≡ Some s.thread
at_home script n s task whole is runs =
    let within = slice_get_within script.steps n s is in
    let current =
    runs_current (recorder_at script n s.thread) s.body (first_at script n s) (second_at script n s) task
    (step_accepts script n s whole is) (first_id_is script n s whole is) runs in
    (all_in_place script n whole (omega (arith, within))).covered s.thread task 0 (ap Some current)
