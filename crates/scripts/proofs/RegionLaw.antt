-- Regions end in order in a run.
use Rattle.std.proofs.Common.{ℕ, zero, suc, ◌≡◌, ◌∙◌, ◌+◌, ◌-◌, ◌<◌, ◌≤◌, List, [], ◌∷◌, ◌++◌, length, take}
use Rattle.std.proofs.Common.{drop, Bool, true, false, Option, Some, None, refl, sym, ap, subst, arith, inl}
use Rattle.std.proofs.Common.{inr, cond}
use Rattle.std.specs.Prelude.{◌==◌, ◌&&◌, not, slice_get, option_map, option_and_then, fold, is_some}
use Rattle.std.specs.Option.{option_map_or}
use Rattle.std.proofs.lemmas.Bool.{cases_Bool, and_parts, or_left, false≢true}
use Rattle.std.proofs.lemmas.List.{append-nil, length_push, take-append-le, take_all}
use Rattle.std.proofs.lemmas.List.Sums.{fold_push}
use Rattle.std.proofs.lemmas.Option.{none-some, same_Some, slice_get_within}
use Rattle.ompt_events.specs.declared.records.Record.{Record}
use Rattle.ompt_events.specs.declared.records.Body.{Body}
use Rattle.ompt_events.specs.declared.records.Body.TheVariants.{ImplicitTask, TaskCreate, TaskSchedule}
use Rattle.ompt_events.specs.declared.records.Body.TheVariants.{SyncRegion, Cancel, ParallelBegin}
use Rattle.ompt_events.specs.declared.records.Body.TheVariants.{ParallelEnd}
use Rattle.ompt_events.specs.declared.names.Endpoint.{Endpoint}
use Rattle.ompt_events.specs.declared.names.Endpoint.TheVariants.{Begin, End, BeginEnd}
use Rattle.ompt_events.specs.declared.names.SyncKind.{SyncKind}
use Rattle.ompt_events.specs.declared.names.SyncKind.TheVariants.{Barrier, BarrierImplicit, BarrierExplicit}
use Rattle.ompt_events.specs.declared.names.SyncKind.TheVariants.{BarrierImplementation, Taskwait, Taskgroup}
use Rattle.ompt_events.specs.declared.names.SyncKind.TheVariants.{Reduction, BarrierImplicitWorkshare}
use Rattle.ompt_events.specs.declared.names.SyncKind.TheVariants.{BarrierImplicitParallel, BarrierTeams}
use Rattle.ompt_events.specs.declared.cause.Cause.TheVariants.{RegionOrder}
use Rattle.ompt_events.specs.contracts.names.SyncKindPartialEq.TheImpl as kinds
use Rattle.ompt_events.specs.Causes.{HasCause, ShowsNowhere, region_order, barrier_order}
use Rattle.ompt_events.specs.Flags as flag
use Rattle.ompt_events.specs.Flags.{has_flag}
use Rattle.ompt_events.specs.Names.{demands_next}
use Rattle.ompt_events.specs.Places.{at, is_own, own_before}
use Rattle.ompt_events.specs.Records.{running, region, created, creation, started, begun_root, made}
use Rattle.ompt_events.specs.Regions.{after_region, open_regions, kind_at, is_called_barrier}
use Rattle.ompt_events.specs.Regions.{EndsRegion, EndsNoRegion}
use Rattle.ompt_events.specs.States.{is_task}
use Rattle.ompt_events.specs.States as states
use Rattle.ompt_events.specs.declared.state.State.{State}
use Rattle.ompt_events.specs.declared.names.Status.{Status}
use Rattle.ompt_events.specs.Tree.{IsExplicit}
use Rattle.ompt_events.specs.Turns.{own_place}
use Rattle.ompt_events.proofs.ListLemmas.{get_within, get_last}
use Rattle.ompt_events.proofs.PlaceLemmas.{at_get, at_within, own_more, is_the_task, the_task}
use Rattle.packed_trace.specs.Named.{subject, object}
use Rattle.task_tree.proofs.RenamedCauseLemmas.{moved_order}
use Rattle.scripts.specs.declared.script.Step.{Step}
use Rattle.scripts.specs.Scripts.{ScriptView}
use Rattle.callbacks.specs.declared.task.Origin.{Origin}
use Rattle.callbacks.specs.declared.task.Origin.TheVariants.{Root, Explicit}
use Rattle.callbacks.specs.Tasks.{TaskView, parent_of, is_barred, is_innermost_region, without_region}
use Rattle.callbacks.specs.Tasks.{after_stop, after_start, in_state, started_in, state_moved, turn_begun_next}
use Rattle.callbacks.specs.Recorders.{RecorderView}
use Rattle.scripts.specs.RunCalls.{names_it, first_given, call_refusal}
use Rattle.scripts.specs.Parts.{id_of}
use Rattle.scripts.specs.Progress.{value}
use Rattle.scripts.proofs.HandOverLemmas.{AreRecords}
use Rattle.scripts.proofs.AcceptedLemmas.{allowed_by}
use Rattle.scripts.proofs.CoverLemmas.{IsCreatedStep, IsMadeAs, made_as, not_both}
use Rattle.scripts.proofs.HomeLemmas.{created_made, root_subject}
use Rattle.scripts.proofs.OrderedLemmas.{scripted_get, scripted_length, record_at, whole_script}
use Rattle.scripts.proofs.OrderedLemmas.{own_reordered}
use Rattle.scripts.proofs.SaidLemmas.{IsOfCall, said_by_call, running_called, region_called, creation_called}
use Rattle.scripts.proofs.ValueSteps.{left_stopped, IsWhole, values_at, first_at, second_at, recorder_at}
use Rattle.scripts.proofs.ValueSteps.{step_accepts, first_has, first_id_is, second_id_is, two_apart}
use Rattle.scripts.proofs.ValueSteps.{unnamed_before, comes, Comes, kept, began, changed, resumed, Leaves}
use Rattle.scripts.proofs.ValueSteps.{leaves, left_same, left_child, left_opened, left_closed}
use Rattle.scripts.proofs.ValueSteps as value_steps

-- ---- what a step says, in the order of the script

pub step_says : {X : Type 0} (f : Body → Option X) (script : ScriptView) (n : ℕ) (s : Step) → IsWhole script
    → IsOfCall f → slice_get script.steps n ≡ Some s → at f (whole_script script) n ≡ f s.body
step_says f script n s whole of is =
    let within = slice_get_within script.steps n s is in
    at_get f (whole_script script) n (record_at script n s)
    (scripted_get script (length script.steps) n s whole is within (omega arith))
    ∙ said_by_call f s.body (first_at script n s) (second_at script n s) of (first_id_is script n s whole is)
    (second_id_is script n s whole is)

-- whether a step runs the task
pub step_runs : (script : ScriptView) (n task : ℕ) (s : Step) → IsWhole script
    → slice_get script.steps n ≡ Some s
    → is_own (whole_script script) task n ≡ is_task task (running s.body)
step_runs script n task s whole is =
    ap (λ o. option_map_or (λ t. t == task) o false) (step_says running script n s whole running_called is)

-- a call that is of a running task names it first
pub running_subject : (body : Body) (task : ℕ) → running body ≡ Some task → subject body ≡ Some task
running_subject (ParallelBegin requested own parallel) task is = is
running_subject (ParallelEnd own parallel) task is = is
running_subject (ImplicitTask End actual index given parallel own) task is = is
running_subject (TaskCreate deps given own other) task is = is
running_subject (TaskSchedule st turns prior next claimed) task is = by (demands_next st) is
  where
    by : (b : Bool) → cond b (Some prior) None ≡ Some task → Some prior ≡ Some task
    by true there = there
    by false none = absurd (none-some task none)
running_subject (SyncRegion kind endpoint parallel own) task is = is
running_subject (Cancel given own claimed) task is = by (has_flag given.0 flag.discarded_task) is
  where
    by : (b : Bool) → cond b None (Some own) ≡ Some task → Some own ≡ Some task
    by true none = absurd (none-some task none)
    by false there = there
running_subject _ task is = absurd (none-some task is)

-- so a step that does not name the task first is none of its own
pub not_own : (script : ScriptView) (n task : ℕ) (s : Step) → IsWhole script
    → slice_get script.steps n ≡ Some s → (subject s.body ≡ Some task → ⊥)
    → is_own (whole_script script) task n ≡ false
not_own script n task s whole is other = elim (cases_Bool (is_own (whole_script script) task n)) [
  | inl own ↦
      absurd
      (other
      (running_subject s.body task
      (is_the_task task (running s.body) (sym (step_runs script n task s whole is) ∙ own))))
  | inr fails ↦ fails
]

pub unnamed_subject : (body : Body) (task : ℕ) → names_it body task ≡ false → subject body ≡ Some task → ⊥
unnamed_subject body task unnamed is =
    false≢true
    (sym unnamed
    ∙ or_left (is_task task (subject body)) (is_task task (object body)) (the_task task (subject body) is))

pub created_object : (body : Body) (parent task : ℕ) → creation body ≡ Some (parent, task)
    → object body ≡ Some task
created_object (TaskCreate deps given own other) parent task is = ap (option_map (λ (p : ℕ × ℕ). p.1)) is
created_object _ parent task is = absurd (none-some (parent, task) is)

pub started_object : (body : Body) (task : ℕ) → started body ≡ Some task → object body ≡ Some task
started_object (TaskSchedule st turns prior next claimed) task is = is
started_object _ task is = absurd (none-some task is)

root_not_running : (body : Body) (task : ℕ) → begun_root body ≡ Some task → running body ≡ None
root_not_running (ImplicitTask Begin actual index given parallel own) task is = refl
root_not_running _ task is = absurd (none-some task is)

pub root_not_own : (script : ScriptView) (n task : ℕ) (s : Step) → IsWhole script
    → slice_get script.steps n ≡ Some s → begun_root s.body ≡ Some task
    → is_own (whole_script script) task n ≡ false
root_not_own script n task s whole is root =
    step_runs script n task s whole is ∙ ap (is_task task) (root_not_running s.body task root)

-- a step that makes the task comes before its own records
pub none_own_before : (script : ScriptView) (n : ℕ) (s : Step) (task : ℕ) → IsWhole script
    → slice_get script.steps n ≡ Some s → made s.body ≡ Some task
    → own_before (whole_script script) task n ≡ []
none_own_before script n s task whole is makes = up_to n (omega arith)
  where
    within : n < length script.steps
    within = slice_get_within script.steps n s is

    up_to : (k : ℕ) → k ≤ n → own_before (whole_script script) task k ≡ []
    up_to zero low = refl
    up_to (suc k) low =
        let (t, there) = get_within script.steps k (omega (arith, within, low)) in
        let one : suc k ≡ k + 1 = omega arith in
        let fails =
        not_own script k task t whole there
        (unnamed_subject t.body task (unnamed_before script n k s t task whole is makes there
        (omega (arith, low))))
        in
        ap (own_before (whole_script script) task) one ∙ own_more (whole_script script) task k
        ∙ ap (λ b. own_before (whole_script script) task k ++ cond b (k ∷ []) []) fails
        ∙ append-nil (own_before (whole_script script) task k) ∙ up_to k (omega (arith, low))

-- ---- open regions

-- the open regions, the innermost first, are those of a value, the innermost last
abbrev IsStack : List Record → List ℕ → List SyncKind → Type 0
IsStack rs [] kinds_of = kinds_of ≡ []
IsStack rs (b ∷ open_now) kinds_of =
    (kind : SyncKind) × (rest : List SyncKind) × (kinds_of ≡ rest ++ kind ∷ []) × (kind_at rs b ≡ Some kind)
    × IsStack rs open_now rest

-- one more of the task's own records
open_more : (rs : List Record) (task n : ℕ) → is_own rs task n ≡ true
    → open_regions rs task (suc n) ≡ after_region (open_regions rs task n) n (at region rs n)
open_more rs task n own =
    let one : suc n ≡ n + 1 = omega arith in
    ap (λ k. open_regions rs task k) one
    ∙ ap (fold (λ open_now k. after_region open_now k (at region rs k)) [])
    (own_more rs task n ∙ ap (λ b. own_before rs task n ++ cond b (n ∷ []) []) own)
    ∙ fold_push (λ open_now k. after_region open_now k (at region rs k)) [] (own_before rs task n) n

open_same : (rs : List Record) (task n : ℕ) → is_own rs task n ≡ false
    → open_regions rs task (suc n) ≡ open_regions rs task n
open_same rs task n not_its =
    let one : suc n ≡ n + 1 = omega arith in
    ap (λ k. open_regions rs task k) one
    ∙ ap (fold (λ open_now k. after_region open_now k (at region rs k)) [])
    (own_more rs task n ∙ ap (λ b. own_before rs task n ++ cond b (n ∷ []) []) not_its
    ∙ append-nil (own_before rs task n))

stop_regions : (t : TaskView) (st : Status) → (after_stop t st).regions ≡ t.regions
stop_regions t st = by (state_moved t (states.Stopped st))
  where
    by : (o : Option State) → (option_map_or (in_state t) o t).regions ≡ t.regions
    by None = refl
    by (Some state) = refl

start_regions : (t : TaskView) → (after_start t).regions ≡ t.regions
start_regions t = by (state_moved t states.Started) (turn_begun_next t)
  where
    by : (o : Option State) (turn : Option ℕ) → (started_in t o turn).regions ≡ t.regions
    by None turn = refl
    by (Some state) None = refl
    by (Some state) (Some turn) = refl

-- a call that ends a region is accepted where it is the innermost one
region_running : (body : Body) (task : ℕ) (kind : SyncKind) (endpoint : Endpoint)
    → region body ≡ Some (task, kind, endpoint) → running body ≡ Some task
region_running (SyncRegion k e parallel own) task kind endpoint is =
    ap (option_map (λ (p : ℕ × SyncKind × Endpoint). p.0)) is
region_running _ task kind endpoint is = absurd (none-some (task, kind, endpoint) is)

-- two kinds that a recorder takes for one are one
same_kinds : (a b : SyncKind) → (kinds.ghosts).eq a b ≡ true → a ≡ b
same_kinds Barrier Barrier is = refl
same_kinds Barrier _ is = absurd (false≢true is)
same_kinds BarrierImplicit BarrierImplicit is = refl
same_kinds BarrierImplicit _ is = absurd (false≢true is)
same_kinds BarrierExplicit BarrierExplicit is = refl
same_kinds BarrierExplicit _ is = absurd (false≢true is)
same_kinds BarrierImplementation BarrierImplementation is = refl
same_kinds BarrierImplementation _ is = absurd (false≢true is)
same_kinds Taskwait Taskwait is = refl
same_kinds Taskwait _ is = absurd (false≢true is)
same_kinds Taskgroup Taskgroup is = refl
same_kinds Taskgroup _ is = absurd (false≢true is)
same_kinds Reduction Reduction is = refl
same_kinds Reduction _ is = absurd (false≢true is)
same_kinds BarrierImplicitWorkshare BarrierImplicitWorkshare is = refl
same_kinds BarrierImplicitWorkshare _ is = absurd (false≢true is)
same_kinds BarrierImplicitParallel BarrierImplicitParallel is = refl
same_kinds BarrierImplicitParallel _ is = absurd (false≢true is)
same_kinds BarrierTeams BarrierTeams is = refl
same_kinds BarrierTeams _ is = absurd (false≢true is)

-- what an accepted call says of the region that it begins or ends
pub record IsRegionCall (task : ℕ) (kind : SyncKind) (endpoint : Endpoint) (first : Option TaskView) :
    Type 0 where
  pub task_value : TaskView
  pub is : first ≡ Some task_value
  pub id : task_value.id ≡ task
  pub not_barred : is_barred task_value kind ≡ false
  pub innermost : endpoint ≡ End → is_innermost_region task_value kind ≡ true

region_call : (r : RecorderView) (body : Body) (first second : Option TaskView) (task : ℕ) (kind : SyncKind)
    (endpoint : Endpoint) → call_refusal r body first second ≡ None → id_of first ≡ first_given body
    → region body ≡ Some (task, kind, endpoint) → IsRegionCall task kind endpoint first
region_call r (SyncRegion k e parallel own) None second task kind endpoint accepted id is =
    absurd (none-some own id)
region_call r (SyncRegion k e parallel own) (Some t) second task kind endpoint accepted id is =
    let both = same_Some (own, k, e) (task, kind, endpoint) is in
    subst (λ (p : ℕ × SyncKind × Endpoint). IsRegionCall p.0 p.1 p.2 (Some t)) both (by e accepted)
  where
    unbarred : (b : Bool) → not b ≡ true → b ≡ false
    unbarred true fails = absurd (false≢true fails)
    unbarred false holds = refl

    by : (end : Endpoint) → call_refusal r (SyncRegion k end parallel own) (Some t) second ≡ None
        → IsRegionCall own k end (Some t)
    by Begin taken = record {
      task_value = t;
      is = refl;
      id = same_Some t.id own id;
      not_barred = unbarred (is_barred t k)
          (allowed_by r (not (is_barred t k)) false false (SyncRegion k Begin parallel own) taken).allows_it;
      innermost = λ ends. cc;
    }
    by End taken =
        let parts =
        and_parts (is_innermost_region t k) (not (is_barred t k))
        (allowed_by r (is_innermost_region t k && not (is_barred t k)) false false
        (SyncRegion k End parallel own)
        taken).allows_it in
        record {
          task_value = t;
          is = refl;
          id = same_Some t.id own id;
          not_barred = unbarred (is_barred t k) parts.1;
          innermost = λ ends. parts.0;
        }
    by BeginEnd taken = record {
      task_value = t;
      is = refl;
      id = same_Some t.id own id;
      not_barred = unbarred (is_barred t k)
          (allowed_by r (not (is_barred t k)) false false (SyncRegion k BeginEnd parallel own)
          taken).allows_it;
      innermost = λ ends. cc;
    }
region_call r _ first second task kind endpoint accepted id is = absurd (none-some (task, kind, endpoint) is)

region_given : (body : Body) (task : ℕ) (kind : SyncKind) (endpoint : Endpoint)
    → region body ≡ Some (task, kind, endpoint) → first_given body ≡ Some task
region_given (SyncRegion k e parallel own) task kind endpoint is =
    ap (option_map (λ (p : ℕ × SyncKind × Endpoint). p.0)) is
region_given _ task kind endpoint is = absurd (none-some (task, kind, endpoint) is)

-- the same of a step
step_region : (script : ScriptView) (n : ℕ) (s : Step) (task : ℕ) (kind : SyncKind) (endpoint : Endpoint)
    → IsWhole script → slice_get script.steps n ≡ Some s → region s.body ≡ Some (task, kind, endpoint)
    → (v : TaskView) × (values_at script n task ≡ Some v) × (is_barred v kind ≡ false)
    × (endpoint ≡ End → is_innermost_region v kind ≡ true)
step_region script n s task kind endpoint whole is says_it =
    let call =
    region_call (recorder_at script n s.thread) s.body (first_at script n s) (second_at script n s) task kind
    endpoint (step_accepts script n s whole is) (first_id_is script n s whole is) says_it in (
      call.task_value,
      ap (value (values_at script n)) (sym (region_given s.body task kind endpoint says_it)) ∙ call.is,
      call.not_barred,
      call.innermost,
    )

-- the last of the regions
last_region : (rest : List SyncKind) (kind : SyncKind)
    → slice_get (rest ++ kind ∷ []) (length (rest ++ kind ∷ []) - 1) ≡ Some kind
last_region rest kind =
    get_last rest kind (length (rest ++ kind ∷ []) - 1)
    (let long = length_push rest kind in omega (arith, long))

without_last : (rest : List SyncKind) (kind : SyncKind)
    → take (length (rest ++ kind ∷ []) - 1) (rest ++ kind ∷ []) ≡ rest
without_last rest kind =
    let long : length (rest ++ kind ∷ []) - 1 ≡ length rest =
    let more = length_push rest kind in omega (arith, more) in
    ap (λ n. take n (rest ++ kind ∷ [])) long ∙ take-append-le (length rest) rest (kind ∷ []) (omega arith)
    ∙ take_all (length rest) rest (omega arith)

pub stacked : (script : ScriptView) (n task : ℕ) (v : TaskView) → IsWhole script → n ≤ length script.steps
    → values_at script n task ≡ Some v
    → IsStack (whole_script script) (open_regions (whole_script script) task n) v.regions
stacked script zero task v whole within has = absurd (none-some v has)
stacked script (suc n) task w whole within has =
    let (s, is) = get_within script.steps n (omega (arith, within)) in
    by s is (comes script n s task w whole is has)
    (λ v was. stacked script n task v whole (omega (arith, within)) was)
  where
    rs : List Record
    rs = whole_script script

    stays : (w v : TaskView) → is_own rs task n ≡ false → w.regions ≡ v.regions
        → IsStack rs (open_regions rs task n) v.regions
        → IsStack rs (open_regions rs task (suc n)) w.regions
    stays w v not_its same_regions stack =
        subst (λ open_now. IsStack rs open_now w.regions) (sym (open_same rs task n not_its))
        (subst (IsStack rs (open_regions rs task n)) (sym same_regions) stack)

    -- a record that leaves the regions as they are, whether or not it is the task's own
    unmoved : (s : Step) → slice_get script.steps n ≡ Some s → (w v : TaskView) → w.regions ≡ v.regions
        → ((open_now : List ℕ) (i : ℕ) → after_region open_now i (region s.body) ≡ open_now)
        → IsStack rs (open_regions rs task n) v.regions
        → IsStack rs (open_regions rs task (suc n)) w.regions
    unmoved s is w v same_regions stay stack = elim (cases_Bool (is_own rs task n)) [
      | inr not_its ↦ stays w v not_its same_regions stack
      | inl own ↦
          subst (λ open_now. IsStack rs open_now w.regions)
          (sym
          (open_more rs task n own
          ∙ ap (after_region (open_regions rs task n) n) (step_says region script n s whole region_called is)
          ∙ stay (open_regions rs task n) n))
          (subst (IsStack rs (open_regions rs task n)) (sym same_regions) stack)
    ]

    own_region : (s : Step) → slice_get script.steps n ≡ Some s → (kind : SyncKind) (endpoint : Endpoint)
        → region s.body ≡ Some (task, kind, endpoint)
        → open_regions rs task (suc n) ≡ after_region (open_regions rs task n) n (Some (task, kind, endpoint))
    own_region s is kind endpoint says_it =
        open_more rs task n
        (step_runs script n task s whole is
        ∙ the_task task (running s.body) (region_running s.body task kind endpoint says_it))
        ∙ ap (after_region (open_regions rs task n) n)
        (step_says region script n s whole region_called is ∙ says_it)

    popped : (open_now : List ℕ) (v : TaskView) (kind : SyncKind) → IsStack rs open_now v.regions
        → is_innermost_region v kind ≡ true → IsStack rs (drop 1 open_now) (without_region v).regions
    popped [] v kind empty inner =
        absurd
        (false≢true
        (sym
        (ap (λ l. option_map_or (λ found. (kinds.ghosts).eq found kind) (slice_get l (length l - 1)) false)
        empty)
        ∙ inner))
    popped (b ∷ open_now) v kind (found, rest, is_so, there, stack) inner =
        subst (IsStack rs open_now)
        (sym (ap (λ l. take (length l - 1) l) is_so ∙ without_last rest found)) stack

    by : (s : Step) → slice_get script.steps n ≡ Some s → Comes (values_at script n) s.thread s.body task w
        → ((v : TaskView) → values_at script n task ≡ Some v
        → IsStack rs (open_regions rs task n) v.regions)
        → IsStack rs (open_regions rs task (suc n)) w.regions
    by s is (kept unnamed was) before =
        stays w w (not_own script n task s whole is (unnamed_subject s.body task unnamed)) refl (before w was)
    by s is (began place given of begins_it root) before =
        subst (λ open_now. IsStack rs open_now w.regions)
        (sym
        (open_same rs task n (root_not_own script n task s whole is begins_it)
        ∙ ap (fold (λ open_now k. after_region open_now k (at region rs k)) [])
        (none_own_before script n s task whole is (root_subject s.body task begins_it).1)))
        (ap (λ (t : TaskView). t.regions) root)
    by s is (value_steps.created parent u given flagged makes was id new) before =
        subst (λ open_now. IsStack rs open_now w.regions)
        (sym
        (open_same rs task n
        (not_own script n task s whole is
        (λ names. two_apart script n s task task whole is names (created_object s.body parent task makes)
        refl))
        ∙ ap (fold (λ open_now k. after_region open_now k (at region rs k)) [])
        (none_own_before script n s task whole is (created_made s.body parent task makes).0)))
        (ap (λ (t : TaskView). t.regions) new)
    by s is (resumed v was id starts after) before =
        stays w v
        (not_own script n task s whole is
        (λ names. two_apart script n s task task whole is names (started_object s.body task starts) refl))
        (ap (λ (t : TaskView). t.regions) after ∙ start_regions v) (before v was)
    by s is (changed v was id names given leaves_it) before =
        left_so (leaves s.thread s.body task v w given leaves_it)
      where
        left_so : Leaves task s.body v w → IsStack rs (open_regions rs task (suc n)) w.regions
        left_so (left_same is_same none stay) =
            unmoved s is w v (ap (λ (t : TaskView). t.regions) is_same) stay (before v was)
        left_so (left_child other is_so makes stay) =
            unmoved s is w v (ap (λ (t : TaskView). t.regions) is_so) stay (before v was)
        left_so (left_stopped st next is_so says_it none stay) =
            unmoved s is w v (ap (λ (t : TaskView). t.regions) is_so ∙ stop_regions v st) stay (before v was)
        left_so (left_opened kind is_so says_it none) =
            subst (λ open_now. IsStack rs open_now w.regions) (sym (own_region s is kind Begin says_it)) (
              kind,
              v.regions,
              ap (λ (t : TaskView). t.regions) is_so,
              ap (option_map (λ (p : ℕ × SyncKind × Endpoint). p.1))
                  (step_says region script n s whole region_called is ∙ says_it),
              before v was,
            )
        left_so (left_closed kind is_so says_it none) =
            let (u, was_u, barred, inner) = step_region script n s task kind End whole is says_it in
            let one : u ≡ v = same_Some u v (sym was_u ∙ was) in
            subst (λ open_now. IsStack rs open_now w.regions) (sym (own_region s is kind End says_it))
            (subst (IsStack rs (drop 1 (open_regions rs task n)))
            (sym (ap (λ (t : TaskView). t.regions) is_so))
            (popped (open_regions rs task n) v kind (before v was)
            (subst (λ (t : TaskView). is_innermost_region t kind ≡ true) one (inner refl))))

-- ---- the cause

-- the end of a region belongs to the begin that is innermost there
pub region_begun : (script : ScriptView) (n task : ℕ) (kind : SyncKind) → IsWhole script
    → at region (whole_script script) n ≡ Some (task, kind, End)
    → (begin : ℕ) × EndsRegion (whole_script script) n task kind begin
region_begun script n task kind whole ends =
    let inside = at_within region rs n (task, kind, End) ends in
    let (s, is) = get_within script.steps n (omega (arith, inside, all)) in
    let says_it = sym (step_says region script n s whole region_called is) ∙ ends in
    let (v, was, barred, inner) = step_region script n s task kind End whole is says_it in
    by (open_regions rs task n) refl v (stacked script n task v whole (omega (arith, inside, all)) was)
    (inner refl)
  where
    rs : List Record
    rs = whole_script script

    all : length rs ≡ length script.steps
    all = scripted_length script (length script.steps) whole (omega arith)

    by : (open_now : List ℕ) → open_regions rs task n ≡ open_now → (v : TaskView)
        → IsStack rs open_now v.regions
        → is_innermost_region v kind ≡ true → (begin : ℕ) × EndsRegion rs n task kind begin
    by [] here v empty inner =
        absurd
        (false≢true
        (sym
        (ap (λ l. option_map_or (λ found. (kinds.ghosts).eq found kind) (slice_get l (length l - 1)) false)
        empty)
        ∙ inner))
    by (b ∷ open_now) here v (found, rest, is_so, there, stack) inner =
        let equal : (kinds.ghosts).eq found kind ≡ true =
        sym
        (ap (λ l. option_map_or (λ k. (kinds.ghosts).eq k kind) (slice_get l (length l - 1)) false) is_so
        ∙ ap (λ o. option_map_or (λ k. (kinds.ghosts).eq k kind) o false) (last_region rest found))
        ∙ inner in (
          b,
          record {
            ends = ends;
            innermost = ap (λ l. slice_get l 0) here;
            same_kind = there ∙ ap Some (same_kinds found kind equal);
          },
        )

none_unbegun : (script : ScriptView) (n task : ℕ) (kind : SyncKind) → IsWhole script
    → EndsNoRegion (whole_script script) n task kind → ⊥
none_unbegun script n task kind whole ends =
    let (begin, is) = region_begun script n task kind whole ends.ends in
    ends.none begin is.innermost is.same_kind

none_barrier : (script : ScriptView) (n task : ℕ) (kind : SyncKind) (endpoint : Endpoint) → IsWhole script
    → at region (whole_script script) n ≡ Some (task, kind, endpoint) → is_called_barrier kind ≡ true
    → IsExplicit (whole_script script) task → ⊥
none_barrier script n task kind endpoint whole says_at called (k, makes) =
    let inside = at_within region rs n (task, kind, endpoint) says_at in
    let (s, is) = get_within script.steps n (omega (arith, inside, all)) in
    let says_it = sym (step_says region script n s whole region_called is) ∙ says_at in
    let (v, was, barred, inner) = step_region script n s task kind endpoint whole is says_it in
    let there = at_within created rs k task makes in
    let (t, at_k) = get_within script.steps k (omega (arith, there, all)) in
    let (parent, creates) =
    created_by (creation t.body)
    (ap (option_map (λ (p : ℕ × ℕ). p.1)) (sym (step_says creation script k t whole creation_called at_k))
    ∙ created_at k ∙ makes) in
    by v.origin (barred_parent v.origin barred)
    (made_as script n task v whole (omega (arith, inside, all)) was)
    parent (k, t, at_k, creates)
  where
    rs : List Record
    rs = whole_script script

    all : length rs ≡ length script.steps
    all = scripted_length script (length script.steps) whole (omega arith)

    created_at : (i : ℕ) → option_map (λ (p : ℕ × ℕ). p.1) (at creation rs i) ≡ at created rs i
    created_at i = of (slice_get rs i)
      where
        of : (o : Option Record)
            → option_map (λ (p : ℕ × ℕ). p.1) (option_and_then (λ (r : Record). creation r.body) o)
            ≡ option_and_then (λ (r : Record). created r.body) o
        of None = refl
        of (Some r) = refl

    created_by : (o : Option (ℕ × ℕ)) → option_map (λ (p : ℕ × ℕ). p.1) o ≡ Some task
        → (parent : ℕ) × (o ≡ Some (parent, task))
    created_by None is = absurd (none-some task is)
    created_by (Some (parent, other)) is = (parent, ap (λ t. Some (parent, t)) (same_Some other task is))

    barred_parent : (o : Origin) → (is_called_barrier kind && is_some (parent_of o)) ≡ false
        → is_some (parent_of o) ≡ false
    barred_parent o free = sym (ap (λ b. b && is_some (parent_of o)) called) ∙ free

    by : (o : Origin) → is_some (parent_of o) ≡ false → IsMadeAs script task o → (parent : ℕ)
        → IsCreatedStep script.steps parent task → ⊥
    by (Root place) none made_so parent creates = not_both script parent task whole made_so creates
    by (Explicit p) none made_so parent creates = false≢true (sym none)

pub none_misplaced : (script : ScriptView) (n : ℕ) → IsWhole script
    → HasCause (whole_script script) n RegionOrder → ⊥
none_misplaced script n whole (region_order (task, kind, ends)) = none_unbegun script n task kind whole ends
none_misplaced script n whole (barrier_order (task, kind, endpoint, says_at, called, explicit)) =
    none_barrier script n task kind endpoint whole says_at called explicit

pub none_shows_order : (script : ScriptView) (rs : List Record) → IsWhole script → AreRecords script rs
    → ShowsNowhere rs RegionOrder
none_shows_order script rs whole records i shown =
    none_misplaced script _ whole
    (moved_order (own_reordered script rs whole records) (own_place rs i) shown)
