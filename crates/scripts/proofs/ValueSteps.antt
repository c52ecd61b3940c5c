-- What each step of a run that none of its calls stops does to the value of one task.
use Rattle.std.proofs.Common.{ℕ, suc, ◌≡◌, ◌≢◌, ◌∙◌, ◌+◌, ◌<◌, List, refl, Bool, true, false, Option, Some}
use Rattle.std.proofs.Common.{None, sym, ap, arith, inl, inr, cond}
use Rattle.std.specs.Prelude.{◌||◌, slice_get, option_map, option_and_then}
use Rattle.std.proofs.lemmas.Bool.{cases_Bool, or_cases}
use Rattle.std.proofs.lemmas.Option.{none-some, same_Some}
use Rattle.ompt_events.specs.declared.records.Body.{Body}
use Rattle.ompt_events.specs.declared.records.Body.TheVariants.{ThreadBegin, ThreadEnd, ParallelBegin}
use Rattle.ompt_events.specs.declared.records.Body.TheVariants.{ParallelEnd, ImplicitTask, TaskCreate}
use Rattle.ompt_events.specs.declared.records.Body.TheVariants.{Dependences, TaskSchedule, SyncRegion, Cancel}
use Rattle.ompt_events.specs.declared.names.Endpoint.TheVariants.{Begin, End, BeginEnd}
use Rattle.ompt_events.specs.declared.names.Status.{Status}
use Rattle.ompt_events.specs.declared.names.SyncKind.{SyncKind}
use Rattle.ompt_events.specs.declared.flags.TaskFlags.{TaskFlags}
use Rattle.ompt_events.specs.Flags as flag
use Rattle.ompt_events.specs.Flags.{has_flag}
use Rattle.ompt_events.specs.Records.{made, begun_root, creation, started, region, schedule, flags}
use Rattle.ompt_events.specs.Regions.{after_region}
use Rattle.ompt_events.specs.States.{is_task}
use Rattle.ompt_events.proofs.PlaceLemmas.{is_the_task}
use Rattle.packed_trace.specs.Named.{subject, object}
use Rattle.scripts.specs.declared.script.Step.{Step}
use Rattle.scripts.specs.Scripts.{ScriptView, IsScript}
use Rattle.scripts.proofs.RuleLemmas.{step_rules}
use Rattle.callbacks.specs.declared.task.TeamPlace.{TeamPlace}
use Rattle.callbacks.specs.Tasks.{TaskView, root_of, child_of, with_child, with_region, without_region}
use Rattle.callbacks.specs.Tasks.{after_stop, after_start}
use Rattle.callbacks.specs.Schedules.{comes_back}
use Rattle.callbacks.specs.Recorders.{RecorderView}
use Rattle.scripts.specs.RunCalls.{names_it, first_given, second_given, first_left, second_left}
use Rattle.scripts.specs.RunCalls.{call_refusal}
use Rattle.scripts.specs.Parts.{id_of}
use Rattle.scripts.specs.Progress.{Progress, Values, value, values_after, progress_to, refused_at}
use Rattle.scripts.specs.Progress.{step_refusal, own_records, recorder_with}
use Rattle.scripts.proofs.CalledLemmas.{Has, recorded_to, has_id, given_has, next_has, first_is_named}
use Rattle.scripts.proofs.HandOverLemmas.{second_is_named, made_first}
use Rattle.scripts.proofs.ProgressLemmas.{accepted_next, named_apart}

-- a run of a script of which no step is refused
pub record IsWhole (script : ScriptView) : Type 0 where
  pub rules : IsScript script.steps
  pub accepted : (at : ℕ) → refused_at script at ≡ None

-- the values after the first n steps
abbrev pub values_at : ScriptView → ℕ → Values
values_at script n = (progress_to script n).values

-- the values that a step is given
abbrev pub first_at : ScriptView → ℕ → Step → Option TaskView
first_at script at s = value (values_at script at) (first_given s.body)

abbrev pub second_at : ScriptView → ℕ → Step → Option TaskView
second_at script at s = value (values_at script at) (second_given s.body)

-- the recorder of a thread after the first n steps
abbrev pub recorder_at : ScriptView → ℕ → ℕ → RecorderView
recorder_at script n thread = recorder_with script.capacity script.nests thread (own_records script n thread)

-- ---- the call of a step

pub step_accepts : (script : ScriptView) (n : ℕ) (s : Step) → IsWhole script
    → slice_get script.steps n ≡ Some s
    → call_refusal (recorder_at script n s.thread) s.body (first_at script n s) (second_at script n s) ≡ None
step_accepts script n s whole is =
    sym (ap (option_and_then (λ q. step_refusal script.capacity script.nests (progress_to script n) q)) is)
    ∙ whole.accepted n

pub first_has : (script : ScriptView) (n : ℕ) (s : Step) → IsWhole script → slice_get script.steps n ≡ Some s
    → (task : ℕ) → first_given s.body ≡ Some task → Has (values_at script n task) task
first_has script n s whole is =
    given_has script.steps n s (values_at script n)
    (recorded_to script n whole.rules (λ k before. whole.accepted k)).values
    (step_rules script.steps n s whole.rules is)

pub second_has : (script : ScriptView) (n : ℕ) (s : Step) → IsWhole script → slice_get script.steps n ≡ Some s
    → (task : ℕ) → second_given s.body ≡ Some task → Has (values_at script n task) task
second_has script n s whole is =
    next_has script.steps n s (values_at script n)
    (recorded_to script n whole.rules (λ k before. whole.accepted k)).values
    (step_rules script.steps n s whole.rules is)

pub first_id_is : (script : ScriptView) (n : ℕ) (s : Step) → IsWhole script
    → slice_get script.steps n ≡ Some s → id_of (first_at script n s) ≡ first_given s.body
first_id_is script n s whole is =
    has_id (values_at script n) (first_given s.body) (first_has script n s whole is)

pub second_id_is : (script : ScriptView) (n : ℕ) (s : Step) → IsWhole script
    → slice_get script.steps n ≡ Some s → id_of (second_at script n s) ≡ second_given s.body
second_id_is script n s whole is =
    has_id (values_at script n) (second_given s.body) (second_has script n s whole is)

-- the two tasks that a step names are two
pub two_apart : (script : ScriptView) (n : ℕ) (s : Step) (a b : ℕ) → IsWhole script
    → slice_get script.steps n ≡ Some s → subject s.body ≡ Some a → object s.body ≡ Some b → a ≢ b
two_apart script n s a b whole is one two =
    named_apart s.body a b (step_rules script.steps n s whole.rules is).apart one two

-- a step before the one that makes a task does not name it
pub unnamed_before : (script : ScriptView) (n k : ℕ) (s t : Step) (task : ℕ) → IsWhole script
    → slice_get script.steps n ≡ Some s → made s.body ≡ Some task → slice_get script.steps k ≡ Some t → k < n
    → names_it t.body task ≡ false
unnamed_before script n k s t task whole is makes there below = elim (cases_Bool (names_it t.body task)) [
  | inl names ↦
      let from =
      made_first script.steps task n k s t whole.rules is makes there
      (elim (or_cases (is_task task (subject t.body)) (is_task task (object t.body)) names) [
        | inl first ↦ first_is_named t.body task (is_the_task task (subject t.body) first)
        | inr second ↦ second_is_named t.body task (is_the_task task (object t.body) second)
      ]) in
      absurd (omega (arith, from, below))
  | inr not_named ↦ not_named
]

-- ---- where a value comes from

-- the value of the task after a step on this thread with this body
pub data Comes (values : Values) (thread : ℕ) (body : Body) (task : ℕ) (after : TaskView) : Type 0 where
  kept : names_it body task ≡ false → values task ≡ Some after → Comes values thread body task after
  began : (place : TeamPlace) (given : TaskFlags) → place.home ≡ thread → begun_root body ≡ Some task
      → after ≡ root_of task place given → Comes values thread body task after
  created : (parent : ℕ) (u : TaskView) (given : TaskFlags) → flags body ≡ Some given.0
      → creation body ≡ Some (parent, task)
      → values parent ≡ Some u → u.id ≡ parent → after ≡ child_of u task given
      → Comes values thread body task after
  changed : (before : TaskView) → values task ≡ Some before → before.id ≡ task → subject body ≡ Some task
      → first_given body ≡ Some task → first_left thread body (Some before) ≡ Some after
      → Comes values thread body task after
  resumed : (before : TaskView) → values task ≡ Some before → before.id ≡ task → started body ≡ Some task
      → after ≡ after_start before → Comes values thread body task after

from_given : (values : Values) (thread : ℕ) (body : Body) (task : ℕ) (after : TaskView)
    → subject body ≡ Some task → first_given body ≡ Some task
    → ((t : ℕ) → first_given body ≡ Some t → Has (values t) t)
    → first_left thread body (value values (first_given body)) ≡ Some after
    → Comes values thread body task after
from_given values thread body task after names given has is =
    let (v, was, id) = has task given in
    changed v was id names given
    (ap (first_left thread body) (sym (ap (value values) given ∙ was)) ∙ is)

from_first : (values : Values) (thread : ℕ) (body : Body) (task : ℕ) (after : TaskView)
    → subject body ≡ Some task → ((t : ℕ) → first_given body ≡ Some t → Has (values t) t)
    → first_left thread body (value values (first_given body)) ≡ Some after
    → Comes values thread body task after
from_first values thread (ImplicitTask Begin actual index given parallel own) task after names has is =
    let place : TeamPlace = record { home = thread; actual = actual; index = index } in
    began place given refl names
    (sym (same_Some (root_of own place given) after is)
    ∙ ap (λ t. root_of t place given) (same_Some own task names))
from_first values thread (ImplicitTask End actual index given parallel own) task after names has is =
    absurd (none-some after is)
from_first values thread (ImplicitTask BeginEnd actual index given parallel own) task after names has is =
    from_given values thread (ImplicitTask BeginEnd actual index given parallel own) task after names names
    has is
from_first values thread (ThreadBegin kind) task after names has is = absurd (none-some task names)
from_first values thread ThreadEnd task after names has is = absurd (none-some task names)
from_first values thread (ParallelBegin requested own parallel) task after names has is =
    from_given values thread (ParallelBegin requested own parallel) task after names names has is
from_first values thread (ParallelEnd own parallel) task after names has is =
    from_given values thread (ParallelEnd own parallel) task after names names has is
from_first values thread (TaskCreate deps given own child) task after names has is =
    from_given values thread (TaskCreate deps given own child) task after names names has is
from_first values thread (Dependences own list) task after names has is =
    from_given values thread (Dependences own list) task after names names has is
from_first values thread (TaskSchedule status turns prior next claimed) task after names has is =
    from_given values thread (TaskSchedule status turns prior next claimed) task after names names has is
from_first values thread (SyncRegion kind endpoint parallel own) task after names has is =
    from_given values thread (SyncRegion kind endpoint parallel own) task after names names has is
from_first values thread (Cancel given own claimed) task after names has is =
    from_given values thread (Cancel given own claimed) task after names names has is

from_second : (values : Values) (thread : ℕ) (body : Body) (task : ℕ) (after : TaskView)
    → object body ≡ Some task → ((t : ℕ) → first_given body ≡ Some t → Has (values t) t)
    → ((t : ℕ) → second_given body ≡ Some t → Has (values t) t)
    → second_left body (value values (first_given body)) (value values (second_given body)) ≡ Some after
    → Comes values thread body task after
from_second values thread (TaskCreate deps given own child) task after names has next is =
    let (u, was, id) = has own refl in
    created own u given refl (ap (λ o. option_map {U = ℕ × ℕ} (λ t. (own, t)) o) names) was id
    (sym (same_Some (child_of u child given) after
    (ap (option_map (λ t. child_of t child given)) (sym was) ∙ is))
    ∙ ap (λ t. child_of u t given) (same_Some child task names))
from_second values thread (TaskSchedule status turns prior next claimed) task after names has given is =
    let (v, was, id) = given task names in
    resumed v was id names
    (sym (same_Some (after_start v) after
    (ap (option_map after_start) (sym (ap (value values) names ∙ was)) ∙ is)))
from_second values thread _ task after names has next is = absurd (none-some task names)

comes_by : (values : Values) (thread : ℕ) (body : Body) (task : ℕ) (after : TaskView)
    → ((t : ℕ) → first_given body ≡ Some t → Has (values t) t)
    → ((t : ℕ) → second_given body ≡ Some t → Has (values t) t)
    → cond (is_task task (subject body)) (first_left thread body (value values (first_given body)))
    (cond (is_task task (object body))
    (second_left body (value values (first_given body)) (value values (second_given body))) (values task))
    ≡ Some after → Comes values thread body task after
comes_by values thread body task after has next is = elim (cases_Bool (is_task task (subject body))) [
  | inl here ↦
      from_first values thread body task after (is_the_task task (subject body) here) has
      (ap (λ b. cond b first (cond (is_task task (object body)) second (values task))) (sym here) ∙ is)
  | inr apart ↦ elim (cases_Bool (is_task task (object body))) [
    | inl there ↦
        from_second values thread body task after (is_the_task task (object body) there) has next
        (ap (λ b. cond false first (cond b second (values task))) (sym there)
        ∙ ap (λ b. cond b first (cond (is_task task (object body)) second (values task))) (sym apart) ∙ is)
    | inr neither ↦
        kept (ap (λ b. b || is_task task (object body)) apart ∙ neither)
        (ap (λ b. cond false first (cond b second (values task))) (sym neither)
        ∙ ap (λ b. cond b first (cond (is_task task (object body)) second (values task))) (sym apart) ∙ is)
  ]
]
  where
    first : Option TaskView
    first = first_left thread body (value values (first_given body))

    second : Option TaskView
    second = second_left body (value values (first_given body)) (value values (second_given body))

-- the values after one step more
pub values_next : (script : ScriptView) (n : ℕ) (s : Step) (task : ℕ) → IsWhole script
    → slice_get script.steps n ≡ Some s
    → values_at script (suc n) task ≡ values_after (values_at script n) s task
values_next script n s task whole is =
    let one : suc n ≡ n + 1 = omega arith in
    ap (λ k. values_at script k task) one
    ∙ ap (λ (p : Progress). p.values task) (accepted_next script n s is (whole.accepted n))

pub comes : (script : ScriptView) (n : ℕ) (s : Step) (task : ℕ) (after : TaskView) → IsWhole script
    → slice_get script.steps n ≡ Some s → values_at script (suc n) task ≡ Some after
    → Comes (values_at script n) s.thread s.body task after
comes script n s task after whole is has =
    comes_by (values_at script n) s.thread s.body task after (first_has script n s whole is)
    (second_has script n s whole is) (sym (values_next script n s task whole is) ∙ has)

-- ---- what a call leaves of the value of the task that it is of

-- the open regions stay as they are
abbrev pub DoRegionsStay : Body → Type 0
DoRegionsStay body = (opened : List ℕ) (i : ℕ) → after_region opened i (region body) ≡ opened

pub data Leaves (task : ℕ) (body : Body) (before after : TaskView) : Type 0 where
  left_same : after ≡ before → creation body ≡ None → DoRegionsStay body → Leaves task body before after
  left_child : (other : ℕ) → after ≡ with_child before → creation body ≡ Some (task, other)
      → DoRegionsStay body
      → Leaves task body before after
  left_stopped : (status : Status) (next : Option ℕ) → after ≡ after_stop before status
      → schedule body ≡ Some (status, task, next) → creation body ≡ None → DoRegionsStay body
      → Leaves task body before after
  left_opened : (kind : SyncKind) → after ≡ with_region before kind → region body ≡ Some (task, kind, Begin)
      → creation body ≡ None → Leaves task body before after
  left_closed : (kind : SyncKind) → after ≡ without_region before → region body ≡ Some (task, kind, End)
      → creation body ≡ None → Leaves task body before after

pub leaves : (thread : ℕ) (body : Body) (task : ℕ) (before after : TaskView) → first_given body ≡ Some task
    → first_left thread body (Some before) ≡ Some after → Leaves task body before after
leaves thread (ThreadBegin kind) task before after given is = absurd (none-some task given)
leaves thread ThreadEnd task before after given is = absurd (none-some task given)
leaves thread (ParallelBegin requested own parallel) task before after given is =
    left_same (sym (same_Some before after is)) refl (λ l i. refl)
leaves thread (ParallelEnd own parallel) task before after given is =
    left_same (sym (same_Some before after is)) refl (λ l i. refl)
leaves thread (ImplicitTask Begin actual index flags parallel own) task before after given is =
    absurd (none-some task given)
leaves thread (ImplicitTask End actual index flags parallel own) task before after given is =
    absurd (none-some after is)
leaves thread (ImplicitTask BeginEnd actual index flags parallel own) task before after given is =
    left_same (sym (same_Some before after is)) refl (λ l i. refl)
leaves thread (TaskCreate deps flags own other) task before after given is =
    left_child other (sym (same_Some (with_child before) after is))
    (ap (λ o. option_map {U = ℕ × ℕ} (λ t. (t, other)) o) given) (λ l i. refl)
leaves thread (Dependences own list) task before after given is =
    left_same (sym (same_Some before after is)) refl (λ l i. refl)
leaves thread (TaskSchedule status turns prior next claimed) task before after given is =
    by (comes_back status) is
  where
    by : (b : Bool) → cond b (Some (after_stop before status)) None ≡ Some after
        → Leaves task (TaskSchedule status turns prior next claimed) before after
    by true back =
        left_stopped status next (sym (same_Some (after_stop before status) after back))
        (ap (λ o. option_map {U = Status × ℕ × Option ℕ} (λ t. (status, t, next)) o) given) refl (λ l i. refl)
    by false gone = absurd (none-some after gone)
leaves thread (SyncRegion kind Begin parallel own) task before after given is =
    left_opened kind (sym (same_Some (with_region before kind) after is))
    (ap (option_map (λ t. (t, kind, Begin))) given) refl
leaves thread (SyncRegion kind End parallel own) task before after given is =
    left_closed kind (sym (same_Some (without_region before) after is))
    (ap (option_map (λ t. (t, kind, End))) given) refl
leaves thread (SyncRegion kind BeginEnd parallel own) task before after given is =
    left_same (sym (same_Some before after is)) refl (λ l i. refl)
leaves thread (Cancel flags own claimed) task before after given is =
    by (has_flag flags.0 flag.discarded_task) is
  where
    by : (b : Bool) → cond b None (Some before) ≡ Some after
        → Leaves task (Cancel flags own claimed) before after
    by true gone = absurd (none-some after gone)
    by false stays = left_same (sym (same_Some before after stays)) refl (λ l i. refl)
