-- The turn of a task never falls along a script.
use Rattle.std.proofs.Common.{ℕ, ◌≡◌, ◌≢◌, ◌∙◌, ◌+◌, ◌≤◌, ◌^◌, List, Bool, true, false, refl, sym, ap}
use Rattle.std.proofs.Common.{subst, inl, inr, Option, Some, None, cond, arith, length, take, zero, suc}
use Rattle.std.specs.Prelude.{◌&&◌, option_map, option_and_then, is_some, nat_lt}
use Rattle.std.specs.Prelude.{if◌then◌else◌}
use Rattle.std.specs.Option.{option_map_or}
use Rattle.std.proofs.lemmas.Bool.{cond_both, cases_Bool, cases_lt, and_parts, false≢true}
use Rattle.std.proofs.lemmas.Option.{none-some, same_Some}
use Rattle.ompt_events.specs.declared.records.Body.{Body}
use Rattle.ompt_events.specs.declared.records.Body.TheVariants.{ThreadBegin, ThreadEnd, ParallelBegin}
use Rattle.ompt_events.specs.declared.records.Body.TheVariants.{ParallelEnd, ImplicitTask, TaskCreate}
use Rattle.ompt_events.specs.declared.records.Body.TheVariants.{Dependences, TaskSchedule, SyncRegion}
use Rattle.ompt_events.specs.declared.records.Body.TheVariants.{Cancel}
use Rattle.ompt_events.specs.declared.names.Endpoint.TheVariants.{Begin, End, BeginEnd}
use Rattle.ompt_events.specs.declared.names.Status.{Status}
use Rattle.ompt_events.specs.declared.names.Status.TheVariants as status
use Rattle.ompt_events.specs.declared.state.State.{State}
use Rattle.ompt_events.specs.Flags as flag
use Rattle.ompt_events.specs.Flags.{has_flag}
use Rattle.ompt_events.specs.Records.{made, started, suspended, next_turn, prior_turn}
use Rattle.ompt_events.specs.States as states
use Rattle.ompt_events.specs.States.{is_task}
use Rattle.ompt_events.proofs.ListLemmas.{get_contains, contains_get, get_within}
use Rattle.credit_ledger.proofs.EntryLemmas.{get_take, take_get}
use Rattle.scripts.specs.declared.script.Step.{Step}
use Rattle.scripts.specs.Scripts.{ScriptView, IsScript}
use Rattle.scripts.specs.Rules.{IsMadeByStep}
use Rattle.scripts.proofs.RuleLemmas.{step_rules}
use Rattle.callbacks.specs.Recorders.{RecorderView}
use Rattle.callbacks.specs.Schedules.{schedule_of, schedule_body, schedule_refusal, may_schedule}
use Rattle.callbacks.specs.Schedules.{left_of, comes_back, has_its_next, is_by_parent, may_start}
use Rattle.callbacks.specs.Schedules.{is_last_turn}
use Rattle.callbacks.specs.Tasks.{TaskView, current_turn, turn_begun_next, after_stop, after_start}
use Rattle.callbacks.specs.Tasks.{started_in}
use Rattle.callbacks.specs.Tasks.{in_state, state_moved, with_child, with_region, without_region}
use Rattle.packed_trace.specs.Named.{subject, object}
use Rattle.scripts.specs.RunCalls.{first_given, second_given, recorded_body}
use Rattle.scripts.specs.RunCalls.{first_left, second_left, call_refusal}
use Rattle.scripts.specs.Parts.{id_of}
use Rattle.scripts.specs.Progress.{Progress, Values, value, values_after, progress_to, refused_at}
use Rattle.scripts.proofs.ProgressLemmas.{accepted_next}
use Rattle.scripts.proofs.TilingLemmas.{the_one, given_or_made}
use Rattle.scripts.proofs.ValueLemmas.{may_come}

-- ---- what one call leaves of a turn

-- the value, if there is one, is in this turn or a later one
abbrev pub IsFromTurn : ℕ → Option TaskView → Type 0
IsFromTurn turn o = (t : TaskView) → o ≡ Some t → turn ≤ current_turn t

from_map : (turn : ℕ) (f : TaskView → TaskView) (o : Option TaskView)
    → ((t : TaskView) → current_turn t ≤ current_turn (f t)) → IsFromTurn turn o
    → IsFromTurn turn (option_map f o)
from_map turn f None rises from t is = absurd (none-some t is)
from_map turn f (Some u) rises from t is =
    let least = from u refl in
    let more = rises u in
    subst (λ v. turn ≤ current_turn v) (same_Some (f u) t is) (omega arith)

stop_turn : (t : TaskView) (s : Status) → current_turn (after_stop t s) ≡ current_turn t
stop_turn t s = by (state_moved t (states.Stopped s))
  where
    by : (o : Option State) → current_turn (option_map_or (in_state t) o t) ≡ current_turn t
    by None = refl
    by (Some state) = refl

begun_later : (t : TaskView) (n : ℕ) → turn_begun_next t ≡ Some n → current_turn t ≤ n
begun_later t n is = by t.turn is
  where
    by : (o : Option ℕ)
        → option_map_or (λ turn. if nat_lt (turn + 1) (2 ^ 32) then Some (turn + 1) else None) o (Some 0)
        ≡ Some n
        → option_map_or (λ (turn : ℕ). turn) o 0 ≤ n
    by None begins = omega arith
    by (Some k) begins = elim (cases_Bool (nat_lt (k + 1) (2 ^ 32))) [
      | inl low ↦
          let same : k + 1 ≡ n =
          same_Some (k + 1) n (sym (ap (λ b. cond b (Some (k + 1)) None) low) ∙ begins) in
          omega arith
      | inr high ↦ absurd (none-some n (sym (ap (λ b. cond b (Some (k + 1)) None) high) ∙ begins))
    ]

start_turn : (t : TaskView) → current_turn t ≤ current_turn (after_start t)
start_turn t = by (state_moved t states.Started) (turn_begun_next t) (begun_later t)
  where
    by : (o : Option State) (next : Option ℕ) → ((n : ℕ) → next ≡ Some n → current_turn t ≤ n)
        → current_turn t ≤ current_turn (started_in t o next)
    by (Some state) (Some n) later = later n refl
    by (Some state) None later = omega arith
    by None next later = omega arith

from_left : (turn : ℕ) (s : Status) (first : Option TaskView) → IsFromTurn turn first
    → IsFromTurn turn (option_and_then (λ t. left_of t s) first)
from_left turn s None from t is = absurd (none-some t is)
from_left turn s (Some u) from t is = by (comes_back s) is
  where
    by : (b : Bool) → cond b (Some (after_stop u s)) None ≡ Some t → turn ≤ current_turn t
    by true back =
        let least = from u refl in
        let kept = stop_turn u s in
        subst (λ v. turn ≤ current_turn v) (same_Some (after_stop u s) t back) (omega arith)
    by false gone = absurd (none-some t gone)

from_cancel : (turn : ℕ) (discards : Bool) (first : Option TaskView) → IsFromTurn turn first
    → IsFromTurn turn (cond discards None first)
from_cancel turn true first from t is = absurd (none-some t is)
from_cancel turn false first from t is = from t is

-- of the task that it names first, and does not make
first_turn : (thread turn : ℕ) (body : Body) (first : Option TaskView) → first_given body ≡ subject body
    → IsFromTurn turn first → IsFromTurn turn (first_left thread body first)
first_turn thread turn (ImplicitTask Begin actual index flags parallel task) first given from =
    absurd (none-some task given)
first_turn thread turn (ImplicitTask End actual index flags parallel task) first given from =
    λ t is. absurd (none-some t is)
first_turn thread turn (ImplicitTask BeginEnd actual index flags parallel task) first given from = from
first_turn thread turn (TaskCreate deps flags task child) first given from =
    from_map turn with_child first (λ t. omega arith) from
first_turn thread turn (TaskSchedule s turns prior next claimed) first given from =
    from_left turn s first from
first_turn thread turn (SyncRegion kind Begin parallel task) first given from =
    from_map turn (λ t. with_region t kind) first (λ t. omega arith) from
first_turn thread turn (SyncRegion kind End parallel task) first given from =
    from_map turn without_region first (λ t. omega arith) from
first_turn thread turn (SyncRegion kind BeginEnd parallel task) first given from = from
first_turn thread turn (Cancel flags task claimed) first given from =
    from_cancel turn (has_flag flags.0 flag.discarded_task) first from
first_turn thread turn (ThreadBegin kind) first given from = from
first_turn thread turn ThreadEnd first given from = from
first_turn thread turn (ParallelBegin requested task parallel) first given from = from
first_turn thread turn (ParallelEnd task parallel) first given from = from
first_turn thread turn (Dependences task list) first given from = from

-- of the one that it names next
second_turn : (turn : ℕ) (body : Body) (first second : Option TaskView)
    → second_given body ≡ object body → IsFromTurn turn second
    → IsFromTurn turn (second_left body first second)
second_turn turn (TaskCreate deps flags task child) first second given from = absurd (none-some child given)
second_turn turn (TaskSchedule s turns prior next claimed) first second given from =
    from_map turn after_start second start_turn from
second_turn turn _ first second given from = from

next_or_made : (body : Body) (task : ℕ) → made body ≢ Some task → object body ≡ Some task
    → second_given body ≡ object body
next_or_made (TaskCreate deps flags creator child) task other is = absurd (other is)
next_or_made (TaskSchedule s turns prior next claimed) task other is = refl
next_or_made _ task other is = absurd (none-some task is)

-- of any task that it does not make
values_turn : (values : Values) (s : Step) (task turn : ℕ) → made s.body ≢ Some task
    → IsFromTurn turn (values task) → IsFromTurn turn (values_after values s task)
values_turn values s task turn other from =
    cond_both (is_task task (subject s.body)) first rest (λ (o : Option TaskView). IsFromTurn turn o)
    (λ here.
    let names = the_one task (subject s.body) here in
    let given = given_or_made s.body task other names in
    first_turn s.thread turn s.body (value values (first_given s.body)) given
    (subst (λ (o : Option ℕ). IsFromTurn turn (value values o)) (sym (given ∙ names)) from))
    (λ apart.
    cond_both (is_task task (object s.body)) second (values task)
    (λ (o : Option TaskView). IsFromTurn turn o)
    (λ here.
    let names = the_one task (object s.body) here in
    let given = next_or_made s.body task other names in
    second_turn turn s.body (value values (first_given s.body)) (value values (second_given s.body)) given
    (subst (λ (o : Option ℕ). IsFromTurn turn (value values o)) (sym (given ∙ names)) from))
    (λ gone. from))
  where
    first : Option TaskView
    first = first_left s.thread s.body (value values (first_given s.body))

    second : Option TaskView
    second = second_left s.body (value values (first_given s.body)) (value values (second_given s.body))

    rest : Option TaskView
    rest = cond (is_task task (object s.body)) second (values task)

-- ---- more steps

-- a task that was made stays made
pub made_up_to : (steps : List Step) (task j k : ℕ) → j ≤ k → IsMadeByStep (take j steps) task
    → IsMadeByStep (take k steps) task
made_up_to steps task j k low (x, has, makes) =
    let (p, there) = contains_get (take j steps) x has in
    let (less, stands) = get_take steps j p x there in
    (x, get_contains (take k steps) x p (take_get steps k p x (omega arith) stands), makes)

-- the turn of a task that was made does not fall
pub turn_stays : (script : ScriptView) (task turn j k : ℕ) → IsScript script.steps
    → ((at : ℕ) → refused_at script at ≡ None) → IsMadeByStep (take j script.steps) task → j ≤ k
    → k ≤ length script.steps → IsFromTurn turn ((progress_to script j).values task)
    → IsFromTurn turn ((progress_to script k).values task)
turn_stays script task turn j zero is_script accepted has low within from =
    let first : j ≡ zero = omega arith in
    subst (λ n. IsFromTurn turn ((progress_to script n).values task)) first from
turn_stays script task turn j (suc k) is_script accepted has low within from = elim (cases_lt j (suc k)) [
  | inl less ↦
      let (s, is) = get_within script.steps k (omega arith) in
      let one : k + 1 ≡ suc k = omega arith in
      let before =
      turn_stays script task turn j k is_script accepted has (omega arith) (omega arith) from in
      let unmade : made s.body ≢ Some task =
      λ makes. (step_rules script.steps k s is_script is).new task makes
      (made_up_to script.steps task j k (omega arith) has) in
      subst (λ n. IsFromTurn turn ((progress_to script n).values task)) one
      (subst (λ (p : Progress). IsFromTurn turn (p.values task)) (sym (accepted_next script k s is
      (accepted k)))
      (values_turn (progress_to script k).values s task turn unmade before))
  | inr past ↦
      let last : j ≡ suc k = omega arith in
      subst (λ n. IsFromTurn turn ((progress_to script n).values task)) last from
]

-- ---- suspensions and resumptions

-- a schedule that may come has its next task, which may start
may_go : (r : RecorderView) (t : TaskView) (s : Status) (next : Option TaskView)
    → schedule_refusal r (schedule_of t s next) ≡ None
    → (has_its_next (schedule_of t s next) ≡ true) × (option_map_or (may_start r) next true ≡ true)
may_go r t s next accepted =
    let v = schedule_of t s next in
    let may = may_come r (may_schedule r v) false (is_last_turn v) (schedule_body v None) accepted in
    let start = option_map_or (may_start r) next true in
    let moved = is_some (state_moved t (states.Stopped s)) in
    let parts = and_parts (moved && has_its_next v && is_by_parent r t s) start may in
    let two = and_parts (moved && has_its_next v) (is_by_parent r t s) parts.0 in
    ((and_parts moved (has_its_next v) two.0).1, parts.1)

-- a task that begins a further turn is in it afterwards
pub resumed_value : (r : RecorderView) (body : Body) (first second : Option TaskView) (task turn : ℕ)
    → call_refusal r body first second ≡ None → id_of first ≡ first_given body → started body ≡ Some task
    → next_turn (recorded_body body first second) ≡ turn + 1
    → IsFromTurn (turn + 1) (second_left body first second)
resumed_value r (TaskSchedule s turns prior next claimed) (Some t) (Some n) task turn accepted id starts is
    u same =
    subst (λ v. turn + 1 ≤ current_turn v) (same_Some (after_start n) u same)
    (by (state_moved n states.Started) (turn_begun_next n)
    (and_parts (is_some (state_moved n states.Started)) _ (may_go r t s (Some n) accepted).1).0 is)
  where
    by : (o : Option State) (begun : Option ℕ) → is_some o ≡ true
        → option_map_or (λ (x : ℕ). x) begun 0 ≡ turn + 1 → turn + 1 ≤ current_turn (started_in n o begun)
    by (Some state) (Some m) moved begins = omega (arith, begins)
    by (Some state) None moved begins = absurd (omega (arith, begins))
    by None begun moved begins = absurd (false≢true moved)
resumed_value r (TaskSchedule s turns prior next claimed) (Some t) None task turn accepted id starts is u
    same =
    absurd (none-some u same)
resumed_value r (TaskSchedule s turns prior next claimed) None second task turn accepted id starts is u
    same =
    absurd (none-some prior id)
resumed_value r _ first second task turn accepted id starts is u same = absurd (none-some task starts)

-- a task that is suspended is in the turn that it ends
pub suspended_value : (r : RecorderView) (body : Body) (first second : Option TaskView) (task turn : ℕ)
    → call_refusal r body first second ≡ None → id_of first ≡ first_given body → suspended body ≡ Some task
    → prior_turn (recorded_body body first second) ≡ turn
    → (t : TaskView) × (first ≡ Some t) × (current_turn t ≡ turn)
suspended_value r (TaskSchedule status.Yield turns prior next claimed) (Some t) (Some n) task turn accepted id
    suspends is =
    (t, refl, is)
suspended_value r (TaskSchedule status.Yield turns prior next claimed) (Some t) None task turn accepted id
    suspends is =
    absurd (false≢true (may_go r t status.Yield None accepted).0)
suspended_value r (TaskSchedule status.Yield turns prior next claimed) None second task turn accepted id
    suspends is =
    absurd (none-some prior id)
suspended_value r (TaskSchedule status.Switch turns prior next claimed) (Some t) (Some n) task turn accepted
    id suspends is =
    (t, refl, is)
suspended_value r (TaskSchedule status.Switch turns prior next claimed) (Some t) None task turn accepted id
    suspends is =
    absurd (false≢true (may_go r t status.Switch None accepted).0)
suspended_value r (TaskSchedule status.Switch turns prior next claimed) None second task turn accepted id
    suspends is =
    absurd (none-some prior id)
suspended_value r _ first second task turn accepted id suspends is = absurd (none-some task suspends)
