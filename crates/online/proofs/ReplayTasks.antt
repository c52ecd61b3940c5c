-- What the values say that are kept of the tasks, at one record more that recorders would make.
use Rattle.std.proofs.Common.{ℕ, suc, ◌≡◌, ◌∙◌, ◌+◌, ◌<◌, List, [], ◌∷◌, ◌++◌, length, take, Option}
use Rattle.std.proofs.Common.{Some, None, Bool, true, false, refl, sym, ap, subst, arith, inl, inr, cond}
use Rattle.std.specs.Prelude.{slice_get, is_some}
use Rattle.std.proofs.lemmas.Bool.{false≢true}
use Rattle.std.proofs.lemmas.List.{length_push, take_at}
use Rattle.std.proofs.lemmas.Option.{none-some, same_Some, slice_get_within}
use Rattle.ompt_events.specs.declared.records.Record.{Record}
use Rattle.ompt_events.specs.declared.records.Body.{Body}
use Rattle.ompt_events.specs.declared.records.Body.TheVariants.{ImplicitTask, TaskSchedule}
use Rattle.ompt_events.specs.declared.records.Part.{Part}
use Rattle.ompt_events.specs.declared.names.Endpoint.TheVariants.{End}
use Rattle.ompt_events.specs.declared.names.Status.TheVariants as status
use Rattle.ompt_events.specs.declared.state.State.{State}
use Rattle.ompt_events.specs.declared.state.State.TheVariants.{Detached}
use Rattle.ompt_events.specs.Places.{at}
use Rattle.ompt_events.specs.Records.{made, finish, ended_root, creation, created, started, begun_turn}
use Rattle.ompt_events.specs.Records.{wait_completed, next_turn}
use Rattle.ompt_events.specs.States as states
use Rattle.ompt_events.specs.States.{next_state_of, start_state_of}
use Rattle.ompt_events.specs.Tree.{IsParent, IsExplicit}
use Rattle.ompt_events.proofs.ListLemmas.{get_within, get_pushed, get_last, pushed_cases}
use Rattle.ompt_events.proofs.PlaceLemmas.{at_get, get_at}
use Rattle.ompt_events.proofs.RecordLemmas.{created_by}
use Rattle.packed_trace.specs.Named.{subject}
use Rattle.callbacks.specs.declared.task.Origin.{Origin}
use Rattle.callbacks.specs.declared.task.Origin.TheVariants.{Root, Explicit}
use Rattle.callbacks.specs.Recorders.{RecorderView}
use Rattle.callbacks.specs.Tasks.{TaskView, parent_of, state_moved, nature, is_running, is_detached}
use Rattle.scripts.specs.declared.script.Step.{Step}
use Rattle.scripts.specs.Parts.{id_of}
use Rattle.scripts.specs.Progress.{Values, value, progress}
use Rattle.scripts.specs.RunCalls.{call_refusal, first_given, first_left}
use Rattle.scripts.specs.Rules.{IsMadeByStep}
use Rattle.scripts.specs.Scripts.{ScriptView}
use Rattle.scripts.proofs.AcceptedLemmas.{scheduled_by}
use Rattle.scripts.proofs.CalledLemmas.{first_is_named}
use Rattle.scripts.proofs.CoverLemmas.{made_as, created_as, not_both, IsMadeAs, IsCreatedStep}
use Rattle.scripts.proofs.CoverLemmas.{second_given_of}
use Rattle.scripts.proofs.HomeLemmas.{starting}
use Rattle.scripts.proofs.ProgressLemmas.{value_first}
use Rattle.scripts.proofs.RuleLemmas.{step_rules}
use Rattle.scripts.proofs.SaidLemmas.{creation_called, started_called, wait_called}
use Rattle.scripts.proofs.ShareLaw.{IsOver, all_same}
use Rattle.scripts.proofs.TurnLemmas.{made_up_to}
use Rattle.scripts.proofs.ValueSteps.{IsWhole, values_at, first_at, second_at, recorder_at, step_accepts}
use Rattle.scripts.proofs.ValueSteps.{second_has, first_id_is, values_next}
use Rattle.online.specs.declared.replay.Replay.{Replay}
use Rattle.online.specs.Items.{HasEnded, IsUntouched}
use Rattle.online.specs.Online.{IsDependentAt}
use Rattle.online.specs.Replays.{calls_of, script_of, max_replayed, IsReplayed, IsReplayOf}
use Rattle.online.specs.Tasks.{value_of}
use Rattle.online.proofs.ReplayEnds.{over_behind, moves_explicit}
use Rattle.online.proofs.ReplayLaw.{replayed_whole}
use Rattle.online.proofs.ReplayLemmas.{calls_more, next_step}
use Rattle.online.proofs.ReplayNames.{end_called}
use Rattle.online.proofs.ReplayOrder.{with_turn}
use Rattle.online.proofs.ReplayRecords.{IsOfStep, of_step, says_call}
use Rattle.online.proofs.TakenLemmas.{calls_long}

-- recorders would make the records so far, of which this is kept, and the record behind them
pub record IsOneMore (kept : Replay) (rs : List Record) (r : Record) : Type 0 where
  pub before : IsReplayOf rs kept
  pub values : Values
  pub after : IsReplayed kept.nests (rs ++ r ∷ []) values

abbrev pub script_with : Replay → List Record → Record → ScriptView
script_with kept rs r = script_of kept.nests (rs ++ r ∷ [])

pub whole_with : (kept : Replay) (rs : List Record) (r : Record) → IsOneMore kept rs r
    → IsWhole (script_with kept rs r)
whole_with kept rs r more = replayed_whole kept.nests (rs ++ r ∷ []) more.values more.after

-- the values that are kept are those before the record's step
pub value_before : (kept : Replay) (rs : List Record) (r : Record) (task : ℕ) → IsOneMore kept rs r
    → value_of kept.tasks task ≡ values_at (script_with kept rs r) (length rs) task
value_before kept rs r task more =
    more.before.replayed.values_are task
    ∙ ap (λ steps. (progress max_replayed kept.nests steps).values task)
    (sym
    (ap (take (length rs)) (calls_more rs r)
    ∙ take_at (calls_of rs) (next_step rs r ∷ []) (length rs) (calls_long rs)))

pub steps_long : (kept : Replay) (rs : List Record) (r : Record)
    → length (script_with kept rs r).steps ≡ length rs + 1
steps_long kept rs r = calls_long (rs ++ r ∷ []) ∙ length_push rs r

record_before : (kept : Replay) (rs : List Record) (r q : Record) (k : ℕ) → IsOneMore kept rs r
    → slice_get rs k ≡ Some q → IsOfStep (script_with kept rs r) (rs ++ r ∷ []) k q
record_before kept rs r q k more is =
    of_step kept.nests (rs ++ r ∷ []) more.values k q more.after (get_pushed rs r q k is)

pub record_here : (kept : Replay) (rs : List Record) (r : Record) → IsOneMore kept rs r
    → IsOfStep (script_with kept rs r) (rs ++ r ∷ []) (length rs) r
record_here kept rs r more =
    of_step kept.nests (rs ++ r ∷ []) more.values (length rs) r more.after (get_last rs r (length rs) refl)

-- ---- tasks that are over

-- a task that is over behind a record is over before the new one
over_now : (kept : Replay) (rs : List Record) (r : Record) (k task : ℕ) → IsOneMore kept rs r → k < length rs
    → IsMadeByStep (take k (script_with kept rs r).steps) task
    → IsOver (values_at (script_with kept rs r) (suc k) task) → IsOver (value_of kept.tasks task)
over_now kept rs r k task more less makes over =
    let script = script_with kept rs r in
    let long = steps_long kept rs r in
    subst IsOver (sym (value_before kept rs r task more))
    (all_same script task (suc k) (length rs) (whole_with kept rs r more) (omega (arith, less))
    (omega (arith, long)) (made_up_to script.steps task k (suc k) (omega arith) makes) over).1

pub finished_over : (kept : Replay) (rs : List Record) (r : Record) (k task : ℕ) (p : Part)
    → IsOneMore kept rs r → at finish rs k ≡ Some (task, p) → IsOver (value_of kept.tasks task)
finished_over kept rs r k task p more finishes =
    let (q, is, says) = get_at finish rs k (task, p) finishes in
    let behind = over_behind kept.nests (rs ++ r ∷ []) more.values k q task p more.after
    (get_pushed rs r q k is) says in
    over_now kept rs r k task more (slice_get_within rs k q is) behind.makes behind.over

root_end_parts : (body : Body) (task : ℕ) (thread : ℕ) (first : Option TaskView) → ended_root body ≡ Some task
    → (subject body ≡ Some task) × (made body ≡ None) × (first_left thread body first ≡ None)
root_end_parts (ImplicitTask End actual index given parallel own) task thread first is = (is, refl, refl)
root_end_parts _ task thread first is = absurd (none-some task is)

pub ended_over : (kept : Replay) (rs : List Record) (r : Record) (k task : ℕ) → IsOneMore kept rs r
    → at ended_root rs k ≡ Some task → IsOver (value_of kept.tasks task)
ended_over kept rs r k task more ends =
    let script = script_with kept rs r in
    let whole = whole_with kept rs r more in
    let (q, is, says) = get_at ended_root rs k task ends in
    let o = record_before kept rs r q k more is in
    let ends_step = sym (says_call ended_root kept.nests (rs ++ r ∷ []) more.values k q more.after end_called
    o)
    ∙ says in
    let (names, none, left) =
    root_end_parts o.step.body task o.step.thread (first_at script k o.step) ends_step in
    let rules = step_rules script.steps k o.step whole.rules o.stands in
    over_now kept rs r k task more (slice_get_within rs k q is)
    (rules.live task (first_is_named o.step.body task names) (λ makes. none-some task (sym none ∙ makes))).0
    (λ w has. absurd (none-some w
    (sym left ∙ sym (value_first (values_at script k) o.step task names)
    ∙ sym (values_next script k o.step task whole o.stands) ∙ has)))

-- a task that runs has not ended its body
pub goes_on : (kept : Replay) (rs : List Record) (r : Record) (task : ℕ) (t : TaskView) → IsOneMore kept rs r
    → value_of kept.tasks task ≡ Some t → is_running t.state ≡ true → HasEnded rs task → ⊥
goes_on kept rs r task t more was runs (inl (k, p, finishes, other)) =
    false≢true (ap is_running (sym (finished_over kept rs r k task p more finishes t was)) ∙ runs)
goes_on kept rs r task t more was runs (inr (k, ends)) =
    false≢true (ap is_running (sym (ended_over kept rs r k task more ends t was)) ∙ runs)

-- ---- parents

-- the parent of a value created the task, by one of the records so far
pub is_parent : (kept : Replay) (rs : List Record) (r : Record) (task parent : ℕ) (t : TaskView)
    → IsOneMore kept rs r → value_of kept.tasks task ≡ Some t → parent_of t.origin ≡ Some parent
    → creation r.body ≡ None → IsParent rs parent task
is_parent kept rs r task parent t more was above none =
    let script = script_with kept rs r in
    let all = rs ++ r ∷ [] in
    let whole = whole_with kept rs r more in
    let long = steps_long kept rs r in
    let (k, s, stands, creates) =
    created_as script (length rs) task parent t whole (omega (arith, long))
    (sym (value_before kept rs r task more) ∙ was) above in
    let within = slice_get_within script.steps k s stands in
    let (q, is) = get_within all k (let one = length_push rs r in omega (arith, within, long, one)) in
    let o = of_step kept.nests all more.values k q more.after is in
    let same : o.step ≡ s = same_Some o.step s (sym o.stands ∙ stands) in
    let says = says_call creation kept.nests all more.values k q more.after creation_called o
    ∙ ap (λ (x : Step). creation x.body) same ∙ creates in
    elim (pushed_cases rs r q k is) [
      | inl old ↦ (k, at_get creation rs k q old ∙ says)
      | inr (last, is_r) ↦
          absurd (none-some (parent, task) (sym none ∙ ap (λ (x : Record). creation x.body) is_r ∙ says))
    ]

-- a task that some record creates has a parent in its value
explicit_parent : (kept : Replay) (rs : List Record) (r : Record) (task : ℕ) (t : TaskView)
    → IsOneMore kept rs r → value_of kept.tasks task ≡ Some t → IsExplicit (rs ++ r ∷ []) task
    → (parent : ℕ) × (parent_of t.origin ≡ Some parent)
explicit_parent kept rs r task t more was (k, creates) =
    let all = rs ++ r ∷ [] in
    let (q, is, says) = get_at created all k task creates in
    let (parent, creates_it) = created_by task q.body says in
    let o = of_step kept.nests all more.values k q more.after is in
    let long = steps_long kept rs r in
    by t.origin
    (made_as script (length rs) task t whole (omega (arith, long))
    (sym (value_before kept rs r task more) ∙ was))
    parent (
      k,
      o.step,
      o.stands,
      sym (says_call creation kept.nests all more.values k q more.after creation_called o)
          ∙ creates_it,
    )
  where
    script : ScriptView
    script = script_with kept rs r

    whole : IsWhole script
    whole = whole_with kept rs r more

    by : (o : Origin) → IsMadeAs script task o → (parent : ℕ) → IsCreatedStep script.steps parent task
        → (parent : ℕ) × (parent_of o ≡ Some parent)
    by (Root place) root parent created_it = absurd (not_both script parent task whole root created_it)
    by (Explicit own) made_so parent created_it = (own, refl)

-- ---- a task that must wait for its predecessors

-- it has not ended
start_waits_not : (v : TaskView) (after : State) → state_moved v states.Started ≡ Some after
    → is_detached v.state ≡ false
start_waits_not v after is = by (states.may (nature v) states.Started) v.state is
  where
    by : (b : Bool) (state : State) → cond b (start_state_of state) None ≡ Some after
        → is_detached state ≡ false
    by false state none = absurd (none-some after none)
    by true Detached none = absurd (none-some after none)
    by true _ moves = refl

wait_state : (t : TaskView) → is_some (state_moved t (states.Stopped status.TaskwaitComplete)) ≡ true
    → is_detached t.state ≡ false
wait_state t is = by (states.may (nature t) (states.Stopped status.TaskwaitComplete)) t.state is
  where
    by : (b : Bool) (state : State) → is_some (cond b (next_state_of state status.TaskwaitComplete) None)
        ≡ true
        → is_detached state ≡ false
    by false state none = absurd (false≢true none)
    by true Detached none = absurd (false≢true none)
    by true _ moves = refl

wait_moves : (r : RecorderView) (body : Body) (first second : Option TaskView) (task : ℕ)
    → call_refusal r body first second ≡ None → id_of first ≡ first_given body
    → wait_completed body ≡ Some task
    → (t : TaskView) × (first ≡ Some t) × (first_given body ≡ Some task)
    × (is_some (state_moved t (states.Stopped status.TaskwaitComplete)) ≡ true)
wait_moves r (TaskSchedule status.TaskwaitComplete turns prior next claimed) None second task accepted id is =
    absurd (none-some prior id)
wait_moves r (TaskSchedule status.TaskwaitComplete turns prior next claimed) (Some t) second task accepted id
    is =
    (t, refl, is, (scheduled_by r t status.TaskwaitComplete second accepted).moved)
wait_moves r _ first second task accepted id is = absurd (none-some task is)

started_none_created : (body : Body) (task : ℕ) → started body ≡ Some task → creation body ≡ None
started_none_created (TaskSchedule st turns prior next claimed) task is = refl
started_none_created _ task is = absurd (none-some task is)

waited_none_created : (body : Body) (task : ℕ) → wait_completed body ≡ Some task → creation body ≡ None
waited_none_created (TaskSchedule status.TaskwaitComplete turns prior next claimed) task is = refl
waited_none_created _ task is = absurd (none-some task is)

-- what is kept of such a task
pub record IsDependentValue (kept : Replay) (rs : List Record) (task : ℕ) : Type 0 where
  pub t : TaskView
  pub was : value_of kept.tasks task ≡ Some t
  pub waits_not : is_detached t.state ≡ false
  pub parent : ℕ
  pub above : parent_of t.origin ≡ Some parent
  pub created_by : IsParent rs parent task

pub dependent_value : (kept : Replay) (rs : List Record) (r : Record) (task : ℕ) → IsOneMore kept rs r
    → IsDependentAt (rs ++ r ∷ []) (length rs) task → IsDependentValue kept rs task
dependent_value kept rs r task more (inl (explicit, starts)) =
    let script = script_with kept rs r in
    let all = rs ++ r ∷ [] in
    let whole = whole_with kept rs r more in
    let o = record_here kept rs r more in
    let begins_it = sym (at_get begun_turn all (length rs) r (get_last rs r (length rs) refl))
    ∙ starts.starts in
    let starts_it = (with_turn (started r.body) (next_turn r.body) task 0 begins_it).0 in
    let starts_step =
    sym (says_call started kept.nests all more.values (length rs) r more.after started_called o)
    ∙ starts_it in
    let (v, has, id) =
    second_has script (length rs) o.step whole o.stands task (second_given_of o.step.body task starts_step) in
    let go = starting script (length rs) o.step task v whole o.stands starts_step has in
    let was = value_before kept rs r task more ∙ has in
    let (parent, above) = explicit_parent kept rs r task v more was explicit in
    record {
      t = v;
      was = was;
      waits_not = start_waits_not v go.state go.moves;
      parent = parent;
      above = above;
      created_by =
          is_parent kept rs r task parent v more was above (started_none_created r.body task starts_it);
    }
dependent_value kept rs r task more (inr waits) =
    let script = script_with kept rs r in
    let all = rs ++ r ∷ [] in
    let whole = whole_with kept rs r more in
    let o = record_here kept rs r more in
    let waits_it = sym (at_get wait_completed all (length rs) r (get_last rs r (length rs) refl)) ∙ waits in
    let waits_step =
    sym (says_call wait_completed kept.nests all more.values (length rs) r more.after wait_called o)
    ∙ waits_it
    in
    let (v, first_is, given, moves) =
    wait_moves (recorder_at script (length rs) o.step.thread) o.step.body (first_at script (length rs) o.step)
    (second_at script (length rs) o.step) task (step_accepts script (length rs) o.step whole o.stands)
    (first_id_is script (length rs) o.step whole o.stands) waits_step in
    let was =
    value_before kept rs r task more ∙ ap (value (values_at script (length rs))) (sym given) ∙ first_is in
    let (parent, above) = moves_explicit v (states.Stopped status.TaskwaitComplete) refl moves in
    record {
      t = v;
      was = was;
      waits_not = wait_state v moves;
      parent = parent;
      above = above;
      created_by =
          is_parent kept rs r task parent v more was above (waited_none_created r.body task waits_it);
    }

-- no record before finishes a part of it
pub dependent_untouched : (kept : Replay) (rs : List Record) (r : Record) (task : ℕ) → IsOneMore kept rs r
    → IsDependentAt (rs ++ r ∷ []) (length rs) task → IsUntouched rs task
dependent_untouched kept rs r task more dependent k p finishes =
    let it = dependent_value kept rs r task more dependent in
    false≢true
    (sym it.waits_not ∙ ap is_detached (finished_over kept rs r k task p more finishes it.t it.was))
