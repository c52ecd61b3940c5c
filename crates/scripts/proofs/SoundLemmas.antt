-- The moves of a task, in the order of the script, are moves that its states allow.
use Rattle.std.proofs.Common.{ℕ, zero, suc, ◌≡◌, ◌∙◌, ◌<◌, ◌≤◌, List, [], ◌∷◌, ◌++◌, length, Bool, ◌⊎◌, true}
use Rattle.std.proofs.Common.{false, Option, Some, None, refl, sym, ap, subst, arith, inl, inr, cond}
use Rattle.std.specs.Prelude.{◌==◌, ◌&&◌, ◌||◌, slice_get, is_some, option_map}
use Rattle.std.specs.Option.{option_map_or}
use Rattle.std.proofs.lemmas.Bool.{cases_Bool, and_parts, eq-eqb, ne_eqb, or_left, or_right, or_cases}
use Rattle.std.proofs.lemmas.Bool.{false≢true}
use Rattle.std.proofs.lemmas.List.{append-nil}
use Rattle.std.proofs.lemmas.Option.{none-some, same_Some, slice_get_within}
use Rattle.ompt_events.specs.declared.records.Body.{Body}
use Rattle.ompt_events.specs.declared.records.Body.TheVariants.{ThreadBegin, ThreadEnd, ParallelBegin}
use Rattle.ompt_events.specs.declared.records.Body.TheVariants.{ParallelEnd, ImplicitTask, TaskCreate}
use Rattle.ompt_events.specs.declared.records.Body.TheVariants.{Dependences, TaskSchedule, SyncRegion, Cancel}
use Rattle.ompt_events.specs.declared.names.Endpoint.TheVariants.{Begin, End, BeginEnd}
use Rattle.ompt_events.specs.declared.names.Status.{Status}
use Rattle.ompt_events.specs.declared.state.State.{State}
use Rattle.ompt_events.specs.declared.state.State.TheVariants.{Created}
use Rattle.ompt_events.specs.Flags as flag
use Rattle.ompt_events.specs.Flags.{has_flag, are_named, cancel_flags}
use Rattle.ompt_events.specs.Records.{started, begun_root, creation, made}
use Rattle.ompt_events.specs.States as states
use Rattle.ompt_events.specs.States.{Move, Stopped, Started, Discarded, moves_by, is_task, state_after}
use Rattle.ompt_events.specs.States.{first_state}
use Rattle.ompt_events.proofs.ListLemmas.{get_within}
use Rattle.ompt_events.proofs.PlaceLemmas.{is_the_task, the_task, some_of}
use Rattle.packed_trace.specs.Named.{subject, object}
use Rattle.scripts.specs.declared.script.Step.{Step}
use Rattle.scripts.specs.Scripts.{ScriptView}
use Rattle.callbacks.specs.Tasks.{TaskView, nature, state_moved, after_stop, in_state, started_in}
use Rattle.callbacks.specs.Tasks.{turn_begun_next, after_start}
use Rattle.callbacks.specs.Schedules.{may_discard, comes_back, discard_refusal, discard_body}
use Rattle.callbacks.specs.Calls.{may_cancel}
use Rattle.callbacks.specs.Recorders.{RecorderView, refusal_at}
use Rattle.scripts.specs.RunCalls.{names_it, first_given, second_given, call_refusal, first_left}
use Rattle.scripts.specs.Progress.{Values, value, values_after}
use Rattle.scripts.proofs.CalledLemmas.{given_unmade}
use Rattle.scripts.proofs.ProgressLemmas.{value_first}
use Rattle.scripts.proofs.AcceptedLemmas.{allowed_by, scheduled_by}
use Rattle.scripts.proofs.HomeLemmas.{created_made, root_subject, starting}
use Rattle.scripts.proofs.MoveWords.{state_by, by_append}
use Rattle.scripts.proofs.RegionLaw.{started_object}
use Rattle.scripts.proofs.ValueSteps.{left_stopped, IsWhole, values_at, first_at, second_at, recorder_at}
use Rattle.scripts.proofs.ValueSteps.{step_accepts, first_has, second_has, first_id_is, two_apart}
use Rattle.scripts.proofs.ValueSteps.{unnamed_before, comes, Comes, values_next, kept, began, changed}
use Rattle.scripts.proofs.ValueSteps.{resumed, leaves, Leaves, left_same, left_child, left_opened}
use Rattle.scripts.proofs.ValueSteps.{left_closed}
use Rattle.scripts.proofs.ValueSteps as value_steps

-- the moves of the task that a step makes, and those of the first n steps
abbrev pub step_moves : ScriptView → ℕ → ℕ → List Move
step_moves script task n = option_map_or (λ (s : Step). moves_by task s.body) (slice_get script.steps n) []

abbrev pub word : ScriptView → ℕ → ℕ → List Move
word script task zero = []
word script task (suc n) = word script task n ++ step_moves script task n

pub moves_of_step : (script : ScriptView) (task n : ℕ) (s : Step) → slice_get script.steps n ≡ Some s
    → step_moves script task n ≡ moves_by task s.body
moves_of_step script task n s is =
    ap (λ (o : Option Step). option_map_or (λ (q : Step). moves_by task q.body) o []) is

-- ---- one step

-- the three parts of a schedule's moves
schedule_moves : (task prior : ℕ) (st : Status) (next : Option ℕ) (a b : Bool) → (prior == task) ≡ a
    → is_task task next ≡ b
    → cond (prior == task) (Stopped st ∷ []) [] ++ cond (is_task task next) (Started ∷ []) [] ++ []
    ≡ cond a (Stopped st ∷ []) [] ++ cond b (Started ∷ []) [] ++ []
schedule_moves task prior st next a b one two =
    ap (λ x. cond x (Stopped st ∷ []) [] ++ cond (is_task task next) (Started ∷ []) [] ++ []) one
    ∙ ap (λ x. cond a (Stopped st ∷ []) [] ++ cond x (Started ∷ []) [] ++ []) two

discard_moves : (task own : ℕ) (b : Bool)
    → cond (is_task task (cond b (Some own) None)) (Discarded ∷ []) []
    ≡ cond (b && (own == task)) (Discarded ∷ []) []
discard_moves task own true = refl
discard_moves task own false = refl

-- a call makes no move of a task that it does not name
pub unnamed_moves : (body : Body) (task : ℕ) → names_it body task ≡ false → moves_by task body ≡ []
unnamed_moves (TaskSchedule st turns prior next claimed) task unnamed =
    schedule_moves task prior st next false false (neither (prior == task) (is_task task next) unnamed).0
    (neither (prior == task) (is_task task next) unnamed).1
  where
    neither : (a b : Bool) → (a || b) ≡ false → (a ≡ false) × (b ≡ false)
    neither false false fails = (refl, refl)
    neither false true fails = absurd (false≢true (sym fails))
    neither true b fails = absurd (false≢true (sym fails))
unnamed_moves (Cancel given own claimed) task unnamed =
    discard_moves task own (has_flag given.0 flag.discarded_task)
    ∙ by (has_flag given.0 flag.discarded_task) (own == task) unnamed
  where
    by : (b c : Bool) → (c || false) ≡ false → cond (b && c) (Discarded ∷ []) [] ≡ []
    by true true fails = absurd (false≢true (sym fails))
    by true false fails = refl
    by false c fails = refl
unnamed_moves (ThreadBegin kind) task unnamed = refl
unnamed_moves ThreadEnd task unnamed = refl
unnamed_moves (ParallelBegin requested own parallel) task unnamed = refl
unnamed_moves (ParallelEnd own parallel) task unnamed = refl
unnamed_moves (ImplicitTask endpoint actual index given parallel own) task unnamed = refl
unnamed_moves (TaskCreate deps given own other) task unnamed = refl
unnamed_moves (Dependences own list) task unnamed = refl
unnamed_moves (SyncRegion kind endpoint parallel own) task unnamed = refl

-- what a step does to the state of the task
pub data DoesMove (script : ScriptView) (n task : ℕ) : Type 0 where
  rests : step_moves script task n ≡ []
      → ((w : TaskView) → values_at script (suc n) task ≡ Some w → (v : TaskView)
      × (values_at script n task ≡ Some v) × (w.state ≡ v.state)) → DoesMove script n task
  comes_up : step_moves script task n ≡ [] → word script task n ≡ []
      → ((w : TaskView) → values_at script (suc n) task ≡ Some w → w.state ≡ first_state (nature w))
      → DoesMove script n task
  moves : (v : TaskView) (m : Move) (after : State) → values_at script n task ≡ Some v
      → step_moves script task n ≡ m ∷ [] → state_moved v m ≡ Some after
      → ((w : TaskView) → values_at script (suc n) task ≡ Some w → w.state ≡ after) → DoesMove script n task

word_before : (script : ScriptView) (n : ℕ) (s : Step) (task : ℕ) → IsWhole script
    → slice_get script.steps n ≡ Some s → made s.body ≡ Some task → word script task n ≡ []
word_before script n s task whole is makes = up_to n (omega arith)
  where
    within : n < length script.steps
    within = slice_get_within script.steps n s is

    up_to : (k : ℕ) → k ≤ n → word script task k ≡ []
    up_to zero low = refl
    up_to (suc k) low =
        let (t, there) = get_within script.steps k (omega (arith, within, low)) in
        ap (λ l. l ++ step_moves script task k) (up_to k (omega (arith, low)))
        ∙ moves_of_step script task k t there
        ∙ unnamed_moves t.body task (unnamed_before script n k s t task whole is makes there
        (omega (arith, low)))

pub root_moves : (body : Body) (task : ℕ) → begun_root body ≡ Some task → moves_by task body ≡ []
root_moves (ImplicitTask Begin actual index given parallel own) task is = refl
root_moves _ task is = absurd (none-some task is)

creation_moves : (body : Body) (parent task : ℕ) → creation body ≡ Some (parent, task)
    → moves_by task body ≡ []
creation_moves (TaskCreate deps given own other) parent task is = refl
creation_moves _ parent task is = absurd (none-some (parent, task) is)

-- the moves of the task that a call is given first
first_moves : (r : RecorderView) (thread : ℕ) (body : Body) (second : Option TaskView) (task : ℕ)
    (v : TaskView)
    → call_refusal r body (Some v) second ≡ None → first_given body ≡ Some task → v.id ≡ task
    → (object body ≡ Some task → ⊥)
    → ((moves_by task body ≡ []) × ((w : TaskView) → first_left thread body (Some v) ≡ Some w
    → w.state ≡ v.state))
    ⊎ ((m : Move) × (after : State) × (moves_by task body ≡ m ∷ []) × (state_moved v m ≡ Some after)
    × ((w : TaskView) → first_left thread body (Some v) ≡ Some w → w.state ≡ after))
first_moves r thread (ThreadBegin kind) second task v accepted given id other = absurd (none-some task given)
first_moves r thread ThreadEnd second task v accepted given id other = absurd (none-some task given)
first_moves r thread (ParallelBegin requested own parallel) second task v accepted given id other =
    inl (refl, λ w is. ap (λ (t : TaskView). t.state) (sym (same_Some v w is)))
first_moves r thread (ParallelEnd own parallel) second task v accepted given id other =
    inl (refl, λ w is. ap (λ (t : TaskView). t.state) (sym (same_Some v w is)))
first_moves r thread (ImplicitTask Begin actual index flags parallel own) second task v accepted given id
    other =
    absurd (none-some task given)
first_moves r thread (ImplicitTask End actual index flags parallel own) second task v accepted given id
    other =
    inl (refl, λ w is. absurd (none-some w is))
first_moves r thread (ImplicitTask BeginEnd actual index flags parallel own) second task v accepted given id
    other =
    inl (refl, λ w is. ap (λ (t : TaskView). t.state) (sym (same_Some v w is)))
first_moves r thread (TaskCreate deps flags own new) second task v accepted given id other =
    inl (refl, λ w is. ap (λ (t : TaskView). t.state) (sym (same_Some _ w is)))
first_moves r thread (Dependences own list) second task v accepted given id other =
    inl (refl, λ w is. ap (λ (t : TaskView). t.state) (sym (same_Some v w is)))
first_moves r thread (SyncRegion kind Begin parallel own) second task v accepted given id other =
    inl (refl, λ w is. ap (λ (t : TaskView). t.state) (sym (same_Some _ w is)))
first_moves r thread (SyncRegion kind End parallel own) second task v accepted given id other =
    inl (refl, λ w is. ap (λ (t : TaskView). t.state) (sym (same_Some _ w is)))
first_moves r thread (SyncRegion kind BeginEnd parallel own) second task v accepted given id other =
    inl (refl, λ w is. ap (λ (t : TaskView). t.state) (sym (same_Some v w is)))
first_moves r thread (TaskSchedule st turns prior next claimed) second task v accepted given id other =
    let (after, moved) = some_of (state_moved v (Stopped st)) (scheduled_by r v st second accepted).moved in
    inr (
      Stopped st,
      after,
      schedule_moves task prior st next true false (eq-eqb prior task (same_Some prior task given))
          (not_next next other),
      moved,
      λ w is. left_state (comes_back st) after moved w is,
    )
  where
    not_next : (o : Option ℕ) → (o ≡ Some task → ⊥) → is_task task o ≡ false
    not_next None never = refl
    not_next (Some t) never = ne_eqb t task (λ e. never (ap Some e))

    left_state : (b : Bool) (after : State) → state_moved v (Stopped st) ≡ Some after → (w : TaskView)
        → cond b (Some (after_stop v st)) None ≡ Some w → w.state ≡ after
    left_state true after moved w is =
        ap (λ (t : TaskView). t.state) (sym (same_Some (after_stop v st) w is))
        ∙ ap (λ o. (option_map_or (in_state v) o v).state) moved
    left_state false after moved w none = absurd (none-some w none)
first_moves r thread (Cancel given_flags own claimed) second task v accepted given id other =
    by (has_flag given_flags.0 flag.discarded_task) refl accepted
  where
    by : (b : Bool) → has_flag given_flags.0 flag.discarded_task ≡ b
        → cond b (discard_refusal r v given_flags)
        (refusal_at r (may_cancel given_flags.0) false false (Cancel given_flags own None)) ≡ None
        → ((moves_by task (Cancel given_flags own claimed) ≡ []) × ((w : TaskView)
        → cond (has_flag given_flags.0 flag.discarded_task) None (Some v) ≡ Some w → w.state ≡ v.state))
        ⊎ ((m : Move) × (after : State) × (moves_by task (Cancel given_flags own claimed) ≡ m ∷ [])
        × (state_moved v m ≡ Some after)
        × ((w : TaskView) → cond (has_flag given_flags.0 flag.discarded_task) None (Some v) ≡ Some w
        → w.state ≡ after))
    by true flagged taken =
        let may =
        (allowed_by r (may_discard v given_flags) false false (discard_body v given_flags None)
        taken).allows_it in
        let (after, moved) =
        some_of (state_moved v Discarded) (and_parts (is_some (state_moved v Discarded)) _ may).0 in
        inr (
          Discarded,
          after,
          discard_moves task own (has_flag given_flags.0 flag.discarded_task)
              ∙ ap (λ b. cond (b && (own == task)) (Discarded ∷ []) []) flagged
              ∙ ap (λ b. cond b (Discarded ∷ []) []) (eq-eqb own task (same_Some own task given)),
          moved,
          λ w is. absurd (none-some w (sym (ap (λ b. cond b None (Some v)) flagged) ∙ is)),
        )
    by false flagged taken =
        inl (
          discard_moves task own (has_flag given_flags.0 flag.discarded_task)
              ∙ ap (λ b. cond (b && (own == task)) (Discarded ∷ []) []) flagged,
          λ w is. ap (λ (t : TaskView). t.state)
              (sym (same_Some v w (sym (ap (λ b. cond b None (Some v)) flagged) ∙ is))),
        )

pub started_moves : (body : Body) (task : ℕ) → started body ≡ Some task → (subject body ≡ Some task → ⊥)
    → moves_by task body ≡ Started ∷ []
started_moves (TaskSchedule st turns prior next claimed) task is other =
    schedule_moves task prior st next false true (ne_eqb prior task (λ e. other (ap Some e)))
    (the_task task next is)
started_moves _ task is other = absurd (none-some task is)

second_given_of : (body : Body) (task : ℕ) → started body ≡ Some task → second_given body ≡ Some task
second_given_of (TaskSchedule st turns prior next claimed) task is = is
second_given_of _ task is = absurd (none-some task is)

-- what a call names, it begins, creates, is given, or starts
how_named : (body : Body) (task : ℕ) → names_it body task ≡ true
    → ((begun_root body ≡ Some task) ⊎ ((parent : ℕ) × (creation body ≡ Some (parent, task))))
    ⊎ (((subject body ≡ Some task) × (first_given body ≡ Some task)) ⊎ (started body ≡ Some task))
how_named body task names =
    elim (or_cases (is_task task (subject body)) (is_task task (object body)) names) [
      | inl one ↦ by_subject body (is_the_task task (subject body) one)
      | inr two ↦ by_object body (is_the_task task (object body) two)
    ]
  where
    by_subject : (b : Body) → subject b ≡ Some task
        → ((begun_root b ≡ Some task) ⊎ ((parent : ℕ) × (creation b ≡ Some (parent, task))))
        ⊎ (((subject b ≡ Some task) × (first_given b ≡ Some task)) ⊎ (started b ≡ Some task))
    by_subject (ImplicitTask Begin actual index given parallel own) is = inl (inl is)
    by_subject (ImplicitTask End actual index given parallel own) is = inr (inl (is, is))
    by_subject (ImplicitTask BeginEnd actual index given parallel own) is = inr (inl (is, is))
    by_subject (ThreadBegin kind) is = absurd (none-some task is)
    by_subject ThreadEnd is = absurd (none-some task is)
    by_subject (ParallelBegin requested own parallel) is = inr (inl (is, is))
    by_subject (ParallelEnd own parallel) is = inr (inl (is, is))
    by_subject (TaskCreate deps given own other) is = inr (inl (is, is))
    by_subject (Dependences own list) is = inr (inl (is, is))
    by_subject (TaskSchedule st turns prior next claimed) is = inr (inl (is, is))
    by_subject (SyncRegion kind endpoint parallel own) is = inr (inl (is, is))
    by_subject (Cancel given own claimed) is = inr (inl (is, is))

    by_object : (b : Body) → object b ≡ Some task
        → ((begun_root b ≡ Some task) ⊎ ((parent : ℕ) × (creation b ≡ Some (parent, task))))
        ⊎ (((subject b ≡ Some task) × (first_given b ≡ Some task)) ⊎ (started b ≡ Some task))
    by_object (TaskCreate deps given own other) is =
        inl (inr (own, ap (option_map {U = ℕ × ℕ} (λ t. (own, t))) is))
    by_object (TaskSchedule st turns prior next claimed) is = inr (inr is)
    by_object _ is = absurd (none-some task is)

-- the value of a task that a step does not name
unnamed_value : (values : Values) (s : Step) (task : ℕ) → names_it s.body task ≡ false
    → values_after values s task ≡ values task
unnamed_value values s task unnamed =
    by (is_task task (subject s.body)) (is_task task (object s.body)) _ _ (values task) unnamed
  where
    by : (a b : Bool) (x y z : Option TaskView) → (a || b) ≡ false → cond a x (cond b y z) ≡ z
    by false false x y z fails = refl
    by false true x y z fails = absurd (false≢true (sym fails))
    by true b x y z fails = absurd (false≢true (sym fails))

made_names : (body : Body) (task : ℕ) → made body ≡ Some task → names_it body task ≡ true
made_names (ImplicitTask Begin actual index given parallel own) task is =
    or_left (is_task task (Some own)) false (the_task task (Some own) is)
made_names (TaskCreate deps given own other) task is =
    or_right (is_task task (Some own)) (is_task task (Some other)) (the_task task (Some other) is)
made_names _ task is = absurd (none-some task is)

started_unmade : (body : Body) (task : ℕ) → started body ≡ Some task → made body ≡ Some task → ⊥
started_unmade (TaskSchedule st turns prior next claimed) task is makes = none-some task makes
started_unmade _ task is makes = none-some task is

-- a step that does not name the task, or does
pub does_move : (script : ScriptView) (n task : ℕ) (s : Step) → IsWhole script
    → slice_get script.steps n ≡ Some s → DoesMove script n task
does_move script n task s whole is = elim (cases_Bool (names_it s.body task)) [
  | inr unnamed ↦
      rests (here ∙ unnamed_moves s.body task unnamed) (λ w has. of_unnamed unnamed w has)
  | inl names ↦ elim (how_named s.body task names) [
    | inl (inl root) ↦
        comes_up (here ∙ root_moves s.body task root)
        (word_before script n s task whole is (root_subject s.body task root).1)
        (λ w has. new_state w (comes script n s task w whole is has) (root_subject s.body task root).1)
    | inl (inr (parent, makes)) ↦
        comes_up (here ∙ creation_moves s.body parent task makes)
        (word_before script n s task whole is (created_made s.body parent task makes).0)
        (λ w has. new_state w (comes script n s task w whole is has)
        (created_made s.body parent task makes).0)
    | inr (inl (subject_is, given)) ↦
        let (v, was, id) = first_has script n s whole is task given in
        by_first given subject_is v was
        (first_moves (recorder_at script n s.thread) s.thread s.body (second_at script n s) task v
        (subst (λ o. call_refusal (recorder_at script n s.thread) s.body o (second_at script n s) ≡ None)
        (ap (value (values_at script n)) given ∙ was) (step_accepts script n s whole is)) given id
        (λ object_is. two_apart script n s task task whole is subject_is object_is refl))
    | inr (inr starts) ↦
        let (v, was, id) = second_has script n s whole is task (second_given_of s.body task starts) in
        let go = starting script n s task v whole is starts was in
        moves v Started go.state was
        (here
        ∙ started_moves s.body task starts
        (λ subject_is. two_apart script n s task task whole is subject_is (started_object s.body task starts)
        refl))
        go.moves
        (λ w has. start_after v go.state go.turn go.moves go.begins_it w
        (comes script n s task w whole is has) starts was)
  ]
]
  where
    here : step_moves script task n ≡ moves_by task s.body
    here = moves_of_step script task n s is

    of_unnamed : names_it s.body task ≡ false → (w : TaskView) → values_at script (suc n) task ≡ Some w
        → (v : TaskView) × (values_at script n task ≡ Some v) × (w.state ≡ v.state)
    of_unnamed unnamed w has =
        let was : values_at script n task ≡ Some w =
        sym (unnamed_value (values_at script n) s task unnamed) ∙ sym (values_next script n s task whole is)
        ∙ has in
        (w, was, refl)

    new_state : (w : TaskView) → Comes (values_at script n) s.thread s.body task w → made s.body ≡ Some task
        → w.state ≡ first_state (nature w)
    new_state w (began place given of begins_it root) makes =
        ap (λ (t : TaskView). t.state) root ∙ ap (λ (t : TaskView). first_state (nature t)) (sym root)
    new_state w (value_steps.created parent u given flagged makes_it was id new) makes =
        ap (λ (t : TaskView). t.state) new
        ∙ sym (first_created (has_flag given.0 flag.taskwait))
        ∙ ap (λ (t : TaskView). first_state (nature t)) (sym new)
      where
        first_created : (b : Bool) → first_state (cond b states.Wait states.Plain) ≡ Created
        first_created true = refl
        first_created false = refl
    new_state w (kept unnamed was) makes =
        absurd
        (false≢true
        (sym unnamed
        ∙ made_names s.body task makes))
    new_state w (changed v was id subject_is given leaves_it) makes =
        absurd (given_unmade s.body task given (λ a b one two. two_apart script n s a b whole is one two)
        makes)
    new_state w (resumed v was id starts after) makes = absurd (started_unmade s.body task starts makes)

    left_is : first_given s.body ≡ Some task → subject s.body ≡ Some task → (v : TaskView)
        → values_at script n task ≡ Some v → (w : TaskView) → values_at script (suc n) task ≡ Some w
        → first_left s.thread s.body (Some v) ≡ Some w
    left_is given subject_is v was w has =
        ap (first_left s.thread s.body) (sym (ap (value (values_at script n)) given ∙ was))
        ∙ sym (value_first (values_at script n) s task subject_is)
        ∙ sym (values_next script n s task whole is)
        ∙ has

    by_first : first_given s.body ≡ Some task → subject s.body ≡ Some task → (v : TaskView)
        → values_at script n task ≡ Some v
        → ((moves_by task s.body ≡ []) × ((w : TaskView) → first_left s.thread s.body (Some v) ≡ Some w
        → w.state ≡ v.state))
        ⊎ ((m : Move) × (after : State) × (moves_by task s.body ≡ m ∷ []) × (state_moved v m ≡ Some after)
        × ((w : TaskView) → first_left s.thread s.body (Some v) ≡ Some w → w.state ≡ after))
        → DoesMove script n task
    by_first given subject_is v was (inl (none, stays)) =
        rests (here ∙ none) (λ w has. (v, was, stays w (left_is given subject_is v was w has)))
    by_first given subject_is v was (inr (m, after, one, moved, goes)) =
        moves v m after was (here ∙ one) moved (λ w has. goes w (left_is given subject_is v was w has))

    start_after : (v : TaskView) (state : State) (turn : ℕ) → state_moved v Started ≡ Some state
        → turn_begun_next v ≡ Some turn → (w : TaskView)
        → Comes (values_at script n) s.thread s.body task w → started s.body ≡ Some task
        → values_at script n task ≡ Some v → w.state ≡ state
    start_after v state turn moved begins_it w (resumed u had id starts_it after) starts was =
        let one : u ≡ v = same_Some u v (sym had ∙ was) in
        ap (λ (t : TaskView). t.state) (after ∙ ap after_start one)
        ∙ ap (λ (o : Option State). (started_in v o (turn_begun_next v)).state) moved
        ∙ ap (λ (o : Option ℕ). (started_in v (Some state) o).state) begins_it
    start_after v state turn moved begins_it w (kept unnamed had) starts was =
        absurd
        (false≢true
        (sym unnamed
        ∙ or_right (is_task task (subject s.body)) (is_task task (object s.body))
        (the_task task (object s.body) (started_object s.body task starts))))
    start_after v state turn moved begins_it w (began place given of begins_root root) starts was =
        absurd (started_unmade s.body task starts (root_subject s.body task begins_root).1)
    start_after v state turn moved begins_it w (value_steps.created parent u given flagged makes had id new)
        starts was =
        absurd (started_unmade s.body task starts (created_made s.body parent task makes).0)
    start_after v state turn moved begins_it w (changed u had id subject_is given leaves_it) starts was =
        absurd (two_apart script n s task task whole is subject_is (started_object s.body task starts) refl)

-- ---- all steps

-- the moves up to each step lead to a state, which is that of the value
pub sound : (script : ScriptView) (n task : ℕ) (kind : states.Nature) → IsWhole script
    → n ≤ length script.steps
    → ((k : ℕ) (v : TaskView) → k ≤ length script.steps → values_at script k task ≡ Some v → nature v ≡ kind)
    → (st : State) × (state_by kind (Some (first_state kind)) (word script task n) ≡ Some st)
    × ((v : TaskView) → values_at script n task ≡ Some v → v.state ≡ st)
sound script zero task kind whole within natures =
    (first_state kind, refl, λ v has. absurd (none-some v has))
sound script (suc n) task kind whole within natures =
    let (s, is) = get_within script.steps n (omega (arith, within)) in
    let (st, so_far, value_is) = sound script n task kind whole (omega (arith, within)) natures in
    by st so_far value_is (does_move script n task s whole is)
  where
    word_rests : step_moves script task n ≡ [] → word script task (suc n) ≡ word script task n
    word_rests none = ap (λ l. word script task n ++ l) none ∙ append-nil (word script task n)

    by : (st : State) → state_by kind (Some (first_state kind)) (word script task n) ≡ Some st
        → ((v : TaskView) → values_at script n task ≡ Some v → v.state ≡ st) → DoesMove script n task
        → (next : State) × (state_by kind (Some (first_state kind)) (word script task (suc n)) ≡ Some next)
        × ((v : TaskView) → values_at script (suc n) task ≡ Some v → v.state ≡ next)
    by st so_far value_is (rests none stays) = (
      st,
      ap (state_by kind (Some (first_state kind))) (word_rests none) ∙ so_far,
      λ w has. let (v, was, same_state) = stays w has in same_state ∙ value_is v was,
    )
    by st so_far value_is (comes_up none empty new) = (
      st,
      ap (state_by kind (Some (first_state kind))) (word_rests none) ∙ so_far,
      λ w has.
          new w has ∙ ap first_state (natures (suc n) w within has)
          ∙ same_Some (first_state kind) st
          (sym (ap (state_by kind (Some (first_state kind))) empty) ∙ so_far),
    )
    by st so_far value_is (moves v m after was one moved goes) = (
      after,
      ap (λ l. state_by kind (Some (first_state kind)) (word script task n ++ l)) one
          ∙ by_append kind (Some (first_state kind)) (word script task n) (m ∷ [])
          ∙ ap (λ o. state_after kind o (0, m)) (so_far ∙ ap Some (sym (value_is v was)))
          ∙ ap (λ k. state_after k (Some v.state) (0, m))
          (sym (natures n v (omega (arith, within)) was)) ∙ moved,
      goes,
    )
