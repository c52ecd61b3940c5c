-- The order of the records that recorders would make, and what a task has done before a record of it.
use Rattle.std.proofs.Common.{ℕ, zero, suc, ◌≡◌, ◌∙◌, ◌+◌, ◌<◌, ◌≤◌, List, [], ◌∷◌, ◌++◌, length, take}
use Rattle.std.proofs.Common.{Option, Some, None, Bool, true, false, refl, sym, ap, arith, inl, inr, cond}
use Rattle.std.specs.Prelude.{◌⊎◌, slice_get, option_map, is_some}
use Rattle.std.specs.Option.{option_map_or}
use Rattle.std.proofs.lemmas.Bool.{cases_lt, cases_eq, false≢true, or_left}
use Rattle.std.proofs.lemmas.Option.{none-some, same_Some, slice_get_within}
use Rattle.ompt_events.specs.declared.records.Record.{Record}
use Rattle.ompt_events.specs.declared.records.Body.{Body}
use Rattle.ompt_events.specs.declared.records.Body.TheVariants.{TaskSchedule, Cancel, ImplicitTask}
use Rattle.ompt_events.specs.declared.records.Part.{Part}
use Rattle.ompt_events.specs.declared.records.Part.TheVariants as part
use Rattle.ompt_events.specs.declared.names.Endpoint.TheVariants.{End}
use Rattle.ompt_events.specs.declared.names.Status.{Status}
use Rattle.ompt_events.specs.declared.names.Status.TheVariants as status
use Rattle.ompt_events.specs.declared.state.State.{State}
use Rattle.ompt_events.specs.declared.state.State.TheVariants.{Created, Running, Suspended, EarlyRunning}
use Rattle.ompt_events.specs.declared.state.State.TheVariants.{Detached}
use Rattle.ompt_events.specs.Flags as flag
use Rattle.ompt_events.specs.Flags.{has_flag}
use Rattle.ompt_events.specs.Names.{status_part}
use Rattle.ompt_events.specs.HappensBefore.{IsResumption}
use Rattle.ompt_events.specs.Places.{at}
use Rattle.ompt_events.specs.Records.{made, finish, schedule, started, suspended, suspended_turn}
use Rattle.ompt_events.specs.Records.{begun_turn, begun_root, prior_turn, next_turn}
use Rattle.ompt_events.specs.States as states
use Rattle.ompt_events.specs.States.{is_task, next_state_of}
use Rattle.ompt_events.proofs.ListLemmas.{get_within, get_pushed, get_last, pushed_cases}
use Rattle.ompt_events.proofs.PlaceLemmas.{at_get, get_at, the_task}
use Rattle.credit_ledger.proofs.EntryLemmas.{take_get}
use Rattle.callbacks.specs.Recorders.{RecorderView}
use Rattle.callbacks.specs.Tasks.{TaskView, current_turn, is_detached, nature, after_stop, in_state}
use Rattle.callbacks.specs.Tasks.{started_in, turn_begun_next, is_running}
use Rattle.scripts.specs.declared.script.Step.{Step}
use Rattle.scripts.specs.Parts.{id_of}
use Rattle.scripts.specs.Progress.{Values, value}
use Rattle.scripts.specs.RunCalls.{call_refusal, first_given}
use Rattle.scripts.specs.Scripts.{ScriptView}
use Rattle.scripts.proofs.AcceptedLemmas.{scheduled_by}
use Rattle.scripts.proofs.CoverLemmas.{start_state}
use Rattle.scripts.proofs.HomeLemmas.{begun, begun_rises, begins, next_is, turn_is, turn_from, starting}
use Rattle.scripts.proofs.SaidLemmas.{IsOfCall, started_called}
use Rattle.scripts.proofs.TurnLemmas.{suspended_value}
use Rattle.scripts.proofs.ValueSteps.{IsWhole, values_at, first_at, second_at, recorder_at, step_accepts}
use Rattle.scripts.proofs.ValueSteps.{first_id_is, comes, Comes, kept, began, created, changed, resumed}
use Rattle.scripts.proofs.ValueSteps.{Leaves, leaves, left_same, left_child, left_stopped, left_opened}
use Rattle.scripts.proofs.ValueSteps.{left_closed}
use Rattle.online.specs.Online.{ComesAfter}
use Rattle.online.specs.Lengths.{NamesLength}
use Rattle.online.specs.Replays.{script_of, IsReplayed}
use Rattle.online.proofs.ReplayLaw.{replayed_whole}
use Rattle.online.proofs.ReplayNames.{replayed_named, finish_called}
use Rattle.online.proofs.ReplayRecords.{of_step, says_call}

-- ---- a task resumes behind its suspension

suspended_called : IsOfCall suspended
suspended_called (ImplicitTask End actual index given parallel task) = refl
suspended_called (TaskSchedule status.Yield turns prior next claimed) = refl
suspended_called (TaskSchedule status.Switch turns prior next claimed) = refl
suspended_called (TaskSchedule _ turns prior next claimed) = refl
suspended_called (Cancel given task claimed) = refl
suspended_called _ = refl

suspended_given : (body : Body) (task : ℕ) → suspended body ≡ Some task → first_given body ≡ Some task
suspended_given (TaskSchedule status.Yield turns prior next claimed) task is = is
suspended_given (TaskSchedule status.Switch turns prior next claimed) task is = is
suspended_given _ task is = absurd (none-some task is)

pub with_turn : (o : Option ℕ) (n task turn : ℕ) → option_map {U = ℕ × ℕ} (λ t. (t, n)) o ≡ Some (task, turn)
    → (o ≡ Some task) × (n ≡ turn)
with_turn None n task turn is = absurd (none-some (task, turn) is)
with_turn (Some t) n task turn is =
    let same : (t, n) ≡ (task, turn) = same_Some (t, n) (task, turn) is in
    (ap (λ (p : ℕ × ℕ). Some p.0) same, ap (λ (p : ℕ × ℕ). p.1) same)

-- so many turns are begun as the value says, or none
few_begun : (t : TaskView) (count : ℕ) → t.turn ≡ turn_from count → count ≤ current_turn t + 1
few_begun t zero is = omega arith
few_begun t (suc n) is =
    let same : current_turn t ≡ n = ap (λ (o : Option ℕ). option_map_or (λ (k : ℕ). k) o 0) is in
    omega (arith, same)

-- how many turns of the task are begun before its suspension
before_suspension : (nests : Bool) (rs : List Record) (values : Values) (a task turn : ℕ)
    → IsReplayed nests rs values → at suspended_turn rs a ≡ Some (task, turn)
    → (a ≤ length (script_of nests rs).steps) × (begun (script_of nests rs).steps task a ≤ turn + 1)
before_suspension nests rs values a task turn replayed suspends =
    let script = script_of nests rs in
    let whole = replayed_whole nests rs values replayed in
    let (x, is, says) = get_at suspended_turn rs a (task, turn) suspends in
    let (stops, turn_x) = with_turn (suspended x.body) (prior_turn x.body) task turn says in
    let o = of_step nests rs values a x replayed is in
    let within = slice_get_within script.steps a o.step o.stands in
    let stops_step = sym (says_call suspended nests rs values a x replayed suspended_called o) ∙ stops in
    let (t, first_is, current) =
    suspended_value (recorder_at script a o.step.thread) o.step.body (first_at script a o.step)
    (second_at script a o.step) task turn (step_accepts script a o.step whole o.stands)
    (first_id_is script a o.step whole o.stands) stops_step (ap prior_turn (sym o.body_is) ∙ turn_x) in
    let was : values_at script a task ≡ Some t =
    ap (value (values_at script a)) (sym (suspended_given o.step.body task stops_step)) ∙ first_is in
    let few = few_begun t (begun script.steps task a)
    (turn_is script a task t whole (omega (arith, within)) was)
    in
    (omega (arith, within), omega (arith, few, current))

-- so many turns are begun before the one that begins there, and one more behind it
at_begin : (nests : Bool) (rs : List Record) (values : Values) (b task turn : ℕ)
    → IsReplayed nests rs values → at begun_turn rs b ≡ Some (task, turn)
    → (begun (script_of nests rs).steps task b ≡ turn)
    × (begun (script_of nests rs).steps task (suc b) ≡ suc turn)
at_begin nests rs values b task turn replayed begins_it =
    let script = script_of nests rs in
    let whole = replayed_whole nests rs values replayed in
    let (x, is, says) = get_at begun_turn rs b (task, turn) begins_it in
    let (starts, turn_x) = with_turn (started x.body) (next_turn x.body) task turn says in
    let o = of_step nests rs values b x replayed is in
    let starts_step = sym (says_call started nests rs values b x replayed started_called o) ∙ starts in
    let holds =
    or_left (is_task task (started o.step.body)) (is_task task (begun_root o.step.body))
    (the_task task (started o.step.body) starts_step) in
    let count : begun script.steps task b ≡ turn =
    sym (next_is script b o.step task whole o.stands starts_step) ∙ ap next_turn (sym o.body_is) ∙ turn_x in
    (count, (begins script.steps task b o.step o.stands holds).1 ∙ ap suc count)

-- a turn begins once
pub begins_once : (nests : Bool) (rs : List Record) (values : Values) (a b task turn : ℕ)
    → IsReplayed nests rs values → at begun_turn rs a ≡ Some (task, turn)
    → at begun_turn rs b ≡ Some (task, turn) → a < b → ⊥
begins_once nests rs values a b task turn replayed first second less =
    let steps = (script_of nests rs).steps in
    let (x, is, says) = get_at begun_turn rs b (task, turn) second in
    let o = of_step nests rs values b x replayed is in
    let within = slice_get_within steps b o.step o.stands in
    let many = (at_begin nests rs values a task turn replayed first).1 in
    let few = (at_begin nests rs values b task turn replayed second).0 in
    let rise = begun_rises steps task (suc a) b (omega (arith, less)) (omega (arith, within)) in
    omega (arith, few, many, rise)

pub replayed_resumes : (nests : Bool) (rs : List Record) (values : Values) (a b : ℕ)
    → IsReplayed nests rs values → IsResumption rs a b → a < b
replayed_resumes nests rs values a b replayed is = elim (cases_lt a b) [
  | inl less ↦ less
  | inr from ↦ elim (cases_eq a b) [
    | inl same ↦ absurd (is.another same)
    | inr apart ↦
        let steps = (script_of nests rs).steps in
        let (within, few) = before_suspension nests rs values a is.task is.turn replayed is.suspends in
        let many = (at_begin nests rs values b is.task (is.turn + 1) replayed is.resumes).1 in
        let low : suc b ≤ a = omega (arith, from, apart) in
        let rise = begun_rises steps is.task (suc b) a low within in
        absurd (omega (arith, few, many, rise))
  ]
]

-- ---- the tests by which records are watchable

pub replayed_comes : (nests : Bool) (rs : List Record) (r : Record) (values : Values)
    → IsReplayed nests (rs ++ r ∷ []) values → NamesLength rs r → ComesAfter rs r
replayed_comes nests rs r values replayed length_is = record {
  enters = length_is.enters;
  names = length_is.names;
  known = λ task has. known_by task (replayed_named nests all values (length rs) task replayed
      (r, last, has));
  suspends = λ task turn k stops begins_it.
      let (q, q_is, says) = get_at begun_turn rs k (task, turn + 1) begins_it in
      let within = slice_get_within rs k q q_is in
      let later = replayed_resumes nests all values (length rs) k replayed (record {
        task = task;
        turn = turn;
        suspends = at_get suspended_turn all (length rs) r last ∙ stops;
        resumes = at_get begun_turn all k q (get_pushed rs r q k q_is) ∙ says;
        another = λ same. absurd (omega (arith, within, same));
      }) in
      omega (arith, later, within);
}
  where
    all : List Record
    all = rs ++ r ∷ []

    last : slice_get all (length rs) ≡ Some r
    last = get_last rs r (length rs) refl

    known_by : (task : ℕ) → (k : ℕ) × (k ≤ length rs) × (at made all k ≡ Some task)
        → ((k : ℕ) × (at made rs k ≡ Some task)) ⊎ (made r.body ≡ Some task)
    known_by task (k, low, makes) =
        let (q, q_is, says) = get_at made all k task makes in
        elim (pushed_cases rs r q k q_is) [
          | inl old ↦ inl (k, at_get made rs k q old ∙ says)
          | inr (at_end, same) ↦ inr (ap (λ (x : Record). made x.body) same ∙ says)
        ]

-- ---- an event is fulfilled behind the end of the body

-- a task waits for its event where its body has ended
none_waits : (state : State) (st : Status) → (st ≡ status.Detach)
    ⊎ (option_map_or is_detached (next_state_of state st) false ≡ false)
none_waits state status.Detach = inl refl
none_waits Running status.Complete = inr refl
none_waits EarlyRunning status.Complete = inr refl
none_waits _ status.Complete = inr refl
none_waits Running status.Yield = inr refl
none_waits EarlyRunning status.Yield = inr refl
none_waits _ status.Yield = inr refl
none_waits Running status.Cancel = inr refl
none_waits _ status.Cancel = inr refl
none_waits Running status.Switch = inr refl
none_waits EarlyRunning status.Switch = inr refl
none_waits _ status.Switch = inr refl
none_waits Created status.EarlyFulfill = inr refl
none_waits Running status.EarlyFulfill = inr refl
none_waits Suspended status.EarlyFulfill = inr refl
none_waits _ status.EarlyFulfill = inr refl
none_waits Detached status.LateFulfill = inr refl
none_waits _ status.LateFulfill = inr refl
none_waits Created status.TaskwaitComplete = inr refl
none_waits _ status.TaskwaitComplete = inr refl

-- so it was before a stop, unless that ends the body
stop_waits : (v : TaskView) (st : Status) → (after_stop v st).state ≡ Detached
    → (st ≡ status.Detach) ⊎ (v.state ≡ Detached)
stop_waits v st waits = elim (none_waits v.state st) [
  | inl ends ↦ inl ends
  | inr none ↦ by (states.may (nature v) (states.Stopped st)) (next_state_of v.state st) none waits
]
  where
    by : (b : Bool) (o : Option State) → option_map_or is_detached o false ≡ false
        → (option_map_or (in_state v) (cond b o None) v).state ≡ Detached
        → (st ≡ status.Detach) ⊎ (v.state ≡ Detached)
    by false o none is = inr is
    by true None none is = inr is
    by true (Some state) none is = absurd (false≢true (sym none ∙ ap is_detached is))

detach_ends : (body : Body) (st : Status) (task : ℕ) (next : Option ℕ) → st ≡ status.Detach
    → schedule body ≡ Some (st, task, next) → finish body ≡ Some (task, part.Body)
detach_ends (TaskSchedule st2 turns prior next2 claimed) st task next ends says =
    let all : (st2, prior, next2) ≡ (st, task, next) = same_Some (st2, prior, next2) (st, task, next) says in
    ap (λ (x : Status). option_map {U = ℕ × Part} (λ p. (prior, p)) (status_part x))
    (ap (λ (p : Status × ℕ × Option ℕ). p.0) all ∙ ends)
    ∙ ap (λ (p : Status × ℕ × Option ℕ). Some (p.1, part.Body)) all
detach_ends _ st task next ends says = absurd (none-some (st, task, next) says)

-- a step before finishes the task's body
abbrev HasBodyEnded : ScriptView → ℕ → ℕ → Type 0
HasBodyEnded script n task =
    (k : ℕ) × (s : Step) × (k < n) × (slice_get script.steps k ≡ Some s)
    × (finish s.body ≡ Some (task, part.Body))

one_later : (script : ScriptView) (n task : ℕ) → HasBodyEnded script n task → HasBodyEnded script (suc n) task
one_later script n task (k, s, less, is, ends) = (k, s, omega (arith, less), is, ends)

body_ended : (script : ScriptView) (n task : ℕ) (w : TaskView) → IsWhole script → n ≤ length script.steps
    → values_at script n task ≡ Some w → w.state ≡ Detached → HasBodyEnded script n task
body_ended script zero task w whole within has waits = absurd (none-some w has)
body_ended script (suc n) task w whole within has waits =
    let (s, is) = get_within script.steps n (omega (arith, within)) in
    by s is (comes script n s task w whole is has) (λ v was detached.
    one_later script n task (body_ended script n task v whole (omega (arith, within)) was detached))
  where
    other : (state : State) → is_detached state ≡ false → w.state ≡ state → ⊥
    other state not_it same = false≢true (sym not_it ∙ ap is_detached (sym same ∙ waits))

    by : (s : Step) → slice_get script.steps n ≡ Some s → Comes (values_at script n) s.thread s.body task w
        → ((v : TaskView) → values_at script n task ≡ Some v → v.state ≡ Detached
        → HasBodyEnded script (suc n) task)
        → HasBodyEnded script (suc n) task
    by s is (kept unnamed was) before = before w was waits
    by s is (began place given of begins_it root) before =
        absurd (other Running refl (ap (λ (t : TaskView). t.state) root))
    by s is (created parent u given flagged makes was id child) before =
        absurd (other Created refl (ap (λ (t : TaskView). t.state) child))
    by s is (resumed v was id starts after) before =
        let go = starting script n s task v whole is starts was in
        let runs = (start_state v go.state go.moves).1 in
        let now : w.state ≡ go.state =
        ap (λ (t : TaskView). t.state) after
        ∙ ap (λ (o : Option State). (started_in v o (turn_begun_next v)).state) go.moves
        ∙ ap (λ (o : Option ℕ). (started_in v (Some go.state) o).state) go.begins_it in
        absurd (false≢true (ap is_running (sym waits ∙ now) ∙ runs))
    by s is (changed v was id names given left) before = left_so (leaves s.thread s.body task v w given left)
      where
        left_so : Leaves task s.body v w → HasBodyEnded script (suc n) task
        left_so (left_same is_same none stay) =
            before v was (sym (ap (λ (t : TaskView). t.state) is_same) ∙ waits)
        left_so (left_child new is_so makes stay) =
            before v was (sym (ap (λ (t : TaskView). t.state) is_so) ∙ waits)
        left_so (left_opened kind is_so says_it none) =
            before v was (sym (ap (λ (t : TaskView). t.state) is_so) ∙ waits)
        left_so (left_closed kind is_so says_it none) =
            before v was (sym (ap (λ (t : TaskView). t.state) is_so) ∙ waits)
        left_so (left_stopped st next is_so says_it none stay) = elim
            (stop_waits v st (sym (ap (λ (t : TaskView). t.state) is_so) ∙ waits)) [
              | inl ends ↦ (n, s, omega arith, is, detach_ends s.body st task next ends says_it)
              | inr waited ↦ before v was waited
            ]

-- whether it is the event that is finished
abbrev is_event_of : Option (ℕ × Part) → Bool
is_event_of (Some (task, part.Event)) = true
is_event_of _ = false

whole_no_event : (own task : ℕ)
    → ◌≡◌ {A = Option (ℕ × Part)} (Some (own, part.Whole)) (Some (task, part.Event)) → ⊥
whole_no_event own task is = false≢true (ap is_event_of is)

-- a task whose event is fulfilled after its body waits for it
late_waits : (r : RecorderView) (body : Body) (first second : Option TaskView) (task : ℕ)
    → call_refusal r body first second ≡ None → id_of first ≡ first_given body
    → finish body ≡ Some (task, part.Event)
    → (t : TaskView) × (first ≡ Some t) × (t.state ≡ Detached) × (first_given body ≡ Some task)
late_waits r (TaskSchedule status.LateFulfill told prior next c) None second task accepted id is =
    absurd (none-some prior id)
late_waits r (TaskSchedule status.LateFulfill told prior next c) (Some t) second task accepted id is = (
  t,
  refl,
  by (states.may (nature t) (states.Stopped status.LateFulfill)) t.state
      (scheduled_by r t status.LateFulfill second accepted).moved,
  ap (option_map (λ (p : ℕ × Part). p.0)) is,
)
  where
    by : (b : Bool) (state : State) → is_some (cond b (next_state_of state status.LateFulfill) None) ≡ true
        → state ≡ Detached
    by false state moves = absurd (false≢true moves)
    by true Detached moves = refl
    by true _ moves = absurd (false≢true moves)
late_waits r (TaskSchedule status.Complete told prior next c) first second task accepted id is =
    absurd (whole_no_event prior task is)
late_waits r (TaskSchedule status.Cancel told prior next c) first second task accepted id is =
    absurd (whole_no_event prior task is)
late_waits r (TaskSchedule status.TaskwaitComplete told prior next c) first second task accepted id is
    =
    absurd (whole_no_event prior task is)
late_waits r (TaskSchedule status.Detach told prior next c) first second task accepted id is =
    absurd (false≢true (ap is_event_of is))
late_waits r (TaskSchedule status.Yield told prior next c) first second task accepted id is =
    absurd (none-some (task, part.Event) is)
late_waits r (TaskSchedule status.Switch told prior next c) first second task accepted id is =
    absurd (none-some (task, part.Event) is)
late_waits r (TaskSchedule status.EarlyFulfill told prior next c) first second task accepted id is =
    absurd (none-some (task, part.Event) is)
late_waits r (Cancel given own claimed) first second task accepted id is =
    by (has_flag given.0 flag.discarded_task) is
  where
    by : (b : Bool)
        → cond {A = Option (ℕ × Part)} b (Some (own, part.Whole)) None ≡ Some (task, part.Event)
        → (t : TaskView) × (first ≡ Some t) × (t.state ≡ Detached) × (Some own ≡ Some task)
    by true whole = absurd (whole_no_event own task whole)
    by false none = absurd (none-some (task, part.Event) none)
late_waits r _ first second task accepted id is = absurd (none-some (task, part.Event) is)

pub replayed_event : (nests : Bool) (rs : List Record) (values : Values) (i : ℕ) (r : Record) (task : ℕ)
    → IsReplayed nests rs values → slice_get rs i ≡ Some r → finish r.body ≡ Some (task, part.Event)
    → (k : ℕ) × (at finish (take i rs) k ≡ Some (task, part.Body))
replayed_event nests rs values i r task replayed is finishes =
    let script = script_of nests rs in
    let whole = replayed_whole nests rs values replayed in
    let o = of_step nests rs values i r replayed is in
    let within = slice_get_within rs i r is in
    let below = slice_get_within script.steps i o.step o.stands in
    let (t, first_is, waits, given) =
    late_waits (recorder_at script i o.step.thread) o.step.body (first_at script i o.step)
    (second_at script i o.step) task (step_accepts script i o.step whole o.stands)
    (first_id_is script i o.step whole o.stands)
    (sym (says_call finish nests rs values i r replayed finish_called o) ∙ finishes) in
    let was : values_at script i task ≡ Some t =
    ap (value (values_at script i)) (sym given) ∙ first_is in
    let (k, s, less, there, ends) = body_ended script i task t whole (omega (arith, below)) was waits in
    let (q, q_is) = get_within rs k (omega (arith, less, within)) in
    let p = of_step nests rs values k q replayed q_is in
    let same : p.step ≡ s = same_Some p.step s (sym p.stands ∙ there) in (
      k,
      at_get finish (take i rs) k q (take_get rs i k q less q_is)
          ∙ says_call finish nests rs values k q replayed finish_called p
          ∙ ap (λ (x : Step). finish x.body) same ∙ ends,
    )
