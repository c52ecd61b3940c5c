-- The turns that a run of a script begins, and on which thread each task began its last one.
use Rattle.std.proofs.Common.{ℕ, zero, suc, ◌≡◌, ◌≢◌, ◌∙◌, ◌+◌, ◌<◌, ◌≤◌, ◌^◌, List, [], ◌∷◌, ◌++◌, length}
use Rattle.std.proofs.Common.{Bool, true, false, Option, Some, None, refl, sym, ap, subst, arith, inl, inr}
use Rattle.std.proofs.Common.{cond}
use Rattle.std.specs.Prelude.{◌==◌, ◌||◌, slice_get, option_map, is_some, is_none, nat_lt}
use Rattle.std.specs.Option.{option_map_or}
use Rattle.std.proofs.lemmas.Bool.{cases_Bool, cases_eq, cases_lt, or_cases, or_left, or_right, false≢true}
use Rattle.std.proofs.lemmas.Bool.{eq-eqb, and_parts}
use Rattle.std.proofs.lemmas.Option.{none-some, same_Some, slice_get_within}
use Rattle.std.proofs.lemmas.List.Sums.{fold_push}
use Rattle.ompt_events.specs.declared.records.Body.{Body}
use Rattle.ompt_events.specs.declared.records.Body.TheVariants.{ImplicitTask, TaskCreate, TaskSchedule}
use Rattle.ompt_events.specs.declared.records.Body.TheVariants.{Cancel}
use Rattle.ompt_events.specs.declared.names.Endpoint.TheVariants.{Begin, End, BeginEnd}
use Rattle.ompt_events.specs.declared.names.Status.{Status}
use Rattle.ompt_events.specs.declared.records.Record.{Record}
use Rattle.ompt_events.specs.declared.records.Turns.{Turns}
use Rattle.ompt_events.specs.declared.state.State.{State}
use Rattle.ompt_events.specs.Flags as flag
use Rattle.ompt_events.specs.Flags.{has_flag}
use Rattle.ompt_events.specs.Records.{made, begun_root, creation, started, next_turn}
use Rattle.ompt_events.specs.States as states
use Rattle.ompt_events.specs.States.{is_task}
use Rattle.ompt_events.specs.Turns.{turn_in, turn_after}
use Rattle.ompt_events.proofs.ListLemmas.{get_within}
use Rattle.ompt_events.proofs.PlaceLemmas.{is_the_task, the_task, some_of}
use Rattle.packed_trace.specs.Named.{subject, object}
use Rattle.scripts.specs.declared.script.Step.{Step}
use Rattle.scripts.specs.Scripts.{ScriptView}
use Rattle.callbacks.specs.Tasks.{TaskView, after_stop, started_in, in_state, state_moved, turn_begun_next}
use Rattle.callbacks.specs.Schedules.{may_start, turns_of, discard_body}
use Rattle.scripts.specs.RunCalls.{names_it, first_given, second_given, recorded_body, call_refusal}
use Rattle.scripts.specs.Parts.{id_of}
use Rattle.scripts.specs.Progress.{own_records, value}
use Rattle.scripts.proofs.ProgressLemmas.{own_next, own_other, record_by}
use Rattle.scripts.proofs.AcceptedLemmas.{scheduled_by}
use Rattle.scripts.proofs.ValueSteps.{IsWhole, values_at, first_at, second_at, recorder_at, step_accepts}
use Rattle.scripts.proofs.ValueSteps.{second_has, first_id_is, second_id_is, two_apart, unnamed_before}
use Rattle.scripts.proofs.ValueSteps.{comes, Comes, kept, began, created, changed, resumed, Leaves, leaves}
use Rattle.scripts.proofs.ValueSteps.{left_same, left_child, left_stopped, left_opened, left_closed}

-- ---- where a task began its last turn

-- whether the call begins a turn of the task
abbrev pub begins_turn : ℕ → Body → Bool
begins_turn task body = is_task task (started body) || is_task task (begun_root body)

-- the thread of the last of the first n steps that begins a turn of the task, if one does
abbrev pub home : List Step → ℕ → ℕ → Option ℕ
home steps task zero = None
home steps task (suc n) =
    option_map_or (λ (s : Step). cond (begins_turn task s.body) (Some s.thread) (home steps task n))
    (slice_get steps n) (home steps task n)

-- how many turns of the task the first n steps begin
abbrev pub begun : List Step → ℕ → ℕ → ℕ
begun steps task zero = 0
begun steps task (suc n) =
    option_map_or (λ (s : Step). cond (begins_turn task s.body) (suc (begun steps task n))
    (begun steps task n))
    (slice_get steps n) (begun steps task n)

pub home_next : (steps : List Step) (task n : ℕ) (s : Step) → slice_get steps n ≡ Some s
    → home steps task (suc n) ≡ cond (begins_turn task s.body) (Some s.thread) (home steps task n)
home_next steps task n s is =
    ap (λ (o : Option Step). option_map_or (λ (q : Step). cond (begins_turn task q.body) (Some q.thread)
    (home steps task n)) o (home steps task n)) is

pub begun_next : (steps : List Step) (task n : ℕ) (s : Step) → slice_get steps n ≡ Some s
    → begun steps task (suc n) ≡ cond (begins_turn task s.body) (suc (begun steps task n))
    (begun steps task n)
begun_next steps task n s is =
    ap (λ (o : Option Step). option_map_or (λ (q : Step). cond (begins_turn task q.body)
    (suc (begun steps task n)) (begun steps task n)) o (begun steps task n)) is

-- it begins one, or none
pub begins : (steps : List Step) (task n : ℕ) (s : Step) → slice_get steps n ≡ Some s
    → begins_turn task s.body ≡ true
    → (home steps task (suc n) ≡ Some s.thread) × (begun steps task (suc n) ≡ suc (begun steps task n))
begins steps task n s is holds = (
  home_next steps task n s is ∙ ap (λ b. cond b (Some s.thread) (home steps task n)) holds,
  begun_next steps task n s is ∙ ap (λ b. cond b (suc (begun steps task n)) (begun steps task n)) holds,
)

pub begins_none : (steps : List Step) (task n : ℕ) (s : Step) → slice_get steps n ≡ Some s
    → begins_turn task s.body ≡ false
    → (home steps task (suc n) ≡ home steps task n) × (begun steps task (suc n) ≡ begun steps task n)
begins_none steps task n s is fails = (
  home_next steps task n s is ∙ ap (λ b. cond b (Some s.thread) (home steps task n)) fails,
  begun_next steps task n s is ∙ ap (λ b. cond b (suc (begun steps task n)) (begun steps task n)) fails,
)

-- what begins a turn names the task
started_object : (body : Body) (task : ℕ) → started body ≡ Some task → object body ≡ Some task
started_object (TaskSchedule status turns prior next claimed) task is = is
started_object _ task is = absurd (none-some task is)

pub root_subject : (body : Body) (task : ℕ) → begun_root body ≡ Some task
    → (subject body ≡ Some task) × (made body ≡ Some task) × (first_given body ≡ None)
root_subject (ImplicitTask Begin actual index given parallel own) task is = (is, is, refl)
root_subject _ task is = absurd (none-some task is)

pub created_made : (body : Body) (parent task : ℕ) → creation body ≡ Some (parent, task)
    → (made body ≡ Some task) × (started body ≡ None) × (begun_root body ≡ None)
created_made (TaskCreate deps given own other) parent task is =
    (ap (option_map (λ (p : ℕ × ℕ). p.1)) is, refl, refl)
created_made _ parent task is = absurd (none-some (parent, task) is)

pub unnamed_begins_none : (body : Body) (task : ℕ) → names_it body task ≡ false
    → begins_turn task body ≡ false
unnamed_begins_none body task unnamed = elim (cases_Bool (begins_turn task body)) [
  | inl holds ↦ elim (or_cases (is_task task (started body)) (is_task task (begun_root body)) holds) [
    | inl starts ↦
        let named =
        or_right (is_task task (subject body)) (is_task task (object body))
        (the_task task (object body)
        (started_object body task (is_the_task task (started body) starts))) in
        absurd (false≢true (sym unnamed ∙ named))
    | inr root ↦
        let named =
        or_left (is_task task (subject body)) (is_task task (object body))
        (the_task task (subject body) (root_subject body task (is_the_task task (begun_root body) root)).0) in
        absurd (false≢true (sym unnamed ∙ named))
  ]
  | inr fails ↦ fails
]

-- a call that is given a task's value first begins no turn of it
pub given_begins_none : (script : ScriptView) (n : ℕ) (s : Step) (task : ℕ) → IsWhole script
    → slice_get script.steps n ≡ Some s → subject s.body ≡ Some task → first_given s.body ≡ Some task
    → begins_turn task s.body ≡ false
given_begins_none script n s task whole is names given = elim (cases_Bool (begins_turn task s.body)) [
  | inl holds ↦ elim (or_cases (is_task task (started s.body)) (is_task task (begun_root s.body)) holds) [
    | inl starts ↦
        absurd
        (two_apart script n s task task whole is names
        (started_object s.body task (is_the_task task (started s.body) starts)) refl)
    | inr root ↦
        absurd
        (none-some task
        (sym (root_subject s.body task (is_the_task task (begun_root s.body) root)).2 ∙ given))
  ]
  | inr fails ↦ fails
]

pub created_begins_none : (body : Body) (parent task : ℕ) → creation body ≡ Some (parent, task)
    → begins_turn task body ≡ false
created_begins_none body parent task is =
    let (makes, starts, roots) = created_made body parent task is in
    ap (λ o. is_task task o || is_task task (begun_root body)) starts ∙ ap (is_task task) roots

-- no turn of a task begins before the step that makes it
pub none_before : (script : ScriptView) (n : ℕ) (s : Step) (task : ℕ) → IsWhole script
    → slice_get script.steps n ≡ Some s → made s.body ≡ Some task
    → (begun script.steps task n ≡ 0) × (home script.steps task n ≡ None)
none_before script n s task whole is makes = up_to n (omega arith)
  where
    within : n < length script.steps
    within = slice_get_within script.steps n s is

    up_to : (k : ℕ) → k ≤ n → (begun script.steps task k ≡ 0) × (home script.steps task k ≡ None)
    up_to zero low = (refl, refl)
    up_to (suc k) low =
        let (t, there) = get_within script.steps k (omega (arith, within, low)) in
        let fails =
        unnamed_begins_none t.body task
        (unnamed_before script n k s t task whole is makes there (omega (arith, low))) in
        let (stays, keeps) = begins_none script.steps task k t there fails in
        let before = up_to k (omega (arith, low)) in
        (keeps ∙ before.0, stays ∙ before.1)

-- a task with a home began a turn, and was made before
pub home_some : (script : ScriptView) (n task thread : ℕ) → IsWhole script → n ≤ length script.steps
    → home script.steps task n ≡ Some thread
    → (k : ℕ) × (s : Step) × (k < n) × (slice_get script.steps k ≡ Some s) × (s.thread ≡ thread)
    × (begins_turn task s.body ≡ true)
    × (begun script.steps task n ≡ suc (begun script.steps task k))
home_some script zero task thread whole within has = absurd (none-some thread has)
home_some script (suc n) task thread whole within has =
    let (s, is) = get_within script.steps n (omega (arith, within)) in
    elim (cases_Bool (begins_turn task s.body)) [
      | inl holds ↦
          let (here, more) = begins script.steps task n s is holds in
          (n, s, omega arith, is, same_Some s.thread thread (sym here ∙ has), holds, more)
      | inr fails ↦
          let (stays, keeps) = begins_none script.steps task n s is fails in
          let (k, t, below, there, of, holds, count) =
          home_some script n task thread whole (omega (arith, within)) (sym stays ∙ has) in
          (k, t, omega (arith, below), there, of, holds, keeps ∙ count)
    ]

-- a step before the one that makes it is none that begins a turn; so what has a home is not made later
pub home_made : (script : ScriptView) (n : ℕ) (s : Step) (task thread : ℕ) → IsWhole script
    → slice_get script.steps n ≡ Some s → made s.body ≡ Some task → home script.steps task n ≡ Some thread → ⊥
home_made script n s task thread whole is makes has =
    none-some thread (sym (none_before script n s task whole is makes).1 ∙ has)

-- turns become no fewer
pub begun_rises : (steps : List Step) (task n m : ℕ) → n ≤ m → m ≤ length steps
    → begun steps task n ≤ begun steps task m
begun_rises steps task n zero low within =
    let same : n ≡ zero = omega (arith, low) in omega (arith, ap (begun steps task) same)
begun_rises steps task n (suc m) low within = elim (cases_lt n (suc m)) [
  | inl less ↦
      let before = begun_rises steps task n m (omega (arith, less)) (omega (arith, within)) in
      let (s, is) = get_within steps m (omega (arith, within)) in
      elim (cases_Bool (begins_turn task s.body)) [
        | inl holds ↦ omega (arith, before, (begins steps task m s is holds).1)
        | inr fails ↦ omega (arith, before, (begins_none steps task m s is fails).1)
      ]
  | inr past ↦
      let same : n ≡ suc m = omega (arith, low, past) in omega (arith, ap (begun steps task) same)
]

-- where no turn begins the home stays
pub home_stays : (steps : List Step) (task n m : ℕ) → n ≤ m → m ≤ length steps
    → begun steps task n ≡ begun steps task m → home steps task n ≡ home steps task m
home_stays steps task n zero low within same =
    let first : n ≡ zero = omega (arith, low) in ap (home steps task) first
home_stays steps task n (suc m) low within same = elim (cases_lt n (suc m)) [
  | inl less ↦
      let (s, is) = get_within steps m (omega (arith, within)) in
      let rises = begun_rises steps task n m (omega (arith, less)) (omega (arith, within)) in
      elim (cases_Bool (begins_turn task s.body)) [
        | inl holds ↦ absurd (omega (arith, rises, same, (begins steps task m s is holds).1))
        | inr fails ↦
            let (stays, keeps) = begins_none steps task m s is fails in
            home_stays steps task n m (omega (arith, less)) (omega (arith, within)) (same ∙ keeps) ∙ sym stays
      ]
  | inr past ↦ let last : n ≡ suc m = omega (arith, low, past) in ap (home steps task) last
]

-- ---- the turn of a value

-- the turn that was begun last, of so many
abbrev pub turn_from : ℕ → Option ℕ
turn_from zero = None
turn_from (suc n) = Some n

stop_turn : (t : TaskView) (status : Status) → (after_stop t status).turn ≡ t.turn
stop_turn t status = by (state_moved t (states.Stopped status))
  where
    by : (o : Option State) → (option_map_or (in_state t) o t).turn ≡ t.turn
    by None = refl
    by (Some state) = refl

leaves_turn : (task : ℕ) (body : Body) (v w : TaskView) → Leaves task body v w → w.turn ≡ v.turn
leaves_turn task body v w (left_same is none stay) = ap (λ (t : TaskView). t.turn) is
leaves_turn task body v w (left_child other is makes stay) = ap (λ (t : TaskView). t.turn) is
leaves_turn task body v w (left_stopped status next is says none stay) =
    ap (λ (t : TaskView). t.turn) is ∙ stop_turn v status
leaves_turn task body v w (left_opened kind is says none) = ap (λ (t : TaskView). t.turn) is
leaves_turn task body v w (left_closed kind is says none) = ap (λ (t : TaskView). t.turn) is

-- what an accepted schedule says of the task that runs next
pub record IsStarting (script : ScriptView) (n : ℕ) (s : Step) (task : ℕ) (v : TaskView) : Type 0 where
  pub state : State
  pub turn : ℕ
  pub moves : state_moved v states.Started ≡ Some state
  pub begins_it : turn_begun_next v ≡ Some turn
  pub next_is : next_turn (recorded_body s.body (first_at script n s) (second_at script n s)) ≡ turn

starting_by : (script : ScriptView) (n thread : ℕ) (body : Body) (first second : Option TaskView) (task : ℕ)
    (v : TaskView) → call_refusal (recorder_at script n thread) body first second ≡ None
    → id_of first ≡ first_given body → started body ≡ Some task → second ≡ Some v
    → (state : State) × (turn : ℕ) × (state_moved v states.Started ≡ Some state)
    × (turn_begun_next v ≡ Some turn) × (next_turn (recorded_body body first second) ≡ turn)
starting_by script n thread (TaskSchedule status turns prior next claimed) None second task v accepted id
    starts is =
    absurd (none-some prior id)
starting_by script n thread (TaskSchedule status turns prior next claimed) (Some t) second task v accepted id
    starts is =
    let all = scheduled_by (recorder_at script n thread) t status second accepted in
    let may = ap (λ o. option_map_or (may_start (recorder_at script n thread)) o true) (sym is)
    ∙ all.starts in
    let moves = (and_parts (is_some (state_moved v states.Started)) _ may).0 in
    let (state, moved) = some_of (state_moved v states.Started) moves in
    let another : is_none (turn_begun_next v) ≡ false =
    ap (λ o. option_map_or (λ (x : TaskView). is_none (turn_begun_next x)) o false) (sym is) ∙ all.another in
    let (turn, begins_it) = not_none (turn_begun_next v) another in (
      state,
      turn,
      moved,
      begins_it,
      ap (λ o. option_map_or (λ (x : Turns). x.next) (option_map (turns_of t) o) 0) is
          ∙ ap (λ o. option_map_or (λ (x : ℕ). x) o 0) begins_it,
    )
  where
    not_none : (o : Option ℕ) → is_none o ≡ false → (x : ℕ) × (o ≡ Some x)
    not_none None is = absurd (false≢true (sym is))
    not_none (Some x) is = (x, refl)
starting_by script n thread _ first second task v accepted id starts is = absurd (none-some task starts)

second_given_of : (body : Body) (task : ℕ) → started body ≡ Some task → second_given body ≡ Some task
second_given_of (TaskSchedule status turns prior next claimed) task is = is
second_given_of _ task is = absurd (none-some task is)

pub starting : (script : ScriptView) (n : ℕ) (s : Step) (task : ℕ) (v : TaskView) → IsWhole script
    → slice_get script.steps n ≡ Some s → started s.body ≡ Some task → values_at script n task ≡ Some v
    → IsStarting script n s task v
starting script n s task v whole is starts was =
    let second : second_at script n s ≡ Some v =
    ap (λ o. value (values_at script n) o) (second_given_of s.body task starts) ∙ was in
    let (state, turn, moved, begins_it, next_is) =
    starting_by script n s.thread s.body (first_at script n s) (second_at script n s) task v
    (step_accepts script n s whole is) (first_id_is script n s whole is) starts second in
    record { state = state; turn = turn; moves = moved; begins_it = begins_it; next_is = next_is }

-- the turn that begins is the number of those before
begun_number : (v : TaskView) (count turn : ℕ) → v.turn ≡ turn_from count → turn_begun_next v ≡ Some turn
    → turn ≡ count
begun_number v zero turn is begins_it =
    sym
    (same_Some 0 turn
    (sym (ap (λ o. option_map_or (λ t. cond (nat_lt (t + 1) (2 ^ 32)) (Some (t + 1)) None) o (Some 0)) is)
    ∙ begins_it))
begun_number v (suc n) turn is begins_it =
    by (nat_lt (n + 1) (2 ^ 32))
    (sym (ap (λ o. option_map_or (λ t. cond (nat_lt (t + 1) (2 ^ 32)) (Some (t + 1)) None) o (Some 0)) is)
    ∙ begins_it)
  where
    by : (b : Bool) → cond b (Some (n + 1)) None ≡ Some turn → turn ≡ suc n
    by true same = let one = same_Some (n + 1) turn same in omega (arith, one)
    by false none = absurd (none-some turn none)

-- the turn of a value is the last one that was begun
pub turn_is : (script : ScriptView) (n task : ℕ) (v : TaskView) → IsWhole script → n ≤ length script.steps
    → values_at script n task ≡ Some v → v.turn ≡ turn_from (begun script.steps task n)
turn_is script zero task v whole within has = absurd (none-some v has)
turn_is script (suc n) task w whole within has =
    let (s, is) = get_within script.steps n (omega (arith, within)) in
    by s is (comes script n s task w whole is has)
    (λ v was. turn_is script n task v whole (omega (arith, within)) was)
  where
    by : (s : Step) → slice_get script.steps n ≡ Some s → Comes (values_at script n) s.thread s.body task w
        → ((v : TaskView) → values_at script n task ≡ Some v → v.turn ≡ turn_from (begun script.steps task n))
        → w.turn ≡ turn_from (begun script.steps task (suc n))
    by s is (kept unnamed was) before =
        before w was
        ∙ ap turn_from
        (sym (begins_none script.steps task n s is (unnamed_begins_none s.body task unnamed)).1)
    by s is (began place given of begins_it root) before =
        let holds =
        or_right (is_task task (started s.body)) (is_task task (begun_root s.body))
        (the_task task (begun_root s.body) begins_it) in
        let none = (none_before script n s task whole is (root_subject s.body task begins_it).1).0 in
        ap (λ (t : TaskView). t.turn) root
        ∙ ap turn_from (sym ((begins script.steps task n s is holds).1 ∙ ap suc none))
    by s is (created parent u given flagged makes was id child) before =
        let none = (none_before script n s task whole is (created_made s.body parent task makes).0).0 in
        ap (λ (t : TaskView). t.turn) child
        ∙ ap turn_from
        (sym
        ((begins_none script.steps task n s is (created_begins_none s.body parent task makes)).1 ∙ none))
    by s is (changed v was id names given left) before =
        leaves_turn task s.body v w (leaves s.thread s.body task v w given left) ∙ before v was
        ∙ ap turn_from
        (sym (begins_none script.steps task n s is
        (given_begins_none script n s task whole is names given)).1)
    by s is (resumed v was id starts after) before =
        let holds =
        or_left (is_task task (started s.body)) (is_task task (begun_root s.body))
        (the_task task (started s.body) starts) in
        let go = starting script n s task v whole is starts was in
        let number = begun_number v (begun script.steps task n) go.turn (before v was) go.begins_it in
        ap (λ (t : TaskView). t.turn) after
        ∙ ap (λ (o : Option State). (started_in v o (turn_begun_next v)).turn) go.moves
        ∙ ap (λ (o : Option ℕ). (started_in v (Some go.state) o).turn) go.begins_it
        ∙ ap Some number ∙ ap turn_from (sym (begins script.steps task n s is holds).1)

-- the turn that a record begins is the number of those before
pub next_is : (script : ScriptView) (n : ℕ) (s : Step) (task : ℕ) → IsWhole script
    → slice_get script.steps n ≡ Some s → started s.body ≡ Some task
    → next_turn (recorded_body s.body (first_at script n s) (second_at script n s))
    ≡ begun script.steps task n
next_is script n s task whole is starts =
    let (v, was, id) = second_has script n s whole is task (second_given_of s.body task starts) in
    let within = slice_get_within script.steps n s is in
    let go = starting script n s task v whole is starts was in
    go.next_is
    ∙ begun_number v (begun script.steps task n) go.turn
    (turn_is script n task v whole (omega (arith, within)) was) go.begins_it

-- ---- the turn on a thread

-- what a record of a step begins
recorded_started : (script : ScriptView) (n : ℕ) (s : Step) → IsWhole script
    → slice_get script.steps n ≡ Some s
    → started (recorded_body s.body (first_at script n s) (second_at script n s)) ≡ started s.body
recorded_started script n s whole is =
    by s.body (first_at script n s) (second_at script n s) (first_id_is script n s whole is)
    (second_id_is script n s whole is)
  where
    by : (body : Body) (first second : Option TaskView) → id_of first ≡ first_given body
        → id_of second ≡ second_given body → started (recorded_body body first second) ≡ started body
    by (TaskSchedule status turns prior next claimed) (Some t) second one two = two
    by (TaskSchedule status turns prior next claimed) None second one two = absurd (none-some prior one)
    by (ImplicitTask Begin actual index given parallel own) first second one two = refl
    by (ImplicitTask End actual index given parallel own) (Some t) second one two = refl
    by (ImplicitTask End actual index given parallel own) None second one two = refl
    by (ImplicitTask BeginEnd actual index given parallel own) first second one two = refl
    by (Cancel given own claimed) (Some t) second one two = fails (has_flag given.0 flag.discarded_task)
      where
        fails : (b : Bool)
            → started (cond b (discard_body t given (Some t.claim)) (Cancel given own None)) ≡ None
        fails true = refl
        fails false = refl
    by (Cancel given own claimed) None second one two = refl
    by _ first second one two = refl

-- a record more on the thread of a step
turn_pushed : (task : ℕ) (own : List Record) (r : Record)
    → turn_in task (own ++ r ∷ []) ≡ turn_after task (turn_in task own) r
turn_pushed task own r = fold_push (turn_after task) 0 own r

turn_begun : (task turn : ℕ) (r : Record) → started r.body ≡ Some task
    → turn_after task turn r ≡ next_turn r.body
turn_begun task turn r starts =
    ap (λ o. option_map_or (λ (b : ℕ × ℕ). cond (b.0 == task) b.1 turn)
    (option_map {U = ℕ × ℕ} (λ t. (t, next_turn r.body)) o) turn) starts
    ∙ ap (λ b. cond b (next_turn r.body) turn) (eq-eqb task task refl)

turn_other : (task turn : ℕ) (r : Record) → is_task task (started r.body) ≡ false
    → turn_after task turn r ≡ turn
turn_other task turn r none = by (started r.body) none
  where
    by : (o : Option ℕ) → is_task task o ≡ false
        → option_map_or (λ (b : ℕ × ℕ). cond (b.0 == task) b.1 turn)
        (option_map {U = ℕ × ℕ} (λ t. (t, next_turn r.body)) o) turn ≡ turn
    by None fails = refl
    by (Some t) fails = ap (λ b. cond b (next_turn r.body) turn) fails

-- the turn of a task on its home is its last one, and elsewhere no later one; before it begins any it is 0
pub turn_at_home : (script : ScriptView) (n task thread : ℕ) → IsWhole script → n ≤ length script.steps
    → (begun script.steps task n ≡ 0 → turn_in task (own_records script n thread) ≡ 0)
    × (home script.steps task n ≡ Some thread
    → begun script.steps task n ≡ suc (turn_in task (own_records script n thread)))
turn_at_home script zero task thread whole within =
    (λ none. refl, λ has. absurd (none-some thread has))
turn_at_home script (suc n) task thread whole within =
    let (s, is) = get_within script.steps n (omega (arith, within)) in
    by s is (turn_at_home script n task thread whole (omega (arith, within)))
  where
    one : suc n ≡ n + 1
    one = omega arith

    turn : ℕ
    turn = turn_in task (own_records script n thread)

    -- on the thread of the step
    own_turn : (s : Step) → slice_get script.steps n ≡ Some s → s.thread ≡ thread
        → turn_in task (own_records script (suc n) thread) ≡ turn_after task turn
        (record_by s.body s.thread script.nests (own_records script n s.thread) (first_at script n s)
        (second_at script n s))
    own_turn s is of =
        ap (λ k. turn_in task (own_records script k thread)) one
        ∙ subst (λ t. turn_in task (own_records script (n + 1) t)
        ≡ turn_after task (turn_in task (own_records script n t))
        (record_by s.body s.thread script.nests (own_records script n s.thread) (first_at script n s)
        (second_at script n s))) of
        (ap (turn_in task) (own_next script n s is (whole.accepted n))
        ∙ turn_pushed task (own_records script n s.thread)
        (record_by s.body s.thread script.nests (own_records script n s.thread) (first_at script n s)
        (second_at script n s)))

    other_turn : (s : Step) → slice_get script.steps n ≡ Some s → s.thread ≢ thread
        → turn_in task (own_records script (suc n) thread) ≡ turn
    other_turn s is apart =
        ap (λ k. turn_in task (own_records script k thread)) one
        ∙ ap (turn_in task) (own_other script n s thread is apart)

    -- where the record begins no turn of the task
    unstarted : (s : Step) → slice_get script.steps n ≡ Some s → is_task task (started s.body) ≡ false
        → turn_in task (own_records script (suc n) thread) ≡ turn
    unstarted s is none = elim (cases_eq s.thread thread) [
      | inl of ↦
          own_turn s is of
          ∙ turn_other task turn
          (record_by s.body s.thread script.nests (own_records script n s.thread) (first_at script n s)
          (second_at script n s))
          (ap (is_task task) (recorded_started script n s whole is) ∙ none)
      | inr apart ↦ other_turn s is apart
    ]

    by : (s : Step) → slice_get script.steps n ≡ Some s
        → (begun script.steps task n ≡ 0 → turn ≡ 0)
        × (home script.steps task n ≡ Some thread → begun script.steps task n ≡ suc turn)
        → (begun script.steps task (suc n) ≡ 0 → turn_in task (own_records script (suc n) thread) ≡ 0)
        × (home script.steps task (suc n) ≡ Some thread
        → begun script.steps task (suc n) ≡ suc (turn_in task (own_records script (suc n) thread)))
    by s is (before, at_home) = elim (cases_Bool (is_task task (started s.body))) [
      | inl here ↦
          let starts = is_the_task task (started s.body) here in
          let holds =
          or_left (is_task task (started s.body)) (is_task task (begun_root s.body)) here in
          let (home_is, more) = begins script.steps task n s is holds in (
            λ none. absurd (omega (arith, none, more)),
            λ has.
                let of = same_Some s.thread thread (sym home_is ∙ has) in
                let r =
                record_by s.body s.thread script.nests (own_records script n s.thread) (first_at script n s)
                (second_at script n s) in
                let now : turn_in task (own_records script (suc n) thread) ≡ begun script.steps task n =
                own_turn s is of
                ∙ turn_begun task turn r (recorded_started script n s whole is ∙ starts)
                ∙ next_is script n s task whole is starts in
                omega (arith, more, now),
          )
      | inr not_started ↦ elim (cases_Bool (is_task task (begun_root s.body))) [
        | inl root ↦
            let holds =
            or_right (is_task task (started s.body)) (is_task task (begun_root s.body)) root in
            let begins_it = is_the_task task (begun_root s.body) root in
            let none = (none_before script n s task whole is (root_subject s.body task begins_it).1).0 in
            let (home_is, more) = begins script.steps task n s is holds in
            let stays = unstarted s is not_started ∙ before none in (
              λ zero_is. stays,
              λ has. omega (arith, more, none, stays),
            )
        | inr not_root ↦
            let fails : begins_turn task s.body ≡ false =
            ap (λ b. b || is_task task (begun_root s.body)) not_started ∙ not_root in
            let (stays, keeps) = begins_none script.steps task n s is fails in
            let same = unstarted s is not_started in (
              λ none. same ∙ before (sym keeps ∙ none),
              λ has. keeps ∙ at_home (sym stays ∙ has) ∙ ap suc (sym same),
            )
      ]
    ]
