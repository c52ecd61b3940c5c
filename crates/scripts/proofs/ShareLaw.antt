-- The claims of a run are right.
use Rattle.std.proofs.Common.{ℕ, zero, suc, ◌≡◌, ◌∙◌, ◌+◌, ◌<◌, ◌≤◌, List, [], length, take, Bool, true}
use Rattle.std.proofs.Common.{false, Option, Some, None, refl, sym, ap, subst, arith, inl, inr, cond}
use Rattle.std.specs.Prelude.{slice_get, option_map, is_some}
use Rattle.std.specs.List.{filter_map}
use Rattle.std.specs.Option.{option_map_or}
use Rattle.std.proofs.lemmas.Bool.{cases_eq, cases_lt, and_parts, false≢true}
use Rattle.std.proofs.lemmas.List.{length_push}
use Rattle.std.proofs.lemmas.Option.{none-some, same_Some}
use Rattle.ompt_events.specs.declared.records.Record.{Record}
use Rattle.ompt_events.specs.declared.records.Body.{Body}
use Rattle.ompt_events.specs.declared.records.Body.TheVariants.{ImplicitTask, TaskCreate, TaskSchedule}
use Rattle.ompt_events.specs.declared.records.Body.TheVariants.{Cancel}
use Rattle.ompt_events.specs.declared.records.Claim.{Claim}
use Rattle.ompt_events.specs.declared.records.Part.{Part}
use Rattle.ompt_events.specs.declared.records.Part.TheVariants.{Whole}
use Rattle.ompt_events.specs.declared.names.Endpoint.TheVariants.{Begin, End}
use Rattle.ompt_events.specs.declared.names.Status.{Status}
use Rattle.ompt_events.specs.declared.names.Status.TheVariants as status
use Rattle.ompt_events.specs.declared.state.State.{State}
use Rattle.ompt_events.specs.declared.state.State.TheVariants.{Created, Running, Suspended, EarlyRunning}
use Rattle.ompt_events.specs.declared.state.State.TheVariants.{EarlyWaiting, Detached, Done}
use Rattle.ompt_events.specs.declared.cause.Cause.TheVariants.{ShareWrong}
use Rattle.ompt_events.specs.Causes.{HasCause, ShowsNowhere, IsRightClaim, share_wrong}
use Rattle.ompt_events.specs.Flags as flag
use Rattle.ompt_events.specs.Flags.{has_flag, task_flags, are_named}
use Rattle.ompt_events.specs.Names.{status_part}
use Rattle.ompt_events.specs.Places.{at}
use Rattle.ompt_events.specs.Records.{creation, begun_root, made, finish, claim, schedule}
use Rattle.ompt_events.specs.States as states
use Rattle.ompt_events.specs.Tree.{HasPath, child_at, children, children_before, top, below}
use Rattle.ompt_events.specs.Turns.{own_place}
use Rattle.ompt_events.proofs.ListLemmas.{get_within, get_last}
use Rattle.ompt_events.proofs.PlaceLemmas.{at_get, at_within}
use Rattle.ompt_events.proofs.TreeLemmas.{children_same, children_more, children_stay, child_at_none}
use Rattle.ompt_events.proofs.TreeLemmas.{child_at_other}
use Rattle.packed_trace.specs.Named.{subject}
use Rattle.task_tree.proofs.RenamedCauseLemmas.{moved_share}
use Rattle.scripts.specs.declared.script.Step.{Step}
use Rattle.scripts.specs.Scripts.{ScriptView}
use Rattle.scripts.proofs.RuleLemmas.{step_rules}
use Rattle.callbacks.specs.Tasks.{TaskView, after_stop, after_start, in_state, started_in, state_moved}
use Rattle.callbacks.specs.Tasks.{turn_begun_next, may_create, is_running, is_deep, is_crowded, nature}
use Rattle.callbacks.specs.Schedules.{discard_body, with_discarded, comes_back}
use Rattle.callbacks.specs.Recorders.{RecorderView}
use Rattle.scripts.specs.RunCalls.{first_given, first_left, recorded_body}
use Rattle.scripts.specs.RunCalls.{call_refusal}
use Rattle.scripts.specs.Parts.{id_of}
use Rattle.scripts.specs.Progress.{value}
use Rattle.scripts.proofs.CalledLemmas.{first_is_named}
use Rattle.scripts.proofs.HandOverLemmas.{AreRecords}
use Rattle.scripts.proofs.ProgressLemmas.{given_first, value_first}
use Rattle.scripts.proofs.TurnLemmas.{made_up_to}
use Rattle.scripts.specs.Rules.{IsMadeByStep}
use Rattle.scripts.proofs.AcceptedLemmas.{allowed_by, scheduled_by}
use Rattle.scripts.proofs.HomeLemmas.{created_made, root_subject, starting}
use Rattle.scripts.proofs.OrderedLemmas.{scripted_get, scripted_length, record_at, whole_script}
use Rattle.scripts.proofs.OrderedLemmas.{own_reordered, own_step}
use Rattle.scripts.proofs.RegionLaw.{step_says, unnamed_subject, created_object, started_object}
use Rattle.scripts.proofs.RegionLaw.{none_own_before}
use Rattle.scripts.proofs.SaidLemmas.{creation_called, root_called}
use Rattle.scripts.proofs.ValueSteps.{left_stopped, IsWhole, values_at, first_at, second_at, recorder_at}
use Rattle.scripts.proofs.ValueSteps.{step_accepts, first_has, first_id_is, two_apart, comes, Comes, kept}
use Rattle.scripts.proofs.ValueSteps.{began, values_next, changed, resumed, Leaves, leaves, left_same}
use Rattle.scripts.proofs.ValueSteps.{left_child, left_opened, left_closed}
use Rattle.scripts.proofs.ValueSteps as value_steps

-- ---- the children that a task has created

creator_subject : (body : Body) (own other : ℕ) → creation body ≡ Some (own, other) → subject body ≡ Some own
creator_subject (TaskCreate deps given parent task) own other is = ap (option_map (λ (p : ℕ × ℕ). p.0)) is
creator_subject _ own other is = absurd (none-some (own, other) is)

creator_given : (body : Body) (own other : ℕ) → creation body ≡ Some (own, other)
    → first_given body ≡ Some own
creator_given (TaskCreate deps given parent task) own other is = ap (option_map (λ (p : ℕ × ℕ). p.0)) is
creator_given _ own other is = absurd (none-some (own, other) is)

root_creates_none : (body : Body) (task : ℕ) → begun_root body ≡ Some task → creation body ≡ None
root_creates_none (ImplicitTask Begin actual index given parallel own) task is = refl
root_creates_none _ task is = absurd (none-some task is)

-- a task has as many children as before after a step that creates none of it
no_child_more : (script : ScriptView) (task n : ℕ) (s : Step) → IsWhole script
    → slice_get script.steps n ≡ Some s → ((new : ℕ) → creation s.body ≡ Some (task, new) → ⊥)
    → children_before (whole_script script) task (n + 1) ≡ children_before (whole_script script) task n
no_child_more script task n s whole is other = by (creation s.body) refl
  where
    rs : List Record
    rs = whole_script script

    there : at creation rs n ≡ creation s.body
    there = step_says creation script n s whole creation_called is

    by : (o : Option (ℕ × ℕ)) → creation s.body ≡ o
        → children_before rs task (n + 1) ≡ children_before rs task n
    by None none = children_same rs task n (child_at_none rs task n (there ∙ none))
    by (Some (own, new)) makes = elim (cases_eq own task) [
      | inl same_task ↦ absurd (other new (makes ∙ ap (λ t. Some (t, new)) same_task))
      | inr apart ↦ children_same rs task n (child_at_other rs task own new n (there ∙ makes) apart)
    ]

-- so after one that does not name it first
not_creator : (script : ScriptView) (task n : ℕ) (s : Step) → IsWhole script
    → slice_get script.steps n ≡ Some s → (subject s.body ≡ Some task → ⊥)
    → children_before (whole_script script) task (n + 1) ≡ children_before (whole_script script) task n
not_creator script task n s whole is other =
    no_child_more script task n s whole is (λ new makes. other (creator_subject s.body task new makes))

creates_none : (script : ScriptView) (task n : ℕ) (s : Step) → IsWhole script
    → slice_get script.steps n ≡ Some s → creation s.body ≡ None
    → children_before (whole_script script) task (n + 1) ≡ children_before (whole_script script) task n
creates_none script task n s whole is none =
    no_child_more script task n s whole is (λ new makes. none-some (task, new) (sym none ∙ makes))

-- a task that a step makes has no children before
none_yet : (script : ScriptView) (n : ℕ) (s : Step) (task : ℕ) → IsWhole script
    → slice_get script.steps n ≡ Some s → made s.body ≡ Some task
    → children_before (whole_script script) task n ≡ []
none_yet script n s task whole is makes =
    ap (filter_map (child_at (whole_script script) task)) (none_own_before script n s task whole is makes)

-- a child keeps its number among all
stays_child : (rs : List Record) (parent n m number task : ℕ) → n ≤ m
    → slice_get (children_before rs parent n) number ≡ Some task
    → slice_get (children_before rs parent m) number ≡ Some task
stays_child rs parent n zero number task low is =
    let same_place : n ≡ zero = omega (arith, low) in
    subst (λ k. slice_get (children_before rs parent k) number ≡ Some task) same_place is
stays_child rs parent n (suc m) number task low is = elim (cases_lt n (suc m)) [
  | inl less ↦
      let one : m + 1 ≡ suc m = omega arith in
      subst (λ k. slice_get (children_before rs parent k) number ≡ Some task) one
      (children_stay rs parent m number task
      (stays_child rs parent n m number task (omega (arith, less)) is))
  | inr past ↦
      let last : n ≡ suc m = omega (arith, low, past) in
      subst (λ k. slice_get (children_before rs parent k) number ≡ Some task) last is
]

-- ---- the claim of a value

-- the path is that of the task below its root, and it has so many children so far
pub record IsClaimOf (script : ScriptView) (n task : ℕ) (claimed : Claim) : Type 0 where
  pub path : HasPath (whole_script script) claimed.root task claimed.path
  pub kept_is : claimed.kept ≡ length (children_before (whole_script script) task n)

pub stop_claim : (t : TaskView) (st : Status) → (after_stop t st).claim ≡ t.claim
stop_claim t st = by (state_moved t (states.Stopped st))
  where
    by : (o : Option State) → (option_map_or (in_state t) o t).claim ≡ t.claim
    by None = refl
    by (Some state) = refl

pub start_claim : (t : TaskView) → (after_start t).claim ≡ t.claim
start_claim t = by (state_moved t states.Started) (turn_begun_next t)
  where
    by : (o : Option State) (turn : Option ℕ) → (started_in t o turn).claim ≡ t.claim
    by None turn = refl
    by (Some state) None = refl
    by (Some state) (Some turn) = refl

pub claim_is : (script : ScriptView) (n task : ℕ) (v : TaskView) → IsWhole script → n ≤ length script.steps
    → values_at script n task ≡ Some v → IsClaimOf script n task v.claim
claim_is script zero task v whole within has = absurd (none-some v has)
claim_is script (suc n) task w whole within has =
    let (s, is) = get_within script.steps n (omega (arith, within)) in
    by s is (comes script n s task w whole is has)
    (λ t v was. claim_is script n t v whole (omega (arith, within)) was)
  where
    rs : List Record
    rs = whole_script script

    one : n + 1 ≡ suc n
    one = omega arith

    stays : (w v : TaskView) → children_before rs task (n + 1) ≡ children_before rs task n
        → w.claim ≡ v.claim → IsClaimOf script n task v.claim → IsClaimOf script (suc n) task w.claim
    stays w v no_more same_claim claimed =
        subst (IsClaimOf script (suc n) task) (sym same_claim) (record {
          path = claimed.path;
          kept_is = claimed.kept_is
              ∙ ap length (sym no_more ∙ ap (children_before rs task) one);
        })

    by : (s : Step) → slice_get script.steps n ≡ Some s → Comes (values_at script n) s.thread s.body task w
        → ((t : ℕ) (v : TaskView) → values_at script n t ≡ Some v → IsClaimOf script n t v.claim)
        → IsClaimOf script (suc n) task w.claim
    by s is (kept unnamed was) before =
        stays w w (not_creator script task n s whole is (unnamed_subject s.body task unnamed)) refl
        (before task w was)
    by s is (began place given of begins_it root) before =
        subst (λ (t : TaskView). IsClaimOf script (suc n) task t.claim) (sym root) (record {
          path = top (n, step_says begun_root script n s whole root_called is ∙ begins_it);
          kept_is =
              ap length
              (sym
              (sym (ap (children_before rs task) one)
              ∙ creates_none script task n s whole is (root_creates_none s.body task begins_it)
              ∙ none_yet script n s task whole is (root_subject s.body task begins_it).1));
        })
    by s is (value_steps.created parent u given flagged makes was id new) before =
        let claimed = before parent u was in
        let there : at creation rs n ≡ Some (parent, task) =
        step_says creation script n s whole creation_called is ∙ makes in
        let more = children_more rs parent task n there in
        let within_n : n < length rs =
        at_within creation rs n (parent, task) there in
        let number : slice_get (children rs parent) u.claim.kept ≡ Some task =
        stays_child rs parent (n + 1) (length rs) u.claim.kept task (omega (arith, within_n))
        (ap (λ l. slice_get l u.claim.kept) more
        ∙ get_last (children_before rs parent n) task u.claim.kept claimed.kept_is) in
        subst (λ (t : TaskView). IsClaimOf script (suc n) task t.claim) (sym new) (record {
          path = below u.claim.kept claimed.path number;
          kept_is =
              ap length
              (sym
              (sym (ap (children_before rs task) one)
              ∙ not_creator script task n s whole is
              (λ names. two_apart script n s task task whole is names
              (created_object s.body parent task makes)
              refl)
              ∙ none_yet script n s task whole is (created_made s.body parent task makes).0));
        })
    by s is (resumed v was id starts after) before =
        stays w v
        (not_creator script task n s whole is
        (λ names. two_apart script n s task task whole is names (started_object s.body task starts) refl))
        (ap (λ (t : TaskView). t.claim) after ∙ start_claim v) (before task v was)
    by s is (changed v was id names given leaves_it) before =
        left_so (leaves s.thread s.body task v w given leaves_it)
      where
        left_so : Leaves task s.body v w → IsClaimOf script (suc n) task w.claim
        left_so (left_same is_same none stay) =
            stays w v (creates_none script task n s whole is none) (ap (λ (t : TaskView). t.claim) is_same)
            (before task v was)
        left_so (left_stopped st next is_so says_it none stay) =
            stays w v (creates_none script task n s whole is none)
            (ap (λ (t : TaskView). t.claim) is_so ∙ stop_claim v st) (before task v was)
        left_so (left_opened kind is_so says_it none) =
            stays w v (creates_none script task n s whole is none) (ap (λ (t : TaskView). t.claim) is_so)
            (before task v was)
        left_so (left_closed kind is_so says_it none) =
            stays w v (creates_none script task n s whole is none) (ap (λ (t : TaskView). t.claim) is_so)
            (before task v was)
        left_so (left_child other is_so makes stay) =
            let claimed = before task v was in
            let more =
            children_more rs task other n (step_says creation script n s whole creation_called is ∙ makes) in
            subst (λ (t : TaskView). IsClaimOf script (suc n) task t.claim) (sym is_so) (record {
              path = claimed.path;
              kept_is =
                  ap (λ k. k + 1) claimed.kept_is
                  ∙ sym (length_push (children_before rs task n) other)
                  ∙ ap length (sym more ∙ ap (children_before rs task) one);
            })

-- ---- a finished task creates no more

-- it is gone, or its body has ended and its event is awaited
abbrev pub IsOver : Option TaskView → Type 0
IsOver o = (t : TaskView) → o ≡ Some t → t.state ≡ Detached

-- a task that creates runs
creator_runs : (r : RecorderView) (body : Body) (first second : Option TaskView) (own other : ℕ)
    → call_refusal r body first second ≡ None → id_of first ≡ first_given body
    → creation body ≡ Some (own, other) → (t : TaskView) → first ≡ Some t → is_running t.state ≡ true
creator_runs r (TaskCreate deps given parent task) (Some u) second own other accepted id makes t is =
    subst (λ (x : TaskView). is_running x.state ≡ true) (same_Some u t is)
    (and_parts (are_named task_flags given.0) (is_running u.state)
    (allowed_by r (may_create u given) (is_deep u) (is_crowded u) (TaskCreate deps given parent task)
    accepted).allows_it).1
creator_runs r (TaskCreate deps given parent task) None second own other accepted id makes t is =
    absurd (none-some t is)
creator_runs r _ first second own other accepted id makes t is = absurd (none-some (own, other) makes)

detached_stays : (t : TaskView) (st : Status) → t.state ≡ Detached → comes_back st ≡ true
    → (after_stop t st).state ≡ Detached
detached_stays t st detached back =
    by (states.may (nature t) (states.Stopped st)) (none_after st back)
    (ap (λ state. states.next_state_of state st) detached)
  where
    none_after : (s : Status) → comes_back s ≡ true → states.next_state_of Detached s ≡ None
    none_after status.Yield is = refl
    none_after status.Switch is = refl
    none_after status.EarlyFulfill is = refl
    none_after status.Detach is = refl
    none_after status.Complete is = absurd (false≢true is)
    none_after status.Cancel is = absurd (false≢true is)
    none_after status.LateFulfill is = absurd (false≢true is)
    none_after status.TaskwaitComplete is = absurd (false≢true is)

    by : (b : Bool) → states.next_state_of Detached st ≡ None
        → states.next_state_of t.state st ≡ states.next_state_of Detached st
        → (option_map_or (in_state t) (cond b (states.next_state_of t.state st) None) t).state ≡ Detached
    by true none same_next =
        ap (λ o. (option_map_or (in_state t) o t).state) (same_next ∙ none) ∙ detached
    by false none same_next = detached

-- a step leaves it so
over_next : (script : ScriptView) (n task : ℕ) (s : Step) → IsWhole script → slice_get script.steps n ≡ Some s
    → IsMadeByStep (take n script.steps) task → IsOver (values_at script n task)
    → IsOver (values_at script (suc n) task)
over_next script n task s whole is was_made over w has = by (comes script n s task w whole is has)
  where
    by : Comes (values_at script n) s.thread s.body task w → w.state ≡ Detached
    by (kept unnamed was) = over w was
    by (began place given of begins_it root) =
        absurd
        ((step_rules script.steps n s whole.rules is).new task (root_subject s.body task begins_it).1
        was_made)
    by (value_steps.created parent u given flagged makes was id new) =
        absurd
        ((step_rules script.steps n s whole.rules is).new task (created_made s.body parent task makes).0
        was_made)
    by (resumed v was id starts after) =
        let go = starting script n s task v whole is starts was in
        absurd (none-some go.state (sym (no_start v (over v was)) ∙ go.moves))
      where
        no_start : (t : TaskView) → t.state ≡ Detached → state_moved t states.Started ≡ None
        no_start t detached =
            either_none (states.may (nature t) states.Started)
            (ap states.start_state_of detached)
          where
            either_none : (b : Bool) → states.start_state_of t.state ≡ states.start_state_of Detached
                → cond b (states.start_state_of t.state) None ≡ None
            either_none true none = none
            either_none false none = refl
    by (changed v was id names given leaves_it) =
        left_so (leaves s.thread s.body task v w given leaves_it)
      where
        left_so : Leaves task s.body v w → w.state ≡ Detached
        left_so (left_same is_same none stay) = ap (λ (t : TaskView). t.state) is_same ∙ over v was
        left_so (left_child other is_so makes stay) = ap (λ (t : TaskView). t.state) is_so ∙ over v was
        left_so (left_opened kind is_so says_it none) = ap (λ (t : TaskView). t.state) is_so ∙ over v was
        left_so (left_closed kind is_so says_it none) = ap (λ (t : TaskView). t.state) is_so ∙ over v was
        left_so (left_stopped st next is_so says_it none stay) =
            ap (λ (t : TaskView). t.state) is_so
            ∙ detached_stays v st (over v was) (back_of s.body st next says_it leaves_it)
          where
            back_of : (body : Body) (st2 : Status) (next2 : Option ℕ)
                → schedule body ≡ Some (st2, task, next2)
                → first_left s.thread body (Some v) ≡ Some w → comes_back st2 ≡ true
            back_of (TaskSchedule given_st turns prior after_it claimed) st2 next2 tells left_is =
                let same_status = ap (λ (p : Status × ℕ × Option ℕ). p.0)
                (same_Some (given_st, prior, after_it) (st2, task, next2) tells) in
                ap comes_back (sym same_status) ∙ holds (comes_back given_st) refl left_is
              where
                holds : (b : Bool) → comes_back given_st ≡ b
                    → cond b (Some (after_stop v given_st)) None ≡ Some w → comes_back given_st ≡ true
                holds true equal found = equal
                holds false equal none_left = absurd (none-some w none_left)
            back_of _ st2 next2 tells left_is = absurd (none-some (st2, task, next2) tells)

-- and creates no child
over_same : (script : ScriptView) (n task : ℕ) (s : Step) → IsWhole script → slice_get script.steps n ≡ Some s
    → IsOver (values_at script n task)
    → children_before (whole_script script) task (n + 1) ≡ children_before (whole_script script) task n
over_same script n task s whole is over = no_child_more script task n s whole is creates
  where
    creates : (new : ℕ) → creation s.body ≡ Some (task, new) → ⊥
    creates new makes =
        let names = creator_given s.body task new makes in
        let (v, was, id) = first_has script n s whole is task names in
        let runs =
        creator_runs (recorder_at script n s.thread) s.body (first_at script n s) (second_at script n s) task
        new (step_accepts script n s whole is) (first_id_is script n s whole is) makes v
        (ap (value (values_at script n)) names ∙ was) in
        false≢true (ap is_running (sym (over v was)) ∙ runs)

pub all_same : (script : ScriptView) (task n m : ℕ) → IsWhole script → n ≤ m → m ≤ length script.steps
    → IsMadeByStep (take n script.steps) task → IsOver (values_at script n task)
    → (children_before (whole_script script) task m ≡ children_before (whole_script script) task n)
    × IsOver (values_at script m task)
all_same script task n zero whole low within was_made over =
    let first : n ≡ zero = omega (arith, low) in (
      ap (children_before (whole_script script) task) (sym first),
      subst (λ k. IsOver (values_at script k task)) first over,
    )
all_same script task n (suc m) whole low within was_made over = elim (cases_lt n (suc m)) [
  | inl less ↦
      let (so_far, over_m) =
      all_same script task n m whole (omega (arith, less)) (omega (arith, within)) was_made over in
      let (s, is) = get_within script.steps m (omega (arith, within)) in
      let one : suc m ≡ m + 1 = omega arith in (
        ap (children_before (whole_script script) task) one
            ∙ over_same script m task s whole is over_m ∙ so_far,
        over_next script m task s whole is (made_up_to script.steps task n m (omega (arith, less)) was_made)
            over_m,
      )
  | inr past ↦
      let last : n ≡ suc m = omega (arith, low, past) in (
        ap (children_before (whole_script script) task) (sym last),
        subst (λ k. IsOver (values_at script k task)) last over,
      )
]

-- ---- a record that finishes a task

pub detached_after : (t : TaskView) (st : Status) → is_some (state_moved t (states.Stopped st)) ≡ true
    → is_some (status_part st) ≡ true → comes_back st ≡ true → (after_stop t st).state ≡ Detached
detached_after t status.Detach moved part back =
    by (states.may (nature t) (states.Stopped status.Detach)) t.state moved
  where
    by : (b : Bool) (state : State) → is_some (cond b (states.next_state_of state status.Detach) None) ≡ true
        → (option_map_or (in_state t) (cond b (states.next_state_of state status.Detach) None) t).state
        ≡ Detached
    by true Running moves = refl
    by true Created moves = absurd (false≢true moves)
    by true Suspended moves = absurd (false≢true moves)
    by true EarlyRunning moves = absurd (false≢true moves)
    by true EarlyWaiting moves = absurd (false≢true moves)
    by true Detached moves = absurd (false≢true moves)
    by true Done moves = absurd (false≢true moves)
    by false state moves = absurd (false≢true moves)
detached_after t status.Yield moved part back = absurd (false≢true part)
detached_after t status.Switch moved part back = absurd (false≢true part)
detached_after t status.EarlyFulfill moved part back = absurd (false≢true part)
detached_after t status.Complete moved part back = absurd (false≢true back)
detached_after t status.Cancel moved part back = absurd (false≢true back)
detached_after t status.LateFulfill moved part back = absurd (false≢true back)
detached_after t status.TaskwaitComplete moved part back = absurd (false≢true back)

pub finishing_by : (r : RecorderView) (thread : ℕ) (body : Body) (first second : Option TaskView) (task : ℕ)
    (part : Part) (claimed : Claim) → call_refusal r body first second ≡ None
    → id_of first ≡ first_given body → finish (recorded_body body first second) ≡ Some (task, part)
    → claim (recorded_body body first second) ≡ Some claimed
    → (t : TaskView) × (first ≡ Some t) × (first_given body ≡ Some task) × (claimed ≡ t.claim)
    × (creation body ≡ None) × (made body ≡ None)
    × ((w : TaskView) → first_left thread body (Some t) ≡ Some w → w.state ≡ Detached)
finishing_by r thread (TaskSchedule st turns prior next claim_given) None second task part claimed accepted id
    finishes claims =
    absurd (none-some prior id)
finishing_by r thread (TaskSchedule st turns prior next claim_given) (Some t) second task part claimed
    accepted
    id finishes claims =
    by (status_part st) refl finishes claims
  where
    moved : is_some (state_moved t (states.Stopped st)) ≡ true
    moved = (scheduled_by r t st second accepted).moved

    left_over : (b : Bool) → comes_back st ≡ b → is_some (status_part st) ≡ true → (w : TaskView)
        → cond b (Some (after_stop t st)) None ≡ Some w → w.state ≡ Detached
    left_over true back part_there w is =
        ap (λ (x : TaskView). x.state) (sym (same_Some (after_stop t st) w is))
        ∙ detached_after t st moved part_there back
    left_over false back part_there w none = absurd (none-some w none)

    by : (o : Option Part) → status_part st ≡ o
        → option_map {U = ℕ × Part} (λ p. (t.id, p)) o ≡ Some (task, part)
        → option_map (λ (p : Part). t.claim) o ≡ Some claimed
        → (u : TaskView) × (Some t ≡ Some u) × (Some prior ≡ Some task) × (claimed ≡ u.claim)
        × (creation (TaskSchedule st turns prior next claim_given) ≡ None)
        × (made (TaskSchedule st turns prior next claim_given) ≡ None)
        × ((w : TaskView) → cond (comes_back st) (Some (after_stop u st)) None ≡ Some w → w.state ≡ Detached)
    by None part_is none also = absurd (none-some (task, part) none)
    by (Some p) part_is ends also = (
      t,
      refl,
      sym id ∙ ap (option_map (λ (x : ℕ × Part). x.0)) ends,
      sym (same_Some t.claim claimed also),
      refl,
      refl,
      left_over (comes_back st) refl (ap is_some part_is),
    )
finishing_by r thread (Cancel given own claim_given) None second task part claimed accepted id finishes
    claims =
    absurd (none-some own id)
finishing_by r thread (Cancel given own claim_given) (Some t) second task part claimed accepted id finishes
    claims =
    by (has_flag given.0 flag.discarded_task) finishes claims
  where
    named : (b : Bool) → cond {A = Option (ℕ × Part)} b (Some (t.id, Whole)) None ≡ Some (task, part)
        → Some own ≡ Some task
    named true there = sym id ∙ ap (option_map (λ (x : ℕ × Part). x.0)) there
    named false none = absurd (none-some (task, part) none)

    by : (b : Bool)
        → finish (cond b (discard_body t given (Some t.claim)) (Cancel given own None)) ≡ Some (task, part)
        → claim (cond b (discard_body t given (Some t.claim)) (Cancel given own None)) ≡ Some claimed
        → (u : TaskView) × (Some t ≡ Some u) × (Some own ≡ Some task) × (claimed ≡ u.claim)
        × (creation (Cancel given own claim_given) ≡ None) × (made (Cancel given own claim_given) ≡ None)
        × ((w : TaskView) → cond b None (Some u) ≡ Some w → w.state ≡ Detached)
    by true ends also = (
      t,
      refl,
      named (has_flag (with_discarded given).0 flag.discarded_task) ends,
      sym (same_Some t.claim claimed also),
      refl,
      refl,
      λ w none. absurd (none-some w none),
    )
    by false ends also = absurd (none-some claimed also)
finishing_by r thread (ImplicitTask End actual index given parallel own) (Some t) second task part claimed
    accepted id finishes claims =
    absurd (none-some (task, part) finishes)
finishing_by r thread (ImplicitTask End actual index given parallel own) None second task part claimed
    accepted
    id finishes claims =
    absurd (none-some (task, part) finishes)
finishing_by r thread _ first second task part claimed accepted id finishes claims =
    absurd (none-some (task, part) finishes)

-- ---- the cause

pub right_claim : (script : ScriptView) (n task : ℕ) (part : Part) (claimed : Claim) → IsWhole script
    → at finish (whole_script script) n ≡ Some (task, part) → at claim (whole_script script) n ≡ Some claimed
    → IsRightClaim (whole_script script) task claimed
right_claim script n task part claimed whole finishes claims =
    let inside = at_within claim rs n claimed claims in
    let (s, is) = get_within script.steps n (omega (arith, inside, all)) in
    let r = record_at script n s in
    let there =
    scripted_get script (length script.steps) n s whole is (omega (arith, inside, all)) (omega arith) in
    let (t, first_is, given, claim_same, none, unmade, left_over) =
    finishing_by (recorder_at script n s.thread) s.thread s.body (first_at script n s) (second_at script n s)
    task
    part claimed (step_accepts script n s whole is) (first_id_is script n s whole is)
    (sym (at_get finish rs n r there) ∙ finishes) (sym (at_get claim rs n r there) ∙ claims) in
    let was : values_at script n task ≡ Some t =
    ap (value (values_at script n)) (sym given) ∙ first_is in
    let claimed_so = claim_is script n task t whole (omega (arith, inside, all)) was in
    let names = given_first s.body task given in
    let rules = step_rules script.steps n s whole.rules is in
    let was_made =
    (rules.live task (first_is_named s.body task names) (λ makes. none-some task (sym unmade ∙ makes))).0 in
    let over : IsOver (values_at script (suc n) task) =
    λ w has. left_over w
    (ap (first_left s.thread s.body) (sym first_is)
    ∙ sym (value_first (values_at script n) s task names) ∙ sym (values_next script n s task whole is)
    ∙ has) in
    let later =
    (all_same script task (suc n) (length script.steps) whole (omega (arith, inside, all)) (omega arith)
    (made_up_to script.steps task n (suc n) (omega arith) was_made) over).0 in
    let one : suc n ≡ n + 1 = omega arith in
    record {
      stands =
          subst (λ (c : Claim). HasPath rs c.root task c.path) (sym claim_same) claimed_so.path;
      kept =
          ap (λ (c : Claim). c.kept) claim_same ∙ claimed_so.kept_is
          ∙ ap length
          (sym (creates_none script task n s whole is none) ∙ ap (children_before rs task) (sym one)
          ∙ sym later ∙ ap (children_before rs task) (sym all));
    }
  where
    rs : List Record
    rs = whole_script script

    all : length rs ≡ length script.steps
    all = scripted_length script (length script.steps) whole (omega arith)

pub none_shows_share : (script : ScriptView) (rs : List Record) → IsWhole script → AreRecords script rs
    → ShowsNowhere rs ShareWrong
none_shows_share script rs whole records i shown =
    by (own_step script rs (own_place rs i))
    (moved_share (own_reordered script rs whole records) (own_place rs i) shown)
  where
    by : (n : ℕ) → HasCause (whole_script script) n ShareWrong → ⊥
    by n (share_wrong (task, part, claimed, finishes, claims, wrong)) =
        wrong (right_claim script n task part claimed whole finishes claims)
