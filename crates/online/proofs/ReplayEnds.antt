-- What is over stays over in records that recorders would make; and what they say of regions and claims.
use Rattle.std.proofs.Common.{ℕ, suc, ◌≡◌, ◌∙◌, List, take, map, Option, Some, None}
use Rattle.std.proofs.Common.{Bool, true, false, refl, sym, ap, subst, arith, cond}
use Rattle.std.specs.Prelude.{slice_get, option_map, option_and_then, is_some}
use Rattle.std.proofs.lemmas.Bool.{and_parts, false≢true}
use Rattle.std.proofs.lemmas.List.{length-map}
use Rattle.std.proofs.lemmas.Option.{none-some, same_Some, slice_get_within, slice_get-map}
use Rattle.ompt_events.specs.declared.records.Record.{Record}
use Rattle.ompt_events.specs.declared.records.Body.{Body}
use Rattle.ompt_events.specs.declared.records.Body.TheVariants.{ParallelBegin, ParallelEnd, ImplicitTask}
use Rattle.ompt_events.specs.declared.records.Body.TheVariants.{TaskCreate, TaskSchedule, SyncRegion, Cancel}
use Rattle.ompt_events.specs.declared.records.Claim.{Claim}
use Rattle.ompt_events.specs.declared.records.Part.{Part}
use Rattle.ompt_events.specs.declared.records.Part.TheVariants.{Whole}
use Rattle.ompt_events.specs.declared.cause.Cause.TheVariants.{RegionOrder, ShareWrong}
use Rattle.ompt_events.specs.declared.names.Endpoint.TheVariants.{End}
use Rattle.ompt_events.specs.declared.names.Status.{Status}
use Rattle.ompt_events.specs.declared.names.Status.TheVariants as status
use Rattle.ompt_events.specs.declared.names.SyncKind.{SyncKind}
use Rattle.ompt_events.specs.Causes.{HasCause, IsFreeOf, share_wrong}
use Rattle.ompt_events.specs.Flags as flag
use Rattle.ompt_events.specs.Flags.{has_flag, cancel_flags, are_named}
use Rattle.ompt_events.specs.Names.{demands_next, status_part}
use Rattle.ompt_events.specs.Places.{at}
use Rattle.ompt_events.specs.Records.{finish, claim, running, region}
use Rattle.ompt_events.specs.Regions.{EndsRegion}
use Rattle.ompt_events.specs.States as states
use Rattle.ompt_events.specs.States.{Move, move_state}
use Rattle.ompt_events.proofs.PlaceLemmas.{get_at}
use Rattle.credit_ledger.proofs.EntryLemmas.{get_take}
use Rattle.task_tree.specs.Renaming.{untold}
use Rattle.task_tree.proofs.RenamedCauseLemmas.{moved_order, moved_share}
use Rattle.task_tree.proofs.RenamedPlaceLemmas.{IsReordered, reordered_back}
use Rattle.task_tree.proofs.RenamedRegionLemmas.{moved_end}
use Rattle.callbacks.specs.declared.task.Origin.{Origin}
use Rattle.callbacks.specs.declared.task.Origin.TheVariants.{Root, Explicit}
use Rattle.callbacks.specs.Recorders.{RecorderView}
use Rattle.callbacks.specs.Schedules.{discard_body, with_discarded, may_discard}
use Rattle.callbacks.specs.Tasks.{TaskView, parent_of, nature_by, state_moved, is_running}
use Rattle.scripts.specs.Parts.{id_of}
use Rattle.scripts.specs.Progress.{Values, value, without_seen}
use Rattle.scripts.specs.Rules.{IsMadeByStep}
use Rattle.scripts.specs.RunCalls.{call_refusal, first_given, first_left, recorded_body}
use Rattle.scripts.specs.Scripts.{ScriptView}
use Rattle.scripts.proofs.AcceptedLemmas.{allowed_by, scheduled_by, runs_current}
use Rattle.scripts.proofs.CalledLemmas.{first_is_named}
use Rattle.scripts.proofs.CoverLemmas.{all_in_place, made_as, created_as, not_both, IsMadeAs, IsRootStep}
use Rattle.scripts.proofs.OrderedLemmas.{whole_script}
use Rattle.scripts.proofs.ProgressLemmas.{given_first, value_first}
use Rattle.scripts.proofs.RegionLaw.{none_misplaced, region_begun}
use Rattle.scripts.proofs.RuleLemmas.{step_rules}
use Rattle.scripts.proofs.SaidLemmas.{running_called}
use Rattle.scripts.proofs.ShareLaw.{IsOver, all_same, finishing_by, right_claim}
use Rattle.scripts.proofs.TurnLemmas.{made_up_to}
use Rattle.scripts.proofs.ValueSteps.{IsWhole, values_at, first_at, second_at, recorder_at, step_accepts}
use Rattle.scripts.proofs.ValueSteps.{first_has, first_id_is, values_next}
use Rattle.online.specs.Online.{IsUnfinishedAfter}
use Rattle.online.specs.Replays.{script_of, IsReplayed}
use Rattle.online.proofs.ReplayLaw.{replayed_whole}
use Rattle.online.proofs.ReplayRecords.{of_step, says_call, replayed_script}

-- ---- a record that finishes a task or a part of it

-- it claims something
claim_there : (body : Body) (first second : Option TaskView) (task : ℕ) (p : Part)
    → id_of first ≡ first_given body → finish (recorded_body body first second) ≡ Some (task, p)
    → (c : Claim) × (claim (recorded_body body first second) ≡ Some c)
claim_there (ImplicitTask End actual index given parallel own) None second task p id is =
    absurd (none-some (task, p) is)
claim_there (ImplicitTask End actual index given parallel own) (Some t) second task p id is =
    absurd (none-some (task, p) is)
claim_there (TaskSchedule st turns prior next claimed) None second task p id is = absurd (none-some prior id)
claim_there (TaskSchedule st turns prior next claimed) (Some t) second task p id is = of (status_part st) is
  where
    of : (o : Option Part) → option_map {U = ℕ × Part} (λ q. (t.id, q)) o ≡ Some (task, p)
        → (c : Claim) × (option_map (λ (q : Part). t.claim) o ≡ Some c)
    of None none = absurd (none-some (task, p) none)
    of (Some q) there = (t.claim, refl)
claim_there (Cancel given own claimed) None second task p id is = absurd (none-some own id)
claim_there (Cancel given own claimed) (Some t) second task p id is =
    of (has_flag given.0 flag.discarded_task) refl
  where
    of : (b : Bool) → has_flag given.0 flag.discarded_task ≡ b
        → (c : Claim) × (claim (recorded_body (Cancel given own claimed) (Some t) second) ≡ Some c)
    of true e = (t.claim, rw e refl)
    of false e =
        let kept =
        ap (λ c. cond {A = Option (ℕ × Part)} c (Some (own, Whole)) None) e in
        absurd (none-some (task, p) (sym kept ∙ rw e at is))
claim_there _ first second task p id is = absurd (none-some (task, p) is)

-- only an explicit task makes a move that a root may not
pub moves_explicit : (t : TaskView) (m : Move) → states.may states.Root m ≡ false
    → is_some (state_moved t m) ≡ true → (parent : ℕ) × (parent_of t.origin ≡ Some parent)
moves_explicit t m barred moves = by t.origin moves
  where
    by : (o : Origin)
        → is_some (cond (states.may (nature_by o t.flags.0) m)
        (option_and_then (λ state. move_state state m) (Some t.state)) None) ≡ true
        → (parent : ℕ) × (parent_of o ≡ Some parent)
    by (Root place) is =
        absurd
        (false≢true
        (sym
        (ap (λ b. is_some (cond b (option_and_then (λ state. move_state state m) (Some t.state)) None))
        barred)
        ∙ is))
    by (Explicit parent) is = (parent, refl)

root_may_not : (st : Status) (p : Part) → status_part st ≡ Some p
    → states.may states.Root (states.Stopped st) ≡ false
root_may_not status.Yield p is = absurd (none-some p is)
root_may_not status.Switch p is = absurd (none-some p is)
root_may_not status.Complete p is = refl
root_may_not status.Cancel p is = refl
root_may_not status.Detach p is = refl
root_may_not status.EarlyFulfill p is = refl
root_may_not status.LateFulfill p is = refl
root_may_not status.TaskwaitComplete p is = refl

-- it is of an explicit task
finishes_explicit : (r : RecorderView) (body : Body) (first second : Option TaskView) (task : ℕ) (p : Part)
    → call_refusal r body first second ≡ None → id_of first ≡ first_given body
    → finish (recorded_body body first second) ≡ Some (task, p)
    → (t : TaskView) × (first ≡ Some t) × (parent : ℕ) × (parent_of t.origin ≡ Some parent)
finishes_explicit r (ImplicitTask End actual index given parallel own) None second task p accepted id is =
    absurd (none-some (task, p) is)
finishes_explicit r (ImplicitTask End actual index given parallel own) (Some t) second task p accepted id is =
    absurd (none-some (task, p) is)
finishes_explicit r (TaskSchedule st turns prior next claimed) None second task p accepted id is =
    absurd (none-some prior id)
finishes_explicit r (TaskSchedule st turns prior next claimed) (Some t) second task p accepted id is =
    of (status_part st) refl is
  where
    of : (o : Option Part) → status_part st ≡ o
        → option_map {U = ℕ × Part} (λ q. (t.id, q)) o ≡ Some (task, p)
        → (u : TaskView) × (Some t ≡ Some u) × (parent : ℕ) × (parent_of u.origin ≡ Some parent)
    of None e none = absurd (none-some (task, p) none)
    of (Some q) e there =
        let (parent, above) =
        moves_explicit t (states.Stopped st) (root_may_not st q e) (scheduled_by r t st second accepted).moved
        in
        (t, refl, parent, above)
finishes_explicit r (Cancel given own claimed) None second task p accepted id is = absurd (none-some own id)
finishes_explicit r (Cancel given own claimed) (Some t) second task p accepted id is =
    of (has_flag given.0 flag.discarded_task) refl
  where
    of : (b : Bool) → has_flag given.0 flag.discarded_task ≡ b
        → (u : TaskView) × (Some t ≡ Some u) × (parent : ℕ) × (parent_of u.origin ≡ Some parent)
    of true e =
        let may = (allowed_by r (may_discard t given) false false (discard_body t given None)
        (rw e at accepted)).allows_it in
        let moves = is_some (state_moved t states.Discarded) in
        let (parent, above) =
        moves_explicit t states.Discarded refl
        (and_parts moves (are_named cancel_flags (with_discarded given).0) may).0 in
        (t, refl, parent, above)
    of false e =
        let kept =
        ap (λ c. cond {A = Option (ℕ × Part)} c (Some (own, Whole)) None) e in
        absurd (none-some (task, p) (sym kept ∙ rw e at is))
finishes_explicit r _ first second task p accepted id is = absurd (none-some (task, p) is)

-- ---- behind it the task is over, or waits for its event

pub record IsOverBehind (script : ScriptView) (e task : ℕ) : Type 0 where
  pub parent : ℕ
  pub t : TaskView
  pub was : values_at script e task ≡ Some t
  pub above : parent_of t.origin ≡ Some parent
  pub makes : IsMadeByStep (take e script.steps) task
  pub over : IsOver (values_at script (suc e) task)

pub over_behind : (nests : Bool) (rs : List Record) (values : Values) (e : ℕ) (q : Record) (task : ℕ)
    (p : Part)
    → IsReplayed nests rs values → slice_get rs e ≡ Some q → finish q.body ≡ Some (task, p)
    → IsOverBehind (script_of nests rs) e task
over_behind nests rs values e q task p replayed is finishes =
    let script = script_of nests rs in
    let whole = replayed_whole nests rs values replayed in
    let o = of_step nests rs values e q replayed is in
    let first = first_at script e o.step in
    let second = second_at script e o.step in
    let accepted = step_accepts script e o.step whole o.stands in
    let id = first_id_is script e o.step whole o.stands in
    let says = ap finish (sym o.body_is) ∙ finishes in
    let (c, claims) = claim_there o.step.body first second task p id says in
    let (t, first_is, given, claim_same, none, unmade, left_over) =
    finishing_by (recorder_at script e o.step.thread) o.step.thread o.step.body first second task p c accepted
    id says claims in
    let (u, first_u, parent, above) =
    finishes_explicit (recorder_at script e o.step.thread) o.step.body first second task p accepted id says in
    let same : u ≡ t = same_Some u t (sym first_u ∙ first_is) in
    let names = given_first o.step.body task given in
    let rules = step_rules script.steps e o.step whole.rules o.stands in
    record {
      parent = parent;
      t = t;
      was = ap (value (values_at script e)) (sym given) ∙ first_is;
      above = ap (λ (v : TaskView). parent_of v.origin) (sym same) ∙ above;
      makes =
          (rules.live task (first_is_named o.step.body task names)
          (λ makes. none-some task (sym unmade ∙ makes))).0;
      over = λ w has. left_over w
          (ap (first_left o.step.thread o.step.body) (sym first_is)
          ∙ sym (value_first (values_at script e) o.step task names)
          ∙ sym (values_next script e o.step task whole o.stands)
          ∙ has);
    }

running_given : (body : Body) (task : ℕ) → running body ≡ Some task → first_given body ≡ Some task
running_given (ParallelBegin requested own parallel) task is = is
running_given (ParallelEnd own parallel) task is = is
running_given (ImplicitTask End actual index given parallel own) task is = is
running_given (TaskCreate deps given own child) task is = is
running_given (TaskSchedule st turns prior next claimed) task is = by (demands_next st) is
  where
    by : (b : Bool) → cond b (Some prior) None ≡ Some task → Some prior ≡ Some task
    by true there = there
    by false none = absurd (none-some task none)
running_given (SyncRegion kind endpoint parallel own) task is = is
running_given (Cancel given own claimed) task is = by (has_flag given.0 flag.discarded_task) is
  where
    by : (b : Bool) → cond b None (Some own) ≡ Some task → Some own ≡ Some task
    by true none = absurd (none-some task none)
    by false there = there
running_given _ task is = absurd (none-some task is)

-- no record of a task stands behind one that finishes its body, or the task whole
pub replayed_unfinished : (nests : Bool) (rs : List Record) (values : Values) (i : ℕ) (r : Record)
    → IsReplayed nests rs values → slice_get rs i ≡ Some r → IsUnfinishedAfter (take i rs) r
replayed_unfinished nests rs values i r replayed is task e p runs finishes other =
    let (q, there, says) = get_at finish (take i rs) e (task, p) finishes in
    let (less, q_is) = get_take rs i e q there in
    let behind = over_behind nests rs values e q task p replayed q_is says in
    let o = of_step nests rs values i r replayed is in
    let within = slice_get_within script.steps i o.step o.stands in
    let later =
    (all_same script task (suc e) i whole (omega (arith, less)) (omega (arith, within))
    (made_up_to script.steps task e (suc e) (omega arith) behind.makes) behind.over).1 in
    let runs_step = sym (says_call running nests rs values i r replayed running_called o) ∙ runs in
    let current =
    runs_current (recorder_at script i o.step.thread) o.step.body (first_at script i o.step)
    (second_at script i o.step) task (step_accepts script i o.step whole o.stands)
    (first_id_is script i o.step whole o.stands) runs_step in
    let (v, was, id) =
    first_has script i o.step whole o.stands task (running_given o.step.body task runs_step) in
    let creates =
    created_as script e task behind.parent behind.t whole (omega (arith, less, within)) behind.was
    behind.above
    in
    let (parent, above) =
    explicit v.origin (made_as script i task v whole (omega (arith, within)) was)
    (λ root. not_both script behind.parent task whole root creates) in
    let going =
    (all_in_place script i whole (omega (arith, within))).runs o.step.thread task 0 parent v (ap Some current)
    was above in
    false≢true (ap is_running (sym (later v was)) ∙ going)
  where
    script : ScriptView
    script = script_of nests rs

    whole : IsWhole script
    whole = replayed_whole nests rs values replayed

    explicit : (o : Origin) → IsMadeAs script task o → (IsRootStep script.steps task → ⊥)
        → (parent : ℕ) × (parent_of o ≡ Some parent)
    explicit (Root place) root never = absurd (never root)
    explicit (Explicit parent) creates never = (parent, refl)

-- ---- regions and claims, by the order of the records

pub without_lengths : (rs : List Record) → IsReordered rs (map without_seen rs) (λ i. i) (λ i. i)
without_lengths rs = record {
  to_within = λ i within. omega (arith, within, length-map rs without_seen);
  back_within = λ j within. omega (arith, within, length-map rs without_seen);
  back_to = λ i within. refl;
  to_back = λ j within. refl;
  alike = λ i within.
      ap (option_and_then (λ (r : Record). Some (untold r.body))) (slice_get-map without_seen rs i)
      ∙ same (slice_get rs i);
  own_rise = λ task i k first second less. less;
}
  where
    same : (o : Option Record)
        → option_and_then (λ (r : Record). Some (untold r.body)) (option_map without_seen o)
        ≡ option_and_then (λ (r : Record). Some (untold r.body)) o
    same None = refl
    same (Some r) = refl

pub replayed_order : (nests : Bool) (rs : List Record) (values : Values) → IsReplayed nests rs values
    → IsFreeOf rs RegionOrder
replayed_order nests rs values replayed i shown =
    none_misplaced (script_of nests rs) i (replayed_whole nests rs values replayed)
    (subst (λ l. HasCause l i RegionOrder) (sym (replayed_script nests rs values replayed))
    (moved_order (without_lengths rs) i shown))

pub replayed_share : (nests : Bool) (rs : List Record) (values : Values) → IsReplayed nests rs values
    → IsFreeOf rs ShareWrong
replayed_share nests rs values replayed i shown =
    by
    (subst (λ l. HasCause l i ShareWrong) (sym (replayed_script nests rs values replayed))
    (moved_share (without_lengths rs) i shown))
  where
    by : HasCause (whole_script (script_of nests rs)) i ShareWrong → ⊥
    by (share_wrong (task, p, claimed, finishes, claims, wrong)) =
        wrong
        (right_claim (script_of nests rs) i task p claimed (replayed_whole nests rs values replayed) finishes
        claims)

-- the end of a region has its begin
pub replayed_region : (nests : Bool) (rs : List Record) (values : Values) (i task : ℕ) (kind : SyncKind)
    → IsReplayed nests rs values → at region rs i ≡ Some (task, kind, End)
    → (begin : ℕ) × EndsRegion rs i task kind begin
replayed_region nests rs values i task kind replayed ends =
    let (begin, is) =
    region_begun (script_of nests rs) i task kind (replayed_whole nests rs values replayed)
    (ap (λ l. at region l i) (replayed_script nests rs values replayed) ∙ same (slice_get rs i)
    (slice_get-map without_seen rs i) ∙ ends) in (
      begin,
      moved_end (reordered_back (without_lengths rs)) i task kind begin
          (subst (λ l. EndsRegion l i task kind begin) (replayed_script nests rs values replayed) is),
    )
  where
    same : (o : Option Record) → slice_get (map without_seen rs) i ≡ option_map without_seen o
        → at region (map without_seen rs) i ≡ option_and_then (λ (r : Record). region r.body) o
    same None is = ap (option_and_then (λ (r : Record). region r.body)) is
    same (Some r) is = ap (option_and_then (λ (r : Record). region r.body)) is
