-- Each record of a run is of the task that its thread runs.
use Rattle.std.proofs.Common.{ℕ, ◌≡◌, ◌∙◌, ◌<◌, List, length, take, Option, Some, None, refl, sym, ap, subst}
use Rattle.std.proofs.Common.{arith, true, false}
use Rattle.std.specs.Prelude.{slice_get, filter, fold}
use Rattle.std.specs.Option.{option_map_or}
use Rattle.std.proofs.lemmas.Bool.{false≢true}
use Rattle.std.proofs.lemmas.List.Folds.{fold-map}
use Rattle.std.proofs.lemmas.Option.{none-some, same_Some, slice_get_within}
use Rattle.ompt_events.specs.declared.records.Record.{Record}
use Rattle.ompt_events.specs.declared.records.Body.{Body}
use Rattle.ompt_events.specs.declared.records.Body.TheVariants.{TaskSchedule}
use Rattle.ompt_events.specs.declared.names.Status.TheVariants as status
use Rattle.ompt_events.specs.declared.cause.Cause.TheVariants.{NotCurrent}
use Rattle.ompt_events.specs.Causes.{IsFreeOf, not_current}
use Rattle.ompt_events.specs.Records.{running, ended_root, started, wait_completed, begun_root, creation}
use Rattle.ompt_events.specs.States.{is_task}
use Rattle.ompt_events.specs.Threads.{Walk, walk_of, at_start, after_record, Misfits, not_running}
use Rattle.ompt_events.specs.Threads.{not_innermost, other_root, other_parent}
use Rattle.ompt_events.specs.Tree.{IsRoot, IsCreatedAt}
use Rattle.ompt_events.proofs.PlaceLemmas.{get_at, is_the_task}
use Rattle.scripts.specs.declared.script.Step.{Step}
use Rattle.scripts.specs.Scripts.{ScriptView}
use Rattle.callbacks.specs.declared.task.Origin.{Origin}
use Rattle.callbacks.specs.declared.task.Origin.TheVariants.{Root, Explicit}
use Rattle.callbacks.specs.Standing.{standing_of}
use Rattle.callbacks.specs.Tasks.{TaskView, parent_of}
use Rattle.callbacks.specs.Recorders.{RecorderView}
use Rattle.callbacks.proofs.StandingLemmas.{walk_along}
use Rattle.scripts.specs.RunCalls.{first_given, second_given, call_refusal}
use Rattle.scripts.specs.Parts.{id_of}
use Rattle.scripts.specs.Progress.{own_records, without_seen, value}
use Rattle.scripts.proofs.HandOverLemmas.{AreRecords}
use Rattle.scripts.proofs.AcceptedLemmas.{runs_current, ends_current, scheduled_by}
use Rattle.scripts.proofs.CoverLemmas.{walk_at, IsRootStep, IsCreatedStep, IsMadeAs, made_as, made_one}
use Rattle.scripts.proofs.CoverLemmas.{not_both, created_as, starts_as_root}
use Rattle.scripts.proofs.HomeLemmas.{created_made}
use Rattle.scripts.proofs.PlacedLemmas.{IsPlaced, placed, says, step_no, thread_of}
use Rattle.scripts.proofs.SaidLemmas.{running_called, end_called, started_called, wait_called, root_called}
use Rattle.scripts.proofs.SaidLemmas.{creation_called}
use Rattle.scripts.proofs.ThreadPlaces.{is_of}
use Rattle.scripts.proofs.ValueSteps.{IsWhole, values_at, first_at, second_at, recorder_at, step_accepts}
use Rattle.scripts.proofs.ValueSteps.{first_has, second_has, first_id_is}

-- the walk of the thread before a record is that before its step
walk_before : (script : ScriptView) (rs : List Record) (i : ℕ) (x : Record) → (p : IsPlaced script rs i x)
    → walk_of x.thread (take i rs) ≡ walk_at script (step_no script rs i) p.step.thread
walk_before script rs i x p =
    sym (fold-map after_record without_seen at_start (filter (is_of thread_of x.thread) (take i rs)))
    ∙ ap (fold after_record at_start) p.before
    ∙ sym (walk_along (own_records script (step_no script rs i) x.thread))
    ∙ ap (walk_at script (step_no script rs i)) (sym p.of_thread)

-- a root of the records is begun by a step, and a created task created by one
root_step : (script : ScriptView) (rs : List Record) (task : ℕ) → IsWhole script → AreRecords script rs
    → IsRoot rs task → IsRootStep script.steps task
root_step script rs task whole records (k, begins_it) =
    let (x, is, tells) = get_at begun_root rs k task begins_it in
    let p = placed script rs k x whole records is in
    (step_no script rs k, p.step, p.stands, sym (says begun_root script rs k x whole root_called p) ∙ tells)

created_step : (script : ScriptView) (rs : List Record) (i parent task : ℕ) → IsWhole script
    → AreRecords script rs → IsCreatedAt rs i parent task → IsCreatedStep script.steps parent task
created_step script rs i parent task whole records creates =
    let (x, is, tells) = get_at creation rs i (parent, task) creates in
    let p = placed script rs i x whole records is in
    (step_no script rs i, p.step, p.stands, sym (says creation script rs i x whole creation_called p) ∙ tells)

-- one parent creates a task
one_parent : (script : ScriptView) (task a b : ℕ) → IsWhole script → IsCreatedStep script.steps a task
    → IsCreatedStep script.steps b task → a ≡ b
one_parent script task a b whole (k, s, at_k, one) (n, t, at_n, two) =
    let same_place =
    made_one script task k n s t whole at_k (created_made s.body a task one).0 at_n
    (created_made t.body b task two).0 in
    let step : s ≡ t = same_Some s t (sym at_k ∙ ap (slice_get script.steps) same_place ∙ at_n) in
    ap (λ (p : ℕ × ℕ). p.0)
    (same_Some (a, task) (b, task) (sym one ∙ ap (λ (y : Step). creation y.body) step ∙ two))

second_given_of : (body : Body) (task : ℕ) → started body ≡ Some task → second_given body ≡ Some task
second_given_of (TaskSchedule st turns prior next claimed) task is = is
second_given_of _ task is = absurd (none-some task is)

wait_given : (body : Body) (task : ℕ) → wait_completed body ≡ Some task → first_given body ≡ Some task
wait_given (TaskSchedule status.TaskwaitComplete turns prior next claimed) task is = is
wait_given _ task is = absurd (none-some task is)

-- a taskwait is complete while its parent runs
wait_parent : (r : RecorderView) (body : Body) (first second : Option TaskView) (task : ℕ) (t : TaskView)
    → call_refusal r body first second ≡ None → id_of first ≡ first_given body
    → wait_completed body ≡ Some task → first ≡ Some t
    → (parent : ℕ) × (parent_of t.origin ≡ Some parent) × ((standing_of r.records).walk.current ≡ Some parent)
wait_parent r (TaskSchedule status.TaskwaitComplete turns prior next claimed) None second task t accepted id
    waits
    is =
    absurd (none-some t is)
wait_parent r (TaskSchedule status.TaskwaitComplete turns prior next claimed) (Some u) second task t accepted
    id
    waits is =
    subst
    (λ (x : TaskView). (parent : ℕ) × (parent_of x.origin ≡ Some parent)
    × ((standing_of r.records).walk.current ≡ Some parent)) (same_Some u t is)
    (by (parent_of u.origin) (scheduled_by r u status.TaskwaitComplete second accepted).by_parent)
  where
    by : (o : Option ℕ)
        → option_map_or (λ parent. is_task parent (standing_of r.records).walk.current) o false ≡ true
        → (parent : ℕ) × (o ≡ Some parent) × ((standing_of r.records).walk.current ≡ Some parent)
    by None none = absurd (false≢true none)
    by (Some parent) there = (parent, refl, is_the_task parent (standing_of r.records).walk.current there)
wait_parent r _ first second task t accepted id waits is = absurd (none-some task waits)

fits : (script : ScriptView) (rs : List Record) (i : ℕ) (x : Record) → IsWhole script → AreRecords script rs
    → slice_get rs i ≡ Some x → Misfits rs (walk_of x.thread (take i rs)) x.body → ⊥
fits script rs i x whole records is misfit = by misfit
  where
    p : IsPlaced script rs i x
    p = placed script rs i x whole records is

    n : ℕ
    n = step_no script rs i

    s : Step
    s = p.step

    within : n < length script.steps
    within = slice_get_within script.steps n s p.stands

    walk : walk_of x.thread (take i rs) ≡ walk_at script n s.thread
    walk = walk_before script rs i x p

    by : Misfits rs (walk_of x.thread (take i rs)) x.body → ⊥
    by (not_running task runs apart) =
        apart
        (ap (λ (w : Walk). w.current) walk
        ∙ runs_current (recorder_at script n s.thread) s.body (first_at script n s) (second_at script n s)
        task
        (step_accepts script n s whole p.stands) (first_id_is script n s whole p.stands)
        (sym (says running script rs i x whole running_called p) ∙ runs))
    by (not_innermost task ends apart) =
        apart
        (ap (λ (w : Walk). slice_get w.roots 0) walk
        ∙ ends_current (recorder_at script n s.thread) s.body (first_at script n s) (second_at script n s)
        task
        (step_accepts script n s whole p.stands) (first_id_is script n s whole p.stands)
        (sym (says ended_root script rs i x whole end_called p) ∙ ends))
    by (other_root task starts root apart) =
        let starts_step = sym (says started script rs i x whole started_called p) ∙ starts in
        let (v, was, id) =
        second_has script n s whole p.stands task (second_given_of s.body task starts_step) in
        origin v was id starts_step v.origin refl (made_as script n task v whole (omega (arith, within)) was)
      where
        origin : (v : TaskView) → values_at script n task ≡ Some v → v.id ≡ task → started s.body ≡ Some task
            → (o : Origin) → v.origin ≡ o → IsMadeAs script task o → ⊥
        origin v was id starts_step (Explicit parent) origin_is made_so =
            not_both script parent task whole (root_step script rs task whole records root) made_so
        origin v was id starts_step (Root place) origin_is made_so =
            apart
            (ap (λ (w : Walk). slice_get w.roots 0) walk
            ∙ starts_as_root script n s task v whole p.stands starts_step was place origin_is ∙ ap Some id)
    by (other_parent task j parent waits creates apart) =
        let waits_step = sym (says wait_completed script rs i x whole wait_called p) ∙ waits in
        let given = wait_given s.body task waits_step in
        let (v, was, id) = first_has script n s whole p.stands task given in
        let (own, origin_is, current) =
        wait_parent (recorder_at script n s.thread) s.body (first_at script n s) (second_at script n s) task v
        (step_accepts script n s whole p.stands) (first_id_is script n s whole p.stands) waits_step
        (ap (value (values_at script n)) given ∙ was) in
        let same_parent =
        one_parent script task own parent whole
        (created_as script n task own v whole (omega (arith, within)) was origin_is)
        (created_step script rs j parent task whole records creates) in
        apart (ap (λ (w : Walk). w.current) walk ∙ current ∙ ap Some same_parent)

pub none_off_current : (script : ScriptView) (rs : List Record) → IsWhole script → AreRecords script rs
    → IsFreeOf rs NotCurrent
none_off_current script rs whole records i (not_current there) =
    let m = there.misfits in
    fits script rs i m.the_record whole records m.stands m.misfits
