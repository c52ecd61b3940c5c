-- What a task is, by the records of a run and by its value.
use Rattle.std.proofs.Common.{ℕ, zero, suc, ◌≡◌, ◌∙◌, ◌≤◌, List, [], ◌∷◌, length, Bool, true, false, Option}
use Rattle.std.proofs.Common.{Some, None, refl, sym, ap, arith, inl, inr, cond}
use Rattle.std.specs.Prelude.{◌==◌, ◌&&◌, slice_get, find, is_some}
use Rattle.std.specs.Option.{option_map_or}
use Rattle.std.proofs.lemmas.Bool.{cases_Bool, eq-eqb, eqb-true, and_parts, false≢true}
use Rattle.std.proofs.lemmas.Option.{none-some, same_Some}
use Rattle.ompt_events.specs.declared.records.Record.{Record}
use Rattle.ompt_events.specs.declared.records.Body.{Body}
use Rattle.ompt_events.specs.declared.records.Body.TheVariants.{ImplicitTask, TaskCreate, TaskSchedule}
use Rattle.ompt_events.specs.declared.records.Body.TheVariants.{Cancel}
use Rattle.ompt_events.specs.declared.names.Endpoint.TheVariants.{End}
use Rattle.ompt_events.specs.declared.names.Status.{Status}
use Rattle.ompt_events.specs.declared.state.State.{State}
use Rattle.ompt_events.specs.declared.flags.TaskFlags.{TaskFlags}
use Rattle.ompt_events.specs.Flags as flag
use Rattle.ompt_events.specs.Flags.{has_flag}
use Rattle.ompt_events.specs.Records.{begun_root, creation, flags, made}
use Rattle.ompt_events.specs.States as states
use Rattle.ompt_events.specs.States.{is_task, creates_wait, is_made_so, nature_of}
use Rattle.ompt_events.proofs.ListLemmas.{get_within}
use Rattle.ompt_events.proofs.PlaceLemmas.{is_the_task, the_task, some_of}
use Rattle.scripts.specs.declared.script.Step.{Step}
use Rattle.scripts.specs.Scripts.{ScriptView}
use Rattle.callbacks.specs.declared.task.Origin.{Origin}
use Rattle.callbacks.specs.declared.task.Origin.TheVariants.{Root, Explicit}
use Rattle.callbacks.specs.Tasks.{TaskView, nature, nature_by, after_stop, after_start, in_state, started_in}
use Rattle.callbacks.specs.Tasks.{state_moved, turn_begun_next, parent_of}
use Rattle.scripts.proofs.HandOverLemmas.{AreRecords}
use Rattle.scripts.proofs.CoverLemmas.{IsMadeAs, made_as, made_one, not_both, leaves_origin, start_origin}
use Rattle.scripts.proofs.HomeLemmas.{created_made}
use Rattle.scripts.proofs.PlacedLemmas.{placed, recorded, says, step_no, record_no}
use Rattle.scripts.proofs.SaidLemmas.{IsOfCall, root_called}
use Rattle.scripts.proofs.ValueSteps.{IsWhole, values_at, comes, Comes, kept, began, created, changed}
use Rattle.scripts.proofs.ValueSteps.{resumed, Leaves, leaves, left_same, left_child, left_stopped}
use Rattle.scripts.proofs.ValueSteps.{left_opened, left_closed}

-- ---- searches

pub found_from : {X : Type 0} (p : X → Bool) (xs : List X) (i : ℕ) (x : X) → slice_get xs i ≡ Some x
    → p x ≡ true
    → is_some (find p xs) ≡ true
found_from p [] i x is passes = absurd (none-some x is)
found_from {X} p (y ∷ xs) zero x is passes =
    ap (λ b. is_some (cond b (Some y) (find p xs))) (ap p (same_Some y x is) ∙ passes)
found_from {X} p (y ∷ xs) (suc i) x is passes = by (p y) (found_from p xs i x is passes)
  where
    by : (b : Bool) → is_some (find p xs) ≡ true → is_some (cond b (Some y) (find p xs)) ≡ true
    by true rest = refl
    by false rest = rest

pub found_at : {X : Type 0} (p : X → Bool) (xs : List X) (x : X) → find p xs ≡ Some x
    → (i : ℕ) × (slice_get xs i ≡ Some x) × (p x ≡ true)
found_at p [] x is = absurd (none-some x is)
found_at {X} p (y ∷ xs) x is = by (p y) refl is (found_at p xs x)
  where
    by : (b : Bool) → p y ≡ b → cond b (Some y) (find p xs) ≡ Some x
        → (find p xs ≡ Some x → (i : ℕ) × (slice_get xs i ≡ Some x) × (p x ≡ true))
        → (i : ℕ) × (slice_get (y ∷ xs) i ≡ Some x) × (p x ≡ true)
    by true holds here rest = (0, here, ap p (sym (same_Some y x here)) ∙ holds)
    by false fails later rest = let (i, at_i, passes) = rest later in (suc i, at_i, passes)

-- ---- by its value

-- the step that made the task, by which it is a taskwait with dependences or not
abbrev IsFlagged : ScriptView → ℕ → TaskView → Type 0
IsFlagged script task v = (parent : ℕ) → parent_of v.origin ≡ Some parent
    → (k : ℕ) × (s : Step) × (slice_get script.steps k ≡ Some s) × (made s.body ≡ Some task)
    × (creates_wait task s.body ≡ has_flag v.flags.0 flag.taskwait)

stop_flags : (t : TaskView) (st : Status) → (after_stop t st).flags ≡ t.flags
stop_flags t st = by (state_moved t (states.Stopped st))
  where
    by : (o : Option State) → (option_map_or (in_state t) o t).flags ≡ t.flags
    by None = refl
    by (Some state) = refl

start_flags : (t : TaskView) → (after_start t).flags ≡ t.flags
start_flags t = by (state_moved t states.Started) (turn_begun_next t)
  where
    by : (o : Option State) (turn : Option ℕ) → (started_in t o turn).flags ≡ t.flags
    by None turn = refl
    by (Some state) None = refl
    by (Some state) (Some turn) = refl

leaves_flags : (task : ℕ) (body : Body) (v w : TaskView) → Leaves task body v w → w.flags ≡ v.flags
leaves_flags task body v w (left_same is none stay) = ap (λ (t : TaskView). t.flags) is
leaves_flags task body v w (left_child other is makes stay) = ap (λ (t : TaskView). t.flags) is
leaves_flags task body v w (left_stopped st next is says_it none stay) =
    ap (λ (t : TaskView). t.flags) is ∙ stop_flags v st
leaves_flags task body v w (left_opened kind is says_it none) = ap (λ (t : TaskView). t.flags) is
leaves_flags task body v w (left_closed kind is says_it none) = ap (λ (t : TaskView). t.flags) is

created_wait : (body : Body) (parent task bits : ℕ) → creation body ≡ Some (parent, task)
    → flags body ≡ Some bits
    → creates_wait task body ≡ has_flag bits flag.taskwait
created_wait (TaskCreate deps given own other) parent task bits makes flagged =
    ap (λ b. b && has_flag given.0 flag.taskwait)
    (eq-eqb other task (ap (λ (p : ℕ × ℕ). p.1) (same_Some (own, other) (parent, task) makes)))
    ∙ ap (λ n. has_flag n flag.taskwait) (same_Some given.0 bits flagged)
created_wait _ parent task bits makes flagged = absurd (none-some (parent, task) makes)

flagged_as : (script : ScriptView) (n task : ℕ) (v : TaskView) → IsWhole script → n ≤ length script.steps
    → values_at script n task ≡ Some v → IsFlagged script task v
flagged_as script zero task v whole within has = absurd (none-some v has)
flagged_as script (suc n) task w whole within has =
    let (s, is) = get_within script.steps n (omega (arith, within)) in
    by s is (comes script n s task w whole is has)
    (λ v was. flagged_as script n task v whole (omega (arith, within)) was)
  where
    carried : (v : TaskView) → w.origin ≡ v.origin → w.flags ≡ v.flags → IsFlagged script task v
        → IsFlagged script task w
    carried v origin_same flags_same before parent explicit =
        let (k, s, is, makes, wait) = before parent (ap parent_of (sym origin_same) ∙ explicit) in
        (k, s, is, makes, wait ∙ ap (λ (f : TaskFlags). has_flag f.0 flag.taskwait) (sym flags_same))

    by : (s : Step) → slice_get script.steps n ≡ Some s → Comes (values_at script n) s.thread s.body task w
        → ((v : TaskView) → values_at script n task ≡ Some v → IsFlagged script task v)
        → IsFlagged script task w
    by s is (kept unnamed was) before = before w was
    by s is (began place given of begins_it root) before =
        λ parent explicit.
        absurd (none-some parent (sym (ap (λ (t : TaskView). parent_of t.origin) root) ∙ explicit))
    by s is (created own u given flagged makes was id new) before = λ parent explicit. (
      n,
      s,
      is,
      (created_made s.body own task makes).0,
      created_wait s.body own task given.0 makes flagged
          ∙ ap (λ (t : TaskView). has_flag t.flags.0 flag.taskwait) (sym new),
    )
    by s is (changed v was id names given leaves_it) before =
        let left_it = leaves s.thread s.body task v w given leaves_it in
        carried v (leaves_origin task s.body v w left_it) (leaves_flags task s.body v w left_it)
        (before v was)
    by s is (resumed v was id starts after) before =
        carried v (ap (λ (t : TaskView). t.origin) after ∙ start_origin v)
        (ap (λ (t : TaskView). t.flags) after ∙ start_flags v) (before v was)

-- ---- by the records

wait_called : (task : ℕ) → IsOfCall (creates_wait task)
wait_called task (ImplicitTask End actual index given parallel own) = refl
wait_called task (TaskSchedule s turns prior next claimed) = refl
wait_called task (Cancel given own claimed) = refl
wait_called task _ = refl

wait_made : (body : Body) (task : ℕ) → creates_wait task body ≡ true → made body ≡ Some task
wait_made (TaskCreate deps given own other) task is =
    ap Some (eqb-true other task (and_parts (other == task) (has_flag given.0 flag.taskwait) is).0)
wait_made _ task is = absurd (false≢true is)

-- some record passes a test that only its call decides exactly if a step does
record_of_step : (script : ScriptView) (rs : List Record) (k : ℕ) (s : Step) (test : Body → Bool)
    → IsWhole script
    → AreRecords script rs → IsOfCall test → slice_get script.steps k ≡ Some s → test s.body ≡ true
    → is_made_so test rs ≡ true
record_of_step script rs k s test whole records of is passes =
    let it = recorded script rs k s whole records is in
    let p = placed script rs (record_no script rs k) it.made whole records it.stands in
    let step : p.step ≡ s = same_Some p.step s (sym p.stands ∙ ap (slice_get script.steps) it.there ∙ is) in
    found_from (λ (r : Record). test r.body) rs (record_no script rs k) it.made it.stands
    (says test script rs (record_no script rs k) it.made whole of p ∙ ap (λ (x : Step). test x.body) step
    ∙ passes)

step_of_record : (script : ScriptView) (rs : List Record) (test : Body → Bool) → IsWhole script
    → AreRecords script rs → IsOfCall test → is_made_so test rs ≡ true
    → (k : ℕ) × (s : Step) × (slice_get script.steps k ≡ Some s) × (test s.body ≡ true)
step_of_record script rs test whole records of is =
    let (r, there) = some_of (find (λ (q : Record). test q.body) rs) is in
    let (i, stands, passes) = found_at (λ (q : Record). test q.body) rs r there in
    let p = placed script rs i r whole records stands in
    (step_no script rs i, p.step, p.stands, sym (says test script rs i r whole of p) ∙ passes)

root_test_called : (task : ℕ) → IsOfCall (λ body. is_task task (begun_root body))
root_test_called task body = ap (is_task task) (root_called body)

pub nature_is : (script : ScriptView) (rs : List Record) (n task : ℕ) (v : TaskView) → IsWhole script
    → AreRecords script rs → n ≤ length script.steps → values_at script n task ≡ Some v
    → nature v ≡ nature_of rs task
nature_is script rs n task v whole records within has =
    by v.origin refl (made_as script n task v whole within has)
  where
    waiting : Bool → states.Nature
    waiting b = cond b states.Wait states.Plain

    by : (o : Origin) → v.origin ≡ o → IsMadeAs script task o
        → nature_by v.origin v.flags.0 ≡ nature_of rs task
    by (Root place) origin_is (k, s, is, begins_it) =
        let found =
        record_of_step script rs k s (λ body. is_task task (begun_root body)) whole records
        (root_test_called task) is (the_task task (begun_root s.body) begins_it) in
        ap (λ o. nature_by o v.flags.0) origin_is
        ∙ sym (ap (λ b. cond b states.Root (waiting (is_made_so (creates_wait task) rs))) found)
    by (Explicit parent) origin_is created_so =
        ap (λ o. nature_by o v.flags.0) origin_is ∙ ap waiting same_flag
        ∙ sym (ap (λ b. cond b states.Root (waiting (is_made_so (creates_wait task) rs))) not_root)
      where
        not_root : is_made_so (λ body. is_task task (begun_root body)) rs ≡ false
        not_root = elim (cases_Bool (is_made_so (λ body. is_task task (begun_root body)) rs)) [
          | inr none ↦ none
          | inl some ↦
              let (k, s, is, passes) =
              step_of_record script rs (λ body. is_task task (begun_root body)) whole records
              (root_test_called task) some in
              absurd
              (not_both script parent task whole (k, s, is, is_the_task task (begun_root s.body) passes)
              created_so)
        ]

        same_flag : has_flag v.flags.0 flag.taskwait ≡ is_made_so (creates_wait task) rs
        same_flag =
            let (k, s, is, makes, wait) =
            flagged_as script n task v whole within has parent (ap parent_of origin_is) in
            elim (cases_Bool (has_flag v.flags.0 flag.taskwait)) [
              | inl flagged ↦
                  flagged
                  ∙ sym (record_of_step script rs k s (creates_wait task) whole records (wait_called task) is
                  (wait ∙ flagged))
              | inr unflagged ↦ elim (cases_Bool (is_made_so (creates_wait task) rs)) [
                | inr none ↦ unflagged ∙ sym none
                | inl some ↦
                    let (m, t, at_m, passes) =
                    step_of_record script rs (creates_wait task) whole records (wait_called task) some in
                    let one =
                    made_one script task k m s t whole is makes at_m (wait_made t.body task passes) in
                    let step : s ≡ t = same_Some s t (sym is ∙ ap (slice_get script.steps) one ∙ at_m) in
                    absurd
                    (false≢true
                    (sym unflagged ∙ sym wait ∙ ap (λ (x : Step). creates_wait task x.body) step ∙ passes))
              ]
            ]
