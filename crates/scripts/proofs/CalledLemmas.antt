-- Records have the calls of the steps that made them.
use Rattle.std.proofs.Common.{ℕ, ◌≡◌, ◌≢◌, ◌∙◌, ◌++◌, ◌∷◌, ◌+◌, ◌<◌, [], List, Bool, true, false}
use Rattle.std.proofs.Common.{refl, sym, ap, subst, inl, inr, Option, Some, None, cond, length, take, zero}
use Rattle.std.proofs.Common.{suc}
use Rattle.std.proofs.Common.{arith}
use Rattle.std.specs.Prelude.{◌==◌, Contains, map, filter, slice_get, option_map}
use Rattle.std.specs.Int.RustNames.{bit_and, bit_or}
use Rattle.std.proofs.lemmas.Nat.Bits.{bit_at_and, bit_at_or, same_from_bits}
use Rattle.std.specs.Int.{bit_at}
use Rattle.std.proofs.lemmas.Bool.{cond_both, cases_eq, cases_lt, eqb-true, eq-eqb, ne_eqb}
use Rattle.std.proofs.lemmas.Option.{none-some, same_Some}
use Rattle.std.proofs.lemmas.List.{append-nil, map-append}
use Rattle.std.proofs.lemmas.List.Elements.{Contains-append_left, Contains-push, Contains-push_cases}
use Rattle.std.proofs.lemmas.List.Elements.{filter-append}
use Rattle.ompt_events.specs.declared.records.Record.{Record}
use Rattle.ompt_events.specs.declared.records.Body.{Body}
use Rattle.ompt_events.specs.declared.records.Body.TheVariants.{ThreadBegin, ThreadEnd, ParallelBegin}
use Rattle.ompt_events.specs.declared.records.Body.TheVariants.{ParallelEnd, ImplicitTask, TaskCreate}
use Rattle.ompt_events.specs.declared.records.Body.TheVariants.{Dependences, TaskSchedule, SyncRegion}
use Rattle.ompt_events.specs.declared.records.Body.TheVariants.{Cancel}
use Rattle.ompt_events.specs.declared.names.Endpoint.TheVariants.{Begin, End, BeginEnd}
use Rattle.ompt_events.specs.declared.names.Status.TheVariants as status
use Rattle.ompt_events.specs.declared.flags.CancelFlags.{CancelFlags}
use Rattle.ompt_events.specs.Flags as flag
use Rattle.ompt_events.specs.Flags.{has_flag}
use Rattle.ompt_events.specs.Records.{made, named}
use Rattle.ompt_events.specs.States.{is_task}
use Rattle.ompt_events.proofs.ListLemmas.{take_past, get_within}
use Rattle.scripts.specs.declared.script.Step.{Step}
use Rattle.scripts.specs.Scripts.{ScriptView, IsScript, ended}
use Rattle.scripts.specs.Rules.{IsMadeByStep, IsEnded, MayFollow}
use Rattle.scripts.proofs.RuleLemmas.{step_rules}
use Rattle.callbacks.proofs.KnownLaw.{take_next}
use Rattle.callbacks.specs.Schedules.{with_discarded, discard_body}
use Rattle.callbacks.specs.Tasks.{TaskView, after_stop, after_start, child_of, with_child, with_region}
use Rattle.callbacks.specs.Tasks.{without_region, root_of}
use Rattle.packed_trace.specs.Named.{subject, object}
use Rattle.scripts.specs.Called.{called, recorded_calls, calls_of}
use Rattle.scripts.specs.RunCalls.{first_given, second_given, recorded_body}
use Rattle.scripts.specs.RunCalls.{first_left, second_left}
use Rattle.scripts.specs.Parts.{id_of}
use Rattle.scripts.specs.Progress.{Progress, Values, value, values_after, progress, progress_to}
use Rattle.scripts.specs.Progress.{refused_at, own_records, thread_records}
use Rattle.scripts.proofs.ProgressLemmas.{accepted_next, own_next, own_other, given_first}
use Rattle.scripts.proofs.ProgressLemmas.{stop_id, start_id, named_apart, record_by}
use Rattle.scripts.proofs.TilingLemmas.{values_by, the_one, given_or_made}

-- ---- the call of a record

-- a bit that is there stays as it is
pub or_there : (bits mask : ℕ) → bit_and bits mask ≡ mask → bit_or bits mask ≡ bits
or_there bits mask there =
    same_from_bits (bit_or bits mask) bits
    (λ i.
    let both = bit_at_and bits mask i in
    let same = ap (λ m. bit_at m i) there in
    omega (arith, both, same, bit_at_or bits mask i))

-- the record of a call has the call, where the values are those of the tasks that the call is given
pub recorded_called : (body : Body) (first second : Option TaskView) → id_of first ≡ first_given body
    → id_of second ≡ second_given body → called (recorded_body body first second) ≡ called body
recorded_called (ImplicitTask End actual index flags parallel task) (Some t) second one two =
    ap (λ o. ImplicitTask End 0 0 (record { 0 = 0 }) parallel o) (same_Some t.id task one)
recorded_called (ImplicitTask End actual index flags parallel task) None second one two = refl
recorded_called (ImplicitTask Begin actual index flags parallel task) first second one two = refl
recorded_called (ImplicitTask BeginEnd actual index flags parallel task) first second one two = refl
recorded_called (TaskSchedule s turns prior next claimed) (Some t) second one two =
    ap (λ o. TaskSchedule s None o (option_map (λ (n : TaskView). n.id) second) None)
    (same_Some t.id prior one)
    ∙ ap (λ o. TaskSchedule s None prior o None) two
recorded_called (TaskSchedule s turns prior next claimed) None second one two = refl
recorded_called (Cancel given task claimed) (Some t) second one two =
    by (has_flag given.0 flag.discarded_task) refl
  where
    by : (b : Bool) → has_flag given.0 flag.discarded_task ≡ b
        → called (cond b (discard_body t given (Some t.claim)) (Cancel given task None))
        ≡ Cancel given task None
    by false is = refl
    by true is =
        let bits : with_discarded given ≡ given =
        ap (λ n. record { 0 = n })
        (or_there given.0 flag.discarded_task
        (eqb-true (bit_and given.0 flag.discarded_task) flag.discarded_task is)) in
        ap (λ (f : CancelFlags). Cancel f t.id None) bits
        ∙ ap (λ o. Cancel given o None) (same_Some t.id task one)
recorded_called (Cancel given task claimed) None second one two = refl
recorded_called (ThreadBegin kind) first second one two = refl
recorded_called ThreadEnd first second one two = refl
recorded_called (ParallelBegin requested task parallel) first second one two = refl
recorded_called (ParallelEnd task parallel) first second one two = refl
recorded_called (TaskCreate deps flags task child) first second one two = refl
recorded_called (Dependences task list) first second one two = refl
recorded_called (SyncRegion kind endpoint parallel task) first second one two = refl

-- ---- the values of the tasks of a run

-- the value of this task
abbrev pub Has : Option TaskView → ℕ → Type 0
Has found task = (t : TaskView) × (found ≡ Some t) × (t.id ≡ task)

-- each task that the first steps made and did not end has its value
abbrev pub HaveValues : List Step → ℕ → Values → Type 0
HaveValues steps n values =
    (task : ℕ) → IsMadeByStep (take n steps) task → (IsEnded (take n steps) task → ⊥)
    → Has (values task) task

-- what a call leaves of the value of a task that it names first, and does not end
first_stays : (thread : ℕ) (body : Body) (t : TaskView) (task : ℕ) → subject body ≡ Some task
    → made body ≢ Some task → ended body ≢ Some task → t.id ≡ task
    → Has (first_left thread body (Some t)) task
first_stays thread (ThreadBegin kind) t task names other on id = (t, refl, id)
first_stays thread ThreadEnd t task names other on id = (t, refl, id)
first_stays thread (ParallelBegin requested own parallel) t task names other on id = (t, refl, id)
first_stays thread (ParallelEnd own parallel) t task names other on id = (t, refl, id)
first_stays thread (ImplicitTask Begin actual index flags parallel own) t task names other on id =
    absurd (other names)
first_stays thread (ImplicitTask End actual index flags parallel own) t task names other on id =
    absurd (on names)
first_stays thread (ImplicitTask BeginEnd actual index flags parallel own) t task names other on id =
    (t, refl, id)
first_stays thread (TaskCreate deps flags own child) t task names other on id = (with_child t, refl, id)
first_stays thread (Dependences own list) t task names other on id = (t, refl, id)
first_stays thread (TaskSchedule status.Complete turns prior next claimed) t task names other on id =
    absurd (on names)
first_stays thread (TaskSchedule status.Cancel turns prior next claimed) t task names other on id =
    absurd (on names)
first_stays thread (TaskSchedule status.TaskwaitComplete turns prior next claimed) t task names other on id =
    absurd (on names)
first_stays thread (TaskSchedule status.LateFulfill turns prior next claimed) t task names other on id =
    absurd (on names)
first_stays thread (TaskSchedule status.Yield turns prior next claimed) t task names other on id =
    (after_stop t status.Yield, refl, stop_id t status.Yield ∙ id)
first_stays thread (TaskSchedule status.Switch turns prior next claimed) t task names other on id =
    (after_stop t status.Switch, refl, stop_id t status.Switch ∙ id)
first_stays thread (TaskSchedule status.EarlyFulfill turns prior next claimed) t task names other on id =
    (after_stop t status.EarlyFulfill, refl, stop_id t status.EarlyFulfill ∙ id)
first_stays thread (TaskSchedule status.Detach turns prior next claimed) t task names other on id =
    (after_stop t status.Detach, refl, stop_id t status.Detach ∙ id)
first_stays thread (SyncRegion kind Begin parallel own) t task names other on id =
    (with_region t kind, refl, id)
first_stays thread (SyncRegion kind End parallel own) t task names other on id = (without_region t, refl, id)
first_stays thread (SyncRegion kind BeginEnd parallel own) t task names other on id = (t, refl, id)
first_stays thread (Cancel given own claimed) t task names other on id =
    by (has_flag given.0 flag.discarded_task) refl
  where
    by : (b : Bool) → has_flag given.0 flag.discarded_task ≡ b → Has (cond b None (Some t)) task
    by false is = (t, refl, id)
    by true is = absurd (on (rw is names))

pub first_is_named : (body : Body) (task : ℕ) → subject body ≡ Some task → Contains (named body) task
first_is_named (ParallelBegin requested own parallel) task is = (0, omega arith, same_Some own task is)
first_is_named (ParallelEnd own parallel) task is = (0, omega arith, same_Some own task is)
first_is_named (ImplicitTask endpoint actual index given parallel own) task is =
    (0, omega arith, same_Some own task is)
first_is_named (TaskCreate deps given own child) task is = (0, omega arith, same_Some own task is)
first_is_named (Dependences own list) task is = (0, omega arith, same_Some own task is)
first_is_named (TaskSchedule status turns prior next claimed) task is =
    (0, omega arith, same_Some prior task is)
first_is_named (SyncRegion kind endpoint parallel own) task is = (0, omega arith, same_Some own task is)
first_is_named (Cancel given own claimed) task is = (0, omega arith, same_Some own task is)
first_is_named (ThreadBegin kind) task is = absurd (none-some task is)
first_is_named ThreadEnd task is = absurd (none-some task is)

next_is_named : (body : Body) (task : ℕ) → second_given body ≡ Some task → Contains (named body) task
next_is_named (TaskSchedule status turns prior (Some next) claimed) task is =
    (1, omega arith, same_Some next task is)
next_is_named (TaskSchedule status turns prior None claimed) task is = absurd (none-some task is)
next_is_named _ task is = absurd (none-some task is)

pub given_unmade : (body : Body) (task : ℕ) → first_given body ≡ Some task
    → ((a b : ℕ) → subject body ≡ Some a → object body ≡ Some b → a ≢ b)
    → made body ≢ Some task
given_unmade (TaskCreate deps flags own child) task is apart same = apart own child refl refl
    (same_Some own task is ∙ sym (same_Some child task same))
given_unmade (ImplicitTask Begin actual index flags parallel own) task is apart same = none-some task is
given_unmade (ImplicitTask End actual index flags parallel own) task is apart same = none-some task same
given_unmade (ImplicitTask BeginEnd actual index flags parallel own) task is apart same = none-some task same
given_unmade (ThreadBegin kind) task is apart same = none-some task same
given_unmade ThreadEnd task is apart same = none-some task same
given_unmade (ParallelBegin requested own parallel) task is apart same = none-some task same
given_unmade (ParallelEnd own parallel) task is apart same = none-some task same
given_unmade (Dependences own list) task is apart same = none-some task same
given_unmade (TaskSchedule s turns prior next claimed) task is apart same = none-some task same
given_unmade (SyncRegion kind endpoint parallel own) task is apart same = none-some task same
given_unmade (Cancel flags own claimed) task is apart same = none-some task same

next_unmade : (body : Body) (task : ℕ) → second_given body ≡ Some task → made body ≢ Some task
next_unmade (TaskSchedule status turns prior next claimed) task is same = none-some task same
next_unmade _ task is same = none-some task is

-- a call is given the values of the tasks that it names and does not make
pub has_id : (values : Values) (given : Option ℕ)
    → ((task : ℕ) → given ≡ Some task → Has (values task) task) → id_of (value values given) ≡ given
has_id values None has = refl
has_id values (Some task) has =
    let (t, was, id) = has task refl in ap id_of was ∙ ap Some id

pub given_has : (steps : List Step) (n : ℕ) (s : Step) (values : Values) → HaveValues steps n values
    → MayFollow (take n steps) s.after s.body → (task : ℕ) → first_given s.body ≡ Some task
    → Has (values task) task
given_has steps n s values have rules task is =
    let live =
    rules.live task (first_is_named s.body task (given_first s.body task is))
    (given_unmade s.body task is (λ a b one two. named_apart s.body a b rules.apart one two)) in
    have task live.0 live.1

pub next_has : (steps : List Step) (n : ℕ) (s : Step) (values : Values) → HaveValues steps n values
    → MayFollow (take n steps) s.after s.body → (task : ℕ) → second_given s.body ≡ Some task
    → Has (values task) task
next_has steps n s values have rules task is =
    let live = rules.live task (next_is_named s.body task is) (next_unmade s.body task is) in
    have task live.0 live.1

-- ---- one step more

-- the task that the step makes has its value
made_has : (values : Values) (thread : ℕ) (body : Body) (task : ℕ) → made body ≡ Some task
    → ((a b : ℕ) → subject body ≡ Some a → object body ≡ Some b → a ≢ b)
    → ((a : ℕ) → first_given body ≡ Some a → Has (values a) a)
    → Has (values_by values thread body task) task
made_has values thread (ImplicitTask Begin actual index flags parallel own) task makes apart have =
    let root : TaskView = root_of own (record { home = thread; actual = actual; index = index }) flags in
    let same = same_Some own task makes in (
      root,
      ap (λ b. cond b (Some root) (cond false None (values task))) (eq-eqb own task same),
      same,
    )
made_has values thread (TaskCreate deps flags creator child) task makes apart have =
    let same = same_Some child task makes in
    let (v, was, id) = have creator refl in (
      child_of v child flags,
      ap (λ b. cond b (option_map with_child (values creator))
          (cond (child == task) (option_map (λ t. child_of t child flags) (values creator)) (values task)))
          (ne_eqb creator task (λ one. apart creator child refl refl (one ∙ sym same)))
          ∙ ap (λ b. cond b (option_map (λ t. child_of t child flags) (values creator)) (values task))
          (eq-eqb child task same)
          ∙ ap (option_map (λ t. child_of t child flags)) was,
      same,
    )
made_has values thread _ task makes apart have = absurd (none-some task makes)

-- a task that it neither makes nor ends keeps its value
kept_has : (values : Values) (thread : ℕ) (body : Body) (task : ℕ) → made body ≢ Some task
    → ended body ≢ Some task → Has (values task) task → Has (values_by values thread body task) task
kept_has values thread body task other on (t, was, id) =
    cond_both (is_task task (subject body)) first rest (λ (o : Option TaskView). Has o task)
    (λ here.
    let names = the_one task (subject body) here in
    let given = given_or_made body task other names in
    subst (λ (o : Option TaskView). Has (first_left thread body o) task)
    (sym (ap (value values) (given ∙ names) ∙ was))
    (first_stays thread body t task names other on id))
    (λ apart.
    cond_both (is_task task (object body)) second (values task) (λ (o : Option TaskView). Has o task)
    (λ here. second_has body (the_one task (object body) here) other)
    (λ gone. (t, was, id)))
  where
    first : Option TaskView
    first = first_left thread body (value values (first_given body))

    second : Option TaskView
    second = second_left body (value values (first_given body)) (value values (second_given body))

    rest : Option TaskView
    rest = cond (is_task task (object body)) second (values task)

    second_has : (b : Body) → object b ≡ Some task → made b ≢ Some task
        → Has (second_left b (value values (first_given b)) (value values (second_given b))) task
    second_has (TaskCreate deps flags creator child) is unmade = absurd (unmade is)
    second_has (TaskSchedule s turns prior next claimed) is unmade =
        (after_start t, ap (option_map after_start) (ap (value values) is ∙ was), start_id t ∙ id)
    second_has _ is unmade = absurd (none-some task is)

values_next : (steps : List Step) (n : ℕ) (s : Step) (values : Values) → slice_get steps n ≡ Some s
    → MayFollow (take n steps) s.after s.body → HaveValues steps n values
    → HaveValues steps (n + 1) (values_after values s)
values_next steps n s values is rules have task (x, has, makes) on =
    elim (Contains-push_cases (take n steps) s x (subst (λ (l : List Step). Contains l x) more has)) [
      | inl old ↦
          let unmade : made s.body ≢ Some task = λ again. rules.new task again (x, old, makes) in
          kept_has values s.thread s.body task unmade
          (λ ends. on (
            s,
            subst (λ (l : List Step). Contains l s) (sym more)
                (Contains-push (take n steps) s),
            ends,
          ))
          (have task (x, old, makes) (λ (y, there, ends).
          on (
            y,
            subst (λ (l : List Step). Contains l y) (sym more)
                (Contains-append_left (take n steps) (s ∷ []) y there),
            ends,
          )))
      | inr same ↦
          made_has values s.thread s.body task (subst (λ (y : Step). made y.body ≡ Some task)
          (sym same) makes)
          (λ a b one two. named_apart s.body a b rules.apart one two) (given_has steps n s values have rules)
    ]
  where
    more : take (n + 1) steps ≡ take n steps ++ s ∷ []
    more = take_next steps n s is

-- ---- the calls of a thread

-- the values and the records after n steps, none of which is refused
pub record IsRecorded (script : ScriptView) (n : ℕ) : Type 0 where
  pub values : HaveValues script.steps n (progress_to script n).values
  pub calls : (thread : ℕ)
      → recorded_calls (own_records script n thread) ≡ calls_of (take n script.steps) thread

recorded_next : (script : ScriptView) (n : ℕ) (s : Step) → IsScript script.steps
    → slice_get script.steps n ≡ Some s → refused_at script n ≡ None → IsRecorded script n
    → IsRecorded script (n + 1)
recorded_next script n s is_script is accepted recorded = record {
  values =
      subst (λ (p : Progress). HaveValues script.steps (n + 1) p.values)
      (sym (accepted_next script n s is accepted))
      (values_next script.steps n s (progress_to script n).values is rules recorded.values);
  calls = λ thread. elim (cases_eq s.thread thread) [
    | inl same ↦ subst (λ t. recorded_calls (own_records script (n + 1) t) ≡ calls_of
        (take (n + 1) script.steps) t) same here
    | inr other ↦ ap recorded_calls (own_other script n s thread is other) ∙ recorded.calls thread
        ∙ sym (steps_more thread ∙ ap (λ b. calls_of (take n script.steps) thread ++ map (λ
        (x : Step). called x.body) (cond b (s ∷ []) [])) (ne_eqb s.thread thread other)
        ∙ append-nil (calls_of (take n script.steps) thread))
  ];
}
  where
    rules : MayFollow (take n script.steps) s.after s.body
    rules = step_rules script.steps n s is_script is

    values : Values
    values = (progress_to script n).values

    steps_more : (thread : ℕ) → calls_of (take (n + 1) script.steps) thread
        ≡ calls_of (take n script.steps) thread
        ++ map (λ (x : Step). called x.body) (cond (s.thread == thread) (s ∷ []) [])
    steps_more thread =
        ap (λ l. calls_of l thread) (take_next script.steps n s is)
        ∙ ap (map (λ (x : Step). called x.body))
        (filter-append (λ (x : Step). x.thread == thread) (take n script.steps) (s ∷ []))
        ∙ map-append (λ (x : Step). called x.body)
        (filter (λ (x : Step). x.thread == thread) (take n script.steps))
        (cond (s.thread == thread) (s ∷ []) [])

    here : recorded_calls (own_records script (n + 1) s.thread)
        ≡ calls_of (take (n + 1) script.steps) s.thread
    here =
        let own = own_records script n s.thread in
        let new =
        record_by s.body s.thread script.nests own (value values (first_given s.body))
        (value values (second_given s.body)) in
        ap recorded_calls (own_next script n s is accepted)
        ∙ map-append (λ (r : Record). called r.body) own (new ∷ [])
        ∙ ap (λ l. l ++ called new.body ∷ []) (recorded.calls s.thread)
        ∙ ap (λ b. calls_of (take n script.steps) s.thread ++ b ∷ [])
        (recorded_called s.body (value values (first_given s.body)) (value values (second_given s.body))
        (has_id values (first_given s.body) (given_has script.steps n s values recorded.values rules))
        (has_id values (second_given s.body) (next_has script.steps n s values recorded.values rules)))
        ∙ sym
        (steps_more s.thread
        ∙ ap
        (λ b.
        calls_of (take n script.steps) s.thread ++ map (λ (x : Step). called x.body) (cond b (s ∷ []) []))
        (eq-eqb s.thread s.thread refl))

pub recorded_to : (script : ScriptView) (n : ℕ) → IsScript script.steps
    → ((at : ℕ) → at < n → refused_at script at ≡ None) → IsRecorded script n
recorded_to script zero is_script accepted = record {
  values = λ task (x, (i, within, is), makes) on. absurd (omega (arith, within));
  calls = λ thread. refl;
}
recorded_to script (suc n) is_script accepted = elim (cases_lt n (length script.steps)) [
  | inl less ↦
      let (s, is) = get_within script.steps n less in
      let one : n + 1 ≡ suc n = omega arith in
      subst (IsRecorded script) one
      (recorded_next script n s is_script is (accepted n (omega arith))
      (recorded_to script n is_script (λ at before. accepted at (omega arith))))
  | inr past ↦
      let same : take n script.steps ≡ take (suc n) script.steps =
      take_past script.steps n past ∙ sym (take_past script.steps (suc n) (omega arith)) in
      let before = recorded_to script n is_script (λ at before. accepted at (omega arith)) in
      record {
        values = λ task makes on.
            subst (λ (l : List Step). Has ((progress script.capacity script.nests l).values task) task) same
            (before.values task (subst (λ (l : List Step). IsMadeByStep l task) (sym same) makes)
            (λ ends. on (subst (λ (l : List Step). IsEnded l task) same ends)));
        calls = λ thread.
            subst
            (λ (l : List Step).
            recorded_calls (thread_records (progress script.capacity script.nests l).records thread)
            ≡ calls_of l thread)
            same (before.calls thread);
      }
]

-- the calls of the first steps, none of which is refused, are those of their records, thread by thread
pub calls_recorded : (script : ScriptView) (n thread : ℕ) → IsScript script.steps
    → ((at : ℕ) → at < n → refused_at script at ≡ None)
    → recorded_calls (own_records script n thread) ≡ calls_of (take n script.steps) thread
calls_recorded script n thread is_script accepted = (recorded_to script n is_script accepted).calls thread

-- those of all steps
pub all_recorded : (script : ScriptView) (thread : ℕ) → IsScript script.steps
    → ((at : ℕ) → refused_at script at ≡ None)
    → recorded_calls (own_records script (length script.steps) thread) ≡ calls_of script.steps thread
all_recorded script thread is_script accepted =
    calls_recorded script (length script.steps) thread is_script (λ at before. accepted at)
    ∙ ap (λ l. calls_of l thread) (take_past script.steps (length script.steps) (omega arith))
