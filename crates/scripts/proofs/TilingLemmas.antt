-- Entries of two records of a run do not overlap.
use Rattle.std.proofs.Common.{ℕ, ◌≡◌, ◌≢◌, ◌∙◌, ◌⊎◌, ◌++◌, ◌∷◌, ◌+◌, [], List, Bool, true, false, refl, sym}
use Rattle.std.proofs.Common.{ap, subst, inl, inr, Option, Some, None, cond, length, take, zero, suc, arith}
use Rattle.std.specs.Prelude.{◌==◌, slice_get, option_map, option_and_then, is_some, if◌then◌else◌}
use Rattle.std.proofs.lemmas.Bool.{cases_lt, cond_both, eqb-true, eq-eqb}
use Rattle.std.proofs.lemmas.Bool.{false≢true}
use Rattle.std.proofs.lemmas.Option.{none-some, same_Some, slice_get_past}
use Rattle.std.proofs.lemmas.List.Elements.{Contains-push}
use Rattle.ompt_events.specs.declared.records.Record.{Record}
use Rattle.ompt_events.specs.declared.records.Body.{Body}
use Rattle.ompt_events.specs.declared.records.Body.TheVariants.{ThreadBegin, ThreadEnd, ParallelBegin}
use Rattle.ompt_events.specs.declared.records.Body.TheVariants.{ParallelEnd, ImplicitTask, TaskCreate}
use Rattle.ompt_events.specs.declared.records.Body.TheVariants.{Dependences, TaskSchedule, SyncRegion}
use Rattle.ompt_events.specs.declared.records.Body.TheVariants.{Cancel}
use Rattle.ompt_events.specs.declared.names.Endpoint.TheVariants.{Begin, End, BeginEnd}
use Rattle.ompt_events.specs.declared.flags.TaskFlags.{TaskFlags}
use Rattle.ompt_events.specs.Records.{made, claim}
use Rattle.ompt_events.specs.States.{is_task}
use Rattle.ompt_events.proofs.ListLemmas.{pushed_cases, take_past, get_within}
use Rattle.credit_ledger.specs.declared.entry.Entry.{Entry}
use Rattle.credit_ledger.specs.Entries.{is_overlap}
use Rattle.credit_ledger.specs.TraceEntries.{entry_of}
use Rattle.scripts.specs.declared.script.Step.{Step}
use Rattle.scripts.specs.Scripts.{ScriptView, IsScript}
use Rattle.scripts.specs.Rules.{IsMadeByStep}
use Rattle.scripts.proofs.RuleLemmas.{step_rules}
use Rattle.callbacks.proofs.KnownLaw.{take_next}
use Rattle.ompt_events.proofs.PlaceLemmas.{the_task}
use Rattle.callbacks.specs.declared.fault.CallFault.{CallFault}
use Rattle.callbacks.specs.Recorders.{RecorderView, entry_by}
use Rattle.callbacks.specs.Tasks.{TaskView, may_create, is_deep, is_crowded, is_detached, child_of}
use Rattle.callbacks.specs.Tasks.{with_child}
use Rattle.callbacks.specs.Tasks.{root_of}
use Rattle.packed_trace.specs.Named.{subject, object}
use Rattle.scripts.specs.RunCalls.{first_given, second_given, recorded_body}
use Rattle.scripts.specs.RunCalls.{first_left, second_left, call_refusal}
use Rattle.scripts.specs.Progress.{Progress, Values, value, progress, progress_to}
use Rattle.scripts.specs.Progress.{progress_with, step_refusal}
use Rattle.scripts.specs.Progress.{recorder_with, thread_records}
use Rattle.scripts.proofs.UseLemmas.{made_later}
use Rattle.scripts.proofs.ProgressLemmas.{progress_next, given_first}
use Rattle.scripts.specs.Tiling.{Holder, of_task, of_record}
use Rattle.scripts.proofs.HolderLemmas.{holder_number, same_holder}
use Rattle.scripts.proofs.ShareLemmas.{AreDisjoint, disjoint_apart, disjoint_swap, disjoint_roots}
use Rattle.scripts.proofs.ShareLemmas.{disjoint_within, disjoint_both, IsWithin, within_itself, pending}
use Rattle.scripts.proofs.ShareLemmas.{child_disjoint, siblings_disjoint, creator_within}
use Rattle.scripts.proofs.ValueLemmas.{ComesFrom, first_comes, next_comes, IsEntered, entry_entered}
use Rattle.scripts.proofs.ValueLemmas.{creator_whole, may_come}

-- ---- who has a share of a root's credit

-- what a live task would still enter, or a record entered
abbrev Held : Type 0
Held = Holder → Option Entry

abbrev held : Values → List Record → Held
held values rs (of_task task) = option_map pending (values task)
held values rs (of_record at) = option_and_then entry_of (slice_get rs at)

-- no two holders share credit, and each has it from a root that one of the first steps made
record AreHeldApart (steps : List Step) (n : ℕ) (has : Held) : Type 0 where
  pub apart : (h k : Holder) (e f : Entry) → h ≢ k → has h ≡ Some e → has k ≡ Some f → AreDisjoint e f
  pub roots : (h : Holder) (e : Entry) → has h ≡ Some e → IsMadeByStep (take n steps) e.root

-- ---- one step more

-- the holder has no more than it had
record KeepsFrom (old : Held) (h : Holder) (e : Entry) : Type 0 where
  pub from : Entry
  pub was : old h ≡ Some from
  pub within : IsWithin e from

-- what a step changes, at one holder that is new
record IsHeldNext (steps : List Step) (n : ℕ) (old new : Held) (fresh : Holder) : Type 0 where
  -- any other one has no more than it had
  pub kept : (h : Holder) (e : Entry) → h ≢ fresh → new h ≡ Some e → KeepsFrom old h e
  -- the new one shares nothing with these
  pub apart : (h : Holder) (e f : Entry) → h ≢ fresh → new fresh ≡ Some e → new h ≡ Some f → AreDisjoint e f
  pub root : (e : Entry) → new fresh ≡ Some e → IsMadeByStep (take (n + 1) steps) e.root

held_next : (steps : List Step) (n : ℕ) (s : Step) (old new : Held) (fresh : Holder)
    → slice_get steps n ≡ Some s → AreHeldApart steps n old → IsHeldNext steps n old new fresh
    → AreHeldApart steps (n + 1) new
held_next steps n s old new fresh is are next = record {
  apart = λ h k e f other has also. elim (same_holder h fresh) [
    | inl here ↦
        next.apart k e f (λ same. other (here ∙ sym same))
        (subst (λ x. new x ≡ Some e) here has) also
    | inr stays ↦ elim (same_holder k fresh) [
      | inl there ↦
          disjoint_swap f e
          (next.apart h f e stays (subst (λ x. new x ≡ Some f) there also) has)
      | inr too ↦
          let one = next.kept h e stays has in
          let two = next.kept k f too also in
          disjoint_both e one.from f two.from one.within two.within
          (are.apart h k one.from two.from other one.was two.was)
    ]
  ];
  roots = λ h e has. elim (same_holder h fresh) [
    | inl here ↦ next.root e (subst (λ x. new x ≡ Some e) here has)
    | inr stays ↦
        let one = next.kept h e stays has in
        subst (λ root. IsMadeByStep (take (n + 1) steps) root) (sym one.within.root)
        (made_later steps n s one.from.root is (are.roots h one.from one.was))
  ];
}

-- the new one has its credit from another one
split_apart : (steps : List Step) (n : ℕ) (old new : Held) (fresh source : Holder) (e from : Entry)
    → AreHeldApart steps n old → old source ≡ Some from
    → ((h : Holder) (f : Entry) → h ≢ fresh → new h ≡ Some f → KeepsFrom old h f)
    → ((f : Entry) → AreDisjoint from f → AreDisjoint e f)
    → ((f : Entry) → source ≢ fresh → new source ≡ Some f → AreDisjoint e f)
    → (h : Holder) (f : Entry) → h ≢ fresh → new h ≡ Some f → AreDisjoint e f
split_apart steps n old new fresh source e from are was kept parts halves h f other also =
    elim (same_holder source h) [
      | inl same ↦ halves f (λ x. other (sym same ∙ x)) (subst (λ x. new x ≡ Some f) (sym same) also)
      | inr apart ↦
          let one = kept h f other also in
          disjoint_within f one.from e one.within
          (parts one.from (are.apart source h from one.from apart was one.was))
    ]

-- ---- what each holder has after a step

abbrev pub values_by : Values → ℕ → Body → Values
values_by values thread body task =
    if is_task task (subject body) then first_left thread body (value values (first_given body))
    else if is_task task (object body) then
    second_left body (value values (first_given body)) (value values (second_given body))
    else values task

pub the_one : (task : ℕ) (found : Option ℕ) → is_task task found ≡ true → found ≡ Some task
the_one task None is = absurd (false≢true is)
the_one task (Some t) is = ap Some (eqb-true t task is)

record_held : (rs : List Record) (r : Record) (at : ℕ) (e : Entry)
    → option_and_then entry_of (slice_get (rs ++ r ∷ []) at) ≡ Some e
    → (option_and_then entry_of (slice_get rs at) ≡ Some e) ⊎ ((at ≡ length rs) × (entry_of r ≡ Some e))
record_held rs r at e has = by (slice_get (rs ++ r ∷ []) at) refl has
  where
    by : (o : Option Record) → slice_get (rs ++ r ∷ []) at ≡ o → option_and_then entry_of o ≡ Some e
        → (option_and_then entry_of (slice_get rs at) ≡ Some e) ⊎ ((at ≡ length rs) × (entry_of r ≡ Some e))
    by None is none = absurd (none-some e none)
    by (Some q) is makes = elim (pushed_cases rs r q at is) [
      | inl old ↦ inl (ap (option_and_then entry_of) old ∙ makes)
      | inr last ↦ inr (last.0, ap entry_of last.1 ∙ makes)
    ]

task_held : (o : Option TaskView) (e : Entry) → option_map pending o ≡ Some e
    → (t : TaskView) × (o ≡ Some t) × (pending t ≡ e)
task_held None e has = absurd (none-some e has)
task_held (Some t) e has = (t, refl, same_Some (pending t) e has)

-- the value of a task that the call does not make
second_comes : (body : Body) (values : Values) (task : ℕ) (u : TaskView) → made body ≢ Some task
    → object body ≡ Some task
    → second_left body (value values (first_given body)) (value values (second_given body)) ≡ Some u
    → ComesFrom (values task) u
second_comes (TaskCreate deps flags creator child) values task u other is left = absurd (other is)
second_comes (TaskSchedule s turns prior next claimed) values task u other is left =
    subst (λ (o : Option ℕ). ComesFrom (value values o) u) is (next_comes (value values next) u left)
second_comes _ values task u other is left = absurd (none-some task is)

pub given_or_made : (body : Body) (task : ℕ) → made body ≢ Some task → subject body ≡ Some task
    → first_given body ≡ subject body
given_or_made (ImplicitTask Begin actual index flags parallel own) task other is = absurd (other is)
given_or_made (ImplicitTask End actual index flags parallel own) task other is = refl
given_or_made (ImplicitTask BeginEnd actual index flags parallel own) task other is = refl
given_or_made (ThreadBegin kind) task other is = refl
given_or_made ThreadEnd task other is = refl
given_or_made (ParallelBegin requested own parallel) task other is = refl
given_or_made (ParallelEnd own parallel) task other is = refl
given_or_made (TaskCreate deps flags own child) task other is = refl
given_or_made (Dependences own list) task other is = refl
given_or_made (TaskSchedule s turns prior next claimed) task other is = refl
given_or_made (SyncRegion kind endpoint parallel own) task other is = refl
given_or_made (Cancel flags own claimed) task other is = refl

value_comes : (view : RecorderView) (values : Values) (thread : ℕ) (body : Body) (task : ℕ) (u : TaskView)
    → made body ≢ Some task
    → call_refusal view body (value values (first_given body)) (value values (second_given body)) ≡ None
    → values_by values thread body task ≡ Some u → ComesFrom (values task) u
value_comes view values thread body task u other accepted left =
    cond_both (is_task task (subject body)) first rest (λ (o : Option TaskView).
    o ≡ Some u → ComesFrom (values task) u)
    (λ here is.
    let names = the_one task (subject body) here in
    let given = given_or_made body task other names in
    subst (λ (o : Option ℕ). ComesFrom (value values o) u) (given ∙ names)
    (first_comes view thread body (value values (first_given body)) (value values (second_given body)) u
    given accepted is))
    (λ apart is.
    cond_both (is_task task (object body)) second (values task) (λ (o : Option TaskView).
    o ≡ Some u → ComesFrom (values task) u)
    (λ here left. second_comes body values task u other (the_one task (object body) here) left)
    (λ gone same. record { from = u; was = same; within = within_itself (pending u) })
    is)
    left
  where
    first : Option TaskView
    first = first_left thread body (value values (first_given body))

    second : Option TaskView
    second = second_left body (value values (first_given body)) (value values (second_given body))

    rest : Option TaskView
    rest = cond (is_task task (object body)) second (values task)

-- each task that it does not make, and each earlier record, has no more than it had
task_kept : (view : RecorderView) (values : Values) (rs : List Record) (r : Record) (thread : ℕ) (body : Body)
    (task : ℕ) (e : Entry)
    → made body ≢ Some task
    → call_refusal view body (value values (first_given body)) (value values (second_given body)) ≡ None
    → held (values_by values thread body) (rs ++ r ∷ []) (of_task task) ≡ Some e
    → KeepsFrom (held values rs) (of_task task) e
task_kept view values rs r thread body task e other accepted has =
    let found = task_held (values_by values thread body task) e has in
    let comes = value_comes view values thread body task found.0 other accepted found.1 in
    record {
      from = pending comes.from;
      was = ap (option_map pending) comes.was;
      within = subst (λ x. IsWithin x (pending comes.from)) found.2 comes.within;
    }

record_kept : (values : Values) (rs : List Record) (at : ℕ) (e : Entry)
    → option_and_then entry_of (slice_get rs at) ≡ Some e → KeepsFrom (held values rs) (of_record at) e
record_kept values rs at e has = record { from = e; was = has; within = within_itself e }

-- ---- a call that makes no task

last_made : (rs : List Record) (r : Record) (e : Entry)
    → option_and_then entry_of (slice_get (rs ++ r ∷ []) (length rs)) ≡ Some e → entry_of r ≡ Some e
last_made rs r e has = elim (record_held rs r (length rs) e has) [
  | inl old ↦ absurd (none-some e (sym (ap (option_and_then entry_of) (slice_get_past rs (length rs)
      (omega arith))) ∙ old))
  | inr new ↦ new.1
]

-- the value that the call is given is that of a task
given_value : (values : Values) (given : Option ℕ) (t : TaskView) → value values given ≡ Some t
    → (task : ℕ) × (given ≡ Some task) × (values task ≡ Some t)
given_value values None t is = absurd (none-some t is)
given_value values (Some task) t is = (task, refl, is)

entered_next : (steps : List Step) (n : ℕ) (s : Step) (view : RecorderView) (values : Values)
    (rs : List Record) (r : Record) (thread : ℕ) (body : Body)
    → slice_get steps n ≡ Some s → AreHeldApart steps n (held values rs)
    → ((task : ℕ) → made body ≢ Some task) → claim body ≡ None
    → call_refusal view body (value values (first_given body)) (value values (second_given body)) ≡ None
    → entry_of r
    ≡ entry_by thread
    (recorded_body body (value values (first_given body)) (value values (second_given body)))
    → AreHeldApart steps (n + 1) (held (values_by values thread body) (rs ++ r ∷ []))
entered_next steps n s view values rs r thread body is are other unclaimed accepted makes =
    held_next steps n s (held values rs) new (of_record (length rs)) is are (record {
      kept = kept;
      apart = λ h e f apart has also.
          let made = entered e has in
          let source = given_value values (first_given body) made.from made.was in
          split_apart steps n (held values rs) new (of_record (length rs)) (of_task source.0) e
          (pending made.from) are (ap (option_map pending) source.2) kept
          (λ g shared.
          disjoint_swap g e
          (disjoint_within e (pending made.from) g made.within (disjoint_swap (pending made.from) g shared)))
          (λ g one left. remains source.0 e g made source.1 left) h f apart also;
      root = λ e has.
          let made = entered e has in
          let source = given_value values (first_given body) made.from made.was in
          subst (λ root. IsMadeByStep (take (n + 1) steps) root) (sym made.within.root)
          (made_later steps n s made.from.claim.root is
          (are.roots (of_task source.0) (pending made.from) (ap (option_map pending) source.2)));
    })
  where
    new : Held
    new = held (values_by values thread body) (rs ++ r ∷ [])

    kept : (h : Holder) (e : Entry) → h ≢ of_record (length rs) → new h ≡ Some e
        → KeepsFrom (held values rs) h e
    kept (of_task task) e apart has = task_kept view values rs r thread body task e (other task) accepted has
    kept (of_record at) e apart has = elim (record_held rs r at e has) [
      | inl old ↦ record_kept values rs at e old
      | inr last ↦ absurd (apart (ap of_record last.0))
    ]

    entered : (e : Entry) → new (of_record (length rs)) ≡ Some e
        → IsEntered thread body (value values (first_given body)) e
    entered e has =
        entry_entered view thread body (value values (first_given body)) (value values (second_given body)) e
        unclaimed accepted (sym makes ∙ last_made rs r e has)

    remains : (task : ℕ) (e f : Entry) → IsEntered thread body (value values (first_given body)) e
        → first_given body ≡ Some task → new (of_task task) ≡ Some f → AreDisjoint e f
    remains task e f made is left =
        let found = task_held (values_by values thread body task) f left in
        let first = the_task task (subject body) (given_first body task is) in
        let rest : Option TaskView =
        cond (is_task task (object body))
        (second_left body (value values (first_given body)) (value values (second_given body)))
        (values task) in
        subst (AreDisjoint e) found.2
        (made.left found.0
        (sym (ap (λ b. cond b (first_left thread body (value values (first_given body))) rest) first)
        ∙ found.1))

-- ---- a call that makes a task

-- records that make no entry
none_made : (values : Values) (rs : List Record) (r : Record) (at : ℕ) (e : Entry) → entry_of r ≡ None
    → option_and_then entry_of (slice_get (rs ++ r ∷ []) at) ≡ Some e
    → KeepsFrom (held values rs) (of_record at) e
none_made values rs r at e none has = elim (record_held rs r at e has) [
  | inl old ↦ record_kept values rs at e old
  | inr last ↦ absurd (none-some e (sym none ∙ last.1))
]

-- a root begins
begun_next : (steps : List Step) (n : ℕ) (s : Step) (view : RecorderView) (values : Values)
    (rs : List Record) (r : Record) (thread actual index parallel task : ℕ) (given : TaskFlags)
    → slice_get steps n ≡ Some s → AreHeldApart steps n (held values rs)
    → s.body ≡ ImplicitTask Begin actual index given parallel task
    → (IsMadeByStep (take n steps) task → ⊥)
    → call_refusal view (ImplicitTask Begin actual index given parallel task) None None ≡ None
    → entry_of r ≡ None
    → AreHeldApart steps (n + 1)
    (held (values_by values thread (ImplicitTask Begin actual index given parallel task)) (rs ++ r ∷ []))
begun_next steps n s view values rs r thread actual index parallel task given is are is_body new_task accepted
    none =
    held_next steps n s (held values rs) new (of_task task) is are (record {
      kept = kept;
      apart = λ h e f apart has also.
          let one = kept h f apart also in
          disjoint_roots e f (λ same.
          new_task
          (subst (λ root. IsMadeByStep (take n steps) root)
          (sym one.within.root ∙ sym same ∙ root_is e has) (are.roots h one.from one.was)));
      root = λ e has.
          subst (λ root. IsMadeByStep (take (n + 1) steps) root) (sym (root_is e has))
          (subst (λ (l : List Step). IsMadeByStep l task) (sym (take_next steps n s is))
          (s, Contains-push (take n steps) s, ap made is_body));
    })
  where
    body : Body
    body = ImplicitTask Begin actual index given parallel task

    new : Held
    new = held (values_by values thread body) (rs ++ r ∷ [])

    kept : (h : Holder) (e : Entry) → h ≢ of_task task → new h ≡ Some e → KeepsFrom (held values rs) h e
    kept (of_task other) e apart has =
        task_kept view values rs r thread body other e
        (λ same. apart (ap of_task (sym (same_Some task other same)))) accepted has
    kept (of_record at) e apart has = none_made values rs r at e none has

    root_is : (e : Entry) → new (of_task task) ≡ Some e → e.root ≡ task
    root_is e has =
        let root : TaskView = root_of task (record { home = thread; actual = actual; index = index }) given in
        let found = task_held (values_by values thread body task) e has in
        let same : root ≡ found.0 =
        same_Some root found.0
        (sym (ap (λ b. cond b (Some root) (cond false None (values task))) (eq-eqb task task refl))
        ∙ found.1) in
        ap (λ (x : Entry). x.root) (sym found.2) ∙ ap (λ (t : TaskView). t.claim.root) (sym same)

-- what a task has left that creates another one, or that other one
data IsHalf (creator child : ℕ) (given : TaskFlags) (t : TaskView) (e : Entry) : Type 0 where
  is_kept : creator ≡ child → e ≡ pending (with_child t) → IsHalf creator child given t e
  is_given : e ≡ pending (child_of t child given) → IsHalf creator child given t e

half_root : (creator child : ℕ) (given : TaskFlags) (t : TaskView) (e : Entry)
    → IsHalf creator child given t e → e.root ≡ t.claim.root
half_root creator child given t e (is_kept one same) = ap (λ (x : Entry). x.root) same
half_root creator child given t e (is_given same) = ap (λ (x : Entry). x.root) same

half_disjoint : (creator child : ℕ) (given : TaskFlags) (t : TaskView) (e f : Entry)
    → is_detached t.state ≡ false → IsHalf creator child given t e → AreDisjoint (pending t) f
    → AreDisjoint e f
half_disjoint creator child given t e f alive (is_kept one same) are =
    subst (λ x. AreDisjoint x f) (sym same)
    (disjoint_swap f (pending (with_child t))
    (disjoint_within (pending (with_child t)) (pending t) f (creator_within t alive)
    (disjoint_swap (pending t) f are)))
half_disjoint creator child given t e f alive (is_given same) are =
    subst (λ x. AreDisjoint x f) (sym same) (child_disjoint t child given f alive are)

halves_apart : (creator child : ℕ) (given : TaskFlags) (t : TaskView) (e f : Entry)
    → is_detached t.state ≡ false → creator ≢ child → IsHalf creator child given t e
    → f ≡ pending (with_child t) → AreDisjoint e f
halves_apart creator child given t e f alive other (is_kept one same) left = absurd (other one)
halves_apart creator child given t e f alive other (is_given same) left =
    subst (λ x. AreDisjoint x f) (sym same)
    (subst (AreDisjoint (pending (child_of t child given))) (sym left)
    (siblings_disjoint t child given alive))

created_next : (steps : List Step) (n : ℕ) (s : Step) (view : RecorderView) (values : Values)
    (rs : List Record) (r : Record) (thread : ℕ) (deps : Bool) (given : TaskFlags) (creator child : ℕ)
    → slice_get steps n ≡ Some s → AreHeldApart steps n (held values rs)
    → call_refusal view (TaskCreate deps given creator child) (values creator) None ≡ None
    → entry_of r ≡ None
    → AreHeldApart steps (n + 1)
    (held (values_by values thread (TaskCreate deps given creator child)) (rs ++ r ∷ []))
created_next steps n s view values rs r thread deps given creator child is are accepted none =
    held_next steps n s (held values rs) new (of_task child) is are (record {
      kept = kept;
      apart = λ h e f apart has also.
          let half = half_of e has in
          let alive = whole half.0 half.1 in
          split_apart steps n (held values rs) new (of_task child) (of_task creator) e (pending half.0) are
          (ap (option_map pending) half.1) kept
          (λ g shared. half_disjoint creator child given half.0 e g alive half.2 shared)
          (λ g one left.
          halves_apart creator child given half.0 e g alive (λ same. one (ap of_task same)) half.2
          (creator_is half.0 g half.1 left))
          h f apart also;
      root = λ e has.
          let half = half_of e has in
          subst (λ root. IsMadeByStep (take (n + 1) steps) root)
          (sym (half_root creator child given half.0 e half.2))
          (made_later steps n s half.0.claim.root is
          (are.roots (of_task creator) (pending half.0) (ap (option_map pending) half.1)));
    })
  where
    body : Body
    body = TaskCreate deps given creator child

    new : Held
    new = held (values_by values thread body) (rs ++ r ∷ [])

    kept : (h : Holder) (e : Entry) → h ≢ of_task child → new h ≡ Some e → KeepsFrom (held values rs) h e
    kept (of_task other) e apart has =
        task_kept view values rs r thread body other e
        (λ same. apart (ap of_task (sym (same_Some child other same)))) accepted has
    kept (of_record at) e apart has = none_made values rs r at e none has

    whole : (t : TaskView) → values creator ≡ Some t → is_detached t.state ≡ false
    whole t has =
        creator_whole t given
        (may_come view (may_create t given) (is_deep t) (is_crowded t) body
        (subst (λ (o : Option TaskView). call_refusal view body o None ≡ None) has accepted))

    mapped : (f : TaskView → TaskView) (o : Option TaskView) (u : TaskView) → option_map f o ≡ Some u
        → (t : TaskView) × (o ≡ Some t) × (f t ≡ u)
    mapped f None u has = absurd (none-some u has)
    mapped f (Some t) u has = (t, refl, same_Some (f t) u has)

    half_of : (e : Entry) → new (of_task child) ≡ Some e
        → (t : TaskView) × (values creator ≡ Some t) × IsHalf creator child given t e
    half_of e has =
        let found = task_held (values_by values thread body child) e has in
        by (creator == child) (child == child) refl refl found.0 found.1 found.2
      where
        by : (b c : Bool) → (creator == child) ≡ b → (child == child) ≡ c → (u : TaskView)
            → cond b (option_map with_child (values creator))
            (cond c (option_map (λ t. child_of t child given) (values creator)) (values child))
            ≡ Some u
            → pending u ≡ e → (t : TaskView) × (values creator ≡ Some t) × IsHalf creator child given t e
        by true c one own u left same =
            let (t, was, is) = mapped with_child (values creator) u left in
            (t, was, is_kept (eqb-true creator child one) (sym same ∙ ap pending (sym is)))
        by false true one own u left same =
            let (t, was, is) = mapped (λ t. child_of t child given) (values creator) u left in
            (t, was, is_given (sym same ∙ ap pending (sym is)))
        by false false one own u left same = absurd (false≢true (sym own ∙ eq-eqb child child refl))

    creator_is : (t : TaskView) (f : Entry) → values creator ≡ Some t → new (of_task creator) ≡ Some f
        → f ≡ pending (with_child t)
    creator_is t f was left =
        let found = task_held (values_by values thread body creator) f left in
        let rest : Option TaskView =
        cond (child == creator) (option_map (λ t. child_of t child given) (values creator))
        (values creator) in
        let same : with_child t ≡ found.0 =
        same_Some (with_child t) found.0
        (sym (ap (option_map with_child) was)
        ∙ sym (ap (λ b. cond b (option_map with_child (values creator)) rest) (eq-eqb creator creator refl))
        ∙ found.1) in
        sym found.2 ∙ ap pending (sym same)

-- ---- any call

body_next : (steps : List Step) (n : ℕ) (s : Step) (view : RecorderView) (values : Values)
    (rs : List Record) (r : Record) (thread : ℕ) (body : Body)
    → slice_get steps n ≡ Some s → AreHeldApart steps n (held values rs) → s.body ≡ body
    → ((task : ℕ) → made body ≡ Some task → IsMadeByStep (take n steps) task → ⊥) → claim body ≡ None
    → call_refusal view body (value values (first_given body)) (value values (second_given body)) ≡ None
    → entry_of r
    ≡ entry_by thread
    (recorded_body body (value values (first_given body)) (value values (second_given body)))
    → AreHeldApart steps (n + 1) (held (values_by values thread body) (rs ++ r ∷ []))
body_next steps n s view values rs r thread (ImplicitTask Begin actual index given parallel task) is are
    is_body new unclaimed accepted makes =
    begun_next steps n s view values rs r thread actual index parallel task given is are is_body
    (new task refl) accepted makes
body_next steps n s view values rs r thread (TaskCreate deps given creator child) is are is_body new unclaimed
    accepted makes =
    created_next steps n s view values rs r thread deps given creator child is are accepted makes
body_next steps n s view values rs r thread body is are is_body new unclaimed accepted makes =
    entered_next steps n s view values rs r thread body is are (λ task. none-some task) unclaimed accepted
    makes

step_next : (script : ScriptView) (n : ℕ) (s : Step) → IsScript script.steps
    → slice_get script.steps n ≡ Some s
    → AreHeldApart script.steps n (held (progress_to script n).values (progress_to script n).records)
    → AreHeldApart script.steps (n + 1)
    (held (progress_to script (n + 1)).values (progress_to script (n + 1)).records)
step_next script n s is_script is are =
    let p = progress_to script n in
    let rules = step_rules script.steps n s is_script is in
    subst (λ (q : Progress). AreHeldApart script.steps (n + 1) (held q.values q.records))
    (sym (progress_next script n s is))
    (by (step_refusal script.capacity script.nests p s) (λ accepted.
    body_next script.steps n s
    (recorder_with script.capacity script.nests s.thread (thread_records p.records s.thread))
    p.values p.records _ s.thread s.body is are refl rules.new rules.no_claim accepted refl))
  where
    later : AreHeldApart script.steps (n + 1)
        (held (progress_to script n).values (progress_to script n).records)
    later = record {
      apart = are.apart;
      roots = λ h e has. made_later script.steps n s e.root is (are.roots h e has);
    }

    by : (found : Option CallFault)
        → (found ≡ None
        → AreHeldApart script.steps (n + 1)
        (held (progress_with script.nests (progress_to script n) s).values
        (progress_with script.nests (progress_to script n) s).records))
        → AreHeldApart script.steps (n + 1)
        (held
        (cond (is_some found) (progress_to script n)
        (progress_with script.nests (progress_to script n) s)).values
        (cond (is_some found) (progress_to script n)
        (progress_with script.nests (progress_to script n) s)).records)
    by None next = next refl
    by (Some fault) next = later

-- after any number of steps
all_apart : (script : ScriptView) (n : ℕ) → IsScript script.steps
    → AreHeldApart script.steps n (held (progress_to script n).values (progress_to script n).records)
all_apart script zero is_script = record {
  apart = λ h k e f other has also. nothing h e has (AreDisjoint e f);
  roots = λ h e has. nothing h e has (IsMadeByStep (take zero script.steps) e.root);
}
  where
    nothing : (h : Holder) (e : Entry)
        → held (progress_to script zero).values (progress_to script zero).records h ≡ Some e → (X : Type 0)
        → X
    nothing (of_task task) e has X = absurd (none-some e has)
    nothing (of_record at) e has X = absurd (none-some e has)
all_apart script (suc n) is_script = elim (cases_lt n (length script.steps)) [
  | inl less ↦
      let (s, is) = get_within script.steps n less in
      let one : n + 1 ≡ suc n = omega arith in
      subst
      (λ k. AreHeldApart script.steps k (held (progress_to script k).values (progress_to script k).records))
      one (step_next script n s is_script is (all_apart script n is_script))
  | inr past ↦
      let same : take n script.steps ≡ take (suc n) script.steps =
      take_past script.steps n past ∙ sym (take_past script.steps (suc n) (omega arith)) in
      let are = all_apart script n is_script in
      subst
      (λ (l : List Step).
      AreHeldApart script.steps (suc n) (held (progress script.capacity script.nests l).values
      (progress script.capacity script.nests l).records))
      same
      (record {
        apart = are.apart;
        roots = λ h e has. subst (λ (l : List Step). IsMadeByStep l e.root) same (are.roots h e has);
      })
]

-- entries of two records do not overlap. Nothing of an entry depends on the length that its record names
pub entries_apart : (script : ScriptView) (n i j : ℕ) (r q : Record) (e f : Entry) → IsScript script.steps
    → i ≢ j → slice_get (progress_to script n).records i ≡ Some r
    → slice_get (progress_to script n).records j ≡ Some q → entry_of r ≡ Some e → entry_of q ≡ Some f
    → is_overlap e f ≡ false
entries_apart script n i j r q e f is_script apart first second makes also =
    disjoint_apart e f
    ((all_apart script n is_script).apart (of_record i) (of_record j) e f
    (λ same. apart (ap holder_number same)) (ap (option_and_then entry_of) first ∙ makes)
    (ap (option_and_then entry_of) second ∙ also))
