-- Tasks are handed over with the length of the ledger, and are made once.
use Rattle.std.proofs.Common.{ℕ, ◌≡◌, ◌≢◌, ◌∙◌, ◌+◌, ◌<◌, ◌≤◌, List, Bool, true, false, refl, sym, ap, subst}
use Rattle.std.proofs.Common.{inl, inr, Option, Some, None, arith, length, map, take, take-take, zero, suc}
use Rattle.std.proofs.Common.{cond}
use Rattle.std.specs.Prelude.{◌==◌, ◌||◌, Contains, count_by, slice_get, option_map, option_and_then}
use Rattle.std.specs.Option.{option_map_or}
use Rattle.std.proofs.lemmas.Bool.{cases_eq, cases_lt, cases_Bool, eq-eqb, or_left, or_right, false≢true}
use Rattle.std.proofs.lemmas.List.{length-map, length_push}
use Rattle.std.proofs.lemmas.List.Sums.{count_by_more_yes, sum_by-take-le}
use Rattle.std.proofs.lemmas.Option.{none-some, same_Some, slice_get_within, slice_get-map}
use Rattle.std.proofs.lemmas.Option.{get_or_from_slice_get}
use Rattle.ompt_events.specs.declared.records.Record.{Record}
use Rattle.ompt_events.specs.declared.records.Body.{Body}
use Rattle.ompt_events.specs.declared.records.Body.TheVariants.{ImplicitTask, TaskCreate, TaskSchedule}
use Rattle.ompt_events.specs.declared.records.Body.TheVariants.{Cancel}
use Rattle.ompt_events.specs.declared.names.Endpoint.TheVariants.{End}
use Rattle.ompt_events.specs.declared.names.Status.TheVariants as status
use Rattle.ompt_events.specs.declared.cause.Cause.TheVariants.{SeqGap}
use Rattle.ompt_events.specs.Causes.{IsFreeOf, IsMadeAgain, seq_gap}
use Rattle.ompt_events.specs.Flags as flag
use Rattle.ompt_events.specs.Flags.{has_flag}
use Rattle.ompt_events.specs.Places.{at, seen_at}
use Rattle.ompt_events.specs.Records as says
use Rattle.ompt_events.specs.Records.{made, named, created, suspended, fulfilled, discarded, begun_turn}
use Rattle.ompt_events.specs.Records.{suspended_turn, next_turn, prior_turn}
use Rattle.ompt_events.specs.States.{is_task}
use Rattle.ompt_events.proofs.ListLemmas.{get_within, get_contains, contains_get, pushed_cases}
use Rattle.ompt_events.proofs.PlaceLemmas.{Contains-filter, get_at, the_task, is_the_task}
use Rattle.credit_ledger.proofs.EntryLemmas.{take_get}
use Rattle.callbacks.specs.Gathered.{AreHandedOver, IsHandOver, started, was_discarded, was_fulfilled}
use Rattle.callbacks.specs.Gathered.{runs_on}
use Rattle.scripts.specs.declared.script.Step.{Step}
use Rattle.scripts.specs.Scripts.{ScriptView, IsScript, step_count}
use Rattle.scripts.specs.Rules.{IsMadeByStep}
use Rattle.scripts.proofs.RuleLemmas.{step_rules}
use Rattle.callbacks.specs.Tasks.{TaskView}
use Rattle.packed_trace.specs.Named.{subject, object}
use Rattle.scripts.specs.Called.{called}
use Rattle.scripts.specs.RunCalls.{first_given, second_given, recorded_body}
use Rattle.scripts.specs.HandOvers.{step_record, is_use, ArePassedOn}
use Rattle.scripts.specs.Parts.{id_of}
use Rattle.scripts.specs.Progress.{Progress, value, progress_to, refused_at, step_refusal, thread_records}
use Rattle.scripts.specs.Progress.{own_records, without_seen, recorder_with}
use Rattle.scripts.proofs.CalledLemmas.{recorded_called, recorded_to, has_id, given_has, next_has}
use Rattle.scripts.proofs.CalledLemmas.{first_is_named}
use Rattle.scripts.proofs.PlaceLemmas.{count_next, count_other, count_past}
use Rattle.scripts.proofs.ProgressLemmas.{own_next, own_other, accepted_next, value_second, not_first}
use Rattle.scripts.proofs.ProgressLemmas.{named_apart, record_by}
use Rattle.scripts.proofs.TurnLemmas.{IsFromTurn, resumed_value, suspended_value, turn_stays, made_up_to}

-- no step is refused
abbrev pub AreAllAccepted : ScriptView → Type 0
AreAllAccepted script = (at : ℕ) → refused_at script at ≡ None

-- the values that a step is given
abbrev first_at : ScriptView → ℕ → Step → Option TaskView
first_at script at s = value (progress_to script at).values (first_given s.body)

abbrev second_at : ScriptView → ℕ → Step → Option TaskView
second_at script at s = value (progress_to script at).values (second_given s.body)

-- the body of its record
abbrev body_at : ScriptView → ℕ → Step → Body
body_at script at s = recorded_body s.body (first_at script at s) (second_at script at s)

-- ---- which step makes a record

-- a thread has as many records as steps
pub own_count : (script : ScriptView) (thread n : ℕ) → AreAllAccepted script → n ≤ length script.steps
    → length (own_records script n thread) ≡ step_count (take n script.steps) thread
own_count script thread zero accepted within = refl
own_count script thread (suc n) accepted within =
    let (s, is) = get_within script.steps n (omega arith) in
    let one : n + 1 ≡ suc n = omega arith in
    let before = own_count script thread n accepted (omega arith) in
    subst (λ m. length (own_records script m thread) ≡ step_count (take m script.steps) thread) one
    (elim (cases_eq s.thread thread) [
      | inl same ↦
          let own = own_records script n s.thread in
          let new =
          record_by s.body s.thread script.nests own (first_at script n s) (second_at script n s) in
          let so_far : length own ≡ step_count (take n script.steps) s.thread =
          subst (λ t. length (own_records script n t) ≡ step_count (take n script.steps) t) (sym same)
          before in
          let longer = length_push own new in
          let next = count_next script.steps n s s.thread is refl in
          subst (λ t. length (own_records script (n + 1) t) ≡ step_count (take (n + 1) script.steps) t) same
          (ap length (own_next script n s is (accepted n)) ∙ longer ∙ ap (λ k. k + 1) so_far ∙ sym next)
      | inr other ↦
          ap length (own_other script n s thread is other) ∙ before
          ∙ sym (count_other script.steps n s thread is other)
    ])

-- the record at this place of a thread is the one that this step makes
record IsOwnStep (script : ScriptView) (thread place : ℕ) (x : Record) : Type 0 where
  pub index : ℕ
  pub step : Step
  pub stands : slice_get script.steps index ≡ Some step
  pub of_thread : step.thread ≡ thread
  pub count : step_count (take index script.steps) thread ≡ place
  pub body_is : x.body ≡ body_at script index step

own_step : (script : ScriptView) (thread n place : ℕ) (x : Record) → AreAllAccepted script
    → n ≤ length script.steps → slice_get (own_records script n thread) place ≡ Some x
    → IsOwnStep script thread place x
own_step script thread zero place x accepted within is = absurd (none-some x is)
own_step script thread (suc n) place x accepted within is =
    let (s, stands) = get_within script.steps n (omega arith) in
    let one : suc n ≡ n + 1 = omega arith in
    let here = subst (λ m. slice_get (own_records script m thread) place ≡ Some x) one is in
    elim (cases_eq s.thread thread) [
      | inl same ↦
          let own = own_records script n s.thread in
          let new =
          record_by s.body s.thread script.nests own (first_at script n s) (second_at script n s) in
          elim
          (pushed_cases own new x place
          (ap (λ l. slice_get l place) (sym (own_next script n s stands (accepted n)))
          ∙ subst (λ t. slice_get (own_records script (n + 1) t) place ≡ Some x) (sym same) here)) [
            | inl old ↦
                own_step script thread n place x accepted (omega arith)
                (subst (λ t. slice_get (own_records script n t) place ≡ Some x) same old)
            | inr (last, new_is) ↦ record {
              index = n;
              step = s;
              stands = stands;
              of_thread = same;
              count =
                  sym (own_count script thread n accepted (omega arith))
                  ∙ ap (λ t. length (own_records script n t)) (sym same) ∙ sym last;
              body_is = ap (λ (r : Record). r.body) (sym new_is);
            }
          ]
      | inr other ↦
          own_step script thread n place x accepted (omega arith)
          (ap (λ l. slice_get l place) (sym (own_other script n s thread stands other)) ∙ here)
    ]

-- the records of each thread are those that the script determines
abbrev pub AreRecords : ScriptView → List Record → Type 0
AreRecords script rs =
    (thread : ℕ)
    → map without_seen (thread_records rs thread) ≡ own_records script (length script.steps) thread

-- the record is that of this step
record IsOfStep (script : ScriptView) (rs : List Record) (x : Record) : Type 0 where
  pub index : ℕ
  pub step : Step
  pub stands : slice_get script.steps index ≡ Some step
  pub recorded : step_record script.steps rs index ≡ Some x
  pub body_is : x.body ≡ body_at script index step

step_of : (script : ScriptView) (rs : List Record) (i : ℕ) (x : Record) → AreAllAccepted script
    → AreRecords script rs → slice_get rs i ≡ Some x → IsOfStep script rs x
step_of script rs i x accepted records is =
    let own = thread_records rs x.thread in
    let (k, has) = contains_get own x (Contains-filter (λ (r : Record). r.thread == x.thread) rs x
    (get_contains rs x i is) (eq-eqb x.thread x.thread refl)) in
    let by = own_step script x.thread (length script.steps) k (without_seen x) accepted (omega arith)
    (ap (λ l. slice_get l k) (sym (records x.thread)) ∙ slice_get-map without_seen own k
    ∙ ap (option_map without_seen) has) in
    record {
      index = by.index;
      step = by.step;
      stands = by.stands;
      recorded =
          record_there script.steps rs by.index by.step by.stands
          ∙ ap (λ t. slice_get (thread_records rs t) (step_count (take by.index script.steps) t)) by.of_thread
          ∙ ap (slice_get own) by.count ∙ has;
      body_is = by.body_is;
    }
  where
    record_there : (steps : List Step) (qs : List Record) (n : ℕ) (s : Step) → slice_get steps n ≡ Some s
        → step_record steps qs n ≡ slice_get (thread_records qs s.thread) (step_count (take n steps) s.thread)
    record_there steps qs n s stands =
        ap
        (option_and_then
        (λ (q : Step). slice_get (thread_records qs q.thread) (step_count (take n steps) q.thread)))
        stands

-- each step has its record
has_record : (script : ScriptView) (rs : List Record) (n : ℕ) (s : Step) → AreAllAccepted script
    → AreRecords script rs → slice_get script.steps n ≡ Some s
    → (x : Record) × (step_record script.steps rs n ≡ Some x)
has_record script rs n s accepted records is =
    let own = thread_records rs s.thread in
    let k = step_count (take n script.steps) s.thread in
    let past = count_past script.steps s.thread n (length script.steps) s is refl
    (slice_get_within script.steps n s is) in
    let long : length own ≡ step_count (take (length script.steps) script.steps) s.thread =
    sym (length-map own without_seen) ∙ ap length (records s.thread)
    ∙ own_count script s.thread (length script.steps) accepted (omega arith) in
    let (x, has) = get_within own k (omega (arith, past, long)) in (
      x,
      ap
          (option_and_then
          (λ (q : Step). slice_get (thread_records rs q.thread) (step_count (take n script.steps) q.thread)))
          is
          ∙ has,
    )

-- ---- uses of a task

first_use : (steps : List Step) (task n : ℕ) (s : Step) → slice_get steps n ≡ Some s
    → subject s.body ≡ Some task → is_use steps task n ≡ true
first_use steps task n s is names =
    ap
    (λ (o : Option Step).
    option_map_or (λ (q : Step). is_task task (subject q.body) || is_task task (object q.body)) o
    false) is
    ∙ or_left (is_task task (subject s.body)) (is_task task (object s.body))
    (the_task task (subject s.body) names)

second_use : (steps : List Step) (task n : ℕ) (s : Step) → slice_get steps n ≡ Some s
    → object s.body ≡ Some task → is_use steps task n ≡ true
second_use steps task n s is names =
    ap
    (λ (o : Option Step).
    option_map_or (λ (q : Step). is_task task (subject q.body) || is_task task (object q.body)) o
    false) is
    ∙ or_right (is_task task (subject s.body)) (is_task task (object s.body))
    (the_task task (object s.body) names)

-- a use has its step
use_step : (steps : List Step) (task n : ℕ) → is_use steps task n ≡ true
    → (s : Step) × (slice_get steps n ≡ Some s)
use_step steps task n is = by (slice_get steps n) refl is
  where
    by : (o : Option Step) → slice_get steps n ≡ o
        → option_map_or
        (λ (s : Step). is_task task (subject s.body) || is_task task (object s.body)) o false
        ≡ true
        → (s : Step) × (slice_get steps n ≡ Some s)
    by None none used = absurd (false≢true used)
    by (Some s) stands used = (s, stands)

-- the last use before a place
record IsLastUse (steps : List Step) (task first next : ℕ) : Type 0 where
  pub last : ℕ
  pub from : first ≤ last
  pub below : last < next
  pub used : is_use steps task last ≡ true
  pub between : (k : ℕ) → last < k → k < next → is_use steps task k ≡ false

last_use : (steps : List Step) (task first next : ℕ) → first < next → is_use steps task first ≡ true
    → IsLastUse steps task first next
last_use steps task first zero less used = absurd (omega arith)
last_use steps task first (suc n) less used = elim (cases_Bool (is_use steps task n)) [
  | inl here ↦ record {
    last = n;
    from = omega arith;
    below = omega arith;
    used = here;
    between = λ k above low. absurd (omega arith);
  }
  | inr not_here ↦ elim (cases_eq first n) [
    | inl same ↦
        absurd (false≢true (sym not_here ∙ ap (is_use steps task) (sym same) ∙ used))
    | inr apart ↦
        let before = last_use steps task first n (omega arith) used in
        let low = before.below in
        record {
          last = before.last;
          from = before.from;
          below = omega arith;
          used = before.used;
          between = λ k above less_k. elim (cases_lt k n) [
            | inl earlier ↦ before.between k above earlier
            | inr later ↦
                let same : k ≡ n = omega arith in ap (is_use steps task) same ∙ not_here
          ];
        }
  ]
]

-- the record of a use names at least the length that the record of an earlier one names
pub passed_between : (script : ScriptView) (rs : List Record) (task first next : ℕ) (q r : Record)
    → AreAllAccepted script → AreRecords script rs → ArePassedOn script.steps rs → first ≤ next
    → is_use script.steps task first ≡ true → is_use script.steps task next ≡ true
    → step_record script.steps rs first ≡ Some q → step_record script.steps rs next ≡ Some r
    → q.seen ≤ r.seen
passed_between script rs task first next q r accepted records passed low used used_next =
    up_to next next r (omega arith) low used_next
  where
    up_to : (n k : ℕ) (x : Record) → k ≤ n → first ≤ k → is_use script.steps task k ≡ true
        → step_record script.steps rs first ≡ Some q → step_record script.steps rs k ≡ Some x
        → q.seen ≤ x.seen
    up_to zero k x within from here has there =
        let same : first ≡ k = omega arith in
        let one = same_Some q x (sym has ∙ ap (step_record script.steps rs) same ∙ there) in
        let seen = ap (λ (y : Record). y.seen) one in omega arith
    up_to (suc n) k x within from here has there = elim (cases_lt first k) [
      | inl less ↦
          let before = last_use script.steps task first k less used in
          let below = before.below in
          let (s, stands) = use_step script.steps task before.last before.used in
          let (y, between) = has_record script rs before.last s accepted records stands in
          let earlier =
          up_to n before.last y (omega arith) before.from before.used has between in
          let last =
          passed task before.last k y x
          (record {
            below = before.below;
            used = before.used;
            used_next = here;
            between = before.between;
          }) between there in
          omega (arith, earlier, last)
      | inr past ↦
          let same : first ≡ k = omega arith in
          let one = same_Some q x (sym has ∙ ap (step_record script.steps rs) same ∙ there) in
          let seen = ap (λ (y : Record). y.seen) one in omega arith
    ]

-- ---- what records and steps have in common

step_ids : (script : ScriptView) (n : ℕ) (s : Step) → IsScript script.steps → AreAllAccepted script
    → slice_get script.steps n ≡ Some s
    → (id_of (first_at script n s) ≡ first_given s.body)
    × (id_of (second_at script n s) ≡ second_given s.body)
step_ids script n s is_script accepted is =
    let values = (progress_to script n).values in
    let have = (recorded_to script n is_script (λ k before. accepted k)).values in
    let rules = step_rules script.steps n s is_script is in (
      has_id values (first_given s.body) (given_has script.steps n s values have rules),
      has_id values (second_given s.body) (next_has script.steps n s values have rules),
    )

created_called : (body : Body) → created (called body) ≡ created body
created_called (ImplicitTask End actual index given parallel task) = refl
created_called (TaskSchedule s turns prior next claimed) = refl
created_called (Cancel given task claimed) = refl
created_called _ = refl

started_called : (body : Body) → says.started (called body) ≡ says.started body
started_called (ImplicitTask End actual index given parallel task) = refl
started_called (TaskSchedule s turns prior next claimed) = refl
started_called (Cancel given task claimed) = refl
started_called _ = refl

discarded_called : (body : Body) → discarded (called body) ≡ discarded body
discarded_called (ImplicitTask End actual index given parallel task) = refl
discarded_called (TaskSchedule s turns prior next claimed) = refl
discarded_called (Cancel given task claimed) = refl
discarded_called _ = refl

fulfilled_called : (body : Body) → fulfilled (called body) ≡ fulfilled body
fulfilled_called (ImplicitTask End actual index given parallel task) = refl
fulfilled_called (TaskSchedule status.EarlyFulfill turns prior next claimed) = refl
fulfilled_called (TaskSchedule status.LateFulfill turns prior next claimed) = refl
fulfilled_called (TaskSchedule _ turns prior next claimed) = refl
fulfilled_called (Cancel given task claimed) = refl
fulfilled_called _ = refl

suspended_called : (body : Body) → suspended (called body) ≡ suspended body
suspended_called (ImplicitTask End actual index given parallel task) = refl
suspended_called (TaskSchedule status.Yield turns prior next claimed) = refl
suspended_called (TaskSchedule status.Switch turns prior next claimed) = refl
suspended_called (TaskSchedule _ turns prior next claimed) = refl
suspended_called (Cancel given task claimed) = refl
suspended_called _ = refl

-- what only the call tells, the record tells as the step does
told_by_step : {X : Type 0} (f : Body → Option X) (script : ScriptView) (rs : List Record) (x : Record)
    (y : X)
    → ((body : Body) → f (called body) ≡ f body) → IsScript script.steps → AreAllAccepted script
    → (o : IsOfStep script rs x) → f x.body ≡ Some y → f o.step.body ≡ Some y
told_by_step f script rs x y same is_script accepted o tells =
    let (one, two) = step_ids script o.index o.step is_script accepted o.stands in
    let first = first_at script o.index o.step in
    let second = second_at script o.index o.step in
    sym (same o.step.body) ∙ ap f (sym (recorded_called o.step.body first second one two))
    ∙ same (body_at script o.index o.step) ∙ ap f (sym o.body_is) ∙ tells

created_made : (body : Body) (task : ℕ) → created body ≡ Some task → made body ≡ Some task
created_made (TaskCreate deps given own child) task is = is
created_made _ task is = absurd (none-some task is)

created_second : (body : Body) (task : ℕ) → created body ≡ Some task → object body ≡ Some task
created_second (TaskCreate deps given own child) task is = is
created_second _ task is = absurd (none-some task is)

started_second : (body : Body) (task : ℕ) → says.started body ≡ Some task → object body ≡ Some task
started_second (TaskSchedule s turns prior next claimed) task is = is
started_second _ task is = absurd (none-some task is)

started_unmade : (body : Body) (task other : ℕ) → says.started body ≡ Some task → made body ≢ Some other
started_unmade (TaskSchedule s turns prior next claimed) task other is makes = none-some other makes
started_unmade _ task other is makes = none-some task is

suspended_first : (body : Body) (task : ℕ) → suspended body ≡ Some task → subject body ≡ Some task
suspended_first (TaskSchedule status.Yield turns prior next claimed) task is = is
suspended_first (TaskSchedule status.Switch turns prior next claimed) task is = is
suspended_first _ task is = absurd (none-some task is)

suspended_given : (body : Body) (task : ℕ) → suspended body ≡ Some task → first_given body ≡ Some task
suspended_given (TaskSchedule status.Yield turns prior next claimed) task is = is
suspended_given (TaskSchedule status.Switch turns prior next claimed) task is = is
suspended_given _ task is = absurd (none-some task is)

fulfilled_first : (body : Body) (task : ℕ) → fulfilled body ≡ Some task → subject body ≡ Some task
fulfilled_first (TaskSchedule status.EarlyFulfill turns prior next claimed) task is = is
fulfilled_first (TaskSchedule status.LateFulfill turns prior next claimed) task is = is
fulfilled_first _ task is = absurd (none-some task is)

discarded_first : (body : Body) (task : ℕ) → discarded body ≡ Some task → subject body ≡ Some task
discarded_first (Cancel given own claimed) task is = by (has_flag given.0 flag.discarded_task) is
  where
    by : (b : Bool) → cond b (Some own) None ≡ Some task → Some own ≡ Some task
    by true same = same
    by false none = absurd (none-some task none)
discarded_first _ task is = absurd (none-some task is)

pub second_is_named : (body : Body) (task : ℕ) → object body ≡ Some task → Contains (named body) task
second_is_named (TaskCreate deps given own child) task is = (1, omega arith, same_Some child task is)
second_is_named (TaskSchedule s turns prior (Some next) claimed) task is =
    (1, omega arith, same_Some next task is)
second_is_named (TaskSchedule s turns prior None claimed) task is = absurd (none-some task is)
second_is_named _ task is = absurd (none-some task is)

-- ---- the order of the steps

-- no step before the one that makes a task names it
pub made_first : (steps : List Step) (task i j : ℕ) (s t : Step) → IsScript steps → slice_get steps i ≡ Some s
    → made s.body ≡ Some task → slice_get steps j ≡ Some t → Contains (named t.body) task → i ≤ j
made_first steps task i j s t is_script is makes there names = elim (cases_lt j i) [
  | inl less ↦ absurd ((step_rules steps i s is_script is).new task makes (before less))
  | inr low ↦ low
]
  where
    before : j < i → IsMadeByStep (take i steps) task
    before less = elim (cases_Bool (is_task task (made t.body))) [
      | inl makes_it ↦ (
        t,
        get_contains (take i steps) t j (take_get steps i j t less there),
        is_the_task task (made t.body) makes_it,
      )
      | inr other ↦
          made_up_to steps task j i (omega arith)
          ((step_rules steps j t is_script there).live task names
          (λ same. false≢true (sym other ∙ the_task task (made t.body) same))).0
    ]

-- the call of a step that is not refused
step_accepts : (script : ScriptView) (n : ℕ) (s : Step) → AreAllAccepted script
    → slice_get script.steps n ≡ Some s
    → step_refusal script.capacity script.nests (progress_to script n) s ≡ None
step_accepts script n s accepted is =
    sym (ap (option_and_then (λ q. step_refusal script.capacity script.nests (progress_to script n) q)) is)
    ∙ accepted n

with_turn : (o : Option ℕ) (n task turn : ℕ) → option_map {U = ℕ × ℕ} (λ t. (t, n)) o ≡ Some (task, turn)
    → (o ≡ Some task) × (n ≡ turn)
with_turn None n task turn is = absurd (none-some (task, turn) is)
with_turn (Some t) n task turn is =
    let same : (t, n) ≡ (task, turn) = same_Some (t, n) (task, turn) is in
    (ap (λ (p : ℕ × ℕ). Some p.0) same, ap (λ (p : ℕ × ℕ). p.1) same)

-- a task ends a turn before it begins the next one
ends_first : (script : ScriptView) (rs : List Record) (task turn : ℕ) (q r : Record) → IsScript script.steps
    → AreAllAccepted script → suspended_turn q.body ≡ Some (task, turn)
    → begun_turn r.body ≡ Some (task, turn + 1) → (i : IsOfStep script rs q) → (j : IsOfStep script rs r)
    → i.index ≤ j.index
ends_first script rs task turn q r is_script accepted ends begins i j = elim (cases_lt j.index i.index) [
  | inl less ↦
      let (suspends, turn_is) = with_turn (suspended q.body) (prior_turn q.body) task turn ends in
      let (starts, next_is) = with_turn (says.started r.body) (next_turn r.body) task (turn + 1) begins in
      let by_i = told_by_step suspended script rs q task suspended_called is_script accepted i suspends in
      let by_j = told_by_step says.started script rs r task started_called is_script accepted j starts in
      let after =
      turn_stays script task (turn + 1) (j.index + 1) i.index is_script accepted
      (made_up_to script.steps task j.index (j.index + 1) (omega arith) (was_made by_j)) (omega arith)
      (within i.index i.step i.stands) (begun by_j next_is) in
      let (t, was, its_turn) =
      suspended_value (recorder_with script.capacity script.nests i.step.thread
      (thread_records (progress_to script i.index).records i.step.thread)) i.step.body
      (first_at script i.index i.step) (second_at script i.index i.step) task turn
      (step_accepts script i.index i.step accepted i.stands)
      (step_ids script i.index i.step is_script accepted i.stands).0 by_i
      (ap prior_turn (sym i.body_is) ∙ turn_is) in
      let low =
      after t
      (ap (value (progress_to script i.index).values) (sym (suspended_given i.step.body task by_i)) ∙ was) in
      absurd (omega (arith, low, its_turn))
  | inr low ↦ low
]
  where
    within : (n : ℕ) (s : Step) → slice_get script.steps n ≡ Some s → n ≤ length script.steps
    within n s is = let less = slice_get_within script.steps n s is in omega arith

    was_made : says.started j.step.body ≡ Some task → IsMadeByStep (take j.index script.steps) task
    was_made starts =
        ((step_rules script.steps j.index j.step is_script j.stands).live task
        (second_is_named j.step.body task (started_second j.step.body task starts))
        (started_unmade j.step.body task task starts)).0

    begun : says.started j.step.body ≡ Some task → next_turn r.body ≡ turn + 1
        → IsFromTurn (turn + 1) ((progress_to script (j.index + 1)).values task)
    begun starts next_is =
        let second = started_second j.step.body task starts in
        let apart : is_task task (subject j.step.body) ≡ false =
        not_first (subject j.step.body) task (λ a first.
        named_apart j.step.body a task (step_rules script.steps j.index j.step is_script j.stands).apart
        first second) in
        subst (λ (o : Option TaskView). IsFromTurn (turn + 1) o)
        (sym
        (ap (λ (p : Progress). p.values task)
        (accepted_next script j.index j.step j.stands (accepted j.index))
        ∙ value_second (progress_to script j.index).values j.step task apart second))
        (resumed_value (recorder_with script.capacity script.nests j.step.thread
        (thread_records (progress_to script j.index).records j.step.thread)) j.step.body
        (first_at script j.index j.step) (second_at script j.index j.step) task turn
        (step_accepts script j.index j.step accepted j.stands)
        (step_ids script j.index j.step is_script accepted j.stands).0 starts
        (ap next_turn (sym j.body_is) ∙ next_is))

-- ---- all hand-overs

pub handed_over : (script : ScriptView) (rs : List Record) → IsScript script.steps
    → ((at : ℕ) → refused_at script at ≡ None)
    → ((thread : ℕ)
    → map without_seen (thread_records rs thread) ≡ own_records script (length script.steps) thread)
    → ArePassedOn script.steps rs → AreHandedOver rs
handed_over script rs is_script accepted records passed a b over = by over
  where
    -- from an earlier use of a task to a later one
    later : (task : ℕ) (q r : Record) → slice_get rs a ≡ Some q → slice_get rs b ≡ Some r
        → (i : IsOfStep script rs q) → (j : IsOfStep script rs r) → i.index ≤ j.index
        → is_use script.steps task i.index ≡ true → is_use script.steps task j.index ≡ true
        → seen_at rs a ≤ seen_at rs b
    later task q r first next i j low used used_next =
        let seen : seen_at rs a ≡ q.seen =
        ap (λ (o : Option Record). option_map_or (λ (x : Record). x.seen) o 0) first in
        let seen_next : seen_at rs b ≡ r.seen =
        ap (λ (o : Option Record). option_map_or (λ (x : Record). x.seen) o 0) next in
        let less =
        passed_between script rs task i.index j.index q r accepted records passed low used used_next
        i.recorded j.recorded in
        omega (arith, seen, seen_next, less)

    -- from the creation of a task to a later use
    from_creation : (f : Body → Option ℕ) (task : ℕ) → ((body : Body) → f (called body) ≡ f body)
        → ((body : Body) → f body ≡ Some task → Contains (named body) task)
        → ((n : ℕ) (s : Step) → slice_get script.steps n ≡ Some s → f s.body ≡ Some task
        → is_use script.steps task n ≡ true)
        → at created rs a ≡ Some task → at f rs b ≡ Some task → seen_at rs a ≤ seen_at rs b
    from_creation f task same is_named uses creates then =
        let (q, first, makes) = get_at created rs a task creates in
        let (r, next, tells) = get_at f rs b task then in
        let i = step_of script rs a q accepted records first in
        let j = step_of script rs b r accepted records next in
        let by_i = told_by_step created script rs q task created_called is_script accepted i makes in
        let by_j = told_by_step f script rs r task same is_script accepted j tells in
        later task q r first next i j
        (made_first script.steps task i.index j.index i.step j.step is_script i.stands
        (created_made i.step.body task by_i) j.stands (is_named j.step.body by_j))
        (second_use script.steps task i.index i.step i.stands (created_second i.step.body task by_i))
        (uses j.index j.step j.stands by_j)

    at_start : (task : ℕ) → at begun_turn rs b ≡ Some (task, 0) → at says.started rs b ≡ Some task
    at_start task begins =
        let (r, is, tells) = get_at begun_turn rs b (task, 0) begins in
        ap (option_and_then (λ (x : Record). says.started x.body)) is
        ∙ (with_turn (says.started r.body) (next_turn r.body) task 0 tells).0

    by : IsHandOver rs a b → seen_at rs a ≤ seen_at rs b
    by (started task creates start) =
        from_creation says.started task started_called
        (λ body is. second_is_named body task (started_second body task is))
        (λ n s stands is. second_use script.steps task n s stands (started_second s.body task is)) creates
        (at_start task start.starts)
    by (was_discarded task creates discards) =
        from_creation discarded task discarded_called
        (λ body is. first_is_named body task (discarded_first body task is))
        (λ n s stands is. first_use script.steps task n s stands (discarded_first s.body task is)) creates
        discards
    by (was_fulfilled task creates fulfils) =
        from_creation fulfilled task fulfilled_called
        (λ body is. first_is_named body task (fulfilled_first body task is))
        (λ n s stands is. first_use script.steps task n s stands (fulfilled_first s.body task is)) creates
        fulfils
    by (runs_on again) =
        let (q, first, ends) = get_at suspended_turn rs a (again.task, again.turn) again.suspends in
        let (r, next, begins) = get_at begun_turn rs b (again.task, again.turn + 1) again.resumes in
        let i = step_of script rs a q accepted records first in
        let j = step_of script rs b r accepted records next in
        let suspends = (with_turn (suspended q.body) (prior_turn q.body) again.task again.turn ends).0 in
        let starts =
        (with_turn (says.started r.body) (next_turn r.body) again.task (again.turn + 1) begins).0 in
        let by_i =
        told_by_step suspended script rs q again.task suspended_called is_script accepted i suspends in
        let by_j =
        told_by_step says.started script rs r again.task started_called is_script accepted j starts in
        later again.task q r first next i j
        (ends_first script rs again.task again.turn q r is_script accepted ends begins i j)
        (first_use script.steps again.task i.index i.step i.stands
        (suspended_first i.step.body again.task by_i))
        (second_use script.steps again.task j.index j.step j.stands
        (started_second j.step.body again.task by_j))

-- ---- no task is made twice

made_called : (body : Body) → made (called body) ≡ made body
made_called (ImplicitTask End actual index given parallel task) = refl
made_called (TaskSchedule s turns prior next claimed) = refl
made_called (Cancel given task claimed) = refl
made_called _ = refl

-- a record is numbered by those of its thread before it
seq_is : (rs : List Record) (i : ℕ) (r : Record) → IsFreeOf rs SeqGap → slice_get rs i ≡ Some r
    → r.seq ≡ count_by (λ (q : Record). q.thread == r.thread) (take i rs)
seq_is rs i r free is = elim (cases_eq r.seq (count_by (λ (q : Record). q.thread == r.thread) (take i rs))) [
  | inl same ↦ same
  | inr apart ↦ absurd (free i (seq_gap (r, is, apart)))
]

-- so no record stands at two places
one_place : (rs : List Record) (k i : ℕ) (r : Record) → IsFreeOf rs SeqGap → k < i → slice_get rs k ≡ Some r
    → slice_get rs i ≡ Some r → ⊥
one_place rs k i r free less first second =
    let own : Record → Bool = λ (q : Record). q.thread == r.thread in
    let next : count_by own (take (k + 1) rs) ≡ count_by own (take k rs) + 1 =
    count_by_more_yes own rs k r (slice_get_within rs k r first)
    (ap own (get_or_from_slice_get rs k r r first) ∙ eq-eqb r.thread r.thread refl) in
    let part : count_by own (take (k + 1) (take i rs)) ≤ count_by own (take i rs) =
    sum_by-take-le _ (take i rs) (k + 1) in
    let rises : count_by own (take (k + 1) rs) ≤ count_by own (take i rs) =
    subst (λ (l : List Record). count_by own l ≤ count_by own (take i rs))
    (take-take (k + 1) i rs (omega (arith, less))) part in
    let one = seq_is rs k r free first in
    let two = seq_is rs i r free second in
    omega (arith, next, rises, one, two)

pub made_once : (script : ScriptView) (rs : List Record) → IsScript script.steps → AreAllAccepted script
    → AreRecords script rs → IsFreeOf rs SeqGap → (i : ℕ) → IsMadeAgain rs i → ⊥
made_once script rs is_script accepted records numbered i (task, k, less, first, second) =
    let (q, one, makes) = get_at made rs k task first in
    let (r, two, makes_too) = get_at made rs i task second in
    let m = step_of script rs k q accepted records one in
    let n = step_of script rs i r accepted records two in
    let by_m = told_by_step made script rs q task made_called is_script accepted m makes in
    let by_n = told_by_step made script rs r task made_called is_script accepted n makes_too in
    elim (cases_lt m.index n.index) [
      | inl below ↦ before m.index n.index m.step n.step m.stands n.stands by_m by_n below
      | inr low ↦ elim (cases_eq m.index n.index) [
        | inl same ↦
            let equal : q ≡ r =
            same_Some q r (sym m.recorded ∙ ap (step_record script.steps rs) same ∙ n.recorded) in
            one_place rs k i r numbered less (one ∙ ap Some equal) two
        | inr apart ↦
            before n.index m.index n.step m.step n.stands m.stands by_n by_m (omega (arith, low, apart))
      ]
    ]
  where
    before : (a b : ℕ) (s t : Step) → slice_get script.steps a ≡ Some s → slice_get script.steps b ≡ Some t
        → made s.body ≡ Some task → made t.body ≡ Some task → a < b → ⊥
    before a b s t is there makes also below =
        (step_rules script.steps b t is_script there).new task also
        (s, get_contains (take b script.steps) s a (take_get script.steps b a s below is), makes)
