-- Which tasks are live after the call of a record, and that the call may follow those before it.
use Rattle.std.proofs.Common.{◌≡◌, ◌≢◌, ◌∙◌, ℕ, Bool, true, false, cond, List, [], ◌∷◌, Option, Some, None}
use Rattle.std.proofs.Common.{refl, sym, ap, subst}
use Rattle.std.specs.Prelude.{is_some, option_map, option_and_then, not, ◌==◌, ◌&&◌, ◌||◌}
use Rattle.std.specs.List.{list_all}
use Rattle.std.proofs.lemmas.Bool.{eqb-true, eq-eqb, ne_eqb, false≢true}
use Rattle.ompt_events.specs.declared.records.Body.{Body}
use Rattle.ompt_events.specs.declared.records.Body.TheVariants.{ThreadBegin, ThreadEnd, ParallelBegin}
use Rattle.ompt_events.specs.declared.records.Body.TheVariants.{ParallelEnd, ImplicitTask, TaskCreate}
use Rattle.ompt_events.specs.declared.records.Body.TheVariants.{Dependences, TaskSchedule, SyncRegion, Cancel}
use Rattle.ompt_events.specs.declared.names.Endpoint.TheVariants.{Begin, End, BeginEnd}
use Rattle.ompt_events.specs.declared.names.Status.{Status}
use Rattle.ompt_events.specs.declared.names.Status.TheVariants as status
use Rattle.ompt_events.specs.Flags as flag
use Rattle.ompt_events.specs.Flags.{has_flag}
use Rattle.ompt_events.specs.Records.{made}
use Rattle.ompt_events.specs.States.{is_task}
use Rattle.packed_trace.specs.Named.{subject, object}
use Rattle.callbacks.specs.Tasks.{TaskView, with_child, child_of, with_region, without_region, after_start}
use Rattle.callbacks.specs.Tasks.{after_stop, root_of}
use Rattle.ompt_events.specs.declared.flags.CancelFlags.{CancelFlags}
use Rattle.scripts.specs.declared.script.Step.{Step}
use Rattle.scripts.specs.declared.lives.Life.{Life}
use Rattle.scripts.specs.declared.lives.Life.TheVariants.{Live, Over}
use Rattle.scripts.specs.Scripts.{life, life_after, may_follow, may_be_named, is_made, has_twice}
use Rattle.scripts.specs.Progress.{Values, value, values_after}
use Rattle.scripts.specs.RunCalls.{first_given, second_given}
use Rattle.online.specs.Replays.{call_of, call_on}

-- ---- a task that has a value after the call, had one before it

mapped : (f : TaskView → TaskView) (o : Option TaskView) → is_some (option_map f o) ≡ true → is_some o ≡ true
mapped f None is = is
mapped f (Some t) is = refl

same : (o : Option TaskView) → is_some o ≡ true → is_some o ≡ true
same o is = is

-- where the call changes the value of its own task in this way
had_here : (values : Values) (own task : ℕ) (f : Option TaskView → Option TaskView)
    → ((o : Option TaskView) → is_some (f o) ≡ true → is_some o ≡ true)
    → is_some (cond (own == task) (f (values own)) (values task)) ≡ true → is_some (values task) ≡ true
had_here values own task f keeps is = of (own == task) refl is
  where
    of : (b : Bool) → (own == task) ≡ b → is_some (cond b (f (values own)) (values task)) ≡ true
        → is_some (values task) ≡ true
    of true e there = subst (λ t. is_some (values t) ≡ true) (eqb-true own task e) (keeps (values own) there)
    of false e there = there

-- where the next task starts
had_next : (values : Values) (next : Option ℕ) (task : ℕ)
    → is_some (cond (is_task task next) (option_map after_start (value values next)) (values task)) ≡ true
    → is_some (values task) ≡ true
had_next values None task is = is
had_next values (Some n) task is = had_here values n task (option_map after_start) (mapped after_start) is

stopped : (f : TaskView → TaskView) (o : Option TaskView)
    → is_some (option_and_then (λ t. Some (f t)) o) ≡ true
    → is_some o ≡ true
stopped f None is = is
stopped f (Some t) is = refl

abbrev nothing : TaskView → Option TaskView
nothing t = None

none_left : (o : Option TaskView) → is_some (option_and_then nothing o) ≡ true → ⊥
none_left None is = false≢true is
none_left (Some t) is = false≢true is

-- a schedule behind which its prior task is still live
had_stopped : (values : Values) (prior : ℕ) (next : Option ℕ) (task : ℕ) (f : TaskView → TaskView)
    → is_some (cond (prior == task) (option_and_then (λ t. Some (f t)) (values prior))
    (cond (is_task task next) (option_map after_start (value values next)) (values task))) ≡ true
    → is_some (values task) ≡ true
had_stopped values prior next task f is = of (prior == task) refl is
  where
    of : (b : Bool) → (prior == task) ≡ b
        → is_some (cond b (option_and_then (λ t. Some (f t)) (values prior))
        (cond (is_task task next) (option_map after_start (value values next)) (values task))) ≡ true
        → is_some (values task) ≡ true
    of true e there =
        subst (λ t. is_some (values t) ≡ true) (eqb-true prior task e) (stopped f (values prior) there)
    of false e there = had_next values next task there

-- one behind which it is not
live_over : (values : Values) (lives : ℕ → Option Life) (prior : ℕ) (next : Option ℕ) (task : ℕ)
    → ((t : ℕ) → is_some (values t) ≡ true → lives t ≡ Some Live)
    → is_some (cond (prior == task) (option_and_then nothing (values prior))
    (cond (is_task task next) (option_map after_start (value values next)) (values task))) ≡ true
    → cond (prior == task) (Some Over) (lives task) ≡ Some Live
live_over values lives prior next task live is = of (prior == task) is
  where
    of : (b : Bool)
        → is_some (cond b (option_and_then nothing (values prior))
        (cond (is_task task next) (option_map after_start (value values next)) (values task))) ≡ true
        → cond b (Some Over) (lives task) ≡ Some Live
    of true there = absurd (none_left (values prior) there)
    of false there = live task (had_next values next task there)

-- ---- so the tasks with a value are live

abbrev AreLive : Values → (ℕ → Option Life) → Type 0
AreLive values lives = (task : ℕ) → is_some (values task) ≡ true → lives task ≡ Some Live

live_schedule : (values : Values) (lives : ℕ → Option Life) (thread prior : ℕ) (next : Option ℕ) (s : Status)
    → AreLive values lives → (task : ℕ)
    → is_some (values_after values (call_on thread (TaskSchedule s None prior next None)) task) ≡ true
    → life_after (lives task) (TaskSchedule s None prior next None) task ≡ Some Live
live_schedule values lives thread prior next status.Yield live task is =
    live task (had_stopped values prior next task (λ t. after_stop t status.Yield) is)
live_schedule values lives thread prior next status.Switch live task is =
    live task (had_stopped values prior next task (λ t. after_stop t status.Switch) is)
live_schedule values lives thread prior next status.EarlyFulfill live task is =
    live task (had_stopped values prior next task (λ t. after_stop t status.EarlyFulfill) is)
live_schedule values lives thread prior next status.Detach live task is =
    live task (had_stopped values prior next task (λ t. after_stop t status.Detach) is)
live_schedule values lives thread prior next status.Complete live task is =
    live_over values lives prior next task live is
live_schedule values lives thread prior next status.Cancel live task is =
    live_over values lives prior next task live is
live_schedule values lives thread prior next status.LateFulfill live task is =
    live_over values lives prior next task live is
live_schedule values lives thread prior next status.TaskwaitComplete live task is =
    live_over values lives prior next task live is

-- where the call ends its own task
live_ended : (values : Values) (lives : ℕ → Option Life) (own task : ℕ) → AreLive values lives
    → is_some (cond (own == task) None (values task)) ≡ true
    → cond (own == task) (Some Over) (lives task) ≡ Some Live
live_ended values lives own task live is = of (own == task) is
  where
    of : (b : Bool) → is_some (cond b None (values task)) ≡ true → cond b (Some Over) (lives task) ≡ Some Live
    of true there = absurd (false≢true there)
    of false there = live task there

live_begun : (values : Values) (lives : ℕ → Option Life) (own task : ℕ) (t : TaskView) → AreLive values lives
    → is_some (cond (own == task) (Some t) (values task)) ≡ true
    → cond (own == task) (Some Live) (lives task) ≡ Some Live
live_begun values lives own task t live is = of (own == task) is
  where
    of : (b : Bool) → is_some (cond b (Some t) (values task)) ≡ true
        → cond b (Some Live) (lives task) ≡ Some Live
    of true there = refl
    of false there = live task there

live_created : (values : Values) (lives : ℕ → Option Life) (own child task : ℕ) (f : TaskView → TaskView)
    → AreLive values lives
    → is_some (cond (own == task) (option_map with_child (values own))
    (cond (child == task) (option_map f (values own)) (values task))) ≡ true
    → cond (child == task) (Some Live) (lives task) ≡ Some Live
live_created values lives own child task f live is = of (child == task) is
  where
    of : (b : Bool)
        → is_some (cond (own == task) (option_map with_child (values own))
        (cond b (option_map f (values own)) (values task))) ≡ true
        → cond b (Some Live) (lives task) ≡ Some Live
    of true there = refl
    of false there = live task (had_here values own task (option_map with_child) (mapped with_child) there)

live_cancel : (values : Values) (lives : ℕ → Option Life) (thread own task : ℕ) (given : CancelFlags)
    → AreLive values lives
    → is_some (values_after values (call_on thread (Cancel given own None)) task) ≡ true
    → life_after (lives task) (Cancel given own None) task ≡ Some Live
live_cancel values lives thread own task given live is = of (has_flag given.0 flag.discarded_task) refl
  where
    of : (b : Bool) → has_flag given.0 flag.discarded_task ≡ b
        → life_after (lives task) (Cancel given own None) task ≡ Some Live
    of true e = rw e (live_ended values lives own task live (rw e at is))
    of false e = rw e (live task (had_here values own task (λ o. o) same (rw e at is)))

-- the tasks that have a value after the call are live then
pub live_after : (values : Values) (lives : ℕ → Option Life) (thread : ℕ) (body : Body) → AreLive values lives
    → (task : ℕ) → is_some (values_after values (call_on thread body) task) ≡ true
    → life_after (lives task) (call_of body) task ≡ Some Live
live_after values lives thread (ThreadBegin kind) live task is = live task is
live_after values lives thread ThreadEnd live task is = live task is
live_after values lives thread (ParallelBegin requested own parallel) live task is =
    live task (had_here values own task (λ o. o) same is)
live_after values lives thread (ParallelEnd own parallel) live task is =
    live task (had_here values own task (λ o. o) same is)
live_after values lives thread (ImplicitTask Begin actual index given parallel own) live task is =
    live_begun values lives own task
    (root_of own (record { home = thread; actual = actual; index = index }) given)
    live is
live_after values lives thread (ImplicitTask End actual index given parallel own) live task is =
    live_ended values lives own task live is
live_after values lives thread (ImplicitTask BeginEnd actual index given parallel own) live task is =
    live task (had_here values own task (λ o. o) same is)
live_after values lives thread (TaskCreate deps given own child) live task is =
    live_created values lives own child task (λ t. child_of t child given) live is
live_after values lives thread (Dependences own list) live task is =
    live task (had_here values own task (λ o. o) same is)
live_after values lives thread (TaskSchedule s turns prior next claimed) live task is =
    live_schedule values lives thread prior next s live task is
live_after values lives thread (SyncRegion kind Begin parallel own) live task is =
    live task
    (had_here values own task (option_map (λ t. with_region t kind)) (mapped (λ t. with_region t kind)) is)
live_after values lives thread (SyncRegion kind End parallel own) live task is =
    live task (had_here values own task (option_map without_region) (mapped without_region) is)
live_after values lives thread (SyncRegion kind BeginEnd parallel own) live task is =
    live task (had_here values own task (λ o. o) same is)
live_after values lives thread (Cancel given own claimed) live task is =
    live_cancel values lives thread own task given live is

-- ---- a call may follow those before it where it names live tasks, none twice, and makes a new one

named_one : (lives : ℕ → Option Life) (own : ℕ) → lives own ≡ Some Live
    → (not (has_twice (own ∷ [])) && list_all (λ t. may_be_named (is_made None t) (lives t)) (own ∷ [])) ≡
    true
named_one lives own live = ap (λ o. may_be_named false o && true) live

made_one : (lives : ℕ → Option Life) (own : ℕ) → lives own ≡ None
    → (not (has_twice (own ∷ [])) && list_all (λ t. may_be_named (is_made (Some own) t) (lives t)) (own ∷ []))
    ≡ true
made_one lives own none =
    ap (λ b. may_be_named b (lives own) && true) (eq-eqb own own refl)
    ∙ ap (λ o. may_be_named true o && true) none

named_two : (lives : ℕ → Option Life) (own other : ℕ) → own ≢ other → lives own ≡ Some Live
    → lives other ≡ Some Live
    → (not (has_twice (own ∷ other ∷ []))
    && list_all (λ t. may_be_named (is_made None t) (lives t)) (own ∷ other ∷ [])) ≡ true
named_two lives own other apart one two =
    ap (λ b. not ((b || false) || false) &&
    (may_be_named false (lives own) && (may_be_named false (lives other) && true)))
    (ne_eqb other own (λ e. apart (sym e)))
    ∙ ap (λ o. may_be_named false o && (may_be_named false (lives other) && true)) one
    ∙ ap (λ o. may_be_named false o && true) two

made_two : (lives : ℕ → Option Life) (own child : ℕ) → own ≢ child → lives own ≡ Some Live
    → lives child ≡ None
    → (not (has_twice (own ∷ child ∷ []))
    && list_all (λ t. may_be_named (is_made (Some child) t) (lives t)) (own ∷ child ∷ [])) ≡ true
made_two lives own child apart one none =
    ap (λ b. not ((b || false) || false)
    && (may_be_named (child == own) (lives own) && (may_be_named (child == child) (lives child) && true)))
    (ne_eqb child own (λ e. apart (sym e)))
    ∙ ap (λ b. may_be_named b (lives own) && (may_be_named (child == child) (lives child) && true))
    (ne_eqb child own (λ e. apart (sym e)))
    ∙ ap (λ o. may_be_named false o && (may_be_named (child == child) (lives child) && true)) one
    ∙ ap (λ b. may_be_named b (lives child) && true) (eq-eqb child child refl)
    ∙ ap (λ o. may_be_named true o && true) none

pub may_follow_live : (steps : List Step) (body : Body)
    → ((task : ℕ) → first_given (call_of body) ≡ Some task → life steps task ≡ Some Live)
    → ((task : ℕ) → second_given (call_of body) ≡ Some task → life steps task ≡ Some Live)
    → ((task : ℕ) → made body ≡ Some task → life steps task ≡ None)
    → ((one other : ℕ) → subject body ≡ Some one → object body ≡ Some other → one ≢ other)
    → may_follow steps None (call_of body) ≡ true
may_follow_live steps (ThreadBegin kind) first second new apart = refl
may_follow_live steps ThreadEnd first second new apart = refl
may_follow_live steps (ParallelBegin requested own parallel) first second new apart =
    named_one (life steps) own (first own refl)
may_follow_live steps (ParallelEnd own parallel) first second new apart =
    named_one (life steps) own (first own refl)
may_follow_live steps (ImplicitTask Begin actual index given parallel own) first second new apart =
    made_one (life steps) own (new own refl)
may_follow_live steps (ImplicitTask End actual index given parallel own) first second new apart =
    named_one (life steps) own (first own refl)
may_follow_live steps (ImplicitTask BeginEnd actual index given parallel own) first second new apart =
    named_one (life steps) own (first own refl)
may_follow_live steps (TaskCreate deps given own child) first second new apart =
    made_two (life steps) own child (apart own child refl refl) (first own refl) (new child refl)
may_follow_live steps (Dependences own list) first second new apart =
    named_one (life steps) own (first own refl)
may_follow_live steps (TaskSchedule s turns prior None claimed) first second new apart =
    named_one (life steps) prior (first prior refl)
may_follow_live steps (TaskSchedule s turns prior (Some next) claimed) first second new apart =
    named_two (life steps) prior next (apart prior next refl refl) (first prior refl) (second next refl)
may_follow_live steps (SyncRegion kind endpoint parallel own) first second new apart =
    named_one (life steps) own (first own refl)
may_follow_live steps (Cancel given own claimed) first second new apart =
    named_one (life steps) own (first own refl)

-- ---- which ids tasks have had

-- where the call ends a live task
had_over : (lives : ℕ → Option Life) (own task : ℕ) → is_some (lives own) ≡ true
    → is_some (cond (own == task) (Some Over) (lives task)) ≡ is_some (lives task)
had_over lives own task live = of (own == task) refl
  where
    of : (b : Bool) → (own == task) ≡ b → is_some (cond b (Some Over) (lives task)) ≡ is_some (lives task)
    of true e = sym (subst (λ t. is_some (lives t) ≡ true) (eqb-true own task e) live)
    of false e = refl

-- where it makes one
had_new : (lives : ℕ → Option Life) (own task : ℕ)
    → is_some (cond (own == task) (Some Live) (lives task)) ≡ ((own == task) || is_some (lives task))
had_new lives own task = of (own == task)
  where
    of : (b : Bool) → is_some (cond b (Some Live) (lives task)) ≡ (b || is_some (lives task))
    of true = refl
    of false = refl

had_schedule : (lives : ℕ → Option Life) (prior : ℕ) (next : Option ℕ) (s : Status)
    → is_some (lives prior) ≡ true → (task : ℕ)
    → is_some (life_after (lives task) (TaskSchedule s None prior next None) task) ≡ is_some (lives task)
had_schedule lives prior next status.Yield live task = refl
had_schedule lives prior next status.Switch live task = refl
had_schedule lives prior next status.EarlyFulfill live task = refl
had_schedule lives prior next status.Detach live task = refl
had_schedule lives prior next status.Complete live task = had_over lives prior task live
had_schedule lives prior next status.Cancel live task = had_over lives prior task live
had_schedule lives prior next status.LateFulfill live task = had_over lives prior task live
had_schedule lives prior next status.TaskwaitComplete live task = had_over lives prior task live

had_cancel : (lives : ℕ → Option Life) (own task : ℕ) (given : CancelFlags) → is_some (lives own) ≡ true
    → is_some (life_after (lives task) (Cancel given own None) task) ≡ is_some (lives task)
had_cancel lives own task given live = of (has_flag given.0 flag.discarded_task) refl
  where
    of : (b : Bool) → has_flag given.0 flag.discarded_task ≡ b
        → is_some (life_after (lives task) (Cancel given own None) task) ≡ is_some (lives task)
    of true e = rw e (had_over lives own task live)
    of false e = rw e refl

-- after the call those that tasks had before, and that of the task that it makes
pub used_after : (lives : ℕ → Option Life) (body : Body)
    → ((task : ℕ) → first_given (call_of body) ≡ Some task → is_some (lives task) ≡ true) → (task : ℕ)
    → is_some (life_after (lives task) (call_of body) task) ≡
    (is_task task (made body) || is_some (lives task))
used_after lives (ThreadBegin kind) live task = refl
used_after lives ThreadEnd live task = refl
used_after lives (ParallelBegin requested own parallel) live task = refl
used_after lives (ParallelEnd own parallel) live task = refl
used_after lives (ImplicitTask Begin actual index given parallel own) live task = had_new lives own task
used_after lives (ImplicitTask End actual index given parallel own) live task =
    had_over lives own task (live own refl)
used_after lives (ImplicitTask BeginEnd actual index given parallel own) live task = refl
used_after lives (TaskCreate deps given own child) live task = had_new lives child task
used_after lives (Dependences own list) live task = refl
used_after lives (TaskSchedule s turns prior next claimed) live task =
    had_schedule lives prior next s (live prior refl) task
used_after lives (SyncRegion kind endpoint parallel own) live task = refl
used_after lives (Cancel given own claimed) live task = had_cancel lives own task given (live own refl)
