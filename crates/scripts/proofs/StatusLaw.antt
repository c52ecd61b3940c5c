-- In a run each task moves as its states allow.
use Rattle.std.proofs.Common.{ℕ, zero, suc, ◌≡◌, ◌∙◌, ◌⊎◌, ◌<◌, ◌≤◌, List, [], ◌∷◌, ◌++◌, length, Bool, true}
use Rattle.std.proofs.Common.{false, Option, Some, None, refl, sym, ap, arith, inl, inr, cond}
use Rattle.std.specs.Prelude.{◌==◌, ◌&&◌, ◌||◌, not, slice_get, find, is_some, option_map, option_and_then}
use Rattle.std.specs.Option.{option_map_or}
use Rattle.std.proofs.lemmas.Bool.{cases_Bool, cases_lt, cases_order, or_cases, eq-eqb, eqb-true, false≢true}
use Rattle.std.proofs.lemmas.List.{append-nil, append_assoc}
use Rattle.std.proofs.lemmas.Option.{none-some, same_Some, slice_get_within}
use Rattle.ompt_events.specs.declared.records.Record.{Record}
use Rattle.ompt_events.specs.declared.records.Body.{Body}
use Rattle.ompt_events.specs.declared.records.Body.TheVariants.{ThreadBegin, ThreadEnd, ParallelBegin}
use Rattle.ompt_events.specs.declared.records.Body.TheVariants.{ParallelEnd, ImplicitTask, TaskCreate}
use Rattle.ompt_events.specs.declared.records.Body.TheVariants.{Dependences, TaskSchedule, SyncRegion, Cancel}
use Rattle.ompt_events.specs.declared.names.Status.{Status}
use Rattle.ompt_events.specs.declared.names.Status.TheVariants as status
use Rattle.ompt_events.specs.declared.state.State.{State}
use Rattle.ompt_events.specs.declared.state.State.TheVariants.{Created, Running, Suspended, EarlyRunning}
use Rattle.ompt_events.specs.declared.state.State.TheVariants.{EarlyWaiting, Detached, Done}
use Rattle.ompt_events.specs.Flags as flag
use Rattle.ompt_events.specs.Flags.{has_flag}
use Rattle.ompt_events.specs.Places.{at, places, thread_at}
use Rattle.ompt_events.specs.Records.{started, stopped, begun_root, told_turns, schedule}
use Rattle.ompt_events.specs.States.{Move, Stopped, Started, Discarded, moves_by, moves_at, is_task, is_early}
use Rattle.ompt_events.specs.States.{is_on, home_of, begun_on, run_on, has_moved, places_of, moves_of}
use Rattle.ompt_events.specs.States.{is_early_move, is_turn_move, is_apart, nature_of, state_of, state_after}
use Rattle.ompt_events.specs.States.{first_state}
use Rattle.ompt_events.specs.States as states
use Rattle.ompt_events.proofs.ListLemmas.{get_within, contains_get}
use Rattle.ompt_events.proofs.PlaceLemmas.{at_get, get_at, is_the_task, the_task, contains_place, some_of}
use Rattle.scripts.specs.declared.script.Step.{Step}
use Rattle.scripts.specs.Scripts.{ScriptView}
use Rattle.scripts.specs.RunCalls.{first_given, recorded_body}
use Rattle.scripts.specs.Parts.{id_of}
use Rattle.scripts.specs.Progress.{value}
use Rattle.scripts.proofs.HandOverLemmas.{AreRecords}
use Rattle.callbacks.specs.Schedules.{turns_of}
use Rattle.callbacks.specs.Tasks.{TaskView}
use Rattle.scripts.proofs.CoverLemmas.{at_home, made_one, running_of, second_given_of}
use Rattle.scripts.proofs.HomeLemmas.{home_some, root_subject}
use Rattle.scripts.proofs.MoveWords.{state_by, by_append, by_none, early, early_first, apart_done, done_ends}
use Rattle.scripts.proofs.NatureLemmas.{nature_is, found_at, found_from}
use Rattle.scripts.proofs.PartLemmas.{all_moves}
use Rattle.scripts.proofs.PlaceWords.{step_on}
use Rattle.scripts.proofs.PlacedLemmas.{placed, recorded, says, step_no, record_no}
use Rattle.scripts.proofs.SaidLemmas.{started_called, root_called}
use Rattle.scripts.proofs.SoundLemmas.{step_moves, word, DoesMove, does_move, rests, comes_up, moves, sound}
use Rattle.scripts.proofs.ValueSteps.{IsWhole, values_at, first_at, second_at, first_id_is, second_has}

-- ---- what a move tells

-- a call makes at most one move of a task, and the move tells which
pub data TellsMove (task : ℕ) (body : Body) (m : Move) : Type 0 where
  it_starts : m ≡ Started → started body ≡ Some task → TellsMove task body m
  it_stops : (st : Status) (next : Option ℕ) → m ≡ Stopped st → schedule body ≡ Some (st, task, next)
      → TellsMove task body m
  it_discards : m ≡ Discarded → started body ≡ None → schedule body ≡ None → TellsMove task body m

first_is : (a b : Move) (l r : List Move) → a ∷ l ≡ b ∷ r → a ≡ b
first_is a b l r is = cc

no_first : (b : Move) (r : List Move) → [] ≡ b ∷ r → ⊥
no_first b r is = cc

pub tells_move : (task : ℕ) (body : Body) (m : Move) → moves_by task body ≡ m ∷ [] → TellsMove task body m
tells_move task (TaskSchedule st turns prior next claimed) m is =
    by (prior == task) refl (is_task task next) refl is
  where
    by : (a : Bool) → (prior == task) ≡ a → (b : Bool) → is_task task next ≡ b
        → cond (prior == task) (Stopped st ∷ []) [] ++ cond (is_task task next) (Started ∷ []) [] ++ []
        ≡ m ∷ []
        → TellsMove task (TaskSchedule st turns prior next claimed) m
    by true at_prior b at_next one =
        it_stops st next
        (sym
        (first_is (Stopped st) m (cond (is_task task next) (Started ∷ []) [] ++ []) []
        (ap (λ x. cond x (Stopped st ∷ []) [] ++ cond (is_task task next) (Started ∷ []) [] ++ [])
        (sym at_prior)
        ∙ one)))
        (ap (λ t. Some (st, t, next)) (eqb-true prior task at_prior))
    by false at_prior true at_next one =
        it_starts
        (sym
        (first_is Started m [] []
        (ap (λ x. cond x (Started ∷ []) [] ++ []) (sym at_next)
        ∙ ap (λ x. cond x (Stopped st ∷ []) [] ++ cond (is_task task next) (Started ∷ []) [] ++ [])
        (sym at_prior)
        ∙ one)))
        (is_the_task task next at_next)
    by false at_prior false at_next one =
        absurd
        (no_first m []
        (ap (λ x. cond x (Started ∷ []) [] ++ []) (sym at_next)
        ∙ ap (λ x. cond x (Stopped st ∷ []) [] ++ cond (is_task task next) (Started ∷ []) [] ++ [])
        (sym at_prior)
        ∙ one))
tells_move task (Cancel given own claimed) m is =
    by (is_task task (cond (has_flag given.0 flag.discarded_task) (Some own) None)) is
  where
    by : (b : Bool) → cond b (Discarded ∷ []) [] ≡ m ∷ [] → TellsMove task (Cancel given own claimed) m
    by true one = it_discards (sym (first_is Discarded m [] [] one)) refl refl
    by false none = absurd (no_first m [] none)
tells_move task (ThreadBegin kind) m is = absurd (no_first m [] is)
tells_move task ThreadEnd m is = absurd (no_first m [] is)
tells_move task (ParallelBegin requested own parallel) m is = absurd (no_first m [] is)
tells_move task (ParallelEnd own parallel) m is = absurd (no_first m [] is)
tells_move task (ImplicitTask endpoint actual index given parallel own) m is = absurd (no_first m [] is)
tells_move task (TaskCreate deps given own other) m is = absurd (no_first m [] is)
tells_move task (Dependences own list) m is = absurd (no_first m [] is)
tells_move task (SyncRegion kind endpoint parallel own) m is = absurd (no_first m [] is)

pub one_move : (script : ScriptView) (task n : ℕ) → IsWhole script → n < length script.steps
    → (step_moves script task n ≡ []) ⊎ ((m : Move) × (step_moves script task n ≡ m ∷ []))
one_move script task n whole within =
    let (s, is) = get_within script.steps n within in by (does_move script n task s whole is)
  where
    by : DoesMove script n task → (step_moves script task n ≡ [])
        ⊎ ((m : Move) × (step_moves script task n ≡ m ∷ []))
    by (rests none stays) = inl none
    by (comes_up none empty new) = inl none
    by (moves v m after was one moved goes) = inr (m, one)

-- ---- all states

pub word_is : (script : ScriptView) (task n : ℕ) → word script task n ≡ all_moves (step_moves script task) n
word_is script task zero = refl
word_is script task (suc n) = ap (λ l. l ++ step_moves script task n) (word_is script task n)

pub states_are : (script : ScriptView) (rs : List Record) (task : ℕ) → IsWhole script → AreRecords script rs
    → (n : ℕ) → n ≤ length script.steps
    → (st : State) × (state_by (nature_of rs task) (Some (first_state (nature_of rs task)))
    (all_moves (step_moves script task) n) ≡ Some st)
states_are script rs task whole records n within =
    let kind = nature_of rs task in
    let (st, is, value_is) =
    sound script n task kind whole within
    (λ k v low has. nature_is script rs k task v whole records low has) in
    (st, ap (state_by kind (Some (first_state kind))) (sym (word_is script task n)) ∙ is)

-- a state and two fulfilments ahead of the body's end, or two moves that end the task
only_one : (script : ScriptView) (rs : List Record) (task n m : ℕ) (passes : Move → Bool) → IsWhole script
    → AreRecords script rs
    → ((kind : states.Nature) (state after : State) (one two : Move) (between : List Move) → passes one ≡ true
    → passes two ≡ true
    → state_by kind (Some state) (one ∷ (between ++ two ∷ [])) ≡ Some after → ⊥)
    → n < m → m < length script.steps → (a b : Move) → step_moves script task n ≡ a ∷ []
    → step_moves script task m ≡ b ∷ [] → passes a ≡ true → passes b ≡ true → ⊥
only_one script rs task n m passes whole records never less within a b at_n at_m pass_a pass_b =
    let kind = nature_of rs task in
    let from = first_state kind in
    let (st, before) = states_are script rs task whole records n (omega (arith, less, within)) in
    let (between, split) = split_at (suc n) m (omega (arith, less)) in
    let (next, all_is) = states_are script rs task whole records (suc m) (omega (arith, within)) in
    let whole_word : state_by kind (Some from)
    (all_moves μ n ++ (a ∷ (between ++ b ∷ []))) ≡ Some next =
    ap (state_by kind (Some from))
    (sym
    (ap (λ l. l ++ step_moves script task m) split
    ∙ ap (λ l. (all_moves μ n ++ l) ++ between ++ step_moves script task m) at_n
    ∙ ap (λ l. (all_moves μ n ++ a ∷ []) ++ between ++ l) at_m
    ∙ append_assoc (all_moves μ n ++ a ∷ []) between (b ∷ [])
    ∙ append_assoc (all_moves μ n) (a ∷ []) (between ++ b ∷ []))) ∙ all_is in
    never kind st next a b between pass_a pass_b
    (ap (λ o. state_by kind o (a ∷ (between ++ b ∷ []))) (sym before)
    ∙ sym (by_append kind (Some from) (all_moves μ n) (a ∷ (between ++ b ∷ []))) ∙ whole_word)
  where
    μ : ℕ → List Move
    μ = step_moves script task

    split_at : (p q : ℕ) → p ≤ q → (between : List Move) × (all_moves μ q ≡ all_moves μ p ++ between)
    split_at p zero low =
        let same_place : p ≡ zero = omega (arith, low) in
        ([], ap (all_moves μ) (sym same_place) ∙ sym (append-nil (all_moves μ p)))
    split_at p (suc q) low = elim (cases_lt p (suc q)) [
      | inl less_q ↦
          let (between, is) = split_at p q (omega (arith, less_q)) in
          (between ++ μ q, ap (λ l. l ++ μ q) is ∙ append_assoc (all_moves μ p) between (μ q))
      | inr past ↦
          let same_place : p ≡ suc q = omega (arith, low, past) in
          ([], ap (all_moves μ) (sym same_place) ∙ sym (append-nil (all_moves μ p)))
    ]

-- ---- a task is fulfilled early once, and ends once

abbrev pub any : (Move → Bool) → List Move → Bool
any p [] = false
any p (m ∷ ms) = p m || any p ms

pub early_move : (m : Move) → is_early_move m ≡ true → m ≡ early
early_move (Stopped status.EarlyFulfill) is = refl
early_move (Stopped status.Complete) is = absurd (false≢true is)
early_move (Stopped status.Yield) is = absurd (false≢true is)
early_move (Stopped status.Cancel) is = absurd (false≢true is)
early_move (Stopped status.Detach) is = absurd (false≢true is)
early_move (Stopped status.LateFulfill) is = absurd (false≢true is)
early_move (Stopped status.Switch) is = absurd (false≢true is)
early_move (Stopped status.TaskwaitComplete) is = absurd (false≢true is)
early_move Started is = absurd (false≢true is)
early_move Discarded is = absurd (false≢true is)

two_early : (kind : states.Nature) (state : State)
    → state_after kind (state_after kind (Some state) (0, early)) (0, early) ≡ None
two_early states.Root state = refl
two_early states.Wait state = refl
two_early states.Plain Created = refl
two_early states.Plain Running = refl
two_early states.Plain Suspended = refl
two_early states.Plain EarlyRunning = refl
two_early states.Plain EarlyWaiting = refl
two_early states.Plain Detached = refl
two_early states.Plain Done = refl

pub never_early : (kind : states.Nature) (state after : State) (one two : Move) (between : List Move)
    → is_early_move one ≡ true → is_early_move two ≡ true
    → state_by kind (Some state) (one ∷ (between ++ two ∷ [])) ≡ Some after → ⊥
never_early kind state after one two between first second is =
    let both : state_by kind (Some state) ((early ∷ between) ++ early ∷ []) ≡ Some after =
    ap (λ m. state_by kind (Some state) (m ∷ (between ++ early ∷ []))) (sym (early_move one first))
    ∙ ap (λ m. state_by kind (Some state) (one ∷ (between ++ m ∷ []))) (sym (early_move two second)) ∙ is in
    none-some after
    (sym (by_none kind between) ∙ ap (λ o. state_by kind o between) (sym (two_early kind state))
    ∙ early_first kind state after (early ∷ between) both)

pub never_apart : (kind : states.Nature) (state after : State) (one two : Move) (between : List Move)
    → is_apart one ≡ true → is_apart two ≡ true
    → state_by kind (Some state) (one ∷ (between ++ two ∷ [])) ≡ Some after → ⊥
never_apart kind state after one two between first second is =
    by (state_after kind (Some state) (0, one)) refl is
  where
    from_done : (moves_left : List Move) → state_by kind (Some Done) (moves_left ++ two ∷ []) ≡ None
    from_done [] = done_ends kind two
    from_done (m ∷ moves_left) =
        ap (λ o. state_by kind o (moves_left ++ two ∷ [])) (done_ends kind m)
        ∙ by_none kind (moves_left ++ two ∷ [])

    by : (o : Option State) → state_after kind (Some state) (0, one) ≡ o
        → state_by kind o (between ++ two ∷ []) ≡ Some after → ⊥
    by None here none = none-some after (sym (by_none kind (between ++ two ∷ [])) ∙ none)
    by (Some next) here some =
        none-some after
        (sym (from_done between)
        ∙ ap (λ s. state_by kind (Some s) (between ++ two ∷ []))
        (sym (apart_done kind state next one first here))
        ∙ some)

-- so no two steps do either
pub one_step : (script : ScriptView) (rs : List Record) (task : ℕ) (passes : Move → Bool) → IsWhole script
    → AreRecords script rs
    → ((kind : states.Nature) (state after : State) (one two : Move) (between : List Move) → passes one ≡ true
    → passes two ≡ true
    → state_by kind (Some state) (one ∷ (between ++ two ∷ [])) ≡ Some after → ⊥)
    → (n m : ℕ) → n < length script.steps → m < length script.steps
    → any passes (step_moves script task n) ≡ true → any passes (step_moves script task m) ≡ true → n ≡ m
one_step script rs task passes whole records never n m within_n within_m at_n at_m =
    elim (one_move script task n whole within_n) [
      | inl none ↦ absurd (false≢true (sym (ap (any passes) none) ∙ at_n))
      | inr (a, one) ↦ elim (one_move script task m whole within_m) [
        | inl none ↦ absurd (false≢true (sym (ap (any passes) none) ∙ at_m))
        | inr (b, two) ↦
            let pass_a = first_passes a (sym (ap (any passes) one) ∙ at_n) in
            let pass_b = first_passes b (sym (ap (any passes) two) ∙ at_m) in
            elim (cases_order n m) [
              | inl same_place ↦ same_place
              | inr (inl less) ↦
                  absurd
                  (only_one script rs task n m passes whole records never less within_m a b one two pass_a
                  pass_b)
              | inr (inr more) ↦
                  absurd
                  (only_one script rs task m n passes whole records never more within_n b a two one pass_b
                  pass_a)
            ]
      ]
    ]
  where
    first_passes : (m : Move) → any passes (m ∷ []) ≡ true → passes m ≡ true
    first_passes m is = by (passes m) is
      where
        by : (b : Bool) → (b || false) ≡ true → b ≡ true
        by true holds = refl
        by false fails = absurd (false≢true fails)

-- ---- a task that stays at home

-- whether the step is on this thread, if there is one
abbrev pub on_home : ScriptView → Option ℕ → ℕ → Bool
on_home script place n = option_map_or (λ thread. step_on script thread n) place false

step_is_on : (script : ScriptView) (thread n : ℕ) (s : Step) → slice_get script.steps n ≡ Some s
    → step_on script thread n ≡ (s.thread == thread)
step_is_on script thread n s is =
    ap (λ (o : Option Step). option_map_or (λ (q : Step). q.thread == thread) o false) is

-- a record is there exactly if its step is
pub on_there : (script : ScriptView) (rs : List Record) (place : Option ℕ) (i : ℕ) → IsWhole script
    → AreRecords script rs → i < length rs → is_on rs place i ≡ on_home script place (step_no script rs i)
on_there script rs None i whole records within = refl
on_there script rs (Some thread) i whole records within =
    let (x, is) = get_within rs i within in
    let p = placed script rs i x whole records is in
    ap (λ o. option_map_or (λ t. t == thread) (option_map (λ (r : Record). r.thread) o) false) is
    ∙ ap (λ t. t == thread) (sym p.of_thread)
    ∙ sym (step_is_on script thread (step_no script rs i) p.step p.stands)

told_by_call : (body : Body) (first second : Option TaskView) (task : ℕ) (v : TaskView)
    → id_of first ≡ first_given body → started body ≡ Some task → second ≡ Some v
    → is_some (told_turns (recorded_body body first second)) ≡ true
told_by_call (TaskSchedule st turns prior next claimed) None second task v id starts is =
    absurd (none-some prior id)
told_by_call (TaskSchedule st turns prior next claimed) (Some t) second task v id starts is =
    ap (λ o. is_some (option_map (turns_of t) o)) is
told_by_call _ first second task v id starts is = absurd (none-some task starts)

-- what a search that finds nothing passes over
none_found : {X : Type 0} (p : X → Bool) (xs : List X) (i : ℕ) (x : X) → is_some (find p xs) ≡ false
    → slice_get xs i ≡ Some x → p x ≡ false
none_found p xs i x none is = elim (cases_Bool (p x)) [
  | inl passes ↦ absurd (false≢true (sym none ∙ found_from p xs i x is passes))
  | inr fails ↦ fails
]

place_there : (rs : List Record) (i : ℕ) → i < length rs → (k : ℕ) × (slice_get (places rs) k ≡ Some i)
place_there rs i within = contains_get (places rs) i (contains_place rs i within)

-- a start of a task that has not moved is at its home
pub start_on : (script : ScriptView) (rs : List Record) (task n : ℕ) (s : Step) → IsWhole script
    → AreRecords script rs → has_moved rs task ≡ false → slice_get script.steps n ≡ Some s
    → started s.body ≡ Some task → on_home script (home_of rs task) n ≡ true
start_on script rs task n s whole records unmoved is starts =
    let it = recorded script rs n s whole records is in
    let i = record_no script rs n in
    let within = slice_get_within rs i it.made it.stands in
    let p = placed script rs i it.made whole records it.stands in
    let step : p.step ≡ s = same_Some p.step s (sym p.stands ∙ ap (slice_get script.steps) it.there ∙ is) in
    let starts_step = ap (λ (x : Step). started x.body) step ∙ starts in
    let (v, was, id) = second_has script (step_no script rs i) p.step whole p.stands task
    (second_given_of p.step.body task starts_step) in
    let starts_record : is_task task (at started rs i) ≡ true =
    the_task task (at started rs i)
    (at_get started rs i it.made it.stands ∙ says started script rs i it.made whole started_called p
    ∙ starts_step) in
    let told : is_some (at told_turns rs i) ≡ true =
    ap is_some (at_get told_turns rs i it.made it.stands ∙ ap told_turns p.body_is)
    ∙ told_by_call p.step.body (first_at script (step_no script rs i) p.step)
    (second_at script (step_no script rs i) p.step) task v
    (first_id_is script (step_no script rs i) p.step whole p.stands) starts_step
    (ap (value (values_at script (step_no script rs i))) (second_given_of p.step.body task starts_step)
    ∙ was) in
    let (k, listed) = place_there rs i within in
    let passed = none_found _ (places rs) k i unmoved listed in
    let on =
    both (is_task task (at started rs i)) (is_some (at told_turns rs i)) (is_on rs (home_of rs task) i)
    starts_record told passed in
    ap (on_home script (home_of rs task)) (sym it.there)
    ∙ sym (on_there script rs (home_of rs task) i whole records within)
    ∙ on
  where
    both : (a b c : Bool) → a ≡ true → b ≡ true → (a && b && not c) ≡ false → c ≡ true
    both true true true x y passed = refl
    both true true false x y passed = absurd (false≢true (sym passed))
    both true false c x y passed = absurd (false≢true y)
    both false b c x y passed = absurd (false≢true x)

-- the home of a root is the thread on which it began
root_home : (script : ScriptView) (rs : List Record) (task k : ℕ) (s : Step) → IsWhole script
    → AreRecords script rs → slice_get script.steps k ≡ Some s → begun_root s.body ≡ Some task
    → home_of rs task ≡ Some s.thread
root_home script rs task k s whole records is begins_it =
    let it = recorded script rs k s whole records is in
    let i = record_no script rs k in
    let within = slice_get_within rs i it.made it.stands in
    let p = placed script rs i it.made whole records it.stands in
    let step : p.step ≡ s = same_Some p.step s (sym p.stands ∙ ap (slice_get script.steps) it.there ∙ is) in
    let says_root : at begun_root rs i ≡ Some task =
    at_get begun_root rs i it.made it.stands ∙ says begun_root script rs i it.made whole root_called p
    ∙ ap (λ (x : Step). begun_root x.body) step ∙ begins_it in
    let (at_k, listed) = place_there rs i within in
    let found = found_from (λ j. is_task task (at begun_root rs j)) (places rs) at_k i listed
    (the_task task (at begun_root rs i) says_root) in
    let (j, found_is) = some_of (find (λ j. is_task task (at begun_root rs j)) (places rs)) found in
    let (m, listed_j, passes) = found_at (λ j. is_task task (at begun_root rs j)) (places rs) j found_is in
    let (y, at_j, tells) = get_at begun_root rs j task (is_the_task task (at begun_root rs j) passes) in
    let q = placed script rs j y whole records at_j in
    let tells_step = sym (says begun_root script rs j y whole root_called q) ∙ tells in
    let same_place =
    made_one script task (step_no script rs j) k q.step s whole q.stands
    (root_subject q.step.body task tells_step).1 is (root_subject s.body task begins_it).1 in
    let same_step : q.step ≡ s =
    same_Some q.step s (sym q.stands ∙ ap (slice_get script.steps) same_place ∙ is) in
    let begun_is : begun_on rs task ≡ Some s.thread =
    ap (option_and_then (thread_at rs)) found_is ∙ ap (option_map (λ (r : Record). r.thread)) at_j
    ∙ ap Some (sym q.of_thread ∙ ap (λ (x : Step). x.thread) same_step) in
    ap (λ b. cond b (begun_on rs task) (run_on rs task)) (ap is_some begun_is) ∙ begun_is

-- and so is each stop that ends a turn
pub stop_on : (script : ScriptView) (rs : List Record) (task n : ℕ) (s : Step) → IsWhole script
    → AreRecords script rs → has_moved rs task ≡ false → slice_get script.steps n ≡ Some s
    → stopped s.body ≡ Some task → on_home script (home_of rs task) n ≡ true
stop_on script rs task n s whole records unmoved is stops =
    let within = slice_get_within script.steps n s is in
    let here = at_home script n s task whole is (running_of s.body task stops) in
    let (k, t, below_n, at_k, of, begins_it, count) =
    home_some script n task s.thread whole (omega (arith, within)) here in
    elim (or_cases (is_task task (started t.body)) (is_task task (begun_root t.body)) begins_it) [
      | inl starts ↦
          moved_to_n k t at_k of (home_of rs task)
          (start_on script rs task k t whole records unmoved at_k (is_the_task task (started t.body) starts))
      | inr root ↦
          ap (λ o. option_map_or (λ thread. step_on script thread n) o false)
          (root_home script rs task k t whole records at_k (is_the_task task (begun_root t.body) root))
          ∙ step_is_on script t.thread n s is ∙ eq-eqb s.thread t.thread (sym of)
    ]
  where
    moved_to_n : (k : ℕ) (t : Step) → slice_get script.steps k ≡ Some t → t.thread ≡ s.thread
        → (place : Option ℕ) → option_map_or (λ thread. step_on script thread k) place false ≡ true
        → option_map_or (λ thread. step_on script thread n) place false ≡ true
    moved_to_n k t at_k of None on = absurd (false≢true on)
    moved_to_n k t at_k of (Some thread) on =
        step_is_on script thread n s is ∙ ap (λ u. u == thread) (sym of)
        ∙ sym (step_is_on script thread k t at_k) ∙ on
