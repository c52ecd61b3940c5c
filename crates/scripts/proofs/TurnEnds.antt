-- Each turn of a task ends at most once.
use Rattle.std.proofs.Common.{ℕ, zero, suc, ◌≡◌, ◌≢◌, ◌∙◌, ◌<◌, ◌≤◌, List, [], ◌∷◌, ◌++◌, length}
use Rattle.std.proofs.Common.{Bool, true, false, Some, None, refl, sym, ap, arith}
use Rattle.std.proofs.Common.{inl, inr, cond}
use Rattle.std.specs.Prelude.{slice_get}
use Rattle.std.proofs.lemmas.Bool.{cases_eq, false≢true}
use Rattle.std.proofs.lemmas.Bool.{eq-eqb}
use Rattle.std.proofs.lemmas.List.{append-nil}
use Rattle.std.proofs.lemmas.Option.{none-some, same_Some, slice_get_within}
use Rattle.ompt_events.specs.declared.records.Record.{Record}
use Rattle.ompt_events.specs.declared.records.Body.{Body}
use Rattle.ompt_events.specs.declared.records.Body.TheVariants.{TaskSchedule}
use Rattle.ompt_events.specs.declared.names.Status.{Status}
use Rattle.ompt_events.specs.declared.names.Status.TheVariants as status
use Rattle.ompt_events.specs.declared.state.State.{State}
use Rattle.ompt_events.specs.declared.state.State.TheVariants.{Created, Running, Suspended, EarlyRunning}
use Rattle.ompt_events.specs.declared.state.State.TheVariants.{EarlyWaiting, Detached, Done}
use Rattle.ompt_events.specs.Names.{demands_next}
use Rattle.ompt_events.specs.Records.{started, stopped}
use Rattle.ompt_events.specs.States.{Move, Stopped, Started, Discarded, moves_by, moves_at, is_task, stops}
use Rattle.ompt_events.specs.States.{moved_moves, is_early_move, is_apart, nature_of, state_after}
use Rattle.ompt_events.specs.States.{first_state, moves_by_file, turn_moves, turn_starts_at, turn_ends_at}
use Rattle.ompt_events.specs.States.{has_moved, all_moves_of, moves_of, state_of}
use Rattle.ompt_events.specs.States as states
use Rattle.ompt_events.proofs.ListLemmas.{get_within}
use Rattle.ompt_events.proofs.PlaceLemmas.{the_task}
use Rattle.scripts.specs.declared.script.Step.{Step}
use Rattle.scripts.specs.Scripts.{ScriptView}
use Rattle.callbacks.specs.Tasks.{is_running}
use Rattle.scripts.proofs.HandOverLemmas.{AreRecords}
use Rattle.scripts.proofs.HomeLemmas.{begun, begins, begun_rises}
use Rattle.scripts.proofs.MoveWords.{state_by, by_append}
use Rattle.scripts.proofs.PartLemmas.{all_moves}
use Rattle.scripts.proofs.SoundLemmas.{step_moves, moves_of_step}
use Rattle.scripts.proofs.StatusLaw.{TellsMove, it_starts, it_stops, it_discards, tells_move, one_move}
use Rattle.scripts.proofs.StatusLaw.{states_are}
use Rattle.scripts.proofs.TurnParts.{stop_begins_none}
use Rattle.scripts.proofs.TurnParts.{begins_by_start}
use Rattle.scripts.proofs.ValueSteps.{IsWhole}

-- a task that does not run runs no more until it starts
not_running_stays : (kind : states.Nature) (state after : State) (m : Move) → is_running state ≡ false
    → m ≢ Started
    → state_after kind (Some state) (0, m) ≡ Some after → is_running after ≡ false
not_running_stays kind state after m rests other is = by (states.may kind m) state m rests other is
  where
    by : (b : Bool) (s : State) (move : Move) → is_running s ≡ false → move ≢ Started
        → cond b (states.move_state s move) None ≡ Some after → is_running after ≡ false
    by false s move fails never none = absurd (none-some after none)
    by true s Started fails never moves = absurd (never refl)
    by true Created Discarded fails never moves = ap is_running (sym (same_Some Done after moves))
    by true Suspended Discarded fails never moves = absurd (none-some after moves)
    by true EarlyWaiting Discarded fails never moves = absurd (none-some after moves)
    by true Detached Discarded fails never moves = absurd (none-some after moves)
    by true Done Discarded fails never moves = absurd (none-some after moves)
    by true Created (Stopped status.EarlyFulfill) fails never moves =
        ap is_running (sym (same_Some EarlyWaiting after moves))
    by true Created (Stopped status.TaskwaitComplete) fails never moves =
        ap is_running (sym (same_Some Done after moves))
    by true Created (Stopped _) fails never moves = absurd (none-some after moves)
    by true Suspended (Stopped status.EarlyFulfill) fails never moves =
        ap is_running (sym (same_Some EarlyWaiting after moves))
    by true Suspended (Stopped _) fails never moves = absurd (none-some after moves)
    by true EarlyWaiting (Stopped status.EarlyFulfill) fails never moves = absurd (none-some after moves)
    by true EarlyWaiting (Stopped _) fails never moves = absurd (none-some after moves)
    by true Detached (Stopped status.LateFulfill) fails never moves =
        ap is_running (sym (same_Some Done after moves))
    by true Detached (Stopped _) fails never moves = absurd (none-some after moves)
    by true Done (Stopped status.LateFulfill) fails never moves = absurd (none-some after moves)
    by true Done (Stopped _) fails never moves = absurd (none-some after moves)
    by true Running move fails never moves = absurd (false≢true (sym fails))
    by true EarlyRunning move fails never moves = absurd (false≢true (sym fails))

-- a task that ends a turn ran, and does not
turn_ends : (kind : states.Nature) (state after : State) (st : Status) → demands_next st ≡ true
    → state_after kind (Some state) (0, Stopped st) ≡ Some after
    → (is_running state ≡ true) × (is_running after ≡ false)
turn_ends kind state after st demands is = by (states.may kind (Stopped st)) state st demands is
  where
    by : (b : Bool) (s : State) (t : Status) → demands_next t ≡ true
        → cond b (states.next_state_of s t) None ≡ Some after
        → (is_running s ≡ true) × (is_running after ≡ false)
    by false s t holds none = absurd (none-some after none)
    by true Running status.Complete holds moves = (refl, ap is_running (sym (same_Some Done after moves)))
    by true Running status.Yield holds moves = (refl, ap is_running (sym (same_Some Suspended after moves)))
    by true Running status.Cancel holds moves = (refl, ap is_running (sym (same_Some Done after moves)))
    by true Running status.Detach holds moves = (refl, ap is_running (sym (same_Some Detached after moves)))
    by true Running status.Switch holds moves = (refl, ap is_running (sym (same_Some Suspended after moves)))
    by true EarlyRunning status.Complete holds moves =
        (refl, ap is_running (sym (same_Some Done after moves)))
    by true EarlyRunning status.Yield holds moves =
        (refl, ap is_running (sym (same_Some EarlyWaiting after moves)))
    by true EarlyRunning status.Switch holds moves =
        (refl, ap is_running (sym (same_Some EarlyWaiting after moves)))
    by true EarlyRunning status.Cancel holds moves = absurd (none-some after moves)
    by true EarlyRunning status.Detach holds moves = absurd (none-some after moves)
    by true s status.EarlyFulfill holds moves = absurd (false≢true holds)
    by true s status.LateFulfill holds moves = absurd (false≢true holds)
    by true s status.TaskwaitComplete holds moves = absurd (false≢true holds)
    by true Created status.Complete holds moves = absurd (none-some after moves)
    by true Created status.Yield holds moves = absurd (none-some after moves)
    by true Created status.Cancel holds moves = absurd (none-some after moves)
    by true Created status.Detach holds moves = absurd (none-some after moves)
    by true Created status.Switch holds moves = absurd (none-some after moves)
    by true Suspended status.Complete holds moves = absurd (none-some after moves)
    by true Suspended status.Yield holds moves = absurd (none-some after moves)
    by true Suspended status.Cancel holds moves = absurd (none-some after moves)
    by true Suspended status.Detach holds moves = absurd (none-some after moves)
    by true Suspended status.Switch holds moves = absurd (none-some after moves)
    by true EarlyWaiting status.Complete holds moves = absurd (none-some after moves)
    by true EarlyWaiting status.Yield holds moves = absurd (none-some after moves)
    by true EarlyWaiting status.Cancel holds moves = absurd (none-some after moves)
    by true EarlyWaiting status.Detach holds moves = absurd (none-some after moves)
    by true EarlyWaiting status.Switch holds moves = absurd (none-some after moves)
    by true Detached status.Complete holds moves = absurd (none-some after moves)
    by true Detached status.Yield holds moves = absurd (none-some after moves)
    by true Detached status.Cancel holds moves = absurd (none-some after moves)
    by true Detached status.Detach holds moves = absurd (none-some after moves)
    by true Detached status.Switch holds moves = absurd (none-some after moves)
    by true Done status.Complete holds moves = absurd (none-some after moves)
    by true Done status.Yield holds moves = absurd (none-some after moves)
    by true Done status.Cancel holds moves = absurd (none-some after moves)
    by true Done status.Detach holds moves = absurd (none-some after moves)
    by true Done status.Switch holds moves = absurd (none-some after moves)

-- the move of a step that stops the task
pub stop_move : (body : Body) (task : ℕ) → stopped body ≡ Some task → is_task task (started body) ≡ false
    → (st : Status) × (moves_by task body ≡ Stopped st ∷ []) × (demands_next st ≡ true)
stop_move (TaskSchedule st turns prior next claimed) task stops_it not_next =
    by (demands_next st) refl stops_it
  where
    by : (b : Bool) → demands_next st ≡ b → cond b (Some prior) None ≡ Some task
        → (s : Status) × (moves_by task (TaskSchedule st turns prior next claimed) ≡ Stopped s ∷ [])
        × (demands_next s ≡ true)
    by true demands is = (
      st,
      ap (λ x. cond x (Stopped st ∷ []) [] ++ cond (is_task task next) (Started ∷ []) [] ++ [])
          (eq-eqb prior task (same_Some prior task is))
          ∙ ap (λ x. (Stopped st ∷ []) ++ cond x (Started ∷ []) [] ++ []) not_next,
      demands,
    )
    by false demands none = absurd (none-some task none)
stop_move _ task stops_it not_next = absurd (none-some task stops_it)

pub one_end : (script : ScriptView) (rs : List Record) (task n m : ℕ) (s t : Step) → IsWhole script
    → AreRecords script rs → slice_get script.steps n ≡ Some s → slice_get script.steps m ≡ Some t
    → stopped s.body ≡ Some task → stopped t.body ≡ Some task
    → begun script.steps task n ≡ begun script.steps task m → n < m → ⊥
one_end script rs task n m s t whole records at_n at_m stops_n stops_m same_count less =
    let (st, one, demands) =
    stop_move s.body task stops_n (stop_begins_none script n task s whole at_n stops_n).0 in
    let (st2, two, demands2) =
    stop_move t.body task stops_m (stop_begins_none script m task t whole at_m stops_m).0 in
    let (before, before_is) = states_are script rs task whole records n (omega (arith, less, within)) in
    let (after, after_is) = states_are script rs task whole records (suc n) (omega (arith, less, within)) in
    let (at_end, end_is) = states_are script rs task whole records m (omega (arith, within)) in
    let (last, last_is) = states_are script rs task whole records (suc m) (omega (arith, within)) in
    let first =
    turn_ends kind before after st demands
    (moves_on n before after (Stopped st) (moves_of_step script task n s at_n ∙ one) before_is after_is) in
    let second =
    turn_ends kind at_end last st2 demands2
    (moves_on m at_end last (Stopped st2) (moves_of_step script task m t at_m ∙ two) end_is last_is) in
    false≢true (sym (rests_until m less (omega arith) after first.1 after_is at_end end_is) ∙ second.0)
  where
    kind : states.Nature
    kind = nature_of rs task

    from : State
    from = first_state kind

    μ : ℕ → List Move
    μ = step_moves script task

    within : m < length script.steps
    within = slice_get_within script.steps m t at_m

    moves_on : (k : ℕ) (a b : State) (x : Move) → μ k ≡ x ∷ []
        → state_by kind (Some from) (all_moves μ k) ≡ Some a
        → state_by kind (Some from) (all_moves μ (suc k)) ≡ Some b → state_after kind (Some a) (0, x) ≡ Some b
    moves_on k a b x one is_a is_b =
        ap (λ o. state_after kind o (0, x)) (sym is_a)
        ∙ sym (by_append kind (Some from) (all_moves μ k) (x ∷ []))
        ∙ ap (λ l. state_by kind (Some from) (all_moves μ k ++ l)) (sym one) ∙ is_b

    rests_until : (k : ℕ) → n < k → k ≤ m → (after : State) → is_running after ≡ false
        → state_by kind (Some from) (all_moves μ (suc n)) ≡ Some after → (a : State)
        → state_by kind (Some from) (all_moves μ k) ≡ Some a → is_running a ≡ false
    rests_until zero low high after rests after_is a is_a = absurd (omega (arith, low))
    rests_until (suc k) low high after rests after_is a is_a = elim (cases_eq n k) [
      | inl same_place ↦
          ap is_running
          (same_Some a after
          (sym is_a ∙ ap (λ j. state_by kind (Some from) (all_moves μ (suc j))) (sym same_place) ∙ after_is))
          ∙ rests
      | inr apart ↦
          let (b, is_b) = states_are script rs task whole records k (omega (arith, high, within)) in
          let so_far =
          rests_until k (omega (arith, low, apart)) (omega (arith, high)) after rests after_is b is_b in
          elim (one_move script task k whole (omega (arith, high, within))) [
            | inl none ↦
                ap is_running
                (same_Some a b
                (sym is_a ∙ ap (λ l. state_by kind (Some from) (all_moves μ k ++ l)) none
                ∙ ap (state_by kind (Some from)) (append-nil (all_moves μ k)) ∙ is_b)) ∙ so_far
            | inr (x, one) ↦
                not_running_stays kind b a x so_far
                (not_start k x (omega (arith, low, apart)) (omega (arith, high)) one)
                (moves_on k b a x one is_b is_a)
          ]
    ]
      where
        not_start : (j : ℕ) (x : Move) → n < j → j < m → μ j ≡ x ∷ [] → x ≢ Started
        not_start j x low_j high_j one is_start =
            let (q, at_j) = get_within script.steps j (omega (arith, high_j, within)) in
            elim_tell j q at_j low_j high_j
            (tells_move task q.body x (sym (moves_of_step script task j q at_j) ∙ one)) is_start
          where
            elim_tell : (j : ℕ) (q : Step) → slice_get script.steps j ≡ Some q → n < j → j < m
                → TellsMove task q.body x → x ≡ Started → ⊥
            elim_tell j q at_j low_j high_j (it_starts m_is starts) start =
                let more =
                (begins script.steps task j q at_j
                (begins_by_start task q.body (the_task task (started q.body) starts))).1 in
                let rise_one =
                begun_rises script.steps task n j (omega (arith, low_j))
                (omega (arith, high_j, within)) in
                let rise_two = begun_rises script.steps task (suc j) m high_j (omega (arith, within)) in
                omega (arith, more, rise_one, rise_two, same_count)
            elim_tell j q at_j low_j high_j (it_stops st next m_is tells) start =
                other_move st (sym m_is ∙ start)
              where
                other_move : (st : Status) → Stopped st ≡ Started → ⊥
                other_move st is = cc
            elim_tell j q at_j low_j high_j (it_discards m_is none also) start = discards (sym m_is ∙ start)
              where
                discards : Discarded ≡ Started → ⊥
                discards is = cc
