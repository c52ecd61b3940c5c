-- The states of a task along words of its moves, and a fulfilment that is read earlier than it came.
use Rattle.std.proofs.Common.{◌≡◌, ◌∙◌, List, [], ◌∷◌, ◌++◌, Bool, true, false, Option, Some, None, refl, sym}
use Rattle.std.proofs.Common.{ap, cond}
use Rattle.std.specs.Prelude.{fold, option_and_then}
use Rattle.std.proofs.lemmas.Bool.{false≢true}
use Rattle.std.proofs.lemmas.Option.{none-some, same_Some}
use Rattle.ompt_events.specs.declared.names.Status.TheVariants as status
use Rattle.ompt_events.specs.declared.state.State.{State}
use Rattle.ompt_events.specs.declared.state.State.TheVariants.{Created, Running, Suspended, EarlyRunning}
use Rattle.ompt_events.specs.declared.state.State.TheVariants.{EarlyWaiting, Detached, Done}
use Rattle.ompt_events.specs.States.{Move, Stopped, Started, Discarded, Nature, state_after, is_early_move}
use Rattle.ompt_events.specs.States.{is_turn_move, is_apart}
use Rattle.ompt_events.specs.States as states

-- the state after these moves
abbrev pub state_by : states.Nature → Option State → List Move → Option State
state_by nature from moves = fold (λ o (m : Move). state_after nature o (0, m)) from moves

pub by_append : (nature : states.Nature) (from : Option State) (one two : List Move)
    → state_by nature from (one ++ two) ≡ state_by nature (state_by nature from one) two
by_append nature from [] two = refl
by_append nature from (m ∷ one) two = by_append nature (state_after nature from (0, m)) one two

-- where there is no state there is none later
pub by_none : (nature : states.Nature) (moves : List Move) → state_by nature None moves ≡ None
by_none nature [] = refl
by_none nature (m ∷ moves) =
    ap (λ o. state_by nature o moves) (nothing (states.may nature m)) ∙ by_none nature moves
  where
    nothing : (b : Bool) → cond b (option_and_then (λ state. states.move_state state m) None) None ≡ None
    nothing true = refl
    nothing false = refl

abbrev pub early : Move
early = Stopped status.EarlyFulfill

-- a fulfilment that comes after another move may come before it
commutes : (nature : states.Nature) (state : State) (m : Move) (after : State)
    → state_after nature (state_after nature (Some state) (0, m)) (0, early) ≡ Some after
    → state_after nature (state_after nature (Some state) (0, early)) (0, m) ≡ Some after
commutes states.Root state m after is = absurd (none-some after is)
commutes states.Wait state m after is = absurd (none-some after is)
commutes states.Plain Created Started after is = is
commutes states.Plain Created Discarded after is = absurd (none-some after is)
commutes states.Plain Created (Stopped status.EarlyFulfill) after is = is
commutes states.Plain Created (Stopped _) after is = absurd (none-some after is)
commutes states.Plain Suspended Started after is = is
commutes states.Plain Suspended Discarded after is = absurd (none-some after is)
commutes states.Plain Suspended (Stopped status.EarlyFulfill) after is = is
commutes states.Plain Suspended (Stopped _) after is = absurd (none-some after is)
commutes states.Plain Running (Stopped status.Yield) after is = is
commutes states.Plain Running (Stopped status.Switch) after is = is
commutes states.Plain Running (Stopped status.EarlyFulfill) after is = is
commutes states.Plain Running (Stopped _) after is = absurd (none-some after is)
commutes states.Plain Running Started after is = absurd (none-some after is)
commutes states.Plain Running Discarded after is = absurd (none-some after is)
commutes states.Plain EarlyRunning (Stopped status.EarlyFulfill) after is = absurd (none-some after is)
commutes states.Plain EarlyRunning (Stopped _) after is = absurd (none-some after is)
commutes states.Plain EarlyRunning Started after is = absurd (none-some after is)
commutes states.Plain EarlyRunning Discarded after is = absurd (none-some after is)
commutes states.Plain EarlyWaiting (Stopped status.EarlyFulfill) after is = absurd (none-some after is)
commutes states.Plain EarlyWaiting (Stopped _) after is = absurd (none-some after is)
commutes states.Plain EarlyWaiting Started after is = absurd (none-some after is)
commutes states.Plain EarlyWaiting Discarded after is = absurd (none-some after is)
commutes states.Plain Detached (Stopped status.EarlyFulfill) after is = absurd (none-some after is)
commutes states.Plain Detached (Stopped _) after is = absurd (none-some after is)
commutes states.Plain Detached Started after is = absurd (none-some after is)
commutes states.Plain Detached Discarded after is = absurd (none-some after is)
commutes states.Plain Done (Stopped status.EarlyFulfill) after is = absurd (none-some after is)
commutes states.Plain Done (Stopped _) after is = absurd (none-some after is)
commutes states.Plain Done Started after is = absurd (none-some after is)
commutes states.Plain Done Discarded after is = absurd (none-some after is)

-- so it may come first
pub early_first : (nature : states.Nature) (state after : State) (before : List Move)
    → state_by nature (Some state) (before ++ early ∷ []) ≡ Some after
    → state_by nature (Some state) (early ∷ before) ≡ Some after
early_first nature state after [] is = is
early_first nature state after (m ∷ before) is =
    by (state_after nature (Some state) (0, m)) refl is
    (λ next. early_first nature next after before)
  where
    -- where the fulfilment leads after the move it leads before it too
    ahead : (next : State) (o : Option State) → state_after nature (Some next) (0, early) ≡ o
        → state_after nature (Some state) (0, m) ≡ Some next → state_by nature o before ≡ Some after
        → state_by nature (Some state) (early ∷ m ∷ before) ≡ Some after
    ahead next None leads here none = absurd (none-some after (sym (by_none nature before) ∙ none))
    ahead next (Some other) leads here some =
        ap (λ o. state_by nature o before)
        (commutes nature state m other (ap (λ o. state_after nature o (0, early)) here ∙ leads)) ∙ some

    by : (o : Option State) → state_after nature (Some state) (0, m) ≡ o
        → state_by nature o (before ++ early ∷ []) ≡ Some after
        → ((next : State) → state_by nature (Some next) (before ++ early ∷ []) ≡ Some after
        → state_by nature (Some next) (early ∷ before) ≡ Some after)
        → state_by nature (Some state) (early ∷ m ∷ before) ≡ Some after
    by None here none later =
        absurd (none-some after (sym (by_none nature (before ++ early ∷ [])) ∙ none))
    by (Some next) here some later =
        ahead next (state_after nature (Some next) (0, early)) refl here (later next some)

-- after a move that is neither a fulfilment ahead of the body's end nor of a turn, a task is done
pub apart_done : (nature : states.Nature) (state after : State) (m : Move) → is_apart m ≡ true
    → state_after nature (Some state) (0, m) ≡ Some after → after ≡ Done
apart_done nature state after m apart is = by (states.may nature m) state m apart is
  where
    of_late : (st : State) → states.next_state_of st status.LateFulfill ≡ Some after → after ≡ Done
    of_late Detached moves = sym (same_Some Done after moves)
    of_late Created none = absurd (none-some after none)
    of_late Running none = absurd (none-some after none)
    of_late Suspended none = absurd (none-some after none)
    of_late EarlyRunning none = absurd (none-some after none)
    of_late EarlyWaiting none = absurd (none-some after none)
    of_late Done none = absurd (none-some after none)

    of_wait : (st : State) → states.next_state_of st status.TaskwaitComplete ≡ Some after → after ≡ Done
    of_wait Created moves = sym (same_Some Done after moves)
    of_wait Detached none = absurd (none-some after none)
    of_wait Running none = absurd (none-some after none)
    of_wait Suspended none = absurd (none-some after none)
    of_wait EarlyRunning none = absurd (none-some after none)
    of_wait EarlyWaiting none = absurd (none-some after none)
    of_wait Done none = absurd (none-some after none)

    of_discard : (st : State) → states.discard_state_of st ≡ Some after → after ≡ Done
    of_discard Created moves = sym (same_Some Done after moves)
    of_discard Detached none = absurd (none-some after none)
    of_discard Running none = absurd (none-some after none)
    of_discard Suspended none = absurd (none-some after none)
    of_discard EarlyRunning none = absurd (none-some after none)
    of_discard EarlyWaiting none = absurd (none-some after none)
    of_discard Done none = absurd (none-some after none)

    by : (b : Bool) (st : State) (move : Move) → is_apart move ≡ true
        → cond b (states.move_state st move) None ≡ Some after → after ≡ Done
    by false st move told none = absurd (none-some after none)
    by true st Discarded told moves = of_discard st moves
    by true st Started told moves = absurd (false≢true told)
    by true st (Stopped status.LateFulfill) told moves = of_late st moves
    by true st (Stopped status.TaskwaitComplete) told moves = of_wait st moves
    by true st (Stopped status.EarlyFulfill) told moves = absurd (false≢true told)
    by true st (Stopped status.Complete) told moves = absurd (false≢true told)
    by true st (Stopped status.Yield) told moves = absurd (false≢true told)
    by true st (Stopped status.Cancel) told moves = absurd (false≢true told)
    by true st (Stopped status.Detach) told moves = absurd (false≢true told)
    by true st (Stopped status.Switch) told moves = absurd (false≢true told)

-- a task that is done moves no more
pub done_ends : (nature : states.Nature) (m : Move) → state_after nature (Some Done) (0, m) ≡ None
done_ends nature m = by (states.may nature m) m
  where
    by : (b : Bool) (move : Move) → cond b (states.move_state Done move) None ≡ None
    by false move = refl
    by true Discarded = refl
    by true Started = refl
    by true (Stopped _) = refl
