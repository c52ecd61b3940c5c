-- After a task is finished it moves no more, but for the event of a detached task. So two records that finish
-- one task finish different halves of it.
use Rattle.std.proofs.Common.{◌≡◌, ◌≢◌, ◌∙◌, ℕ, zero, suc, ◌<◌, ◌+◌, Bool, true, false, cond, List, [], ◌∷◌}
use Rattle.std.proofs.Common.{◌++◌, length, get_or, take, Option, Some, None, refl, sym, ap, subst, arith}
use Rattle.std.proofs.Common.{inl, inr, ◌⊎◌, add-one}
use Rattle.std.specs.Prelude.{◌==◌, ◌&&◌, not, is_some, slice_get, filter, fold, map, Contains}
use Rattle.std.specs.List.{flat_map, range_with_len}
use Rattle.std.specs.Option.{option_map, option_map_or, option_and_then}
use Rattle.std.proofs.lemmas.Bool.{cases_lt, cases_order, eq-eqb, false≢true}
use Rattle.std.proofs.lemmas.Option.{none-some, same_Some, slice_get-map, slice_get-get_or}
use Rattle.std.proofs.lemmas.List.{take_all}
use Rattle.std.proofs.lemmas.List.Elements.{Contains-append_left, Contains-append_right}
use Rattle.ompt_events.specs.declared.records.Record.{Record}
use Rattle.ompt_events.specs.declared.records.Body.{Body as RecordBody}
use Rattle.ompt_events.specs.declared.records.Body.TheVariants.{TaskSchedule, Cancel}
use Rattle.ompt_events.specs.declared.records.Part.{Part}
use Rattle.ompt_events.specs.declared.records.Part.TheVariants.{Whole, Body, Event}
use Rattle.ompt_events.specs.declared.names.Status.{Status}
use Rattle.ompt_events.specs.declared.names.Status.TheVariants as status
use Rattle.ompt_events.specs.declared.state.State.{State}
use Rattle.ompt_events.specs.declared.state.State.TheVariants.{Created, Running, EarlyRunning, Detached, Done}
use Rattle.ompt_events.specs.declared.cause.Cause.TheVariants.{TurnGap, StatusOrder}
use Rattle.ompt_events.specs.Flags as flag
use Rattle.ompt_events.specs.Flags.{has_flag}
use Rattle.ompt_events.specs.Names.{status_part, demands_next}
use Rattle.ompt_events.specs.Records.{finish, stopped, ended_turn, prior_turn}
use Rattle.ompt_events.specs.Places.{at, places}
use Rattle.ompt_events.specs.States.{Move, Stopped, Started, Discarded, Nature, is_task, stops, moves_by}
use Rattle.ompt_events.specs.States.{moves_at, moves_of, has_moved, is_early_move, is_apart, moves_by_file}
use Rattle.ompt_events.specs.States.{turn_starts_at, turn_ends_at, turn_moves, moved_moves, all_moves_of}
use Rattle.ompt_events.specs.States.{home_of, is_on, is_early, places_of, nature_of, may, next_state_of}
use Rattle.ompt_events.specs.States.{move_state, state_after, first_state, state_of}
use Rattle.ompt_events.specs.Turns.{is_turn, turns_in}
use Rattle.ompt_events.specs.Causes.{status_order, IsFreeOf}
use Rattle.ompt_events.proofs.ListLemmas.{get_contains, contains_get, contains_range}
use Rattle.ompt_events.proofs.TurnLemmas.{ended_low}
use Rattle.ompt_events.proofs.PlaceLemmas.{at_within, contains_place, Contains-filter}
use Rattle.credit_ledger.specs.TraceEntries.{IsFinishedInParts}

-- the part of its task that a move finishes
abbrev pub part_of : Move → Option Part
part_of (Stopped status) = status_part status
part_of Started = None
part_of Discarded = Some Whole

-- ---- the move of a finishing record

-- the list has a move that finishes the part
abbrev Finishes : List Move → Part → Type 0
Finishes moves part = (k : ℕ) × (move : Move) × (slice_get moves k ≡ Some move) × (part_of move ≡ Some part)

body_finishes : (task : ℕ) (part : Part) (b : RecordBody) → finish b ≡ Some (task, part)
    → Finishes (moves_by task b) part
body_finishes task part (TaskSchedule status turns prior next claimed) is = of (status_part status) refl is
  where
    of : (found : Option Part) → status_part status ≡ found
        → option_map {U = ℕ × Part} (λ (p : Part). (prior, p)) found ≡ Some (task, part)
        → Finishes (moves_by task (TaskSchedule status turns prior next claimed)) part
    of None told is = absurd (none-some (task, part) is)
    of (Some own) told is =
        let same = same_Some (prior, own) (task, part) is in
        let here : cond (prior == task) (Stopped status ∷ []) [] ≡ Stopped status ∷ [] =
        ap (λ b. cond b (Stopped status ∷ []) []) (eq-eqb prior task (ap (λ (f : ℕ × Part). f.0) same)) in (
          0,
          Stopped status,
          ap (λ l. slice_get ((l ++ cond (is_task task next) (Started ∷ []) []) ++ []) 0) here,
          told ∙ ap (λ (f : ℕ × Part). Some f.1) same,
        )
body_finishes task part (Cancel flags own claimed) is = of (has_flag flags.0 flag.discarded_task) is
  where
    of : (b : Bool) → cond {A = Option (ℕ × Part)} b (Some (own, Whole)) None ≡ Some (task, part)
        → Finishes (cond (is_task task (cond b (Some own) None)) (Discarded ∷ []) []) part
    of false is = absurd (none-some (task, part) is)
    of true is =
        let same = same_Some (own, Whole) (task, part) is in
        let here = ap (λ b. cond b (Discarded ∷ []) []) (eq-eqb own task (ap (λ (f : ℕ × Part). f.0) same)) in
        (0, Discarded, ap (λ l. slice_get l 0) here, ap (λ (f : ℕ × Part). Some f.1) same)
body_finishes task part _ is = absurd (none-some (task, part) is)

-- each place is among those at which a task moves
place_there : (rs : List Record) (task i : ℕ) → i < length rs → Contains (places_of rs task) i
place_there rs task i within = of (is_early rs task i) (is_on rs (home_of rs task) i) refl refl
  where
    early : List ℕ
    early = filter (λ k. is_early rs task k && not (is_on rs (home_of rs task) k)) (places rs)

    home : List ℕ
    home = filter (is_on rs (home_of rs task)) (places rs)

    rest : List ℕ
    rest = filter (λ k. not (is_early rs task k) && not (is_on rs (home_of rs task) k)) (places rs)

    of : (first own : Bool) → is_early rs task i ≡ first → is_on rs (home_of rs task) i ≡ own
        → Contains ((early ++ home) ++ rest) i
    of first true is_first is_own =
        Contains-append_left (early ++ home) rest i (Contains-append_right early home i
        (Contains-filter (is_on rs (home_of rs task)) (places rs) i (contains_place rs i within) is_own))
    of true false is_first is_own =
        Contains-append_left (early ++ home) rest i (Contains-append_left early home i
        (Contains-filter (λ k. is_early rs task k && not (is_on rs (home_of rs task) k)) (places rs) i
        (contains_place rs i within)
        (ap (λ b. b && not (is_on rs (home_of rs task) i)) is_first ∙ ap not is_own)))
    of false false is_first is_own =
        Contains-append_right (early ++ home) rest i
        (Contains-filter (λ k. not (is_early rs task k) && not (is_on rs (home_of rs task) k)) (places rs) i
        (contains_place rs i within)
        (ap (λ b. not b && not (is_on rs (home_of rs task) i)) is_first ∙ ap not is_own))

contains_from : {X : Type 0} (f : ℕ → List X) (xs : List ℕ) (k x : ℕ) (y : X) → slice_get xs k ≡ Some x
    → Contains (f x) y → Contains (flat_map f xs) y
contains_from f [] k x y is has = absurd (none-some x is)
contains_from f (z ∷ xs) zero x y is has =
    let P : ℕ → Type 0 = λ n. Contains (f n) y in
    Contains-append_left (f z) (flat_map f xs) y (subst P (sym (same_Some z x is)) has)
contains_from f (z ∷ xs) (suc k) x y is has =
    Contains-append_right (f z) (flat_map f xs) y (contains_from f xs k x y is has)

-- the record's move is among those of its task
record IsMoveAmong (rs : List Record) (i task : ℕ) (part : Part) : Type 0 where
  number : ℕ
  move : Move
  there : slice_get (all_moves_of rs task) number ≡ Some (i, move)
  ends : part_of move ≡ Some part

-- what is among the moves of the task stands there
among : (rs : List Record) (i task : ℕ) (part : Part) (move : Move) → part_of move ≡ Some part
    → Contains (all_moves_of rs task) (i, move) → IsMoveAmong rs i task part
among rs i task part move ends has =
    let (number, there) = contains_get (all_moves_of rs task) (i, move) has in
    record { number = number; move = move; there = there; ends = ends }

-- among the moves that are read by the task's home
home_move : (rs : List Record) (i task : ℕ) (part : Part) → at finish rs i ≡ Some (task, part)
    → (move : Move) × (part_of move ≡ Some part) × Contains (moves_of rs task) (i, move)
home_move rs i task part finishes = of (slice_get rs i) refl finishes
  where
    of : (o : Option Record) → slice_get rs i ≡ o
        → option_and_then (λ (r : Record). finish r.body) o ≡ Some (task, part)
        → (move : Move) × (part_of move ≡ Some part) × Contains (moves_of rs task) (i, move)
    of None here is = absurd (none-some (task, part) is)
    of (Some r) here is =
        let (k, move, first, ends) = body_finishes task part r.body is in
        let moves : moves_at rs task i ≡ map (λ m. (i, m)) (moves_by task r.body) =
        ap
        (λ (o : Option Record).
        map (λ (m : Move). (i, m)) (option_map_or (λ (q : Record). moves_by task q.body) o []))
        here in
        let found : slice_get (moves_at rs task i) k ≡ Some (i, move) =
        ap (λ l. slice_get l k) moves ∙ slice_get-map (λ (m : Move). (i, m)) (moves_by task r.body) k
        ∙ ap (option_map (λ (m : Move). (i, m))) first in
        let (place, own) =
        contains_get (places_of rs task) i
        (place_there rs task i (at_within finish rs i (task, part) finishes)) in (
          move,
          ends,
          contains_from (moves_at rs task) (places_of rs task) place i (i, move) own
              (get_contains (moves_at rs task i) (i, move) k found),
        )

-- a finishing record ends the task's turn, or its move does not belong to a turn
data Finish (task : ℕ) (part : Part) (b : RecordBody) : Type 0 where
  in_turn : (status : Status) → stopped b ≡ Some task → stops task b ≡ Stopped status ∷ []
      → part_of (Stopped status) ≡ Some part → Finish task part b
  aside : (move : Move) (k : ℕ) → slice_get (moves_by task b) k ≡ Some move → is_apart move ≡ true
      → part_of move ≡ Some part → Finish task part b

none_apart : (st : Status) (own : Part) → status_part st ≡ Some own → demands_next st ≡ false
    → is_apart (Stopped st) ≡ true
none_apart status.LateFulfill own told e = refl
none_apart status.TaskwaitComplete own told e = refl
none_apart status.EarlyFulfill own told e = absurd (none-some own told)
none_apart _ own told e = cc

body_ends : (task : ℕ) (part : Part) (b : RecordBody) → finish b ≡ Some (task, part) → Finish task part b
body_ends task part (TaskSchedule status turns prior next claimed) is = of (status_part status) refl is
  where
    by : (b : Bool) → demands_next status ≡ b → prior ≡ task → status_part status ≡ Some part
        → cond (prior == task) (Stopped status ∷ []) [] ≡ Stopped status ∷ []
        → Finish task part (TaskSchedule status turns prior next claimed)
    by true e its ends here = in_turn status (ap (λ b. cond b (Some prior) None) e ∙ ap Some its) here ends
    by false e its ends here =
        aside (Stopped status) 0
        (ap (λ l. slice_get ((l ++ cond (is_task task next) (Started ∷ []) []) ++ []) 0) here)
        (none_apart status part ends e) ends

    of : (found : Option Part) → status_part status ≡ found
        → option_map {U = ℕ × Part} (λ (p : Part). (prior, p)) found ≡ Some (task, part)
        → Finish task part (TaskSchedule status turns prior next claimed)
    of None told is = absurd (none-some (task, part) is)
    of (Some own) told is =
        let same = same_Some (prior, own) (task, part) is in
        let its : prior ≡ task = ap (λ (f : ℕ × Part). f.0) same in
        by (demands_next status) refl its (told ∙ ap (λ (f : ℕ × Part). Some f.1) same)
        (ap (λ b. cond b (Stopped status ∷ []) []) (eq-eqb prior task its))
body_ends task part (Cancel flags own claimed) is =
    let there = of (has_flag flags.0 flag.discarded_task) is in
    aside Discarded 0 there.0 refl there.1
  where
    of : (b : Bool) → cond {A = Option (ℕ × Part)} b (Some (own, Whole)) None ≡ Some (task, part)
        → (slice_get (cond (is_task task (cond b (Some own) None)) (Discarded ∷ []) []) 0 ≡ Some Discarded)
        × (Some Whole ≡ Some part)
    of false is = absurd (none-some (task, part) is)
    of true is =
        let same = same_Some (own, Whole) (task, part) is in (
          ap (λ b. slice_get (cond b (Discarded ∷ []) []) 0)
              (eq-eqb own task (ap (λ (f : ℕ × Part). f.0) same)),
          ap (λ (f : ℕ × Part). Some f.1) same,
        )
body_ends task part _ is = absurd (none-some (task, part) is)

-- of a record that stands there the moves are these
moves_there : (rs : List Record) (task i : ℕ) (r : Record) → slice_get rs i ≡ Some r
    → moves_at rs task i ≡ map (λ m. (i, m)) (moves_by task r.body)
moves_there rs task i r here =
    ap
    (λ (o : Option Record).
    map (λ (m : Move). (i, m)) (option_map_or (λ (q : Record). moves_by task q.body) o []))
    here

-- where it ends a turn, so does its move
ends_there : (rs : List Record) (task turn i : ℕ) (r : Record) (status : Status) → slice_get rs i ≡ Some r
    → stopped r.body ≡ Some task → prior_turn r.body ≡ turn → stops task r.body ≡ Stopped status ∷ []
    → turn_ends_at rs task turn i ≡ (i, Stopped status) ∷ []
ends_there rs task turn i r status here runs is stop =
    let ended : at ended_turn rs i ≡ Some (task, turn) =
    ap (option_and_then (λ (q : Record). ended_turn q.body)) here
    ∙ ap (option_map {U = ℕ × ℕ} (λ t. (t, prior_turn r.body))) runs
    ∙ ap (λ n. Some (task, n)) is in
    let found : is_turn task turn (at ended_turn rs i) ≡ true =
    ap (is_turn task turn) ended ∙ ap (λ b. b && (turn == turn)) (eq-eqb task task refl)
    ∙ eq-eqb turn turn refl in
    ap
    (λ b.
    cond b
    (map (λ (m : Move). (i, m))
    (option_map_or (λ (q : Record). stops task q.body) (slice_get rs i) [])) [])
    found
    ∙ ap
    (λ (o : Option Record).
    map (λ (m : Move). (i, m)) (option_map_or (λ (q : Record). stops task q.body) o []))
    here
    ∙ ap (map (λ (m : Move). (i, m))) stop

-- among the moves of a task that moved
moved_move : (rs : List Record) (i task : ℕ) (part : Part) → IsFreeOf rs TurnGap
    → at finish rs i ≡ Some (task, part)
    → (move : Move) × (part_of move ≡ Some part) × Contains (moved_moves rs task) (i, move)
moved_move rs i task part free finishes = of (slice_get rs i) refl finishes
  where
    early : List (ℕ × Move)
    early = moves_by_file rs task is_early_move

    turned : List (ℕ × Move)
    turned = flat_map (turn_moves rs task) (range_with_len 0 (turns_in rs))

    rest : List (ℕ × Move)
    rest = moves_by_file rs task is_apart

    own : (n : ℕ) × (slice_get (places rs) n ≡ Some i)
    own = contains_get (places rs) i (contains_place rs i (at_within finish rs i (task, part) finishes))

    by : (r : Record) → slice_get rs i ≡ Some r → Finish task part r.body
        → (move : Move) × (part_of move ≡ Some part) × Contains ((early ++ turned) ++ rest) (i, move)
    by r here (aside move k first apart ends) =
        let found : slice_get (moves_at rs task i) k ≡ Some (i, move) =
        ap (λ l. slice_get l k) (moves_there rs task i r here)
        ∙ slice_get-map (λ (m : Move). (i, m)) (moves_by task r.body) k
        ∙ ap (option_map (λ (m : Move). (i, m))) first in
        let all =
        contains_from (moves_at rs task) (places rs) own.0 i (i, move) own.1
        (get_contains (moves_at rs task i) (i, move) k found) in (
          move,
          ends,
          Contains-append_right (early ++ turned) rest (i, move)
              (Contains-filter (λ (step : ℕ × Move). is_apart step.1)
              (flat_map (moves_at rs task) (places rs)) (i, move) all apart),
        )
    by r here (in_turn status runs stop ends) =
        let turn : ℕ = prior_turn r.body in
        let there =
        contains_get (range_with_len 0 (turns_in rs)) turn
        (contains_range (turns_in rs) turn (ended_low rs i r free here)) in
        let last : Contains (turn_ends_at rs task turn i) (i, Stopped status) =
        rw (ends_there rs task turn i r status here runs refl stop) (0, omega arith, refl) in
        let in_turns : Contains (turn_moves rs task turn) (i, Stopped status) =
        Contains-append_right (flat_map (turn_starts_at rs task turn) (places rs))
        (flat_map (turn_ends_at rs task turn) (places rs)) (i, Stopped status)
        (contains_from (turn_ends_at rs task turn) (places rs) own.0 i (i, Stopped status) own.1 last) in (
          Stopped status,
          ends,
          Contains-append_left (early ++ turned) rest (i, Stopped status) (Contains-append_right early turned
              (i, Stopped status)
              (contains_from (turn_moves rs task) (range_with_len 0 (turns_in rs)) there.0 turn
              (i, Stopped status) there.1 in_turns)),
        )

    of : (o : Option Record) → slice_get rs i ≡ o
        → option_and_then (λ (r : Record). finish r.body) o ≡ Some (task, part)
        → (move : Move) × (part_of move ≡ Some part) × Contains (moved_moves rs task) (i, move)
    of None here is = absurd (none-some (task, part) is)
    of (Some r) here is = by r here (body_ends task part r.body is)

finishing_move : (rs : List Record) (i task : ℕ) (part : Part) → IsFreeOf rs TurnGap
    → at finish rs i ≡ Some (task, part) → IsMoveAmong rs i task part
finishing_move rs i task part free finishes = by (has_moved rs task) refl
  where
    by : (b : Bool) → has_moved rs task ≡ b → IsMoveAmong rs i task part
    by true e =
        let (move, ends, has) = moved_move rs i task part free finishes in
        among rs i task part move ends (rw e has)
    by false e =
        let (move, ends, has) = home_move rs i task part finishes in
        among rs i task part move ends (rw e has)

-- ---- what a finished task may do

completes : (state after : State) → next_state_of state status.Complete ≡ Some after → after ≡ Done
completes Running after e = sym (same_Some Done after e)
completes EarlyRunning after e = sym (same_Some Done after e)
completes _ after e = absurd (none-some after e)

cancels : (state after : State) → next_state_of state status.Cancel ≡ Some after → after ≡ Done
cancels Running after e = sym (same_Some Done after e)
cancels _ after e = absurd (none-some after e)

detaches : (state after : State) → next_state_of state status.Detach ≡ Some after → after ≡ Detached
detaches Running after e = sym (same_Some Detached after e)
detaches _ after e = absurd (none-some after e)

fulfils : (state after : State) → next_state_of state status.LateFulfill ≡ Some after → after ≡ Done
fulfils Detached after e = sym (same_Some Done after e)
fulfils _ after e = absurd (none-some after e)

waits : (state after : State) → next_state_of state status.TaskwaitComplete ≡ Some after → after ≡ Done
waits Created after e = sym (same_Some Done after e)
waits _ after e = absurd (none-some after e)

discards : (state after : State) → move_state state Discarded ≡ Some after → after ≡ Done
discards Created after e = sym (same_Some Done after e)
discards _ after e = absurd (none-some after e)

-- a move that finishes a task leaves it done, or detached
finished_state : (state after : State) (move : Move) (part : Part) → part_of move ≡ Some part
    → move_state state move ≡ Some after → (after ≡ Done) ⊎ ((after ≡ Detached) × (part ≡ Body))
finished_state state after (Stopped status.Complete) part ends e = inl (completes state after e)
finished_state state after (Stopped status.Cancel) part ends e = inl (cancels state after e)
finished_state state after (Stopped status.Detach) part ends e =
    inr (detaches state after e, sym (same_Some Body part ends))
finished_state state after (Stopped status.LateFulfill) part ends e = inl (fulfils state after e)
finished_state state after (Stopped status.TaskwaitComplete) part ends e = inl (waits state after e)
finished_state state after (Stopped _) part ends e = absurd (none-some part ends)
finished_state state after Started part ends e = absurd (none-some part ends)
finished_state state after Discarded part ends e = inl (discards state after e)

done_stays : (move : Move) → move_state Done move ≡ None
done_stays (Stopped status) = refl
done_stays Started = refl
done_stays Discarded = refl

detached_moves : (move : Move) (after : State) → move_state Detached move ≡ Some after
    → (after ≡ Done) × (part_of move ≡ Some Event)
detached_moves (Stopped status.LateFulfill) after e = (sym (same_Some Done after e), refl)
detached_moves (Stopped _) after e = absurd (none-some after e)
detached_moves Started after e = absurd (none-some after e)
detached_moves Discarded after e = absurd (none-some after e)

-- ---- the moves after a finish

-- these moves are all allowed from the state on
abbrev AreAllowed : Nature → Option State → List (ℕ × Move) → Type 0
AreAllowed nature before moves = is_some (fold (state_after nature) before moves) ≡ true

none_allowed : (nature : Nature) (moves : List (ℕ × Move)) → AreAllowed nature None moves → ⊥
none_allowed nature [] is = false≢true is
none_allowed nature (step ∷ moves) is =
    let P : Option State → Type 0 = λ o. AreAllowed nature o moves in
    none_allowed nature moves (subst P (none (may nature step.1)) is)
  where
    none : (b : Bool) → cond {A = Option State} b None None ≡ None
    none true = refl
    none false = refl

-- the first of them leads to a state
record Leads (nature : Nature) (state : State) (step : ℕ × Move) (moves : List (ℕ × Move)) : Type 0 where
  after : State
  moved : move_state state step.1 ≡ Some after
  rest : AreAllowed nature (Some after) moves

leads : (nature : Nature) (state : State) (step : ℕ × Move) (moves : List (ℕ × Move))
    → AreAllowed nature (Some state) (step ∷ moves) → Leads nature state step moves
leads nature state step moves is = of (may nature step.1) is
  where
    to : (o : Option State) → move_state state step.1 ≡ o → AreAllowed nature o moves
        → Leads nature state step moves
    to None moved rest = absurd (none_allowed nature moves rest)
    to (Some after) moved rest = record { after = after; moved = moved; rest = rest }

    of : (b : Bool) → AreAllowed nature (cond b (move_state state step.1) None) moves
        → Leads nature state step moves
    of true is = to (move_state state step.1) refl is
    of false is = absurd (none_allowed nature moves is)

after_done : (nature : Nature) (moves : List (ℕ × Move)) (k : ℕ) (step : ℕ × Move)
    → AreAllowed nature (Some Done) moves → slice_get moves k ≡ Some step → ⊥
after_done nature [] k step is there = none-some step there
after_done nature (first ∷ moves) k step is there =
    let on = leads nature Done first moves is in
    none-some on.after (sym (done_stays first.1) ∙ on.moved)

after_detached : (nature : Nature) (moves : List (ℕ × Move)) (k : ℕ) (step : ℕ × Move)
    → AreAllowed nature (Some Detached) moves → slice_get moves k ≡ Some step → part_of step.1 ≡ Some Event
after_detached nature [] k step is there = absurd (none-some step there)
after_detached nature (first ∷ moves) zero step is there =
    let on = leads nature Detached first moves is in
    ap (λ (s : ℕ × Move). part_of s.1) (sym (same_Some first step there))
    ∙ (detached_moves first.1 on.after on.moved).1
after_detached nature (first ∷ moves) (suc k) step is there =
    let on = leads nature Detached first moves is in
    let P : State → Type 0 = λ s. AreAllowed nature (Some s) moves in
    absurd
    (after_done nature moves k step (subst P (detached_moves first.1 on.after on.moved).0 on.rest) there)

-- of two moves that finish a task, the first finishes its body and the second its event
twice : (nature : Nature) (state : State) (moves : List (ℕ × Move)) (a b : ℕ) (x y : ℕ × Move) (p q : Part)
    → AreAllowed nature (Some state) moves → a < b → slice_get moves a ≡ Some x → slice_get moves b ≡ Some y
    → part_of x.1 ≡ Some p → part_of y.1 ≡ Some q → (p ≡ Body) × (q ≡ Event)
twice nature state [] a b x y p q is less here there ends also = absurd (none-some x here)
twice nature state (first ∷ moves) a zero x y p q is less here there ends also = absurd (omega arith)
twice nature state (first ∷ moves) zero (suc b) x y p q is less here there ends also =
    let on = leads nature state first moves is in
    let P : State → Type 0 = λ s. AreAllowed nature (Some s) moves in
    let finished : part_of first.1 ≡ Some p =
    ap (λ (s : ℕ × Move). part_of s.1) (same_Some first x here) ∙ ends in
    elim (finished_state state on.after first.1 p finished on.moved) [
      | inl done ↦ absurd (after_done nature moves b y (subst P done on.rest) there)
      | inr detached ↦ (
        detached.1,
        same_Some q Event
            (sym also ∙ after_detached nature moves b y (subst P detached.0 on.rest) there),
      )
    ]
twice nature state (first ∷ moves) (suc a) (suc b) x y p q is less here there ends also =
    let on = leads nature state first moves is in
    twice nature on.after moves a b x y p q on.rest (omega (arith, less)) here there ends also

-- ---- a trace in which each move is allowed

first_allowed : (rs : List Record) (task n : ℕ) → IsFreeOf rs StatusOrder
    → is_some (state_of (nature_of rs task) (take n (all_moves_of rs task))) ≡ true
first_allowed rs task zero free = refl
first_allowed rs task (suc n) free =
    let P : ℕ → Type 0 = λ m. is_some (state_of (nature_of rs task) (take m (all_moves_of rs task))) ≡ true in
    subst P (add-one n) (elim (cases_lt n (length (all_moves_of rs task))) [
      | inl within ↦
          more (get_or (all_moves_of rs task) n (0, Started))
          (slice_get-get_or (all_moves_of rs task) n (0, Started) within) (first_allowed rs task n free)
          (state_of (nature_of rs task) (take (n + 1) (all_moves_of rs task))) refl
      | inr past ↦
          ap (λ l. is_some (state_of (nature_of rs task) l))
          (take_all (n + 1) (all_moves_of rs task) (omega (arith, past))
          ∙ sym (take_all n (all_moves_of rs task) past))
          ∙ first_allowed rs task n free
    ])
  where
    more : (step : ℕ × Move) → slice_get (all_moves_of rs task) n ≡ Some step
        → is_some (state_of (nature_of rs task) (take n (all_moves_of rs task))) ≡ true → (o : Option State)
        → state_of (nature_of rs task) (take (n + 1) (all_moves_of rs task)) ≡ o
        → is_some (state_of (nature_of rs task) (take (n + 1) (all_moves_of rs task))) ≡ true
    more step there before None is = absurd (free step.0 (status_order (record {
      task = task;
      number = n;
      move = step.1;
      made_there = there;
      allowed = before;
      not_allowed = is;
    })))
    more step there before (Some state) is = ap is_some is

all_allowed : (rs : List Record) (task : ℕ) → IsFreeOf rs StatusOrder
    → AreAllowed (nature_of rs task) (Some (first_state (nature_of rs task))) (all_moves_of rs task)
all_allowed rs task free =
    let all = take_all (length (all_moves_of rs task)) (all_moves_of rs task) (omega arith) in
    ap (λ l. is_some (state_of (nature_of rs task) l)) (sym all)
    ∙ first_allowed rs task (length (all_moves_of rs task)) free

-- the body and the event are different parts, and neither is all of the task
first_apart : (p q : Part) → p ≡ Body → q ≡ Event → (p ≢ Whole) × (p ≢ q)
first_apart p q body event = rw (body, event) (λ e. cc, λ e. cc)

second_apart : (p q : Part) → p ≡ Body → q ≡ Event → (q ≢ Whole) × (q ≢ p)
second_apart p q body event = rw (body, event) (λ e. cc, λ e. cc)

-- two records that finish one task finish different halves of it
pub finished_in_parts : (rs : List Record) → IsFreeOf rs TurnGap → IsFreeOf rs StatusOrder
    → IsFinishedInParts rs
finished_in_parts rs gapless free i j task p q apart finishes also =
    let a = finishing_move rs i task p gapless finishes in
    let b = finishing_move rs j task q gapless also in
    let all = all_allowed rs task free in
    let nature : Nature = nature_of rs task in
    elim (cases_order a.number b.number) [
      | inl same ↦
          absurd
          (apart
          (ap (λ (s : ℕ × Move). s.0)
          (same_Some (i, a.move) (j, b.move)
          (sym a.there ∙ ap (slice_get (all_moves_of rs task)) same ∙ b.there))))
      | inr (inl before) ↦
          let parts =
          twice nature (first_state nature) (all_moves_of rs task) a.number b.number (i, a.move)
          (j, b.move) p q all before a.there b.there a.ends b.ends in
          first_apart p q parts.0 parts.1
      | inr (inr behind) ↦
          let parts =
          twice nature (first_state nature) (all_moves_of rs task) b.number a.number (j, b.move)
          (i, a.move) q p all behind b.there a.there b.ends a.ends in
          second_apart q p parts.0 parts.1
    ]
