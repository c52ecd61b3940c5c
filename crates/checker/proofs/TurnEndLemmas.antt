-- Where each move of a task that moved is allowed, the task is suspended in each turn after which another
-- begins.
use Rattle.std.proofs.Common.{◌≡◌, ◌≢◌, ◌∙◌, ℕ, zero, suc, ◌<◌, ◌≤◌, ◌+◌, ◌-◌, List, [], ◌∷◌, ◌++◌, length}
use Rattle.std.proofs.Common.{Option, Some, None, Bool, true, false, cond, get_or, refl, sym, ap, subst}
use Rattle.std.proofs.Common.{arith, inl, inr, ◌⊎◌, add-one}
use Rattle.std.proofs.lemmas.Bool.{cases_eq, cases_lt, eq-eqb, ne_eqb, false≢true, true≢false}
use Rattle.std.proofs.lemmas.Option.{none-some, slice_get-get_or}
use Rattle.std.proofs.lemmas.List.{take_all}
use Rattle.std.proofs.lemmas.List.Sums.{fold-append}
use Rattle.std.proofs.lemmas.Grind.{flat_map-append}
use Rattle.std.specs.Prelude.{◌==◌, ◌&&◌, Contains, is_some, fold, map, take, slice_get, option_and_then}
use Rattle.std.specs.Option.{option_map_or}
use Rattle.std.specs.List.{flat_map, range_with_len}
use Rattle.ompt_events.specs.declared.records.Record.{Record}
use Rattle.ompt_events.specs.declared.records.Body.{Body}
use Rattle.ompt_events.specs.declared.records.Body.TheVariants.{TaskSchedule}
use Rattle.ompt_events.specs.declared.names.Status.{Status}
use Rattle.ompt_events.specs.declared.names.Status.TheVariants as status
use Rattle.ompt_events.specs.declared.state.State.{State}
use Rattle.ompt_events.specs.declared.state.State.TheVariants as state
use Rattle.ompt_events.specs.declared.cause.Cause.TheVariants.{StatusOrder}
use Rattle.ompt_events.specs.Records.{begun_turn, ended_turn, suspended_turn}
use Rattle.ompt_events.specs.Places.{at, places}
use Rattle.ompt_events.specs.Turns.{turns_in, is_turn}
use Rattle.ompt_events.specs.States.{Move, Stopped, Started, Nature, start_state_of, next_state_of, may}
use Rattle.ompt_events.specs.States.{move_state, state_after, first_state, state_of, nature_of, stops}
use Rattle.ompt_events.specs.States.{has_moved, turn_starts_at, turn_ends_at, turn_moves, moves_by_file}
use Rattle.ompt_events.specs.States.{moves_of, moved_moves, all_moves_of, is_early_move, is_apart}
use Rattle.ompt_events.specs.Causes.{IsFreeOf, status_order}
use Rattle.ompt_events.proofs.EveryLemmas.{every_get, fold_most}
use Rattle.ompt_events.proofs.PlaceLemmas.{get_at, at_within, contains_place, range_more}
use Rattle.ompt_events.proofs.TurnLemmas.{new_turn}

-- ---- whether a record tells a turn

turn_told : (task turn : ℕ) → is_turn task turn (Some (task, turn)) ≡ true
turn_told task turn = ap (λ b. b && (turn == turn)) (eq-eqb task task refl) ∙ eq-eqb turn turn refl

turn_is : (task turn : ℕ) (o : Option (ℕ × ℕ)) → is_turn task turn o ≡ true → o ≡ Some (task, turn)
turn_is task turn None is = absurd (false≢true is)
turn_is task turn (Some (t, u)) is = elim (cases_eq t task) [
  | inl own ↦ elim (cases_eq u turn) [
    | inl same ↦ ap (λ x. Some (x, u)) own ∙ ap (λ x. Some (task, x)) same
    | inr apart ↦ absurd (false≢true (sym (off (t == task) (u == turn) (ne_eqb u turn apart)) ∙ is))
  ]
  | inr other ↦ absurd (false≢true (sym (ap (λ b. b && (u == turn)) (ne_eqb t task other)) ∙ is))
]
  where
    off : (a b : Bool) → b ≡ false → (a && b) ≡ false
    off true b e = e
    off false b e = refl

-- a record tells the turn, or none of the first n does
told_below : (f : Body → Option (ℕ × ℕ)) (rs : List Record) (task turn n : ℕ)
    → ((i : ℕ) × (at f rs i ≡ Some (task, turn))) ⊎ ((i : ℕ) → i < n → at f rs i ≢ Some (task, turn))
told_below f rs task turn zero = inr (λ i below. absurd (omega arith))
told_below f rs task turn (suc n) = elim (told_below f rs task turn n) [
  | inl found ↦ inl found
  | inr none ↦ here (is_turn task turn (at f rs n)) refl none
]
  where
    here : (b : Bool) → is_turn task turn (at f rs n) ≡ b
        → ((i : ℕ) → i < n → at f rs i ≢ Some (task, turn))
        → ((i : ℕ) × (at f rs i ≡ Some (task, turn))) ⊎ ((i : ℕ) → i < suc n → at f rs i ≢ Some (task, turn))
    here true is none = inl (n, turn_is task turn (at f rs n) is)
    here false off none = inr (λ i below tells. elim (cases_eq i n) [
      | inl same ↦
          false≢true
          (sym off ∙ ap (λ k. is_turn task turn (at f rs k)) (sym same) ∙ ap (is_turn task turn) tells
          ∙ turn_told task turn)
      | inr apart ↦ none i (omega arith) tells
    ])

pub told_or_never : (f : Body → Option (ℕ × ℕ)) (rs : List Record) (task turn : ℕ)
    → ((i : ℕ) × (at f rs i ≡ Some (task, turn))) ⊎ ((i : ℕ) → at f rs i ≢ Some (task, turn))
told_or_never f rs task turn = elim (told_below f rs task turn (length rs)) [
  | inl found ↦ inl found
  | inr none ↦ inr (λ i tells. none i (at_within f rs i (task, turn) tells) tells)
]

-- ---- states in which a task cannot start

-- no state, or one in which the task does not start
abbrev pub CannotStart : Option State → Type 0
CannotStart o = option_and_then start_state_of o ≡ None

abbrev pub state_then : Nature → Option State → List (ℕ × Move) → Option State
state_then nature o moves = fold (state_after nature) o moves

started_cannot : (b : Bool) (o : Option State)
    → CannotStart (cond b (option_and_then (λ s. move_state s Started) o) None)
started_cannot false o = refl
started_cannot true None = refl
started_cannot true (Some state.Created) = refl
started_cannot true (Some state.Running) = refl
started_cannot true (Some state.Suspended) = refl
started_cannot true (Some state.EarlyRunning) = refl
started_cannot true (Some state.EarlyWaiting) = refl
started_cannot true (Some state.Detached) = refl
started_cannot true (Some state.Done) = refl

-- a task that has started cannot start
pub start_cannot : (nature : Nature) (o : Option State) (i : ℕ)
    → CannotStart (state_after nature o (i, Started))
start_cannot nature o i = started_cannot (may nature Started) o

pub no_start : (b : Bool) (o : Option State) → CannotStart o
    → cond b (option_and_then (λ s. move_state s Started) o) None ≡ None
no_start true o cannot = cannot
no_start false o cannot = refl

abbrev pub suspends : Status → Bool
suspends status.Yield = true
suspends status.Switch = true
suspends _ = false

kept_state : (how : Status) (s : State) → suspends how ≡ false → start_state_of s ≡ None
    → option_and_then start_state_of (next_state_of s how) ≡ None
kept_state how state.Created on cannot = absurd (none-some state.Running (sym cannot))
kept_state how state.Suspended on cannot = absurd (none-some state.Running (sym cannot))
kept_state how state.EarlyWaiting on cannot = absurd (none-some state.EarlyRunning (sym cannot))
kept_state status.Yield s on cannot = absurd (true≢false on)
kept_state status.Switch s on cannot = absurd (true≢false on)
kept_state _ _ on cannot = refl

-- nor can it after what does not suspend it
pub stopped_cannot : (nature : Nature) (o : Option State) (i : ℕ) (how : Status) → suspends how ≡ false
    → CannotStart o → CannotStart (state_after nature o (i, Stopped how))
stopped_cannot nature o i how on cannot = by (may nature (Stopped how)) o cannot
  where
    by : (b : Bool) (p : Option State) → CannotStart p
        → CannotStart (cond b (option_and_then (λ s. move_state s (Stopped how)) p) None)
    by false p cannot' = refl
    by true None cannot' = refl
    by true (Some s) cannot' = kept_state how s on cannot'

-- after a move that is not allowed there is no state
pub after_none : (nature : Nature) (moves : List (ℕ × Move)) → state_then nature None moves ≡ None
after_none nature [] = refl
after_none nature (move ∷ moves) =
    ap (λ o. state_then nature o moves) (none (may nature move.1)) ∙ after_none nature moves
  where
    none : (b : Bool) → cond {A = Option State} b None None ≡ None
    none true = refl
    none false = refl

-- ---- the starts of a turn

-- the moves by which the task begins the turn, at these places
abbrev starts_among : List Record → ℕ → ℕ → List ℕ → List (ℕ × Move)
starts_among rs task turn ks = flat_map (turn_starts_at rs task turn) ks

starts_kept : (rs : List Record) (task turn : ℕ) (nature : Nature) (ks : List ℕ) (o : Option State)
    → CannotStart o → CannotStart (state_then nature o (starts_among rs task turn ks))
starts_kept rs task turn nature [] o cannot = cannot
starts_kept rs task turn nature (k ∷ ks) o cannot =
    by (is_turn task turn (at begun_turn rs k)) (starts_kept rs task turn nature ks)
  where
    by : (b : Bool)
        → ((p : Option State) → CannotStart p
        → CannotStart (state_then nature p (starts_among rs task turn ks)))
        → CannotStart (state_then nature o (cond b ((k, Started) ∷ []) [] ++ starts_among rs task turn ks))
    by true rest = rest (state_after nature o (k, Started)) (start_cannot nature o k)
    by false rest = rest o cannot

passes : (rs : List Record) (task turn k place : ℕ) → k ≡ place → at begun_turn rs place ≡ Some (task, turn)
    → is_turn task turn (at begun_turn rs k) ≡ true
passes rs task turn k place same begins =
    ap (λ n. is_turn task turn (at begun_turn rs n)) same ∙ ap (is_turn task turn) begins
    ∙ turn_told task turn

-- the task has started, in whatever state it was
starts_begun : (rs : List Record) (task turn : ℕ) (nature : Nature) (ks : List ℕ) (place : ℕ)
    → Contains ks place → at begun_turn rs place ≡ Some (task, turn) → (o : Option State)
    → CannotStart (state_then nature o (starts_among rs task turn ks))
starts_begun rs task turn nature [] place (j, low, is) begins o = absurd (omega arith)
starts_begun rs task turn nature (k ∷ ks) place (zero, low, is) begins o =
    let P : Bool → Type 0 =
    λ b. CannotStart (state_then nature o (cond b ((k, Started) ∷ []) [] ++ starts_among rs task turn ks)) in
    subst P (sym (passes rs task turn k place is begins))
    (starts_kept rs task turn nature ks (state_after nature o (k, Started)) (start_cannot nature o k))
starts_begun rs task turn nature (k ∷ ks) place (suc j, low, is) begins o =
    by (is_turn task turn (at begun_turn rs k))
    (starts_begun rs task turn nature ks place (j, omega arith, is) begins)
  where
    by : (b : Bool) → ((p : Option State) → CannotStart (state_then nature p (starts_among rs task turn ks)))
        → CannotStart (state_then nature o (cond b ((k, Started) ∷ []) [] ++ starts_among rs task turn ks))
    by true rest = rest (state_after nature o (k, Started))
    by false rest = rest o

-- a start that is not allowed
starts_refused : (rs : List Record) (task turn : ℕ) (nature : Nature) (ks : List ℕ) (place : ℕ)
    → Contains ks place → at begun_turn rs place ≡ Some (task, turn) → (o : Option State) → CannotStart o
    → state_then nature o (starts_among rs task turn ks) ≡ None
starts_refused rs task turn nature [] place (j, low, is) begins o cannot = absurd (omega arith)
starts_refused rs task turn nature (k ∷ ks) place (zero, low, is) begins o cannot =
    let P : Bool → Type 0 =
    λ b. state_then nature o (cond b ((k, Started) ∷ []) [] ++ starts_among rs task turn ks) ≡ None in
    subst P (sym (passes rs task turn k place is begins))
    (ap (λ p. state_then nature p (starts_among rs task turn ks)) (no_start (may nature Started) o cannot)
    ∙ after_none nature (starts_among rs task turn ks))
starts_refused rs task turn nature (k ∷ ks) place (suc j, low, is) begins o cannot =
    by (is_turn task turn (at begun_turn rs k))
    (starts_refused rs task turn nature ks place (j, omega arith, is) begins)
  where
    by : (b : Bool)
        → ((p : Option State) → CannotStart p → state_then nature p (starts_among rs task turn ks) ≡ None)
        → state_then nature o (cond b ((k, Started) ∷ []) [] ++ starts_among rs task turn ks) ≡ None
    by true rest = rest (state_after nature o (k, Started)) (start_cannot nature o k)
    by false rest = rest o cannot

-- ---- the ends of a turn

-- the moves by which a body ends the turn
abbrev ends_by : ℕ → ℕ → ℕ → Body → List (ℕ × Move)
ends_by task turn i b =
    cond (is_turn task turn (ended_turn b)) (map {B = ℕ × Move} (λ move. (i, move)) (stops task b)) []

stop_kept : (nature : Nature) (i : ℕ) (how : Status) (o : Option State) (c d : Bool)
    → (c ≡ true → suspends how ≡ false) → CannotStart o
    → CannotStart
    (state_then nature o (cond c (map {B = ℕ × Move} (λ move. (i, move)) (cond d (Stopped how ∷ []) [])) []))
stop_kept nature i how o false d on cannot = cannot
stop_kept nature i how o true false on cannot = cannot
stop_kept nature i how o true true on cannot = stopped_cannot nature o i how (on refl) cannot

body_kept : (task turn i : ℕ) (nature : Nature) (b : Body) (o : Option State)
    → suspended_turn b ≢ Some (task, turn) → CannotStart o
    → CannotStart (state_then nature o (ends_by task turn i b))
body_kept task turn i nature (TaskSchedule status.Yield turns prior next claimed) o never cannot =
    stop_kept nature i status.Yield o
    (is_turn task turn (ended_turn (TaskSchedule status.Yield turns prior next claimed))) (prior == task)
    (λ is. absurd (never (turn_is task turn _ is))) cannot
body_kept task turn i nature (TaskSchedule status.Switch turns prior next claimed) o never cannot =
    stop_kept nature i status.Switch o
    (is_turn task turn (ended_turn (TaskSchedule status.Switch turns prior next claimed))) (prior == task)
    (λ is. absurd (never (turn_is task turn _ is))) cannot
body_kept task turn i nature (TaskSchedule how turns prior next claimed) o never cannot =
    stop_kept nature i how o (is_turn task turn (ended_turn (TaskSchedule how turns prior next claimed)))
    (prior == task) (λ is. refl) cannot
body_kept task turn i nature _ o never cannot = cannot

abbrev ends_among : List Record → ℕ → ℕ → List ℕ → List (ℕ × Move)
ends_among rs task turn ks = flat_map (turn_ends_at rs task turn) ks

end_kept : (rs : List Record) (task turn i : ℕ) (nature : Nature) (o : Option State)
    → at suspended_turn rs i ≢ Some (task, turn) → CannotStart o
    → CannotStart (state_then nature o (turn_ends_at rs task turn i))
end_kept rs task turn i nature o never cannot = by (slice_get rs i) never
  where
    by : (r : Option Record)
        → option_and_then (λ (q : Record). suspended_turn q.body) r ≢ Some (task, turn)
        → CannotStart
        (state_then nature o
        (cond (is_turn task turn (option_and_then (λ (q : Record). ended_turn q.body) r))
        (map {B = ℕ × Move} (λ move. (i, move))
        (option_map_or (λ (q : Record). stops task q.body) r [])) []))
    by None never' = cannot
    by (Some r) never' = body_kept task turn i nature r.body o never' cannot

ends_kept : (rs : List Record) (task turn : ℕ) (nature : Nature)
    → ((i : ℕ) → at suspended_turn rs i ≢ Some (task, turn)) → (ks : List ℕ) (o : Option State)
    → CannotStart o → CannotStart (state_then nature o (ends_among rs task turn ks))
ends_kept rs task turn nature never [] o cannot = cannot
ends_kept rs task turn nature never (k ∷ ks) o cannot =
    subst CannotStart
    (sym (fold-append (state_after nature) o (turn_ends_at rs task turn k) (ends_among rs task turn ks)))
    (ends_kept rs task turn nature never ks (state_then nature o (turn_ends_at rs task turn k))
    (end_kept rs task turn k nature o (never k) cannot))

-- ---- turn by turn

-- the moves of the first n turns
abbrev moves_below : List Record → ℕ → ℕ → List (ℕ × Move)
moves_below rs task n = flat_map (turn_moves rs task) (range_with_len 0 n)

below_more : (rs : List Record) (task n : ℕ) (nature : Nature) (o : Option State)
    → state_then nature o (moves_below rs task (n + 1))
    ≡ state_then nature
    (state_then nature (state_then nature o (moves_below rs task n)) (starts_among rs task n (places rs)))
    (ends_among rs task n (places rs))
below_more rs task n nature o =
    ap (λ l. state_then nature o (flat_map (turn_moves rs task) l)) (range_more n)
    ∙ ap (state_then nature o) (flat_map-append (turn_moves rs task) (range_with_len 0 n) (n ∷ []))
    ∙ fold-append (state_after nature) o (moves_below rs task n) (turn_moves rs task n ++ [])
    ∙ fold-append (state_after nature) (state_then nature o (moves_below rs task n)) (turn_moves rs task n) []
    ∙ fold-append (state_after nature) (state_then nature o (moves_below rs task n))
    (starts_among rs task n (places rs)) (ends_among rs task n (places rs))

-- once a move is not allowed, there is no state
none_below : (rs : List Record) (task n d : ℕ) (nature : Nature) (o : Option State)
    → state_then nature o (moves_below rs task n) ≡ None
    → state_then nature o (moves_below rs task (n + d)) ≡ None
none_below rs task n zero nature o none =
    let same : n ≡ n + 0 = omega arith in
    subst (λ m. state_then nature o (moves_below rs task m) ≡ None) same none
none_below rs task n (suc d) nature o none =
    let before = none_below rs task n d nature o none in
    let starts = starts_among rs task (n + d) (places rs) in
    let ends = ends_among rs task (n + d) (places rs) in
    let next : (n + d) + 1 ≡ n + suc d = omega arith in
    subst (λ m. state_then nature o (moves_below rs task m) ≡ None) next
    (below_more rs task (n + d) nature o
    ∙ ap (λ p. state_then nature (state_then nature p starts) ends) before
    ∙ ap (λ p. state_then nature p ends) (after_none nature starts) ∙ after_none nature ends)

-- a turn that begins is one of the turns
turn_within : (rs : List Record) (i task turn : ℕ) → at begun_turn rs i ≡ Some (task, turn)
    → turn < turns_in rs
turn_within rs i task turn begins =
    let (r, stands, is) = get_at begun_turn rs i (task, turn) begins in
    let new : new_turn r ≡ turn = ap (λ (o : Option (ℕ × ℕ)). option_map_or (λ (b : ℕ × ℕ). b.1) o 0) is in
    let low = every_get (λ q. new_turn q ≤ _) rs i r (fold_most new_turn rs 0).1 stands in
    omega (arith, low, new)

-- where the task is not suspended in a turn that begins, it has no state after the next turn
never_below : (rs : List Record) (task turn a b : ℕ) (nature : Nature) (o : Option State)
    → at begun_turn rs a ≡ Some (task, turn) → at begun_turn rs b ≡ Some (task, turn + 1)
    → ((i : ℕ) → at suspended_turn rs i ≢ Some (task, turn))
    → state_then nature o (moves_below rs task (turns_in rs)) ≡ None
never_below rs task turn a b nature o begins next never =
    let has = contains_place rs a (at_within begun_turn rs a (task, turn) begins) in
    let has_next = contains_place rs b (at_within begun_turn rs b (task, turn + 1) next) in
    let started = starts_begun rs task turn nature (places rs) a has begins
    (state_then nature o (moves_below rs task turn)) in
    let cannot = subst CannotStart (sym (below_more rs task turn nature o))
    (ends_kept rs task turn nature never (places rs) _ started) in
    let refused = starts_refused rs task (turn + 1) nature (places rs) b has_next next
    (state_then nature o (moves_below rs task (turn + 1))) cannot in
    let none : state_then nature o (moves_below rs task (turn + 1 + 1)) ≡ None =
    below_more rs task (turn + 1) nature o
    ∙ ap (λ p. state_then nature p (ends_among rs task (turn + 1) (places rs))) refused
    ∙ after_none nature (ends_among rs task (turn + 1) (places rs)) in
    let low = turn_within rs b task (turn + 1) next in
    let all : (turn + 1 + 1) + (turns_in rs - (turn + 1 + 1)) ≡ turns_in rs = omega (arith, low) in
    subst (λ n. state_then nature o (moves_below rs task n) ≡ None) all
    (none_below rs task (turn + 1 + 1) (turns_in rs - (turn + 1 + 1)) nature o none)

-- ---- all moves

first_allowed : (rs : List Record) (task n : ℕ) → IsFreeOf rs StatusOrder
    → state_of (nature_of rs task) (take n (all_moves_of rs task)) ≢ None
first_allowed rs task zero free = λ none. none-some (first_state (nature_of rs task)) (sym none)
first_allowed rs task (suc n) free =
    let before = first_allowed rs task n free in
    let P : ℕ → Type 0 = λ m. state_of (nature_of rs task) (take m (all_moves_of rs task)) ≢ None in
    subst P (add-one n) (elim (cases_lt n (length (all_moves_of rs task))) [
      | inl within ↦
          more (get_or (all_moves_of rs task) n (0, Started))
          (slice_get-get_or (all_moves_of rs task) n (0, Started) within) before
      | inr past ↦
          subst (λ l. state_of (nature_of rs task) l ≢ None)
          (take_all n (all_moves_of rs task) past
          ∙ sym (take_all (n + 1) (all_moves_of rs task) (omega (arith, past))))
          before
    ])
  where
    some : (o : Option State) → o ≢ None → is_some o ≡ true
    some None apart = absurd (apart refl)
    some (Some s) apart = refl

    more : (step : ℕ × Move) → slice_get (all_moves_of rs task) n ≡ Some step
        → state_of (nature_of rs task) (take n (all_moves_of rs task)) ≢ None
        → state_of (nature_of rs task) (take (n + 1) (all_moves_of rs task)) ≢ None
    more step there before none = free step.0 (status_order (record {
      task = task;
      number = n;
      move = step.1;
      made_there = there;
      allowed = some (state_of (nature_of rs task) (take n (all_moves_of rs task))) before;
      not_allowed = none;
    }))

pub all_allowed : (rs : List Record) (task : ℕ) → IsFreeOf rs StatusOrder
    → state_of (nature_of rs task) (all_moves_of rs task) ≢ None
all_allowed rs task free =
    subst (λ l. state_of (nature_of rs task) l ≢ None)
    (take_all (length (all_moves_of rs task)) (all_moves_of rs task) (omega arith))
    (first_allowed rs task (length (all_moves_of rs task)) free)

-- a task that moved is suspended in each turn after which another begins
pub suspended_in : (rs : List Record) (task turn a b : ℕ) → IsFreeOf rs StatusOrder
    → has_moved rs task ≡ true → at begun_turn rs a ≡ Some (task, turn)
    → at begun_turn rs b ≡ Some (task, turn + 1) → (i : ℕ) × (at suspended_turn rs i ≡ Some (task, turn))
suspended_in rs task turn a b free moves begins next = elim (told_or_never suspended_turn rs task turn) [
  | inl found ↦ found
  | inr never ↦ absurd (all_allowed rs task free (none never))
]
  where
    nature : Nature
    nature = nature_of rs task

    early : List (ℕ × Move)
    early = moves_by_file rs task is_early_move

    rest : List (ℕ × Move)
    rest = moves_by_file rs task is_apart

    none : ((i : ℕ) → at suspended_turn rs i ≢ Some (task, turn))
        → state_of (nature_of rs task) (all_moves_of rs task) ≡ None
    none never =
        ap (λ m. state_of nature (cond m (moved_moves rs task) (moves_of rs task))) moves
        ∙ fold-append (state_after nature) (Some (first_state nature))
        (early ++ moves_below rs task (turns_in rs)) rest
        ∙ ap (λ o. state_then nature o rest)
        (fold-append (state_after nature) (Some (first_state nature)) early
        (moves_below rs task (turns_in rs))
        ∙ never_below rs task turn a b nature (state_then nature (Some (first_state nature)) early) begins
        next never)
        ∙ after_none nature rest
