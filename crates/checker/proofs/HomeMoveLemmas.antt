-- Where each move of a task that stays at its home is allowed, the task is stopped between two of its starts.
use Rattle.std.proofs.Common.{◌≡◌, ◌≢◌, ◌∙◌, ℕ, zero, suc, ◌<◌, ◌+◌, ◌-◌, List, [], ◌∷◌, ◌++◌, length}
use Rattle.std.proofs.Common.{Option, Some, None, Bool, true, false, cond, refl, sym, ap, subst, arith}
use Rattle.std.proofs.Common.{inl, inr}
use Rattle.std.proofs.lemmas.Bool.{eqb-true, false≢true, true≢false}
use Rattle.std.proofs.lemmas.Option.{none-some, slice_get_cases}
use Rattle.std.proofs.lemmas.List.Sums.{fold-append}
use Rattle.std.proofs.lemmas.List.Elements.{filter-append}
use Rattle.std.proofs.lemmas.Grind.{flat_map-append}
use Rattle.std.specs.Prelude.{◌==◌, ◌&&◌, not, is_some, map, filter, slice_get, option_and_then}
use Rattle.std.specs.Option.{option_map_or}
use Rattle.std.specs.List.{flat_map, range_with_len}
use Rattle.ompt_events.specs.declared.records.Record.{Record}
use Rattle.ompt_events.specs.declared.records.Body.{Body}
use Rattle.ompt_events.specs.declared.records.Body.TheVariants.{TaskSchedule, Cancel}
use Rattle.ompt_events.specs.declared.names.Status.{Status}
use Rattle.ompt_events.specs.declared.names.Status.TheVariants as status
use Rattle.ompt_events.specs.declared.state.State.{State}
use Rattle.ompt_events.specs.declared.state.State.TheVariants as state
use Rattle.ompt_events.specs.declared.cause.Cause.TheVariants.{StatusOrder}
use Rattle.ompt_events.specs.Names.{demands_next}
use Rattle.ompt_events.specs.Records.{started, stopped, discarded}
use Rattle.ompt_events.specs.Places.{at, places}
use Rattle.ompt_events.specs.States.{Move, Stopped, Started, Discarded, Nature, may, move_state}
use Rattle.ompt_events.specs.States.{state_after, first_state, state_of, nature_of, moves_by}
use Rattle.ompt_events.specs.States.{moves_at, is_task, is_on, home_of, is_early, moves_of, moved_moves}
use Rattle.ompt_events.specs.States.{has_moved}
use Rattle.ompt_events.specs.Traces.{HasItsNext}
use Rattle.ompt_events.specs.Causes.{IsFreeOf}
use Rattle.ompt_events.proofs.PlaceLemmas.{the_task, range_more}
use Rattle.checker.proofs.TurnEndLemmas.{CannotStart, state_then, suspends, start_cannot, no_start}
use Rattle.checker.proofs.TurnEndLemmas.{stopped_cannot, after_none, all_allowed}

-- ---- the moves by one body

-- those that a record at i makes
abbrev moves_there : ℕ → ℕ → Body → List (ℕ × Move)
moves_there task i b = map {B = ℕ × Move} (λ move. (i, move)) (moves_by task b)

-- a task that has started cannot start
started_there : (task i : ℕ) (nature : Nature) (o : Option State) (b : Body) → started b ≡ Some task
    → CannotStart (state_then nature o (moves_there task i b))
started_there task i nature o (TaskSchedule how turns prior next claimed) starts =
    by (prior == task) (is_task task next) (the_task task next starts)
  where
    start_if : Bool → Option State → Option State
    start_if x p =
        state_then nature p (map {B = ℕ × Move} (λ move. (i, move)) (cond x (Started ∷ []) [] ++ []))

    by : (d e : Bool) → e ≡ true
        → CannotStart
        (state_then nature o
        (map {B = ℕ × Move} (λ move. (i, move))
        (cond d (Stopped how ∷ []) [] ++ cond e (Started ∷ []) [] ++ [])))
    by true e is =
        subst (λ x. CannotStart (start_if x (state_after nature o (i, Stopped how)))) (sym is)
        (start_cannot nature (state_after nature o (i, Stopped how)) i)
    by false e is = subst (λ x. CannotStart (start_if x o)) (sym is) (start_cannot nature o i)
started_there task i nature o _ starts = absurd (none-some task starts)

-- a record that stops another task, or none, lets the task stand as it is
not_stopped : (how : Status) (prior task : ℕ) → cond (demands_next how) (Some prior) None ≢ Some task
    → prior == task ≡ true → demands_next how ≡ false
not_stopped how prior task never same = by (demands_next how) never
  where
    by : (d : Bool) → cond d (Some prior) None ≢ Some task → d ≡ false
    by true never' = absurd (never' (ap Some (eqb-true prior task same)))
    by false never' = refl

stays_on : (how : Status) → demands_next how ≡ false → suspends how ≡ false
stays_on status.Yield is = absurd (true≢false is)
stays_on status.Switch is = absurd (true≢false is)
stays_on _ is = refl

-- so a start is refused there
refused_there : (task i : ℕ) (nature : Nature) (o : Option State) (b : Body) → HasItsNext b
    → started b ≡ Some task → stopped b ≢ Some task → CannotStart o
    → state_then nature o (moves_there task i b) ≡ None
refused_there task i nature o (TaskSchedule how turns prior next claimed) fits starts never cannot =
    by (prior == task) refl (is_task task next) (the_task task next starts)
  where
    demands : demands_next how ≡ true
    demands = sym fits ∙ ap is_some starts

    start_if : Bool → Option State → Option State
    start_if x p =
        state_then nature p (map {B = ℕ × Move} (λ move. (i, move)) (cond x (Started ∷ []) [] ++ []))

    by : (d : Bool) → prior == task ≡ d → (e : Bool) → e ≡ true
        → state_then nature o
        (map {B = ℕ × Move} (λ move. (i, move))
        (cond d (Stopped how ∷ []) [] ++ cond e (Started ∷ []) [] ++ []))
        ≡ None
    by true same e is = absurd (false≢true (sym (not_stopped how prior task never same) ∙ demands))
    by false other e is =
        subst (λ x. start_if x o ≡ None) (sym is) (no_start (may nature Started) o cannot)
refused_there task i nature o _ fits starts never cannot = absurd (none-some task starts)

discard_cannot : (nature : Nature) (o : Option State) (i : ℕ) → CannotStart o
    → CannotStart (state_after nature o (i, Discarded))
discard_cannot nature o i cannot = by (may nature Discarded) o cannot
  where
    by : (b : Bool) (p : Option State) → CannotStart p
        → CannotStart (cond b (option_and_then (λ s. move_state s Discarded) p) None)
    by false p cannot' = refl
    by true None cannot' = refl
    by true (Some state.Created) cannot' = absurd (none-some state.Running (sym cannot'))
    by true (Some _) cannot' = refl

-- and a task that cannot start cannot after it
kept_there : (task i : ℕ) (nature : Nature) (o : Option State) (b : Body) → stopped b ≢ Some task
    → CannotStart o → CannotStart (state_then nature o (moves_there task i b))
kept_there task i nature o (TaskSchedule how turns prior next claimed) never cannot =
    by (prior == task) refl (is_task task next)
  where
    starts : (e : Bool) (p : Option State) → CannotStart p
        → CannotStart
        (state_then nature p (map {B = ℕ × Move} (λ move. (i, move)) (cond e (Started ∷ []) [] ++ [])))
    starts true p cannot' = start_cannot nature p i
    starts false p cannot' = cannot'

    by : (d : Bool) → prior == task ≡ d → (e : Bool)
        → CannotStart
        (state_then nature o
        (map {B = ℕ × Move} (λ move. (i, move))
        (cond d (Stopped how ∷ []) [] ++ cond e (Started ∷ []) [] ++ [])))
    by true same e =
        starts e (state_after nature o (i, Stopped how))
        (stopped_cannot nature o i how (stays_on how (not_stopped how prior task never same)) cannot)
    by false other e = starts e o cannot
kept_there task i nature o (Cancel given own claimed) never cannot =
    by (is_task task (discarded (Cancel given own claimed)))
  where
    by : (d : Bool)
        → CannotStart
        (state_then nature o (map {B = ℕ × Move} (λ move. (i, move)) (cond d (Discarded ∷ []) [])))
    by true = discard_cannot nature o i cannot
    by false = cannot
kept_there task i nature o _ never cannot = cannot

-- ---- the records of the home, one by one

-- the state after the first n of the records at the home
abbrev home_state : List Record → ℕ → Nature → Option State → ℕ → Option State
home_state rs task nature o n =
    state_then nature o
    (flat_map (moves_at rs task) (filter (is_on rs (home_of rs task)) (range_with_len 0 n)))

home_more : (rs : List Record) (task : ℕ) (nature : Nature) (o : Option State) (n : ℕ)
    → home_state rs task nature o (n + 1)
    ≡ cond (is_on rs (home_of rs task) n)
    (state_then nature (home_state rs task nature o n) (moves_at rs task n)) (home_state rs task nature o n)
home_more rs task nature o n =
    ap (λ l. state_then nature o (flat_map (moves_at rs task) l))
    (ap (filter on) (range_more n) ∙ filter-append on (range_with_len 0 n) (n ∷ []))
    ∙ ap (state_then nature o) (flat_map-append (moves_at rs task) below (filter on (n ∷ [])))
    ∙ fold-append (state_after nature) o (flat_map (moves_at rs task) below)
    (flat_map (moves_at rs task) (filter on (n ∷ [])))
    ∙ by (on n)
  where
    on : ℕ → Bool
    on = is_on rs (home_of rs task)

    below : List ℕ
    below = filter on (range_with_len 0 n)

    by : (b : Bool)
        → state_then nature (home_state rs task nature o n) (flat_map (moves_at rs task) (cond b (n ∷ []) []))
        ≡ cond b (state_then nature (home_state rs task nature o n) (moves_at rs task n))
        (home_state rs task nature o n)
    by true =
        fold-append (state_after nature) (home_state rs task nature o n) (moves_at rs task n) []
    by false = refl

-- the moves at a place are those by the body of its record
moves_said : (rs : List Record) (task n : ℕ) (r : Record) → slice_get rs n ≡ Some r
    → moves_at rs task n ≡ moves_there task n r.body
moves_said rs task n r stands =
    ap
    (λ (found : Option Record).
    map {B = ℕ × Move} (λ move. (n, move)) (option_map_or (λ (q : Record). moves_by task q.body) found []))
    stands

-- what is asked of the records between two starts
abbrev Unstopped : List Record → ℕ → ℕ → ℕ → Type 0
Unstopped rs task s m =
    (k : ℕ) → s < k → k < m → is_on rs (home_of rs task) k ≡ true → at stopped rs k ≢ Some task

-- behind its start the task cannot start until it is stopped
cannot_behind : (rs : List Record) (task s : ℕ) (r : Record) (nature : Nature) (o : Option State)
    → slice_get rs s ≡ Some r → started r.body ≡ Some task → is_on rs (home_of rs task) s ≡ true → (d : ℕ)
    → Unstopped rs task s (s + 1 + d)
    → CannotStart (home_state rs task nature o (s + 1 + d))
cannot_behind rs task s r nature o stands starts on zero still =
    let same : s + 1 ≡ s + 1 + 0 = omega arith in
    subst (λ n. CannotStart (home_state rs task nature o n)) same
    (subst CannotStart
    (sym
    (home_more rs task nature o s
    ∙ ap
    (λ b. cond b (state_then nature (home_state rs task nature o s) (moves_at rs task s))
    (home_state rs task nature o s))
    on))
    (subst (λ l. CannotStart (state_then nature (home_state rs task nature o s) l))
    (sym (moves_said rs task s r stands))
    (started_there task s nature (home_state rs task nature o s) r.body starts)))
cannot_behind rs task s r nature o stands starts on (suc d) still =
    let n : ℕ = s + 1 + d in
    let next : n + 1 ≡ s + 1 + suc d = omega arith in
    let before : CannotStart (home_state rs task nature o n) =
    cannot_behind rs task s r nature o stands starts on d
    (λ k above below. still k above (omega (arith, below))) in
    subst (λ m. CannotStart (home_state rs task nature o m)) next
    (subst CannotStart (sym (home_more rs task nature o n))
    (by (is_on rs (home_of rs task) n) refl before (still n (omega arith) (omega arith))))
  where
    by : (b : Bool) → is_on rs (home_of rs task) (s + 1 + d) ≡ b
        → CannotStart (home_state rs task nature o (s + 1 + d))
        → (is_on rs (home_of rs task) (s + 1 + d) ≡ true → at stopped rs (s + 1 + d) ≢ Some task)
        → CannotStart
        (cond b
        (state_then nature (home_state rs task nature o (s + 1 + d)) (moves_at rs task (s + 1 + d)))
        (home_state rs task nature o (s + 1 + d)))
    by false off cannot never = cannot
    by true here cannot never = elim (slice_get_cases rs (s + 1 + d)).1 [
      | inl (q, within, there, read) ↦
          subst
          (λ l. CannotStart (state_then nature (home_state rs task nature o (s + 1 + d)) l))
          (sym (moves_said rs task (s + 1 + d) q there))
          (kept_there task (s + 1 + d) nature (home_state rs task nature o (s + 1 + d)) q.body
          (λ is. never here (ap (option_and_then (λ (x : Record). stopped x.body)) there ∙ is)) cannot)
      | inr (past, none) ↦
          subst
          (λ (found : Option Record).
          CannotStart
          (state_then nature (home_state rs task nature o (s + 1 + d))
          (map {B = ℕ × Move} (λ move. (s + 1 + d, move))
          (option_map_or (λ (x : Record). moves_by task x.body) found []))))
          (sym none) cannot
    ]

-- once a move is not allowed, there is no state
none_behind : (rs : List Record) (task n d : ℕ) (nature : Nature) (o : Option State)
    → home_state rs task nature o n ≡ None → home_state rs task nature o (n + d) ≡ None
none_behind rs task n zero nature o none =
    let same : n ≡ n + 0 = omega arith in
    subst (λ m. home_state rs task nature o m ≡ None) same none
none_behind rs task n (suc d) nature o none =
    let before = none_behind rs task n d nature o none in
    let next : (n + d) + 1 ≡ n + suc d = omega arith in
    subst (λ m. home_state rs task nature o m ≡ None) next
    (home_more rs task nature o (n + d) ∙ by (is_on rs (home_of rs task) (n + d)) before)
  where
    by : (b : Bool) → home_state rs task nature o (n + d) ≡ None
        → cond b (state_then nature (home_state rs task nature o (n + d)) (moves_at rs task (n + d)))
        (home_state rs task nature o (n + d))
        ≡ None
    by true before =
        ap (λ p. state_then nature p (moves_at rs task (n + d))) before
        ∙ after_none nature (moves_at rs task (n + d))
    by false before = before

-- a start at the home behind another one, without a stop between them, is not allowed
refused_home : (rs : List Record) (task s m : ℕ) (r q : Record) (nature : Nature) (o : Option State)
    → slice_get rs s ≡ Some r → started r.body ≡ Some task → is_on rs (home_of rs task) s ≡ true
    → slice_get rs m ≡ Some q → HasItsNext q.body → started q.body ≡ Some task → stopped q.body ≢ Some task
    → is_on rs (home_of rs task) m ≡ true
    → s < m → m < length rs → Unstopped rs task s m → home_state rs task nature o (length rs) ≡ None
refused_home rs task s m r q nature o stands starts on there fits starts_there never on_there less within
    still =
    let d : ℕ = m - (s + 1) in
    let same : s + 1 + d ≡ m = omega (arith, less) in
    let cannot : CannotStart (home_state rs task nature o m) =
    subst (λ n. CannotStart (home_state rs task nature o n)) same
    (cannot_behind rs task s r nature o stands starts on d (subst (Unstopped rs task s) (sym same) still)) in
    let none : home_state rs task nature o (m + 1) ≡ None =
    home_more rs task nature o m
    ∙ ap
    (λ b. cond b (state_then nature (home_state rs task nature o m) (moves_at rs task m))
    (home_state rs task nature o m))
    on_there
    ∙ ap (state_then nature (home_state rs task nature o m)) (moves_said rs task m q there)
    ∙ refused_there task m nature (home_state rs task nature o m) q.body fits starts_there never cannot in
    let rest : ℕ = length rs - (m + 1) in
    let all : m + 1 + rest ≡ length rs = omega (arith, within) in
    subst (λ n. home_state rs task nature o n ≡ None) all (none_behind rs task (m + 1) rest nature o none)

-- so if the task stays at its home, it is stopped between two of its starts there
pub stopped_between : (rs : List Record) (task s m : ℕ) (r q : Record) → IsFreeOf rs StatusOrder
    → has_moved rs task ≡ false
    → slice_get rs s ≡ Some r → started r.body ≡ Some task → is_on rs (home_of rs task) s ≡ true
    → slice_get rs m ≡ Some q → HasItsNext q.body → started q.body ≡ Some task → stopped q.body ≢ Some task
    → is_on rs (home_of rs task) m ≡ true
    → s < m → m < length rs → Unstopped rs task s m → ⊥
stopped_between rs task s m r q free still stands starts on there fits starts_there never on_there less within
    unstopped =
    all_allowed rs task free
    (ap (λ b. state_of nature (cond b (moved_moves rs task) (moves_of rs task))) still
    ∙ ap (state_then nature (Some (first_state nature))) split
    ∙ fold-append (state_after nature) (Some (first_state nature)) (early ++ home) rest
    ∙ ap (λ p. state_then nature p rest)
    (fold-append (state_after nature) (Some (first_state nature)) early home
    ∙ refused_home rs task s m r q nature (state_then nature (Some (first_state nature)) early) stands starts
    on there fits starts_there never on_there less within unstopped)
    ∙ after_none nature rest)
  where
    nature : Nature
    nature = nature_of rs task

    on_home : ℕ → Bool
    on_home = is_on rs (home_of rs task)

    first_places : List ℕ
    first_places = filter (λ i. is_early rs task i && not (on_home i)) (places rs)

    last_places : List ℕ
    last_places = filter (λ i. not (is_early rs task i) && not (on_home i)) (places rs)

    early : List (ℕ × Move)
    early = flat_map (moves_at rs task) first_places

    home : List (ℕ × Move)
    home = flat_map (moves_at rs task) (filter on_home (places rs))

    rest : List (ℕ × Move)
    rest = flat_map (moves_at rs task) last_places

    split : moves_of rs task ≡ early ++ home ++ rest
    split =
        flat_map-append (moves_at rs task) (first_places ++ filter on_home (places rs)) last_places
        ∙ ap (λ l. l ++ rest) (flat_map-append (moves_at rs task) first_places (filter on_home (places rs)))
