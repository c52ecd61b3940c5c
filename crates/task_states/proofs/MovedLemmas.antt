-- All moves of a task are those that the passes read.
use Rattle.std.proofs.Common.{◌≡◌, ◌∙◌, ℕ, List, [], ◌∷◌, ◌++◌, length, Option, Some, None, Bool, true, false}
use Rattle.std.proofs.Common.{cond, refl, sym, ap, subst}
use Rattle.std.proofs.lemmas.Bool.{false≢true}
use Rattle.std.proofs.lemmas.List.{append-nil}
use Rattle.std.proofs.lemmas.List.Elements.{filter-append}
use Rattle.std.proofs.lemmas.Grind.{flat_map-append}
use Rattle.std.proofs.lemmas.Option.{slice_get_within, get_or_from_slice_get}
use Rattle.std.specs.Prelude.{◌==◌, ◌&&◌, not, map, filter, slice_get}
use Rattle.std.specs.List.{flat_map, range_with_len}
use Rattle.std.specs.Option.{option_map_or}
use Rattle.ompt_events.specs.declared.records.Record.{Record}
use Rattle.ompt_events.specs.declared.records.Body.{Body}
use Rattle.ompt_events.specs.declared.records.Body.TheVariants.{TaskSchedule, Cancel}
use Rattle.ompt_events.specs.declared.names.Status.{Status}
use Rattle.ompt_events.specs.declared.names.Status.TheVariants as status
use Rattle.ompt_events.specs.Names.{demands_next}
use Rattle.ompt_events.specs.Flags as flag
use Rattle.ompt_events.specs.Flags.{has_flag}
use Rattle.ompt_events.specs.Places.{places}
use Rattle.ompt_events.specs.Traces.{IsTrace, HasItsNext}
use Rattle.ompt_events.specs.Turns.{turns_in}
use Rattle.ompt_events.specs.States.{Move, Stopped, Started, Discarded, is_task, is_on, is_early, home_of}
use Rattle.ompt_events.specs.States.{has_moved, moves_by, moves_at, moves_of, moves_by_file, moved_moves}
use Rattle.ompt_events.specs.States.{all_moves_of, turn_moves, is_early_move, is_apart}
use Rattle.packed_trace.specs.Packed.{schedule_status as says_status}
use Rattle.task_states.specs.declared.progress.Pass.TheVariants.{Early, Home, Rest}
use Rattle.task_states.specs.Progress.{is_home, is_switch, is_read, moves_in, turned, moves_before}
use Rattle.task_states.proofs.PassLemmas.{early_for, early_there, switch_there}

-- ---- lists

filter_same : {X : Type 0} (p q : X → Bool) → ((x : X) → p x ≡ q x) → (xs : List X)
    → filter p xs ≡ filter q xs
filter_same p q same [] = refl
filter_same p q same (x ∷ xs) =
    ap (λ b. cond b (x ∷ filter p xs) (filter p xs)) (same x)
    ∙ ap (λ l. cond (q x) (x ∷ l) l) (filter_same p q same xs)

filter_none : {X : Type 0} (p : X → Bool) → ((x : X) → p x ≡ false) → (xs : List X) → filter p xs ≡ []
filter_none p never [] = refl
filter_none p never (x ∷ xs) =
    ap (λ b. cond b (x ∷ filter p xs) (filter p xs)) (never x) ∙ filter_none p never xs

-- what passes of all parts is that of the parts of which anything passes
by_parts : {S : Type 0} (f : ℕ → List S) (q : ℕ → Bool) (p : S → Bool)
    → ((k : ℕ) → filter p (f k) ≡ cond (q k) (f k) []) → (ks : List ℕ)
    → flat_map f (filter q ks) ≡ filter p (flat_map f ks)
by_parts f q p same [] = refl
by_parts f q p same (k ∷ ks) =
    part (q k) ∙ ap (λ l. l ++ flat_map f (filter q ks)) (sym (same k))
    ∙ ap (λ l. filter p (f k) ++ l) (by_parts f q p same ks)
    ∙ sym (filter-append p (f k) (flat_map f ks))
  where
    part : (b : Bool)
        → flat_map f (cond b (k ∷ filter q ks) (filter q ks)) ≡ cond b (f k) [] ++ flat_map f (filter q ks)
    part true = refl
    part false = refl

-- ---- the moves of one record

-- the moves that a record makes of the task
abbrev made_by : ℕ → ℕ → Body → List (ℕ × Move)
made_by task i b = map (λ move. (i, move)) (moves_by task b)

abbrev passing : (Move → Bool) → List (ℕ × Move) → List (ℕ × Move)
passing p moves = filter (λ (step : ℕ × Move). p step.1) moves

-- a stop and a start of which neither passes
neither : (p : Move → Bool) (i : ℕ) (s : Status) → p (Stopped s) ≡ false → p Started ≡ false → (a b : Bool)
    → passing p (map (λ move. (i, move)) ((cond a (Stopped s ∷ []) [] ++ cond b (Started ∷ []) []) ++ []))
    ≡ []
neither p i s stop start true true =
    ap
    (λ c.
    cond c ((i, Stopped s) ∷ cond (p Started) ((i, Started) ∷ []) [])
    (cond (p Started) ((i, Started) ∷ []) []))
    stop
    ∙ ap (λ c. cond c ((i, Started) ∷ []) []) start
neither p i s stop start true false = ap (λ c. cond c ((i, Stopped s) ∷ []) []) stop
neither p i s stop start false true = ap (λ c. cond c ((i, Started) ∷ []) []) start
neither p i s stop start false false = refl

-- a stop alone, which passes
alone : (p : Move → Bool) (i : ℕ) (s : Status) → p (Stopped s) ≡ true → (a : Bool)
    → passing p (map (λ move. (i, move)) ((cond a (Stopped s ∷ []) [] ++ []) ++ []))
    ≡ map (λ move. (i, move)) ((cond a (Stopped s ∷ []) [] ++ []) ++ [])
alone p i s stop true = ap (λ c. cond c ((i, Stopped s) ∷ []) []) stop
alone p i s stop false = refl

-- early fulfilments
early_by : (task i : ℕ) (b : Body) → HasItsNext b
    → passing is_early_move (made_by task i b) ≡ cond (early_for task b) (made_by task i b) []
early_by task i (TaskSchedule status.EarlyFulfill turns prior None claimed) sound = of (prior == task)
  where
    of : (a : Bool)
        → passing is_early_move
        (map (λ move. (i, move)) ((cond a (Stopped status.EarlyFulfill ∷ []) [] ++ []) ++ []))
        ≡ cond a (map (λ move. (i, move)) ((cond a (Stopped status.EarlyFulfill ∷ []) [] ++ []) ++ [])) []
    of true = refl
    of false = refl
early_by task i (TaskSchedule status.EarlyFulfill turns prior (Some next) claimed) sound =
    absurd (false≢true (sym sound))
early_by task i (TaskSchedule s turns prior next claimed) sound =
    neither is_early_move i s refl refl (prior == task) (is_task task next)
early_by task i (Cancel flags other claimed) sound =
    of (is_task task (cond (has_flag flags.0 flag.discarded_task) (Some other) None))
  where
    of : (a : Bool) → passing is_early_move (map (λ move. (i, move)) (cond a (Discarded ∷ []) [])) ≡ []
    of true = refl
    of false = refl
early_by task i _ sound = refl

-- whether the body ends a turn and begins one
abbrev switches : Body → Bool
switches b = option_map_or demands_next (says_status b) false

-- what is neither an early fulfilment nor begins or ends a turn
apart_by : (task i : ℕ) (b : Body) → HasItsNext b
    → passing is_apart (made_by task i b)
    ≡ cond (not (early_for task b) && not (switches b)) (made_by task i b) []
apart_by task i (TaskSchedule status.EarlyFulfill turns prior None claimed) sound = of (prior == task)
  where
    of : (a : Bool)
        → passing is_apart
        (map (λ move. (i, move)) ((cond a (Stopped status.EarlyFulfill ∷ []) [] ++ []) ++ []))
        ≡ cond (not a && true)
        (map (λ move. (i, move)) ((cond a (Stopped status.EarlyFulfill ∷ []) [] ++ []) ++ [])) []
    of true = refl
    of false = refl
apart_by task i (TaskSchedule status.EarlyFulfill turns prior (Some next) claimed) sound =
    absurd (false≢true (sym sound))
apart_by task i (TaskSchedule status.LateFulfill turns prior None claimed) sound =
    alone is_apart i status.LateFulfill refl (prior == task)
apart_by task i (TaskSchedule status.LateFulfill turns prior (Some next) claimed) sound =
    absurd (false≢true (sym sound))
apart_by task i (TaskSchedule status.TaskwaitComplete turns prior None claimed) sound =
    alone is_apart i status.TaskwaitComplete refl (prior == task)
apart_by task i (TaskSchedule status.TaskwaitComplete turns prior (Some next) claimed) sound =
    absurd (false≢true (sym sound))
apart_by task i (TaskSchedule s turns prior next claimed) sound =
    neither is_apart i s refl refl (prior == task) (is_task task next)
apart_by task i (Cancel flags other claimed) sound =
    of (is_task task (cond (has_flag flags.0 flag.discarded_task) (Some other) None))
  where
    of : (a : Bool)
        → passing is_apart (map (λ move. (i, move)) (cond a (Discarded ∷ []) []))
        ≡ map (λ move. (i, move)) (cond a (Discarded ∷ []) [])
    of true = refl
    of false = refl
apart_by task i _ sound = refl

-- ---- the same at a place of a trace, for a task that moved

next_there : (rs : List Record) (i : ℕ) (r : Record) → IsTrace rs → slice_get rs i ≡ Some r
    → HasItsNext r.body
next_there rs i r is_trace stands =
    let P : Record → Type 0 = λ q. HasItsNext q.body in
    subst P (get_or_from_slice_get rs i r r stands) (is_trace.sound i r (slice_get_within rs i r stands)).next

nothing_of : (b : Bool) → cond {A = List (ℕ × Move)} b [] [] ≡ []
nothing_of true = refl
nothing_of false = refl

moves_there : (rs : List Record) (task i : ℕ) (o : Option Record) → slice_get rs i ≡ o
    → moves_at rs task i ≡ map (λ move. (i, move)) (option_map_or (λ (r : Record). moves_by task r.body) o [])
moves_there rs task i o e =
    ap
    (λ (q : Option Record).
    map (λ move. (i, move)) (option_map_or (λ (r : Record). moves_by task r.body) q [])) e

-- of a task that moved no record is at home
away : (rs : List Record) (task i : ℕ) → has_moved rs task ≡ true → is_home rs task i ≡ false
away rs task i moves = ap (λ b. not b && is_on rs (home_of rs task) i) moves

early_at : (rs : List Record) (task : ℕ) → IsTrace rs → has_moved rs task ≡ true → (i : ℕ)
    → passing is_early_move (moves_at rs task i) ≡ cond (is_read Early rs task i) (moves_at rs task i) []
early_at rs task is_trace moves i =
    ap (λ l. passing is_early_move l) here ∙ there (slice_get rs i) refl
    ∙ ap (λ l. cond (is_read Early rs task i) l []) (sym here)
  where
    and_true : (b : Bool) → b ≡ b && true
    and_true true = refl
    and_true false = refl

    here : moves_at rs task i
        ≡ map (λ move. (i, move)) (option_map_or (λ (r : Record). moves_by task r.body) (slice_get rs i) [])
    here = refl

    there : (o : Option Record) → slice_get rs i ≡ o
        → passing is_early_move
        (map (λ move. (i, move))
        (option_map_or (λ (r : Record). moves_by task r.body) (slice_get rs i) []))
        ≡ cond (is_read Early rs task i)
        (map (λ move. (i, move))
        (option_map_or (λ (r : Record). moves_by task r.body) (slice_get rs i) [])) []
    there None e =
        ap (λ l. passing is_early_move l) (moves_there rs task i None e)
        ∙ sym (nothing_of (is_read Early rs task i))
        ∙ ap (λ l. cond (is_read Early rs task i) l []) (sym (moves_there rs task i None e))
    there (Some r) e =
        ap (λ l. passing is_early_move l) (moves_there rs task i (Some r) e)
        ∙ early_by task i r.body (next_there rs i r is_trace e)
        ∙ ap (λ b. cond b (made_by task i r.body) [])
        (sym (early_there rs i task r e) ∙ and_true (is_early rs task i)
        ∙ ap (λ b. is_early rs task i && not b) (sym (away rs task i moves)))
        ∙ ap (λ l. cond (is_read Early rs task i) l []) (sym (moves_there rs task i (Some r) e))

apart_at : (rs : List Record) (task : ℕ) → IsTrace rs → has_moved rs task ≡ true → (i : ℕ)
    → passing is_apart (moves_at rs task i) ≡ cond (is_read Rest rs task i) (moves_at rs task i) []
apart_at rs task is_trace moves i = there (slice_get rs i) refl
  where
    rest : (early switch : Bool) → not early && not switch ≡ not early && true && not (true && switch)
    rest true switch = refl
    rest false switch = refl

    there : (o : Option Record) → slice_get rs i ≡ o
        → passing is_apart (moves_at rs task i) ≡ cond (is_read Rest rs task i) (moves_at rs task i) []
    there None e =
        ap (λ l. passing is_apart l) (moves_there rs task i None e)
        ∙ sym (nothing_of (is_read Rest rs task i))
        ∙ ap (λ l. cond (is_read Rest rs task i) l []) (sym (moves_there rs task i None e))
    there (Some r) e =
        ap (λ l. passing is_apart l) (moves_there rs task i (Some r) e)
        ∙ apart_by task i r.body (next_there rs i r is_trace e)
        ∙ ap (λ b. cond b (made_by task i r.body) []) (
        ap (λ b. not b && not (switches r.body)) (sym (early_there rs i task r e))
        ∙ ap (λ b. not (is_early rs task i) && not b) (sym (switch_there rs i r e))
        ∙ rest (is_early rs task i) (is_switch rs i)
        ∙ ap (λ b. not (is_early rs task i) && not b && not (true && is_switch rs i))
        (sym (away rs task i moves))
        ∙ ap (λ b. not (is_early rs task i) && not (is_home rs task i) && not (b && is_switch rs i))
        (sym moves))
        ∙ ap (λ l. cond (is_read Rest rs task i) l []) (sym (moves_there rs task i (Some r) e))

-- ---- all moves

abbrev all_read : List Record → ℕ → List (ℕ × Move)
all_read rs task = moves_before Rest rs (length rs) task

four : (a b c d a' b' c' d' : List (ℕ × Move)) → a ≡ a' → b ≡ b' → c ≡ c' → d ≡ d'
    → (a ++ b ++ c) ++ d ≡ (a' ++ b' ++ c') ++ d'
four a b c d a' b' c' d' p q r s =
    ap (λ l. (l ++ b ++ c) ++ d) p ∙ ap (λ l. (a' ++ l ++ c) ++ d) q ∙ ap (λ l. (a' ++ b' ++ l) ++ d) r
    ∙ ap (λ l. (a' ++ b' ++ c') ++ l) s

-- of a task that moved
moved_read : (rs : List Record) (task : ℕ) → IsTrace rs → has_moved rs task ≡ true
    → all_read rs task ≡ moved_moves rs task
moved_read rs task is_trace moves =
    let turns = flat_map (turn_moves rs task) (range_with_len 0 (turns_in rs)) in
    let f = moves_at rs task in
    four (moves_in Early rs (places rs) task) (moves_in Home rs (places rs) task)
    (turned rs (turns_in rs) task) (moves_in Rest rs (places rs) task)
    (moves_by_file rs task is_early_move) [] turns (moves_by_file rs task is_apart)
    (by_parts f (is_read Early rs task) (λ (step : ℕ × Move). is_early_move step.1)
    (early_at rs task is_trace moves) (places rs))
    (ap (flat_map f) (filter_none (is_read Home rs task) (λ i. away rs task i moves) (places rs)))
    (ap (λ b. cond b turns []) moves)
    (by_parts f (is_read Rest rs task) (λ (step : ℕ × Move). is_apart step.1)
    (apart_at rs task is_trace moves) (places rs))
    ∙ ap (λ l. (l ++ turns) ++ moves_by_file rs task is_apart)
    (append-nil (moves_by_file rs task is_early_move))

-- of any other
home_read : (rs : List Record) (task : ℕ) → has_moved rs task ≡ false → all_read rs task ≡ moves_of rs task
home_read rs task stays =
    four (moves_in Early rs (places rs) task) (moves_in Home rs (places rs) task)
    (turned rs (turns_in rs) task) (moves_in Rest rs (places rs) task)
    (flat_map f (filter early (places rs))) (flat_map f (filter on (places rs))) []
    (flat_map f (filter rest (places rs)))
    (ap (flat_map f)
    (filter_same (is_read Early rs task) early
    (λ i. ap (λ b. is_early rs task i && not (not b && on i)) stays) (places rs)))
    (ap (flat_map f) (filter_same (is_read Home rs task) on (λ i. ap (λ b. not b && on i) stays) (places rs)))
    (ap (λ b. cond b (flat_map (turn_moves rs task) (range_with_len 0 (turns_in rs))) []) stays)
    (ap (flat_map f)
    (filter_same (is_read Rest rs task) rest
    (λ i.
    ap (λ b. not (is_early rs task i) && not (not b && on i) && not (b && is_switch rs i)) stays
    ∙ and_true (not (is_early rs task i) && not (on i)))
    (places rs)))
    ∙ ap (λ l. l ++ flat_map f (filter rest (places rs)))
    (append-nil (flat_map f (filter early (places rs)) ++ flat_map f (filter on (places rs)))
    ∙ sym (flat_map-append f (filter early (places rs)) (filter on (places rs))))
    ∙ sym (flat_map-append f (filter early (places rs) ++ filter on (places rs)) (filter rest (places rs)))
  where
    f : ℕ → List (ℕ × Move)
    f = moves_at rs task

    on : ℕ → Bool
    on = is_on rs (home_of rs task)

    early : ℕ → Bool
    early i = is_early rs task i && not (on i)

    rest : ℕ → Bool
    rest i = not (is_early rs task i) && not (on i)

    and_true : (b : Bool) → b && true ≡ b
    and_true true = refl
    and_true false = refl

pub rest_end : (rs : List Record) (task : ℕ) → IsTrace rs
    → all_moves_of rs task ≡ moves_before Rest rs (length rs) task
rest_end rs task is_trace = by (has_moved rs task) refl
  where
    by : (b : Bool) → has_moved rs task ≡ b → all_moves_of rs task ≡ all_read rs task
    by true moves =
        ap (λ b. cond b (moved_moves rs task) (moves_of rs task)) moves
        ∙ sym (moved_read rs task is_trace moves)
    by false stays =
        ap (λ b. cond b (moved_moves rs task) (moves_of rs task)) stays ∙ sym (home_read rs task stays)
