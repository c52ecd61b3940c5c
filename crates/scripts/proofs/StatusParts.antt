-- All moves of a task that the records of a run tell lead to a state: of a task that stays at its home, and
-- of one that moves.
use Rattle.std.proofs.Common.{ℕ, ◌≡◌, ◌≢◌, ◌∙◌, ◌<◌, List, [], ◌∷◌, ◌++◌, length, map, Bool, true, false}
use Rattle.std.proofs.Common.{Option, Some, None, refl, sym, ap, arith, inl, inr, cond}
use Rattle.std.specs.Prelude.{◌==◌, ◌&&◌, ◌||◌, not, slice_get, filter}
use Rattle.std.specs.List.{flat_map}
use Rattle.std.specs.Option.{option_map_or}
use Rattle.std.proofs.lemmas.Bool.{cases_Bool, and_parts, or_left, false≢true}
use Rattle.std.proofs.lemmas.List.{append_assoc}
use Rattle.std.proofs.lemmas.List.Concat.{flat_map-append}
use Rattle.ompt_events.specs.declared.records.Record.{Record}
use Rattle.ompt_events.specs.declared.records.Body.{Body}
use Rattle.ompt_events.specs.declared.records.Body.TheVariants.{ThreadBegin, ThreadEnd, ParallelBegin}
use Rattle.ompt_events.specs.declared.records.Body.TheVariants.{ParallelEnd, ImplicitTask, TaskCreate}
use Rattle.ompt_events.specs.declared.records.Body.TheVariants.{Dependences, TaskSchedule, SyncRegion, Cancel}
use Rattle.ompt_events.specs.declared.names.Status.{Status}
use Rattle.ompt_events.specs.declared.names.Status.TheVariants as status
use Rattle.ompt_events.specs.declared.state.State.{State}
use Rattle.ompt_events.specs.Flags as flag
use Rattle.ompt_events.specs.Flags.{has_flag}
use Rattle.ompt_events.specs.Names.{demands_next}
use Rattle.ompt_events.specs.Places.{at, places}
use Rattle.ompt_events.specs.States.{Move, Stopped, Started, Discarded, moves_by, is_task, is_early, is_on}
use Rattle.ompt_events.specs.States.{home_of, has_moved, places_of, moves_of, is_early_move, is_apart}
use Rattle.ompt_events.specs.States.{nature_of, first_state}
use Rattle.ompt_events.proofs.ListLemmas.{get_within}
use Rattle.scripts.specs.declared.script.Step.{Step}
use Rattle.scripts.specs.Scripts.{ScriptView}
use Rattle.scripts.proofs.HandOverLemmas.{AreRecords}
use Rattle.scripts.proofs.MoveWords.{state_by, early}
use Rattle.scripts.proofs.PartLemmas.{part, rest_of, AreParts, read_parts}
use Rattle.scripts.proofs.PlaceWords.{moves_of_all, filtered, all_same, all_none, one_of_each, place_moves}
use Rattle.scripts.proofs.PlaceWords.{moves_there, moves_only, on_thread}
use Rattle.scripts.proofs.PlacedLemmas.{step_no}
use Rattle.scripts.proofs.SoundLemmas.{step_moves, moves_of_step}
use Rattle.scripts.proofs.StatusLaw.{TellsMove, it_starts, it_stops, it_discards, tells_move, one_move}
use Rattle.scripts.proofs.StatusLaw.{states_are, any, early_move, never_early, never_apart, one_step}
use Rattle.scripts.proofs.StatusLaw.{on_home, on_there, start_on, stop_on}
use Rattle.scripts.proofs.CoverLemmas.{stopped_of}
use Rattle.scripts.proofs.ValueSteps.{IsWhole}

-- ---- small facts

-- what is kept of at most one move
pub none_kept : (b : Bool) (l : List Move) → (cond b l [] ≢ []) → (b ≡ true) × (l ≢ [])
none_kept true l some = (refl, some)
none_kept false l some = absurd (some refl)

pub any_one : (passes : Move → Bool) (m : Move) → passes m ≡ true → any passes (m ∷ []) ≡ true
any_one passes m is = or_left (passes m) false is

pub any_is : (passes : Move → Bool) (m : Move) → any passes (m ∷ []) ≡ true → passes m ≡ true
any_is passes m is = by (passes m) is
  where
    by : (b : Bool) → (b || false) ≡ true → b ≡ true
    by true holds = refl
    by false fails = absurd (false≢true fails)

pub any_not : (passes : Move → Bool) (m : Move) → any passes (m ∷ []) ≡ false → passes m ≡ false
any_not passes m is = by (passes m) is
  where
    by : (b : Bool) → (b || false) ≡ false → b ≡ false
    by true fails = absurd (false≢true (sym fails))
    by false holds = refl

other_stop : (st : Status) → is_early_move (Stopped st) ≡ false → (a b : Bool)
    → false ≡ any is_early_move (cond a (Stopped st ∷ []) [] ++ cond b (Started ∷ []) [] ++ [])
other_stop st late true true = sym (ap (λ x. x || false) late)
other_stop st late true false = sym (ap (λ x. x || false) late)
other_stop st late false true = refl
other_stop st late false false = refl

-- a record fulfils the event early exactly if its move does
early_there : (rs : List Record) (task i thread seq seen : ℕ) (nests : Bool) (body : Body)
    → slice_get rs i ≡ Some (record { thread = thread; nests = nests; seq = seq; seen = seen; body = body })
    → is_early rs task i ≡ any is_early_move (moves_by task body)
early_there rs task i thread seq seen nests (TaskSchedule status.EarlyFulfill turns prior next claimed) is =
    rw is (by (prior == task) (is_task task next))
  where
    by : (a b : Bool)
        → a ≡ any is_early_move (cond a (early ∷ []) [] ++ cond b (Started ∷ []) [] ++ [])
    by true b = refl
    by false true = refl
    by false false = refl
early_there rs task i thread seq seen nests (TaskSchedule status.Complete turns prior next claimed) is =
    rw is (other_stop status.Complete refl (prior == task) (is_task task next))
early_there rs task i thread seq seen nests (TaskSchedule status.Yield turns prior next claimed) is =
    rw is (other_stop status.Yield refl (prior == task) (is_task task next))
early_there rs task i thread seq seen nests (TaskSchedule status.Cancel turns prior next claimed) is =
    rw is (other_stop status.Cancel refl (prior == task) (is_task task next))
early_there rs task i thread seq seen nests (TaskSchedule status.Detach turns prior next claimed) is =
    rw is (other_stop status.Detach refl (prior == task) (is_task task next))
early_there rs task i thread seq seen nests (TaskSchedule status.LateFulfill turns prior next claimed) is =
    rw is (other_stop status.LateFulfill refl (prior == task) (is_task task next))
early_there rs task i thread seq seen nests (TaskSchedule status.Switch turns prior next claimed) is =
    rw is (other_stop status.Switch refl (prior == task) (is_task task next))
early_there rs task i thread seq seen nests (TaskSchedule status.TaskwaitComplete turns prior next claimed)
    is =
    rw is (other_stop status.TaskwaitComplete refl (prior == task) (is_task task next))
early_there rs task i thread seq seen nests (Cancel given own claimed) is =
    rw is (discards (is_task task (cond (has_flag given.0 flag.discarded_task) (Some own) None)))
  where
    discards : (b : Bool) → false ≡ any is_early_move (cond b (Discarded ∷ []) [])
    discards true = refl
    discards false = refl
early_there rs task i thread seq seen nests (ThreadBegin kind) is = rw is refl
early_there rs task i thread seq seen nests ThreadEnd is = rw is refl
early_there rs task i thread seq seen nests (ParallelBegin requested own parallel) is = rw is refl
early_there rs task i thread seq seen nests (ParallelEnd own parallel) is = rw is refl
early_there rs task i thread seq seen nests (ImplicitTask endpoint actual index given parallel own) is =
    rw is refl
early_there rs task i thread seq seen nests (TaskCreate deps given own other) is = rw is refl
early_there rs task i thread seq seen nests (Dependences own list) is = rw is refl
early_there rs task i thread seq seen nests (SyncRegion kind endpoint parallel own) is = rw is refl

early_place : (rs : List Record) (task i : ℕ) → i < length rs
    → is_early rs task i ≡ any is_early_move (place_moves rs task i)
early_place rs task i within =
    let (x, is) = get_within rs i within in
    early_there rs task i x.thread x.seq x.seen x.nests x.body is
    ∙ ap (any is_early_move) (sym (ap
    (λ (o : Option Record). option_map_or (λ (r : Record). moves_by task r.body) o []) is))

-- the moves at the places that pass
at_places : (rs : List Record) (task : ℕ) (p : ℕ → Bool)
    → flat_map (place_moves rs task) (filter p (places rs)) ≡ part p (place_moves rs task) (length rs)
at_places rs task p =
    filtered p (place_moves rs task) (places rs)
    ∙ moves_of_all (λ k. cond (p k) (place_moves rs task k) []) (length rs)

-- ---- a task that stays at its home

record StaysHome (script : ScriptView) (rs : List Record) (task : ℕ) : Type 0 where
  pub whole : IsWhole script
  pub records : AreRecords script rs
  pub unmoved : has_moved rs task ≡ false

abbrev front_home : ScriptView → List Record → ℕ → ℕ → Bool
front_home script rs task n =
    any is_early_move (step_moves script task n) && not (on_home script (home_of rs task) n)

abbrev back_home : ScriptView → List Record → ℕ → ℕ → Bool
back_home script rs task n =
    not (any is_early_move (step_moves script task n)) && not (on_home script (home_of rs task) n)

-- a move away from home that fulfils no event early ends the task
away_ends : (script : ScriptView) (rs : List Record) (task n : ℕ) (m : Move) → StaysHome script rs task
    → n < length script.steps → step_moves script task n ≡ m ∷ [] → is_early_move m ≡ false
    → on_home script (home_of rs task) n ≡ false → is_apart m ≡ true
away_ends script rs task n m at within one late off =
    let (s, is) = get_within script.steps n within in
    by s is (tells_move task s.body m (sym (moves_of_step script task n s is) ∙ one))
  where
    by : (s : Step) → slice_get script.steps n ≡ Some s → TellsMove task s.body m → is_apart m ≡ true
    by s is (it_starts m_is starts) =
        absurd (false≢true (sym off ∙ start_on script rs task n s at.whole at.records at.unmoved is starts))
    by s is (it_stops st next m_is says_it) = elim (cases_Bool (demands_next st)) [
      | inl demands ↦
          absurd
          (false≢true
          (sym off
          ∙ stop_on script rs task n s at.whole at.records at.unmoved is
          (stopped_of s.body st task next says_it demands)))
      | inr none ↦
          ap is_apart m_is
          ∙ both (is_early_move (Stopped st)) (demands_next st) (ap is_early_move (sym m_is) ∙ late) none
    ]
      where
        both : (a b : Bool) → a ≡ false → b ≡ false → (not a && not b) ≡ true
        both false false x y = refl
        both true b x y = absurd (false≢true (sym x))
        both false true x y = absurd (false≢true (sym y))
    by s is (it_discards m_is none also) = ap is_apart m_is

home_parts : (script : ScriptView) (rs : List Record) (task : ℕ) → StaysHome script rs task
    → AreParts (step_moves script task) (front_home script rs task) (back_home script rs task)
    (length script.steps)
home_parts script rs task at = record {
  one = λ n within. one_move script task n at.whole within;
  in_front = λ n m within one front.
      early_move m (any_is is_early_move m (ap (any is_early_move) (sym one)
      ∙ (and_parts (any is_early_move (step_moves script task n)) (not (on_home script (home_of rs task) n))
      front).0));
  behind = λ n m within one back.
      let parts =
      and_parts (not (any is_early_move (step_moves script task n)))
      (not (on_home script (home_of rs task) n))
      back in
      away_ends script rs task n m at within one
      (any_not is_early_move m (ap (any is_early_move) (sym one) ∙ negated _ parts.0)) (negated _ parts.1);
  not_both = λ n within front.
      either_not (any is_early_move (step_moves script task n)) (not (on_home script (home_of rs task) n))
      front;
}
  where
    negated : (b : Bool) → not b ≡ true → b ≡ false
    negated true fails = absurd (false≢true fails)
    negated false holds = refl

    either_not : (a b : Bool) → (a && b) ≡ true → (not a && b) ≡ false
    either_not true b holds = refl
    either_not false b fails = absurd (false≢true fails)

-- the three lists, at places and at steps
home_front : (script : ScriptView) (rs : List Record) (task : ℕ) → StaysHome script rs task
    → part (λ i. is_early rs task i && not (is_on rs (home_of rs task) i)) (place_moves rs task) (length rs)
    ≡ part (front_home script rs task) (step_moves script task) (length script.steps)
home_front script rs task at =
    one_of_each script rs _ _ at.whole at.records
    (λ i within.
    let μ = moves_there script rs task i at.whole at.records within in
    ap (λ b. cond (b && not (is_on rs (home_of rs task) i)) (place_moves rs task i) [])
    (early_place rs task i within)
    ∙ ap (λ b. cond (any is_early_move (place_moves rs task i) && not b) (place_moves rs task i) [])
    (on_there script rs (home_of rs task) i at.whole at.records within)
    ∙ ap (λ l. cond (any is_early_move l && not (on_home script (home_of rs task) (step_no script rs i))) l
    []) μ)
    (λ n m within_n within_m some also.
    one_step script rs task is_early_move at.whole at.records never_early n m within_n within_m
    (and_parts (any is_early_move (step_moves script task n)) (not (on_home script (home_of rs task) n))
    (none_kept _ (step_moves script task n) some).0).0
    (and_parts (any is_early_move (step_moves script task m)) (not (on_home script (home_of rs task) m))
    (none_kept _ (step_moves script task m) also).0).0)

home_back : (script : ScriptView) (rs : List Record) (task : ℕ) → StaysHome script rs task
    → part (λ i. not (is_early rs task i) && not (is_on rs (home_of rs task) i)) (place_moves rs task)
    (length rs)
    ≡ part (back_home script rs task) (step_moves script task) (length script.steps)
home_back script rs task at =
    one_of_each script rs _ _ at.whole at.records
    (λ i within.
    let μ = moves_there script rs task i at.whole at.records within in
    ap (λ b. cond (not b && not (is_on rs (home_of rs task) i)) (place_moves rs task i) [])
    (early_place rs task i within)
    ∙ ap (λ b. cond (not (any is_early_move (place_moves rs task i)) && not b) (place_moves rs task i) [])
    (on_there script rs (home_of rs task) i at.whole at.records within)
    ∙ ap (λ l. cond (not (any is_early_move l)
    && not (on_home script (home_of rs task) (step_no script rs i))) l [])
    μ)
    (λ n m within_n within_m some also.
    one_step script rs task is_apart at.whole at.records never_apart n m within_n within_m
    (ends n within_n (none_kept _ (step_moves script task n) some))
    (ends m within_m (none_kept _ (step_moves script task m) also)))
  where
    negated : (b : Bool) → not b ≡ true → b ≡ false
    negated true fails = absurd (false≢true fails)
    negated false holds = refl

    ends : (n : ℕ) → n < length script.steps
        → ((not (any is_early_move (step_moves script task n)) && not (on_home script (home_of rs task) n))
        ≡ true)
        × (step_moves script task n ≢ []) → any is_apart (step_moves script task n) ≡ true
    ends n within (back, some) = elim (one_move script task n at.whole within) [
      | inl none ↦ absurd (some none)
      | inr (m, one) ↦
          let parts =
          and_parts (not (any is_early_move (step_moves script task n)))
          (not (on_home script (home_of rs task) n))
          back in
          ap (any is_apart) one
          ∙ any_one is_apart m
          (away_ends script rs task n m at within one
          (any_not is_early_move m (ap (any is_early_move) (sym one) ∙ negated _ parts.0))
          (negated _ parts.1))
    ]

home_middle : (script : ScriptView) (rs : List Record) (task : ℕ) → StaysHome script rs task
    → part (is_on rs (home_of rs task)) (place_moves rs task) (length rs)
    ≡ part (rest_of (front_home script rs task) (back_home script rs task)) (step_moves script task)
    (length script.steps)
home_middle script rs task at =
    by (home_of rs task)
    ∙ all_same _ _ (length script.steps)
    (λ n low. ap (λ b. cond b (step_moves script task n) [])
    (sym (middle (any is_early_move (step_moves script task n)) (on_home script (home_of rs task) n))))
  where
    middle : (e o : Bool) → (not (e && not o) && not (not e && not o)) ≡ o
    middle true true = refl
    middle true false = refl
    middle false true = refl
    middle false false = refl

    by : (place : Option ℕ)
        → part (is_on rs place) (place_moves rs task) (length rs)
        ≡ part (on_home script place) (step_moves script task) (length script.steps)
    by None =
        all_none _ (length rs) (λ k low. refl) ∙ sym (all_none _ (length script.steps) (λ k low. refl))
    by (Some thread) = on_thread script rs task thread at.whole at.records

pub home_state : (script : ScriptView) (rs : List Record) (task : ℕ) → IsWhole script → AreRecords script rs
    → has_moved rs task ≡ false
    → (st : State) × (state_by (nature_of rs task) (Some (first_state (nature_of rs task)))
    (map (λ (p : ℕ × Move). p.1) (moves_of rs task)) ≡ Some st)
home_state script rs task whole records unmoved =
    let at : StaysHome script rs task = record { whole = whole; records = records; unmoved = unmoved } in
    let kind = nature_of rs task in
    let (st, is, read) =
    read_parts kind (first_state kind) (step_moves script task) (front_home script rs task)
    (back_home script rs task) (length script.steps) (length script.steps) (home_parts script rs task at)
    (omega arith) (states_are script rs task whole records) in
    (st, ap (state_by kind (Some (first_state kind))) (lists at) ∙ read.is)
  where
    g : ℕ → List Move
    g = place_moves rs task

    pa : ℕ → Bool
    pa i = is_early rs task i && not (is_on rs (home_of rs task) i)

    pb : ℕ → Bool
    pb = is_on rs (home_of rs task)

    pc : ℕ → Bool
    pc i = not (is_early rs task i) && not (is_on rs (home_of rs task) i)

    lists : StaysHome script rs task → map (λ (p : ℕ × Move). p.1) (moves_of rs task)
        ≡ part (front_home script rs task) (step_moves script task) (length script.steps)
        ++ (part (rest_of (front_home script rs task) (back_home script rs task)) (step_moves script task)
        (length script.steps)
        ++ part (back_home script rs task) (step_moves script task) (length script.steps))
    lists at =
        moves_only rs task (places_of rs task)
        ∙ flat_map-append g (filter pa (places rs) ++ filter pb (places rs)) (filter pc (places rs))
        ∙ ap (λ l. l ++ flat_map g (filter pc (places rs)))
        (flat_map-append g (filter pa (places rs)) (filter pb (places rs)))
        ∙ append_assoc (flat_map g (filter pa (places rs))) (flat_map g (filter pb (places rs)))
        (flat_map g (filter pc (places rs)))
        ∙ ap (λ l. l ++ (flat_map g (filter pb (places rs)) ++ flat_map g (filter pc (places rs))))
        (at_places rs task pa ∙ home_front script rs task at)
        ∙ ap (λ l. part (front_home script rs task) (step_moves script task) (length script.steps)
        ++ (l ++ flat_map g (filter pc (places rs))))
        (at_places rs task pb ∙ home_middle script rs task at)
        ∙ ap (λ l. part (front_home script rs task) (step_moves script task) (length script.steps)
        ++ (part (rest_of (front_home script rs task) (back_home script rs task)) (step_moves script task)
        (length script.steps) ++ l))
        (at_places rs task pc ∙ home_back script rs task at)
