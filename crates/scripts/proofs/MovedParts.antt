-- The turns that records of a run tell are those of their steps; so all moves of a task that moves lead to a
-- state.
use Rattle.std.proofs.Common.{ℕ, zero, suc, ◌≡◌, ◌≢◌, ◌∙◌, ◌⊎◌, ◌+◌, ◌<◌, ◌≤◌, List, [], ◌∷◌, ◌++◌, length}
use Rattle.std.proofs.Common.{take, drop, map, Bool, true, false, Option, Some, None, refl, sym, ap, arith}
use Rattle.std.proofs.Common.{inl, inr, cond, max, take-append-drop}
use Rattle.std.specs.Prelude.{◌==◌, ◌&&◌, ◌||◌, slice_get, filter, option_map, fold}
use Rattle.std.specs.List.{flat_map, range_with_len}
use Rattle.std.specs.Option.{option_map_or}
use Rattle.std.proofs.lemmas.Bool.{cases_Bool, cases_eq, cases_lt, cases_order, and_parts, false≢true}
use Rattle.std.proofs.lemmas.Bool.{or_cases, eq-eqb, ne_eqb, eqb-true}
use Rattle.std.proofs.lemmas.List.{append-nil, append_assoc, map-append}
use Rattle.std.proofs.lemmas.List.Elements.{filter-append}
use Rattle.std.proofs.lemmas.List.Folds.{fold-map}
use Rattle.std.proofs.lemmas.Option.{none-some, same_Some, slice_get_within}
use Rattle.ompt_events.specs.declared.records.Record.{Record}
use Rattle.ompt_events.specs.declared.records.Body.{Body}
use Rattle.ompt_events.specs.declared.records.Body.TheVariants.{ImplicitTask, TaskSchedule, Cancel}
use Rattle.ompt_events.specs.declared.names.Endpoint.TheVariants.{End}
use Rattle.ompt_events.specs.declared.names.Status.{Status}
use Rattle.ompt_events.specs.declared.cause.Cause.TheVariants.{StatusOrder}
use Rattle.ompt_events.specs.declared.state.State.{State}
use Rattle.ompt_events.specs.Causes.{IsFreeOf, HasNoState, status_order}
use Rattle.ompt_events.specs.Names.{demands_next}
use Rattle.ompt_events.specs.Places.{at, places}
use Rattle.ompt_events.specs.Records.{started, stopped, begun_root, begun_turn, ended_turn, next_turn}
use Rattle.ompt_events.specs.Records.{prior_turn}
use Rattle.ompt_events.specs.States.{Move, Stopped, Started, Discarded, moves_by, moves_at, is_task, stops}
use Rattle.ompt_events.specs.States.{moved_moves, is_early_move, is_apart, nature_of, state_after}
use Rattle.ompt_events.specs.States.{first_state, moves_by_file, turn_moves, turn_starts_at, turn_ends_at}
use Rattle.ompt_events.specs.States.{has_moved, all_moves_of, moves_of, state_of}
use Rattle.ompt_events.specs.States as states
use Rattle.ompt_events.specs.Turns.{turns_in, is_turn}
use Rattle.ompt_events.proofs.EveryLemmas.{every_get, fold_most}
use Rattle.ompt_events.proofs.TurnLemmas.{new_turn}
use Rattle.ompt_events.proofs.ListLemmas.{get_within}
use Rattle.ompt_events.proofs.PlaceLemmas.{at_get, get_at, is_the_task}
use Rattle.scripts.specs.declared.script.Step.{Step}
use Rattle.scripts.specs.Scripts.{ScriptView}
use Rattle.callbacks.specs.Tasks.{TaskView, current_turn}
use Rattle.callbacks.specs.Recorders.{RecorderView}
use Rattle.scripts.specs.RunCalls.{first_given, recorded_body, call_refusal}
use Rattle.scripts.specs.Parts.{id_of}
use Rattle.scripts.specs.Progress.{value}
use Rattle.scripts.proofs.HandOverLemmas.{AreRecords}
use Rattle.scripts.proofs.AcceptedLemmas.{scheduled_by}
use Rattle.scripts.proofs.GapLaw.{begun_by}
use Rattle.scripts.proofs.HomeLemmas.{begun, begins, begun_rises, next_is, turn_is, none_before}
use Rattle.scripts.proofs.HomeLemmas.{root_subject, turn_from}
use Rattle.scripts.proofs.MoveWords.{state_by, by_append, by_none, early}
use Rattle.scripts.proofs.PartLemmas.{all_moves, part, AreParts, read_parts}
use Rattle.scripts.proofs.PlaceWords.{moves_of_all, all_same, one_of_each, place_moves, moves_there}
use Rattle.scripts.proofs.PlaceWords.{moves_only}
use Rattle.scripts.proofs.PlacedLemmas.{IsPlaced, placed, recorded, says, step_no, record_no}
use Rattle.scripts.proofs.SaidLemmas.{IsOfCall, started_called, stopped_called}
use Rattle.scripts.proofs.RegionLaw.{started_object}
use Rattle.scripts.proofs.SoundLemmas.{step_moves, moves_of_step, started_moves}
use Rattle.scripts.proofs.StatusLaw.{one_move}
use Rattle.scripts.proofs.StatusLaw.{states_are, any, early_move, never_early, never_apart, one_step}
use Rattle.scripts.proofs.StatusParts.{any_is, none_kept, home_state}
use Rattle.scripts.proofs.TurnEnds.{stop_move, one_end}
use Rattle.scripts.proofs.TurnParts.{front_moved, back_moved, middle_moved, turned, of_turn, starts_in}
use Rattle.scripts.proofs.TurnParts.{ends_in, starts_is, ends_is, stop_begun, stop_begins_none}
use Rattle.scripts.proofs.TurnParts.{begins_by_start, none_late}
use Rattle.scripts.proofs.ValueSteps.{IsWhole, values_at, first_at, second_at, first_id_is, two_apart}
use Rattle.scripts.proofs.ValueSteps.{recorder_at, step_accepts}

-- ---- the turns that records tell

map_flat : (f : ℕ → List (ℕ × Move)) (l : List ℕ)
    → map (λ (p : ℕ × Move). p.1) (flat_map f l) ≡ flat_map (λ i. map (λ (p : ℕ × Move). p.1) (f i)) l
map_flat f [] = refl
map_flat f (i ∷ l) =
    map-append (λ (p : ℕ × Move). p.1) (f i) (flat_map f l)
    ∙ ap (λ x. map (λ (p : ℕ × Move). p.1) (f i) ++ x) (map_flat f l)

-- the prior turn of a record is the last one that was begun
prior_by : (script : ScriptView) (n : ℕ) (s : Step) (task : ℕ) → IsWhole script
    → slice_get script.steps n ≡ Some s
    → stopped s.body ≡ Some task
    → begun script.steps task n ≡ suc
    (prior_turn (recorded_body s.body (first_at script n s) (second_at script n s)))
prior_by script n s task whole is stops_it =
    let (t, first_is, given, turn) =
    by s.body (first_at script n s) (second_at script n s) (step_accepts script n s whole is)
    (first_id_is script n s whole is) stops_it in
    let (d, last) = stop_begun script n task s whole is stops_it in
    let within = slice_get_within script.steps n s is in
    let was : values_at script n task ≡ Some t = ap (value (values_at script n)) (sym given) ∙ first_is in
    last
    ∙ ap suc
    (sym
    (turn
    ∙ ap (λ o. option_map_or (λ (u : ℕ). u) o 0)
    (turn_is script n task t whole (omega (arith, within)) was ∙ ap turn_from last)))
  where
    r : RecorderView
    r = recorder_at script n s.thread

    by : (body : Body) (first second : Option TaskView) → call_refusal r body first second ≡ None
        → id_of first ≡ first_given body → stopped body ≡ Some task
        → (t : TaskView) × (first ≡ Some t) × (first_given body ≡ Some task)
        × (prior_turn (recorded_body body first second) ≡ current_turn t)
    by (TaskSchedule st turns prior next claimed) None second accepted id is_so = absurd (none-some prior id)
    by (TaskSchedule st turns prior next claimed) (Some t) None accepted id is_so =
        nothing (demands_next st) refl is_so (scheduled_by r t st None accepted).has_next
      where
        nothing : (b : Bool) → demands_next st ≡ b → cond b (Some prior) None ≡ Some task
            → cond (demands_next st) false true ≡ true
            → (u : TaskView) × (Some t ≡ Some u) × (Some prior ≡ Some task) × (0 ≡ current_turn u)
        nothing true demands stops_so has =
            absurd (false≢true (sym (ap (λ b. cond b false true) demands) ∙ has))
        nothing false demands none has = absurd (none-some task none)
    by (TaskSchedule st turns prior next claimed) (Some t) (Some u) accepted id is_so =
        (t, refl, given (demands_next st) is_so, refl)
      where
        given : (b : Bool) → cond b (Some prior) None ≡ Some task → Some prior ≡ Some task
        given true there = there
        given false none = absurd (none-some task none)
    by _ first second accepted id is_so = absurd (none-some task is_so)

-- a start, at its place and at its step
start_agrees : (script : ScriptView) (rs : List Record) (task turn i : ℕ) → IsWhole script
    → AreRecords script rs
    → i < length rs
    → map (λ (p : ℕ × Move). p.1) (turn_starts_at rs task turn i)
    ≡ cond (starts_in script task turn (step_no script rs i)) (step_moves script task (step_no script rs i))
    []
start_agrees script rs task turn i whole records within =
    let (x, is) = get_within rs i within in by x is (placed script rs i x whole records is)
  where
    n : ℕ
    n = step_no script rs i

    only : (b : Bool) → map (λ (p : ℕ × Move). p.1) (cond {A = List (ℕ × Move)} b ((i, Started) ∷ []) [])
        ≡ cond b (Started ∷ []) []
    only true = refl
    only false = refl

    by : (x : Record) → slice_get rs i ≡ Some x → (p : IsPlaced script rs i x)
        → map (λ (q : ℕ × Move). q.1) (turn_starts_at rs task turn i)
        ≡ cond (starts_in script task turn n) (step_moves script task n) []
    by x is p = elim (cases_Bool (is_task task (started p.step.body))) [
      | inl here ↦
          let starts = is_the_task task (started p.step.body) here in
          let says_it : started x.body ≡ Some task =
          says started script rs i x whole started_called p ∙ starts in
          let turn_is_it : next_turn x.body ≡ begun script.steps task n =
          ap next_turn p.body_is ∙ next_is script n p.step task whole p.stands starts in
          let moves_it : step_moves script task n ≡ Started ∷ [] =
          moves_of_step script task n p.step p.stands
          ∙ started_moves p.step.body task starts
          (λ names. two_apart script n p.step task task whole p.stands names
          (started_object p.step.body task starts)
          refl) in
          only (is_turn task turn (at begun_turn rs i))
          ∙ ap (λ b. cond b (Started ∷ []) [])
          (ap (is_turn task turn)
          (at_get begun_turn rs i x is ∙ ap (option_map {U = ℕ × ℕ} (λ t. (t, next_turn x.body))) says_it
          ∙ ap (λ (u : ℕ). Some (task, u)) turn_is_it)
          ∙ ap (λ b. b && (begun script.steps task n == turn)) (eq-eqb task task refl ∙ sym here)
          ∙ sym (starts_is script task turn n p.step p.stands))
          ∙ ap (λ l. cond (starts_in script task turn n) l []) (sym moves_it)
      | inr fails ↦
          only (is_turn task turn (at begun_turn rs i))
          ∙ ap (λ b. cond b (Started ∷ []) [])
          (ap (is_turn task turn) (at_get begun_turn rs i x is)
          ∙ other (started x.body) (ap (is_task task) (says started script rs i x whole started_called p)
          ∙ fails)
          (next_turn x.body))
          ∙ sym
          (ap (λ b. cond b (step_moves script task n) [])
          (starts_is script task turn n p.step p.stands
          ∙ ap (λ b. b && (begun script.steps task n == turn)) fails))
    ]
      where
        other : (o : Option ℕ) → is_task task o ≡ false → (u : ℕ)
            → is_turn task turn (option_map {U = ℕ × ℕ} (λ t. (t, u)) o) ≡ false
        other None none u = refl
        other (Some t) none u = ap (λ b. b && (u == turn)) none

-- and an end
stops_called : (task : ℕ) → IsOfCall (stops task)
stops_called task (ImplicitTask End actual index given parallel own) = refl
stops_called task (TaskSchedule s turns prior next claimed) = refl
stops_called task (Cancel given own claimed) = refl
stops_called task _ = refl

stops_only : (body : Body) (task : ℕ) (st : Status) → moves_by task body ≡ Stopped st ∷ []
    → stopped body ≡ Some task → stops task body ≡ Stopped st ∷ []
stops_only (TaskSchedule s turns prior next claimed) task st one is_so =
    by (prior == task) refl (given (demands_next s) is_so)
  where
    given : (b : Bool) → cond b (Some prior) None ≡ Some task → prior ≡ task
    given true there = same_Some prior task there
    given false none = absurd (none-some task none)

    first_of : (a b : Move) (l : List Move) → a ∷ l ≡ b ∷ [] → a ∷ [] ≡ b ∷ []
    first_of a b l is = cc

    by : (b : Bool) → (prior == task) ≡ b → prior ≡ task
        → cond (prior == task) (Stopped s ∷ []) [] ≡ Stopped st ∷ []
    by true holds same_task =
        ap (λ x. cond x (Stopped s ∷ []) []) holds
        ∙ first_of (Stopped s) (Stopped st) (cond (is_task task next) (Started ∷ []) [] ++ [])
        (ap (λ x. cond x (Stopped s ∷ []) [] ++ cond (is_task task next) (Started ∷ []) [] ++ []) (sym holds)
        ∙ one)
    by false fails same_task = absurd (false≢true (sym fails ∙ eq-eqb prior task same_task))
stops_only _ task st one is_so = absurd (none-some task is_so)

end_agrees : (script : ScriptView) (rs : List Record) (task turn i : ℕ) → IsWhole script
    → AreRecords script rs
    → i < length rs
    → map (λ (p : ℕ × Move). p.1) (turn_ends_at rs task turn i)
    ≡ cond (ends_in script task turn (step_no script rs i)) (step_moves script task (step_no script rs i)) []
end_agrees script rs task turn i whole records within =
    let (x, is) = get_within rs i within in by x is (placed script rs i x whole records is)
  where
    n : ℕ
    n = step_no script rs i

    map_second : (ms : List Move) → map (λ (p : ℕ × Move). p.1) (map {B = ℕ × Move} (λ m. (i, m)) ms) ≡ ms
    map_second [] = refl
    map_second (m ∷ ms) = ap (λ l. m ∷ l) (map_second ms)

    only : (b : Bool) (ms : List Move)
        → map (λ (p : ℕ × Move). p.1) (cond {A = List (ℕ × Move)} b (map (λ m. (i, m)) ms) []) ≡ cond b ms []
    only true ms = map_second ms
    only false ms = refl

    by : (x : Record) → slice_get rs i ≡ Some x → (p : IsPlaced script rs i x)
        → map (λ (q : ℕ × Move). q.1) (turn_ends_at rs task turn i)
        ≡ cond (ends_in script task turn n) (step_moves script task n) []
    by x is p = elim (cases_Bool (is_task task (stopped p.step.body))) [
      | inl here ↦
          let stops_it = is_the_task task (stopped p.step.body) here in
          let says_it : stopped x.body ≡ Some task =
          says stopped script rs i x whole stopped_called p ∙ stops_it in
          let last = prior_by script n p.step task whole p.stands stops_it in
          let prior_is : suc (prior_turn x.body) ≡ begun script.steps task n =
          ap (λ b. suc (prior_turn b)) p.body_is ∙ sym last in
          let (st, one, demands) =
          stop_move p.step.body task stops_it
          (stop_begins_none script n task p.step whole p.stands stops_it).0 in
          let stops_same : stops task x.body ≡ step_moves script task n =
          says (stops task) script rs i x whole (stops_called task) p
          ∙ stops_only p.step.body task st one stops_it
          ∙ sym (moves_of_step script task n p.step p.stands ∙ one) in
          only (is_turn task turn (at ended_turn rs i))
          (option_map_or (λ (r : Record). stops task r.body) (slice_get rs i) [])
          ∙ ap (λ b. cond b (option_map_or (λ (r : Record). stops task r.body) (slice_get rs i) []) [])
          (ap (is_turn task turn)
          (at_get ended_turn rs i x is ∙ ap (option_map {U = ℕ × ℕ} (λ t. (t, prior_turn x.body))) says_it)
          ∙ ap (λ b. b && (prior_turn x.body == turn)) (eq-eqb task task refl ∙ sym here)
          ∙ ap (λ b. is_task task (stopped p.step.body) && b)
          (suc_same (prior_turn x.body) turn ∙ ap (λ k. k == suc turn) prior_is)
          ∙ sym (ends_is script task turn n p.step p.stands))
          ∙ ap (λ l. cond (ends_in script task turn n) l [])
          (ap (λ (o : Option Record). option_map_or (λ (r : Record). stops task r.body) o []) is ∙ stops_same)
      | inr fails ↦
          only (is_turn task turn (at ended_turn rs i))
          (option_map_or (λ (r : Record). stops task r.body) (slice_get rs i) [])
          ∙ ap (λ b. cond b (option_map_or (λ (r : Record). stops task r.body) (slice_get rs i) []) [])
          (ap (is_turn task turn) (at_get ended_turn rs i x is)
          ∙ other (stopped x.body) (ap (is_task task) (says stopped script rs i x whole stopped_called p)
          ∙ fails)
          (prior_turn x.body))
          ∙ sym
          (ap (λ b. cond b (step_moves script task n) [])
          (ends_is script task turn n p.step p.stands
          ∙ ap (λ b. b && (begun script.steps task n == suc turn)) fails))
    ]
      where
        other : (o : Option ℕ) → is_task task o ≡ false → (u : ℕ)
            → is_turn task turn (option_map {U = ℕ × ℕ} (λ t. (t, u)) o) ≡ false
        other None none u = refl
        other (Some t) none u = ap (λ b. b && (u == turn)) none

        suc_same : (a b : ℕ) → (a == b) ≡ (suc a == suc b)
        suc_same a b = elim (cases_eq a b) [
          | inl equal ↦ eq-eqb a b equal ∙ sym (eq-eqb (suc a) (suc b) (ap suc equal))
          | inr apart ↦ ne_eqb a b apart ∙ sym (ne_eqb (suc a) (suc b) (λ e. apart (omega (arith, e))))
        ]

-- so the records of a turn make the moves of its steps
turn_agrees : (script : ScriptView) (rs : List Record) (task turn : ℕ) → IsWhole script → AreRecords script rs
    → map (λ (p : ℕ × Move). p.1) (turn_moves rs task turn) ≡ of_turn script task (length script.steps) turn
turn_agrees script rs task turn whole records =
    map-append (λ (p : ℕ × Move). p.1) (flat_map (turn_starts_at rs task turn) (places rs))
    (flat_map (turn_ends_at rs task turn) (places rs))
    ∙ ap (λ l. l ++ map (λ (p : ℕ × Move). p.1) (flat_map (turn_ends_at rs task turn) (places rs)))
    (map_flat (turn_starts_at rs task turn) (places rs)
    ∙ moves_of_all (λ i. map (λ (p : ℕ × Move). p.1) (turn_starts_at rs task turn i)) (length rs)
    ∙ one_of_each script rs _ _ whole records (λ i low. start_agrees script rs task turn i whole records low)
    one_start)
    ∙ ap (λ l. part (starts_in script task turn) (step_moves script task) (length script.steps) ++ l)
    (map_flat (turn_ends_at rs task turn) (places rs)
    ∙ moves_of_all (λ i. map (λ (p : ℕ × Move). p.1) (turn_ends_at rs task turn i)) (length rs)
    ∙ one_of_each script rs _ _ whole records (λ i low. end_agrees script rs task turn i whole records low)
    one_stop)
  where
    before_start : (n m : ℕ) → n < m → m < length script.steps → starts_in script task turn n ≡ true
        → starts_in script task turn m ≡ true → ⊥
    before_start n m less within first second =
        let (s, at_n) = get_within script.steps n (omega (arith, less, within)) in
        let (t, at_m) = get_within script.steps m within in
        let one =
        and_parts (is_task task (started s.body)) (begun script.steps task n == turn)
        (sym (starts_is script task turn n s at_n) ∙ first) in
        let two =
        and_parts (is_task task (started t.body)) (begun script.steps task m == turn)
        (sym (starts_is script task turn m t at_m) ∙ second) in
        let more = (begins script.steps task n s at_n (begins_by_start task s.body one.0)).1 in
        let rise = begun_rises script.steps task (suc n) m less (omega (arith, within)) in
        let here = eqb-true (begun script.steps task n) turn one.1 in
        let there = eqb-true (begun script.steps task m) turn two.1 in
        omega (arith, more, rise, here, there)

    one_start : (n m : ℕ) → n < length script.steps → m < length script.steps
        → cond (starts_in script task turn n) (step_moves script task n) [] ≢ []
        → cond (starts_in script task turn m) (step_moves script task m) [] ≢ [] → n ≡ m
    one_start n m within_n within_m some also =
        let first = (none_kept (starts_in script task turn n) (step_moves script task n) some).0 in
        let second = (none_kept (starts_in script task turn m) (step_moves script task m) also).0 in
        elim (cases_order n m) [
          | inl equal ↦ equal
          | inr (inl less) ↦ absurd (before_start n m less within_m first second)
          | inr (inr more) ↦ absurd (before_start m n more within_n second first)
        ]

    before_stop : (n m : ℕ) → n < m → m < length script.steps → ends_in script task turn n ≡ true
        → ends_in script task turn m ≡ true → ⊥
    before_stop n m less within first second =
        let (s, at_n) = get_within script.steps n (omega (arith, less, within)) in
        let (t, at_m) = get_within script.steps m within in
        let one =
        and_parts (is_task task (stopped s.body)) (begun script.steps task n == suc turn)
        (sym (ends_is script task turn n s at_n) ∙ first) in
        let two =
        and_parts (is_task task (stopped t.body)) (begun script.steps task m == suc turn)
        (sym (ends_is script task turn m t at_m) ∙ second) in
        one_end script rs task n m s t whole records at_n at_m (is_the_task task (stopped s.body) one.0)
        (is_the_task task (stopped t.body) two.0)
        (eqb-true (begun script.steps task n) (suc turn) one.1
        ∙ sym (eqb-true (begun script.steps task m) (suc turn) two.1)) less

    one_stop : (n m : ℕ) → n < length script.steps → m < length script.steps
        → cond (ends_in script task turn n) (step_moves script task n) [] ≢ []
        → cond (ends_in script task turn m) (step_moves script task m) [] ≢ [] → n ≡ m
    one_stop n m within_n within_m some also =
        let first = (none_kept (ends_in script task turn n) (step_moves script task n) some).0 in
        let second = (none_kept (ends_in script task turn m) (step_moves script task m) also).0 in
        elim (cases_order n m) [
          | inl equal ↦ equal
          | inr (inl less) ↦ absurd (before_stop n m less within_m first second)
          | inr (inr more) ↦ absurd (before_stop m n more within_n second first)
        ]

-- ---- all turns

turn_within : (rs : List Record) (i task turn : ℕ) → at begun_turn rs i ≡ Some (task, turn)
    → turn < turns_in rs
turn_within rs i task turn starts =
    let (r, stands, is) = get_at begun_turn rs i (task, turn) starts in
    let new : new_turn r ≡ turn = ap (λ (o : Option (ℕ × ℕ)). option_map_or (λ (b : ℕ × ℕ). b.1) o 0) is in
    let low = every_get (λ q. new_turn q ≤ _) rs i r (fold_most new_turn rs 0).1 stands in
    omega (arith, low, new)

turns_cover : (script : ScriptView) (rs : List Record) (task : ℕ) → IsWhole script → AreRecords script rs
    → begun script.steps task (length script.steps) ≤ turns_in rs
turns_cover script rs task whole records = by (begun script.steps task (length script.steps)) refl
  where
    at_least : (k : ℕ) → 1 ≤ suc k
    at_least k = omega arith

    by : (c : ℕ) → begun script.steps task (length script.steps) ≡ c → c ≤ turns_in rs
    by zero is = omega arith
    by (suc c) count =
        let (k, s, below_all, is, begins_it, here) =
        begun_by script (length script.steps) task c whole (omega arith) (omega (arith, count)) in
        elim (or_cases (is_task task (started s.body)) (is_task task (begun_root s.body)) begins_it) [
          | inl starts ↦
              let it = recorded script rs k s whole records is in
              let i = record_no script rs k in
              let p = placed script rs i it.made whole records it.stands in
              let step : p.step ≡ s =
              same_Some p.step s (sym p.stands ∙ ap (slice_get script.steps) it.there ∙ is) in
              let starts_step = ap (λ (x : Step). started x.body) step
              ∙ is_the_task task (started s.body) starts in
              turn_within rs i task c
              (at_get begun_turn rs i it.made it.stands
              ∙ ap (option_map {U = ℕ × ℕ} (λ t. (t, next_turn it.made.body)))
              (says started script rs i it.made whole started_called p ∙ starts_step)
              ∙ ap (λ (u : ℕ). Some (task, u))
              (ap next_turn p.body_is ∙ next_is script (step_no script rs i) p.step task whole p.stands
              starts_step
              ∙ ap (begun script.steps task) it.there ∙ here))
          | inr root ↦
              let none =
              (none_before script k s task whole is
              (root_subject s.body task (is_the_task task (begun_root s.body) root)).1).0 in
              let one = at_least (fold (λ most (r : Record). max most (new_turn r)) 0 rs) in
              omega (arith, none, here, one)
        ]

all_more : (g : ℕ → List Move) (c n : ℕ) → c ≤ n → ((k : ℕ) → c ≤ k → g k ≡ [])
    → all_moves g n ≡ all_moves g c
all_more g c zero low none = let first : c ≡ zero = omega (arith, low) in ap (all_moves g) (sym first)
all_more g c (suc n) low none = elim (cases_lt c (suc n)) [
  | inl less ↦
      ap (λ l. all_moves g n ++ l) (none n (omega (arith, less))) ∙ append-nil (all_moves g n)
      ∙ all_more g c n (omega (arith, less)) none
  | inr past ↦ let last : c ≡ suc n = omega (arith, low, past) in ap (all_moves g) (sym last)
]

all_turns : (script : ScriptView) (rs : List Record) (task : ℕ) → IsWhole script → AreRecords script rs
    → map (λ (p : ℕ × Move). p.1) (flat_map (turn_moves rs task) (range_with_len 0 (turns_in rs)))
    ≡ part (middle_moved script task) (step_moves script task) (length script.steps)
all_turns script rs task whole records =
    map_flat (turn_moves rs task) (range_with_len 0 (turns_in rs))
    ∙ moves_of_all (λ turn. map (λ (p : ℕ × Move). p.1) (turn_moves rs task turn)) (turns_in rs)
    ∙ all_same _ (of_turn script task (length script.steps)) (turns_in rs)
    (λ turn low. turn_agrees script rs task turn whole records)
    ∙ all_more (of_turn script task (length script.steps)) (begun script.steps task (length script.steps))
    (turns_in rs)
    (turns_cover script rs task whole records)
    (λ turn low.
    let (first, second) = none_late script task (length script.steps) turn whole (omega arith) low in
    ap (λ l. l ++ part (ends_in script task turn) (step_moves script task) (length script.steps)) first
    ∙ second)
    ∙ turned script task (length script.steps) whole (omega arith)

-- ---- the moves that are read in file order

map_filter : (passes : Move → Bool) (l : List (ℕ × Move))
    → map (λ (p : ℕ × Move). p.1) (filter (λ (p : ℕ × Move). passes p.1) l)
    ≡ filter passes (map (λ (p : ℕ × Move). p.1) l)
map_filter passes [] = refl
map_filter passes (x ∷ l) = by (passes x.1) (map_filter passes l)
  where
    by : (b : Bool)
        → map (λ (p : ℕ × Move). p.1) (filter (λ (p : ℕ × Move). passes p.1) l)
        ≡ filter passes (map (λ (p : ℕ × Move). p.1) l)
        → map (λ (p : ℕ × Move). p.1)
        (cond b (x ∷ filter (λ (p : ℕ × Move). passes p.1) l) (filter (λ (p : ℕ × Move). passes p.1) l))
        ≡ cond b (x.1 ∷ filter passes (map (λ (p : ℕ × Move). p.1) l))
        (filter passes (map (λ (p : ℕ × Move). p.1) l))
    by true rest = ap (λ y. x.1 ∷ y) rest
    by false rest = rest

filter_flat : (passes : Move → Bool) (g : ℕ → List Move) (l : List ℕ)
    → filter passes (flat_map g l) ≡ flat_map (λ i. filter passes (g i)) l
filter_flat passes g [] = refl
filter_flat passes g (i ∷ l) =
    filter-append passes (g i) (flat_map g l) ∙ ap (λ x. filter passes (g i) ++ x) (filter_flat passes g l)

-- of at most one move all pass or none
filter_one : (passes : Move → Bool) (l : List Move) → (l ≡ []) ⊎ ((m : Move) × (l ≡ m ∷ []))
    → filter passes l ≡ cond (any passes l) l []
filter_one passes l (inl none) = ap (filter passes) none ∙ sym (ap (λ x. cond (any passes x) x []) none)
filter_one passes l (inr (m, one)) =
    ap (filter passes) one ∙ by (passes m) ∙ sym (ap (λ x. cond (any passes x) x []) one)
  where
    by : (b : Bool) → cond b (m ∷ []) [] ≡ cond (b || false) (m ∷ []) []
    by true = refl
    by false = refl

by_file : (script : ScriptView) (rs : List Record) (task : ℕ) (passes : Move → Bool) → IsWhole script
    → AreRecords script rs
    → ((kind : states.Nature) (state after : State) (one two : Move) (between : List Move) → passes one ≡ true
    → passes two ≡ true
    → state_by kind (Some state) (one ∷ (between ++ two ∷ [])) ≡ Some after → ⊥)
    → map (λ (p : ℕ × Move). p.1) (moves_by_file rs task passes)
    ≡ part (λ n. any passes (step_moves script task n)) (step_moves script task) (length script.steps)
by_file script rs task passes whole records never =
    map_filter passes (flat_map (moves_at rs task) (places rs))
    ∙ ap (filter passes) (moves_only rs task (places rs))
    ∙ filter_flat passes (place_moves rs task) (places rs)
    ∙ moves_of_all (λ i. filter passes (place_moves rs task i)) (length rs)
    ∙ one_of_each script rs _ _ whole records
    (λ i low.
    ap (filter passes) (moves_there script rs task i whole records low)
    ∙ filter_one passes (step_moves script task (step_no script rs i))
    (one_move script task (step_no script rs i) whole (inside i low)))
    (λ n m within_n within_m some also.
    one_step script rs task passes whole records never n m within_n within_m
    (none_kept (any passes (step_moves script task n)) (step_moves script task n) some).0
    (none_kept (any passes (step_moves script task m)) (step_moves script task m) also).0)
  where
    inside : (i : ℕ) → i < length rs → step_no script rs i < length script.steps
    inside i low =
        let (x, is) = get_within rs i low in
        let p = placed script rs i x whole records is in
        slice_get_within script.steps (step_no script rs i) p.step p.stands

-- ---- a task that moves

moved_are : (script : ScriptView) (task : ℕ) → IsWhole script
    → AreParts (step_moves script task) (front_moved script task) (back_moved script task)
    (length script.steps)
moved_are script task whole = record {
  one = λ n within. one_move script task n whole within;
  in_front = λ n m within one front.
      early_move m (any_is is_early_move m (ap (any is_early_move) (sym one) ∙ front));
  behind = λ n m within one back. any_is is_apart m (ap (any is_apart) (sym one) ∙ back);
  not_both = λ n within front. elim (one_move script task n whole within) [
    | inl none ↦ absurd (false≢true (sym (ap (any is_early_move) none) ∙ front))
    | inr (m, one) ↦
        ap (any is_apart) one
        ∙ by m (early_move m (any_is is_early_move m (ap (any is_early_move) (sym one) ∙ front)))
  ];
}
  where
    by : (m : Move) → m ≡ early → any is_apart (m ∷ []) ≡ false
    by m is = ap (λ x. any is_apart (x ∷ [])) is

moved_state : (script : ScriptView) (rs : List Record) (task : ℕ) → IsWhole script → AreRecords script rs
    → (st : State) × (state_by (nature_of rs task) (Some (first_state (nature_of rs task)))
    (map (λ (p : ℕ × Move). p.1) (moved_moves rs task)) ≡ Some st)
moved_state script rs task whole records =
    let kind = nature_of rs task in
    let (st, is, read) =
    read_parts kind (first_state kind) (step_moves script task) (front_moved script task)
    (back_moved script task)
    (length script.steps) (length script.steps) (moved_are script task whole) (omega arith)
    (states_are script rs task whole records) in
    (st, ap (state_by kind (Some (first_state kind))) lists ∙ read.is)
  where
    first : List (ℕ × Move)
    first = moves_by_file rs task is_early_move

    middle : List (ℕ × Move)
    middle = flat_map (turn_moves rs task) (range_with_len 0 (turns_in rs))

    last : List (ℕ × Move)
    last = moves_by_file rs task is_apart

    only : List (ℕ × Move) → List Move
    only = map (λ (p : ℕ × Move). p.1)

    lists : only (moved_moves rs task)
        ≡ part (front_moved script task) (step_moves script task) (length script.steps)
        ++ (part (middle_moved script task) (step_moves script task) (length script.steps)
        ++ part (back_moved script task) (step_moves script task) (length script.steps))
    lists =
        map-append (λ (p : ℕ × Move). p.1) (first ++ middle) last
        ∙ ap (λ l. l ++ only last) (map-append (λ (p : ℕ × Move). p.1) first middle)
        ∙ append_assoc (only first) (only middle) (only last)
        ∙ ap (λ l. l ++ (only middle ++ only last))
        (by_file script rs task is_early_move whole records never_early)
        ∙ ap (λ l. part (front_moved script task) (step_moves script task) (length script.steps)
        ++ (l ++ only last))
        (all_turns script rs task whole records)
        ∙ ap (λ l. part (front_moved script task) (step_moves script task) (length script.steps)
        ++ (part (middle_moved script task) (step_moves script task) (length script.steps) ++ l))
        (by_file script rs task is_apart whole records never_apart)

-- ---- the cause

all_state : (script : ScriptView) (rs : List Record) (task : ℕ) → IsWhole script → AreRecords script rs
    → (st : State) × (state_by (nature_of rs task) (Some (first_state (nature_of rs task)))
    (map (λ (p : ℕ × Move). p.1) (all_moves_of rs task)) ≡ Some st)
all_state script rs task whole records = elim (cases_Bool (has_moved rs task)) [
  | inl moves_on ↦
      let (st, is) = moved_state script rs task whole records in (
        st,
        ap (λ b. state_by (nature_of rs task) (Some (first_state (nature_of rs task)))
            (map (λ (p : ℕ × Move). p.1) (cond b (moved_moves rs task) (moves_of rs task)))) moves_on ∙ is,
      )
  | inr stays_on ↦
      let (st, is) = home_state script rs task whole records stays_on in (
        st,
        ap (λ b. state_by (nature_of rs task) (Some (first_state (nature_of rs task)))
            (map (λ (p : ℕ × Move). p.1) (cond b (moved_moves rs task) (moves_of rs task)))) stays_on ∙ is,
      )
]

none_stuck : (script : ScriptView) (rs : List Record) (i : ℕ) → IsWhole script → AreRecords script rs
    → HasNoState rs i → ⊥
none_stuck script rs i whole records h =
    let (st, is) = all_state script rs h.task whole records in
    none-some st
    (sym (by_none kind (map (λ (p : ℕ × Move). p.1) (drop (h.number + 1) all)))
    ∙ ap (λ o. state_by kind o (map (λ (p : ℕ × Move). p.1) (drop (h.number + 1) all))) (sym none)
    ∙ sym
    (by_append kind (Some (first_state kind)) (map (λ (p : ℕ × Move). p.1) (take (h.number + 1) all))
    (map (λ (p : ℕ × Move). p.1) (drop (h.number + 1) all)))
    ∙ ap (state_by kind (Some (first_state kind)))
    (sym (map-append (λ (p : ℕ × Move). p.1) (take (h.number + 1) all) (drop (h.number + 1) all)))
    ∙ ap (λ l. state_by kind (Some (first_state kind)) (map (λ (p : ℕ × Move). p.1) l))
    (take-append-drop (h.number + 1) all) ∙ is)
  where
    kind : states.Nature
    kind = nature_of rs h.task

    all : List (ℕ × Move)
    all = all_moves_of rs h.task

    none : state_by kind (Some (first_state kind)) (map (λ (p : ℕ × Move). p.1) (take (h.number + 1) all))
        ≡ None
    none =
        fold-map (λ o (m : Move). state_after kind o (0, m)) (λ (p : ℕ × Move). p.1) (Some (first_state kind))
        (take (h.number + 1) all)
        ∙ h.not_allowed

pub none_without_state : (script : ScriptView) (rs : List Record) → IsWhole script → AreRecords script rs
    → IsFreeOf rs StatusOrder
none_without_state script rs whole records i (status_order h) = none_stuck script rs i whole records h
