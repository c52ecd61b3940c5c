-- All moves of a task that moves, as the records of a run tell them turn by turn, lead to a state.
use Rattle.std.proofs.Common.{ℕ, zero, suc, ◌≡◌, ◌∙◌, ◌<◌, ◌≤◌, List, [], ◌∷◌, ◌++◌, length, Bool, true}
use Rattle.std.proofs.Common.{false, Option, Some, None, refl, sym, ap, arith, inl, inr, cond}
use Rattle.std.specs.Prelude.{◌==◌, ◌&&◌, ◌||◌, not, slice_get}
use Rattle.std.specs.Option.{option_map_or}
use Rattle.std.proofs.lemmas.Bool.{cases_Bool, and_parts, or_left, eq-eqb, ne_eqb, eqb-true, false≢true}
use Rattle.std.proofs.lemmas.List.{append-nil, append_assoc}
use Rattle.std.proofs.lemmas.Option.{none-some, same_Some, slice_get_within}
use Rattle.ompt_events.specs.declared.records.Body.{Body}
use Rattle.ompt_events.specs.declared.records.Body.TheVariants.{TaskSchedule}
use Rattle.ompt_events.specs.declared.names.Status.{Status}
use Rattle.ompt_events.specs.declared.names.Status.TheVariants as status
use Rattle.ompt_events.specs.Names.{demands_next}
use Rattle.ompt_events.specs.Records.{started, stopped, begun_root, schedule}
use Rattle.ompt_events.specs.States.{Move, Stopped, is_task, stops, is_early_move, is_apart}
use Rattle.ompt_events.proofs.ListLemmas.{get_within}
use Rattle.ompt_events.proofs.PlaceLemmas.{is_the_task, the_task}
use Rattle.packed_trace.specs.Named.{subject}
use Rattle.scripts.specs.declared.script.Step.{Step}
use Rattle.scripts.specs.Scripts.{ScriptView}
use Rattle.scripts.proofs.CoverLemmas.{stopped_of, at_home, running_of}
use Rattle.scripts.proofs.HomeLemmas.{begun, begins, begins_none, begins_turn, begun_rises, home_some}
use Rattle.scripts.proofs.PartLemmas.{all_moves, part, none_added}
use Rattle.scripts.proofs.PlaceWords.{all_same}
use Rattle.scripts.proofs.RegionLaw.{running_subject, started_object}
use Rattle.scripts.proofs.SoundLemmas.{step_moves, moves_of_step, root_moves}
use Rattle.scripts.proofs.StatusLaw.{TellsMove, it_starts, it_stops, it_discards, tells_move, one_move, any}
use Rattle.scripts.proofs.ValueSteps.{IsWhole, two_apart}

-- ---- the turn in which a step moves the task

-- the step begins this turn of the task by a start, or ends it
abbrev pub starts_in : ScriptView → ℕ → ℕ → ℕ → Bool
starts_in script task turn n =
    option_map_or (λ (s : Step). is_task task (started s.body)) (slice_get script.steps n) false
    && (begun script.steps task n == turn)

abbrev pub ends_in : ScriptView → ℕ → ℕ → ℕ → Bool
ends_in script task turn n =
    option_map_or (λ (s : Step). is_task task (stopped s.body)) (slice_get script.steps n) false
    && (begun script.steps task n == suc turn)

-- the moves by which the first n steps begin the turn, then those by which they end it
abbrev pub of_turn : ScriptView → ℕ → ℕ → ℕ → List Move
of_turn script task n turn =
    part (starts_in script task turn) (step_moves script task) n
    ++ part (ends_in script task turn) (step_moves script task) n

pub starts_is : (script : ScriptView) (task turn n : ℕ) (s : Step) → slice_get script.steps n ≡ Some s
    → starts_in script task turn n ≡ (is_task task (started s.body) && (begun script.steps task n == turn))
starts_is script task turn n s is =
    ap (λ (o : Option Step). option_map_or (λ (q : Step). is_task task (started q.body)) o false
    && (begun script.steps task n == turn)) is

pub ends_is : (script : ScriptView) (task turn n : ℕ) (s : Step) → slice_get script.steps n ≡ Some s
    → ends_in script task turn n ≡ (is_task task (stopped s.body) && (begun script.steps task n == suc turn))
ends_is script task turn n s is =
    ap (λ (o : Option Step). option_map_or (λ (q : Step). is_task task (stopped q.body)) o false
    && (begun script.steps task n == suc turn)) is

pub begins_by_start : (task : ℕ) (body : Body) → is_task task (started body) ≡ true
    → begins_turn task body ≡ true
begins_by_start task body here = or_left (is_task task (started body)) (is_task task (begun_root body)) here

stopped_subject : (body : Body) (task : ℕ) → stopped body ≡ Some task → subject body ≡ Some task
stopped_subject body task is = running_subject body task (running_of body task is)

-- a step that stops the task begins no turn of it
pub stop_begins_none : (script : ScriptView) (n task : ℕ) (s : Step) → IsWhole script
    → slice_get script.steps n ≡ Some s → stopped s.body ≡ Some task
    → (is_task task (started s.body) ≡ false) × (begins_turn task s.body ≡ false)
stop_begins_none script n task s whole is stops = (
  not_started,
  ap (λ b. b || is_task task (begun_root s.body)) not_started ∙ not_root s.body stops,
)
  where
    not_started : is_task task (started s.body) ≡ false
    not_started = elim (cases_Bool (is_task task (started s.body))) [
      | inl here ↦
          absurd
          (two_apart script n s task task whole is (stopped_subject s.body task stops)
          (started_object s.body task (is_the_task task (started s.body) here)) refl)
      | inr fails ↦ fails
    ]

    not_root : (body : Body) → stopped body ≡ Some task → is_task task (begun_root body) ≡ false
    not_root (TaskSchedule st turns prior next claimed) is_so = refl
    not_root _ is_so = absurd (none-some task is_so)

-- and stops it in the turn that was begun last
pub stop_begun : (script : ScriptView) (n task : ℕ) (s : Step) → IsWhole script
    → slice_get script.steps n ≡ Some s
    → stopped s.body ≡ Some task → (turn : ℕ) × (begun script.steps task n ≡ suc turn)
stop_begun script n task s whole is stops =
    let within = slice_get_within script.steps n s is in
    let (k, t, below_n, at_k, of, begins_it, count) =
    home_some script n task s.thread whole (omega (arith, within))
    (at_home script n s task whole is (running_of s.body task stops)) in
    (begun script.steps task k, count)

-- ---- turns that have not begun

pub none_late : (script : ScriptView) (task n turn : ℕ) → IsWhole script → n ≤ length script.steps
    → begun script.steps task n ≤ turn
    → (part (starts_in script task turn) (step_moves script task) n ≡ [])
    × (part (ends_in script task turn) (step_moves script task) n ≡ [])
none_late script task zero turn whole within low = (refl, refl)
none_late script task (suc n) turn whole within low =
    let (s, is) = get_within script.steps n (omega (arith, within)) in
    let rise = begun_rises script.steps task n (suc n) (omega arith) within in
    let (first, second) =
    none_late script task n turn whole (omega (arith, within)) (omega (arith, rise, low)) in (
      none_added (starts_in script task turn) (step_moves script task) n (not_start s is) ∙ first,
      none_added (ends_in script task turn) (step_moves script task) n (not_end s is rise) ∙ second,
    )
  where
    not_start : (s : Step) → slice_get script.steps n ≡ Some s
        → cond (starts_in script task turn n) (step_moves script task n) [] ≡ []
    not_start s is = elim (cases_Bool (starts_in script task turn n)) [
      | inr fails ↦ ap (λ b. cond b (step_moves script task n) []) fails
      | inl holds ↦
          let parts =
          and_parts (is_task task (started s.body)) (begun script.steps task n == turn)
          (sym (starts_is script task turn n s is) ∙ holds) in
          let more = (begins script.steps task n s is (begins_by_start task s.body parts.0)).1 in
          let here = eqb-true (begun script.steps task n) turn parts.1 in
          absurd (omega (arith, more, here, low))
    ]

    not_end : (s : Step) → slice_get script.steps n ≡ Some s
        → begun script.steps task n ≤ begun script.steps task (suc n)
        → cond (ends_in script task turn n) (step_moves script task n) [] ≡ []
    not_end s is rise = elim (cases_Bool (ends_in script task turn n)) [
      | inr fails ↦ ap (λ b. cond b (step_moves script task n) []) fails
      | inl holds ↦
          let parts =
          and_parts (is_task task (stopped s.body)) (begun script.steps task n == suc turn)
          (sym (ends_is script task turn n s is) ∙ holds) in
          let here = eqb-true (begun script.steps task n) (suc turn) parts.1 in
          absurd (omega (arith, here, low, rise))
    ]

-- ---- turn by turn is step by step

-- the moves that neither fulfil early nor end the task
abbrev pub front_moved : ScriptView → ℕ → ℕ → Bool
front_moved script task n = any is_early_move (step_moves script task n)

abbrev pub back_moved : ScriptView → ℕ → ℕ → Bool
back_moved script task n = any is_apart (step_moves script task n)

abbrev pub middle_moved : ScriptView → ℕ → ℕ → Bool
middle_moved script task n =
    not (any is_early_move (step_moves script task n)) && not (any is_apart (step_moves script task n))

demanded_turn : (st : Status) → demands_next st ≡ true
    → (is_early_move (Stopped st) ≡ false) × (is_apart (Stopped st) ≡ false)
demanded_turn status.Yield is = (refl, refl)
demanded_turn status.Switch is = (refl, refl)
demanded_turn status.Complete is = (refl, refl)
demanded_turn status.Cancel is = (refl, refl)
demanded_turn status.Detach is = (refl, refl)
demanded_turn status.EarlyFulfill is = absurd (false≢true is)
demanded_turn status.LateFulfill is = absurd (false≢true is)
demanded_turn status.TaskwaitComplete is = absurd (false≢true is)

undemanded : (st : Status) → demands_next st ≡ false
    → (not (is_early_move (Stopped st) || false) && not (is_apart (Stopped st) || false)) ≡ false
undemanded status.EarlyFulfill is = refl
undemanded status.LateFulfill is = refl
undemanded status.TaskwaitComplete is = refl
undemanded status.Yield is = absurd (false≢true (sym is))
undemanded status.Switch is = absurd (false≢true (sym is))
undemanded status.Complete is = absurd (false≢true (sym is))
undemanded status.Cancel is = absurd (false≢true (sym is))
undemanded status.Detach is = absurd (false≢true (sym is))

unstopped_of : (body : Body) (st : Status) (task : ℕ) (next : Option ℕ)
    → schedule body ≡ Some (st, task, next)
    → demands_next st ≡ false → stopped body ≡ None
unstopped_of (TaskSchedule st2 turns prior next2 claimed) st task next tells none =
    ap (λ b. cond b (Some prior) None)
    (ap (λ (p : Status × ℕ × Option ℕ). demands_next p.0)
    (same_Some (st2, prior, next2) (st, task, next) tells)
    ∙ none)
unstopped_of _ st task next tells none = absurd (none-some (st, task, next) tells)

unstopped : (body : Body) → schedule body ≡ None → stopped body ≡ None
unstopped (TaskSchedule st turns prior next claimed) is = absurd (none-some (st, prior, next) (sym is))
unstopped _ is = refl

pub turned : (script : ScriptView) (task n : ℕ) → IsWhole script → n ≤ length script.steps
    → all_moves (of_turn script task n) (begun script.steps task n)
    ≡ part (middle_moved script task) (step_moves script task) n
turned script task zero whole within = refl
turned script task (suc n) whole within =
    let (s, is) = get_within script.steps n (omega (arith, within)) in
    let before = turned script task n whole (omega (arith, within)) in
    elim (one_move script task n whole (omega (arith, within))) [
      | inl none ↦ idle s is before (λ passes. kept_none passes none)
      | inr (m, one) ↦
          by s is before m one (tells_move task s.body m (sym (moves_of_step script task n s is) ∙ one))
    ]
  where
    μ : ℕ → List Move
    μ = step_moves script task

    c : ℕ
    c = begun script.steps task n

    kept_none : (b : Bool) → μ n ≡ [] → cond b (μ n) [] ≡ []
    kept_none true none = none
    kept_none false none = refl

    not_yet : (turn : ℕ) → c ≤ turn → of_turn script task n turn ≡ []
    not_yet turn low =
        let (first, second) = none_late script task n turn whole (omega (arith, within)) low in
        ap (λ l. l ++ part (ends_in script task turn) μ n) first ∙ second

    -- a turn to which the step adds nothing
    same_turn_moves : (turn : ℕ) → cond (starts_in script task turn n) (μ n) [] ≡ []
        → cond (ends_in script task turn n) (μ n) [] ≡ []
        → of_turn script task (suc n) turn ≡ of_turn script task n turn
    same_turn_moves turn first second =
        ap (λ l. l ++ part (ends_in script task turn) μ (suc n))
        (none_added (starts_in script task turn) μ n first)
        ∙ ap (λ l. part (starts_in script task turn) μ n ++ l)
        (none_added (ends_in script task turn) μ n second)

    -- a step that adds nothing
    idle : (s : Step) → slice_get script.steps n ≡ Some s
        → all_moves (of_turn script task n) c ≡ part (middle_moved script task) μ n
        → ((passes : Bool) → cond passes (μ n) [] ≡ [])
        → all_moves (of_turn script task (suc n)) (begun script.steps task (suc n))
        ≡ part (middle_moved script task) μ (suc n)
    idle s is before none =
        let same_all : (k : ℕ)
        → all_moves (of_turn script task (suc n)) k ≡ all_moves (of_turn script task n) k =
        λ k. all_same (of_turn script task (suc n)) (of_turn script task n) k
        (λ turn low. same_turn_moves turn (none (starts_in script task turn n))
        (none (ends_in script task turn n))) in
        elim (cases_Bool (begins_turn task s.body)) [
          | inr fails ↦
              same_all (begun script.steps task (suc n))
              ∙ ap (all_moves (of_turn script task n)) (begins_none script.steps task n s is fails).1 ∙ before
              ∙ sym (none_added (middle_moved script task) μ n (none (middle_moved script task n)))
          | inl holds ↦
              same_all (begun script.steps task (suc n))
              ∙ ap (all_moves (of_turn script task n)) (begins script.steps task n s is holds).1
              ∙ ap (λ l. all_moves (of_turn script task n) c ++ l) (not_yet c (omega arith))
              ∙ append-nil (all_moves (of_turn script task n) c) ∙ before
              ∙ sym (none_added (middle_moved script task) μ n (none (middle_moved script task n)))
        ]

    middle_is : (m : Move) → μ n ≡ m ∷ []
        → middle_moved script task n ≡ (not (is_early_move m || false) && not (is_apart m || false))
    middle_is m one = ap (λ l. not (any is_early_move l) && not (any is_apart l)) one

    -- a move that is of no turn
    outside : (s : Step) → slice_get script.steps n ≡ Some s
        → all_moves (of_turn script task n) c ≡ part (middle_moved script task) μ n
        → (m : Move) → μ n ≡ m ∷ [] → is_task task (started s.body) ≡ false
        → is_task task (stopped s.body) ≡ false
        → begins_turn task s.body ≡ false
        → (not (is_early_move m || false) && not (is_apart m || false)) ≡ false
        → all_moves (of_turn script task (suc n)) (begun script.steps task (suc n))
        ≡ part (middle_moved script task) μ (suc n)
    outside s is before m one not_started not_stopped none_begins out =
        all_same (of_turn script task (suc n)) (of_turn script task n) (begun script.steps task (suc n))
        (λ turn low. same_turn_moves turn
        (ap (λ b. cond b (μ n) [])
        (starts_is script task turn n s is
        ∙ ap (λ b. b && (begun script.steps task n == turn)) not_started))
        (ap (λ b. cond b (μ n) [])
        (ends_is script task turn n s is
        ∙ ap (λ b. b && (begun script.steps task n == suc turn)) not_stopped)))
        ∙ ap (all_moves (of_turn script task n)) (begins_none script.steps task n s is none_begins).1 ∙ before
        ∙ sym
        (none_added (middle_moved script task) μ n
        (ap (λ b. cond b (μ n) []) (middle_is m one ∙ out)))

    by : (s : Step) → slice_get script.steps n ≡ Some s
        → all_moves (of_turn script task n) c ≡ part (middle_moved script task) μ n
        → (m : Move) → μ n ≡ m ∷ [] → TellsMove task s.body m
        → all_moves (of_turn script task (suc n)) (begun script.steps task (suc n))
        ≡ part (middle_moved script task) μ (suc n)
    by s is before m one (it_discards m_is none also) =
        outside s is before m one (ap (is_task task) none) (ap (is_task task) (unstopped s.body also))
        (ap (λ b. b || is_task task (begun_root s.body)) (ap (is_task task) none) ∙ no_root m one)
        (ap (λ x. not (is_early_move x || false) && not (is_apart x || false)) m_is)
      where
        no_root : (x : Move) → μ n ≡ x ∷ [] → is_task task (begun_root s.body) ≡ false
        no_root x has = elim (cases_Bool (is_task task (begun_root s.body))) [
          | inr fails ↦ fails
          | inl root ↦
              absurd
              (not_empty x
              (sym (sym (moves_of_step script task n s is) ∙ has)
              ∙ root_moves s.body task (is_the_task task (begun_root s.body) root)))
        ]
          where
            not_empty : (y : Move) → y ∷ [] ≡ [] → ⊥
            not_empty y empty = cc
    by s is before m one (it_starts m_is starts) =
        ap (all_moves (of_turn script task (suc n))) (begins script.steps task n s is begins_it).1
        ∙ ap (λ l. l ++ of_turn script task (suc n) c)
        (all_same (of_turn script task (suc n)) (of_turn script task n) c
        (λ turn low. same_turn_moves turn (other_start turn low) (no_end turn)))
        ∙ ap (λ l. l ++ of_turn script task (suc n) c) before
        ∙ ap (λ l. part (middle_moved script task) μ n ++ l) this_turn
        ∙ ap (λ b. part (middle_moved script task) μ n ++ cond b (μ n) [])
        (sym (middle_is m one ∙ ap (λ x. not (is_early_move x || false) && not (is_apart x || false)) m_is))
      where
        here : is_task task (started s.body) ≡ true
        here = the_task task (started s.body) starts

        begins_it : begins_turn task s.body ≡ true
        begins_it = begins_by_start task s.body here

        other_start : (turn : ℕ) → turn < c → cond (starts_in script task turn n) (μ n) [] ≡ []
        other_start turn low =
            ap (λ b. cond b (μ n) [])
            (starts_is script task turn n s is
            ∙ ap (λ b. is_task task (started s.body) && b)
            (ne_eqb c turn (λ e. absurd (omega (arith, low, e))))
            ∙ never (is_task task (started s.body)))
          where
            never : (b : Bool) → (b && false) ≡ false
            never true = refl
            never false = refl

        no_end : (turn : ℕ) → cond (ends_in script task turn n) (μ n) [] ≡ []
        no_end turn = elim (cases_Bool (is_task task (stopped s.body))) [
          | inl stops ↦
              absurd
              (false≢true
              (sym (stop_begins_none script n task s whole is (is_the_task task (stopped s.body) stops)).0
              ∙ here))
          | inr fails ↦
              ap (λ b. cond b (μ n) [])
              (ends_is script task turn n s is ∙ ap (λ b. b && (begun script.steps task n == suc turn)) fails)
        ]

        this_turn : of_turn script task (suc n) c ≡ μ n
        this_turn =
            let (first, second) = none_late script task n c whole (omega (arith, within)) (omega arith) in
            ap (λ l. (l ++ cond (starts_in script task c n) (μ n) [])
            ++ part (ends_in script task c) μ (suc n)) first
            ∙ ap (λ b. cond b (μ n) [] ++ part (ends_in script task c) μ (suc n))
            (starts_is script task c n s is ∙ ap (λ b. b && (c == c)) here ∙ eq-eqb c c refl)
            ∙ ap (λ l. μ n ++ l) (none_added (ends_in script task c) μ n (no_end c) ∙ second)
            ∙ append-nil (μ n)
    by s is before m one (it_stops st next m_is tells) = elim (cases_Bool (demands_next st)) [
      | inr none ↦
          outside s is before m one (not_next (started s.body) refl)
          (ap (is_task task) (unstopped_of s.body st task next tells none))
          (ap (λ b. b || is_task task (begun_root s.body)) (not_next (started s.body) refl)
          ∙ schedule_no_root s.body tells)
          (ap (λ x. not (is_early_move x || false) && not (is_apart x || false)) m_is ∙ undemanded st none)
      | inl demands ↦ ends_turn (stopped_of s.body st task next tells demands) (demanded_turn st demands)
    ]
      where
        schedule_no_root : (body : Body) → schedule body ≡ Some (st, task, next)
            → is_task task (begun_root body) ≡ false
        schedule_no_root (TaskSchedule st2 turns prior next2 claimed) says_it = refl
        schedule_no_root _ says_it = absurd (none-some (st, task, next) says_it)

        schedule_subject : (body : Body) → schedule body ≡ Some (st, task, next) → subject body ≡ Some task
        schedule_subject (TaskSchedule st2 turns prior next2 claimed) says_it =
            ap (λ (p : Status × ℕ × Option ℕ). Some p.1)
            (same_Some (st2, prior, next2) (st, task, next) says_it)
        schedule_subject _ says_it = absurd (none-some (st, task, next) says_it)

        not_next : (o : Option ℕ) → started s.body ≡ o → is_task task o ≡ false
        not_next o started_is = elim (cases_Bool (is_task task o)) [
          | inr fails ↦ fails
          | inl holds ↦
              absurd
              (two_apart script n s task task whole is (schedule_subject s.body tells)
              (started_object s.body task (started_is ∙ is_the_task task o holds)) refl)
        ]

        ends_turn : stopped s.body ≡ Some task
            → (is_early_move (Stopped st) ≡ false) × (is_apart (Stopped st) ≡ false)
            → all_moves (of_turn script task (suc n)) (begun script.steps task (suc n))
            ≡ part (middle_moved script task) μ (suc n)
        ends_turn stops (late, of_some_turn) =
            let (d, last) = stop_begun script n task s whole is stops in
            let none = stop_begins_none script n task s whole is stops in
            ap (all_moves (of_turn script task (suc n)))
            ((begins_none script.steps task n s is none.1).1 ∙ last)
            ∙ ap (λ l. l ++ of_turn script task (suc n) d)
            (all_same (of_turn script task (suc n)) (of_turn script task n) d
            (λ turn low. same_turn_moves turn (no_start turn none.0) (other_end turn d last low)))
            ∙ ap (λ l. all_moves (of_turn script task n) d ++ l)
            (this_turn d last none.0 (the_task task (stopped s.body) stops))
            ∙ sym (append_assoc (all_moves (of_turn script task n) d) (of_turn script task n d) (μ n))
            ∙ ap (λ l. l ++ μ n) (ap (all_moves (of_turn script task n)) (sym last) ∙ before)
            ∙ ap (λ b. part (middle_moved script task) μ n ++ cond b (μ n) [])
            (sym
            (middle_is m one ∙ ap (λ x. not (is_early_move x || false) && not (is_apart x || false)) m_is
            ∙ ap (λ b. not (b || false) && not (is_apart (Stopped st) || false)) late
            ∙ ap (λ b. not (b || false)) of_some_turn))
          where
            no_start : (turn : ℕ) → is_task task (started s.body) ≡ false
                → cond (starts_in script task turn n) (μ n) [] ≡ []
            no_start turn fails =
                ap (λ b. cond b (μ n) [])
                (starts_is script task turn n s is ∙ ap (λ b. b && (begun script.steps task n == turn)) fails)

            other_end : (turn d : ℕ) → c ≡ suc d → turn < d → cond (ends_in script task turn n) (μ n) [] ≡ []
            other_end turn d last low =
                ap (λ b. cond b (μ n) [])
                (ends_is script task turn n s is
                ∙ ap (λ b. is_task task (stopped s.body) && b)
                (ne_eqb c (suc turn) (λ e. absurd (omega (arith, low, last, e))))
                ∙ never (is_task task (stopped s.body)))
              where
                never : (b : Bool) → (b && false) ≡ false
                never true = refl
                never false = refl

            this_turn : (d : ℕ) → c ≡ suc d → is_task task (started s.body) ≡ false
                → is_task task (stopped s.body) ≡ true
                → of_turn script task (suc n) d ≡ of_turn script task n d ++ μ n
            this_turn d last fails holds =
                ap (λ l. l ++ part (ends_in script task d) μ (suc n))
                (none_added (starts_in script task d) μ n (no_start d fails))
                ∙ ap (λ b. part (starts_in script task d) μ n
                ++ (part (ends_in script task d) μ n ++ cond b (μ n) []))
                (ends_is script task d n s is ∙ ap (λ b. b && (c == suc d)) holds ∙ eq-eqb c (suc d) last)
                ∙ sym (append_assoc (part (starts_in script task d) μ n) (part (ends_in script task d) μ n)
                (μ n))
