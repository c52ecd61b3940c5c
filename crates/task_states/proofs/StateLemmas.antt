-- What the states after all records say, and the causes that they exclude.
use Rattle.std.proofs.Common.{◌≡◌, ◌∙◌, ℕ, zero, suc, ◌<◌, ◌≤◌, List, [], ◌∷◌, ◌++◌, length, Option, Some}
use Rattle.std.proofs.Common.{get_or}
use Rattle.std.proofs.Common.{None, Bool, true, false, cond, refl, sym, ap, subst, arith, inl, inr, ◌⊎◌}
use Rattle.std.proofs.lemmas.Bool.{eqb-true, and_parts, false≢true}
use Rattle.std.proofs.lemmas.Option.{none-some, same_Some, slice_get_within}
use Rattle.std.specs.Prelude.{All, IsTrue, ◌==◌, ◌↔◌, map, filter, slice_get, Contains, IsSomeAnd}
use Rattle.std.specs.Prelude.{option_and_then}
use Rattle.std.specs.Option.{option_map_or}
use Rattle.std.specs.List.{flat_map, range_with_len}
use Rattle.std.proofs.lemmas.List.Elements.{Contains-append_cases, Contains-append_left}
use Rattle.ompt_events.specs.declared.records.Record.{Record}
use Rattle.ompt_events.specs.declared.records.Body.{Body}
use Rattle.ompt_events.specs.declared.records.Body.TheVariants.{TaskSchedule, Cancel}
use Rattle.ompt_events.specs.declared.state.State.{State}
use Rattle.ompt_events.specs.declared.cause.Cause.{Cause}
use Rattle.ompt_events.specs.declared.cause.Cause.TheVariants.{NotCurrent, Moved, TurnGap, StatusOrder}
use Rattle.ompt_events.specs.declared.cause.Cause.TheVariants.{RegionOrder}
use Rattle.ompt_events.specs.CauseNames.{cause_number}
use Rattle.ompt_events.specs.Causes.{HasCause, status_order, HasNoState, IsFirstWith, IsFreeOf}
use Rattle.ompt_events.specs.Shown.{AreAllBelow, AreAllWith}
use Rattle.ompt_events.specs.Turns.{is_turn, turns_in}
use Rattle.ompt_events.specs.Flags as flag
use Rattle.ompt_events.specs.Flags.{has_flag}
use Rattle.ompt_events.specs.Records.{made, started, begun_turn, ended_turn, discarded}
use Rattle.ompt_events.specs.Places.{at, places}
use Rattle.ompt_events.specs.States.{Move, Stopped, Started, Discarded, is_task, stops, moves_by, moves_at}
use Rattle.ompt_events.specs.States.{places_of, moves_of, has_moved, turn_starts_at, turn_ends_at, turn_moves}
use Rattle.ompt_events.specs.States.{moves_by_file, moved_moves, all_moves_of, is_early_move, is_apart}
use Rattle.ompt_events.specs.States.{nature_of, state_of}
use Rattle.ompt_events.proofs.PlaceLemmas.{at_within, is_the_task, the_task}
use Rattle.ompt_events.proofs.TurnLemmas.{begun_started}
use Rattle.ompt_events.proofs.ListLemmas.{get_contains, contains_get}
use Rattle.task_tree.specs.Family.{FamilyView, IsFamilyOf}
use Rattle.packed_trace.specs.Named.{subject, object}
use Rattle.task_tree.proofs.SubjectLemmas.{call_index}
use Rattle.task_tree.proofs.LookupLemmas.{subject_calls, object_calls}
use Rattle.ompt_events.specs.declared.fault.Fault.{Fault}
use Rattle.ompt_events.specs.Faults.{FindsFirst, IsFault, IsShownFault}
use Rattle.task_tree.specs.Runs.{RunView, IsRun}
use Rattle.task_tree.specs.OwnOrder.{AreAllPlaces}
use Rattle.task_tree.specs.Own.{OwnView, of_regions, IsOwnFault}
use Rattle.task_tree.specs.Families.{IsOwnOf}
use Rattle.task_tree.proofs.ShownLemmas.{own_fault}
use Rattle.task_states.proofs.ShownFaultLemmas.{shown_alone, shown_before, shown_after}
use Rattle.task_states.specs.Progress.{ProgressView, HasCome, IsMoveRefused}
use Rattle.task_states.specs.Regions.{RegionsView, AreRegions}
use Rattle.task_states.specs.States.{StatesView, AreStates, IsStates, IsLastState}

-- ---- a task that moves is one that a record makes

-- what a record moves it names
named_by : (task : ℕ) (b : Body) (move : Move) → Contains (moves_by task b) move
    → (subject b ≡ Some task) ⊎ (object b ≡ Some task)
named_by task (TaskSchedule status turns prior next claimed) move has =
    of (prior == task) refl (is_task task next) refl has
  where
    of : (a : Bool) → prior == task ≡ a → (b : Bool) → is_task task next ≡ b
        → Contains ((cond a (Stopped status ∷ []) [] ++ cond b (Started ∷ []) []) ++ []) move
        → (Some prior ≡ Some task) ⊎ (next ≡ Some task)
    of true e b e' has' = inl (ap Some (eqb-true prior task e))
    of false e true e' has' = inr (is_the_task task next e')
    of false e false e' (i, low, is) = absurd (omega arith)
named_by task (Cancel flags t claimed) move has = of (has_flag flags.0 flag.discarded_task) has
  where
    of : (b : Bool) → Contains (cond (is_task task (cond b (Some t) None)) (Discarded ∷ []) []) move
        → (Some t ≡ Some task) ⊎ (None ≡ Some task)
    of false (i, low, is) = absurd (omega arith)
    of true has' = discards (t == task) refl has'
      where
        discards : (b : Bool) → t == task ≡ b → Contains (cond b (Discarded ∷ []) []) move
            → (Some t ≡ Some task) ⊎ (None ≡ Some task)
        discards true e has'' = inl (ap Some (eqb-true t task e))
        discards false e (i, low, is) = absurd (omega arith)
named_by task _ move (i, low, is) = absurd (omega arith)

-- each move of a place has the place
labelled : (k i : ℕ) (move : Move) (moves : List Move)
    → Contains {X = ℕ × Move} (map (λ m. (k, m)) moves) (i, move) → (k ≡ i) × Contains moves move
labelled k i move [] (j, low, is) = absurd (omega arith)
labelled k i move (m ∷ ms) (zero, low, is) =
    (ap (λ (p : ℕ × Move). p.0) is, (0, omega arith, ap (λ (p : ℕ × Move). p.1) is))
labelled k i move (m ∷ ms) (suc j, low, is) =
    let (same, (n, below, at_n)) = labelled k i move ms (j, omega (arith, low), is) in
    (same, (suc n, omega (arith, below), at_n))

-- a move of the task is one that the record at its place makes
of_places : (rs : List Record) (task i : ℕ) (move : Move) (ks : List ℕ)
    → Contains (flat_map (moves_at rs task) ks) (i, move) → Contains (moves_at rs task i) (i, move)
of_places rs task i move [] (j, low, is) = absurd (omega arith)
of_places rs task i move (k ∷ ks) has =
    of (Contains-append_cases (moves_at rs task k) (flat_map (moves_at rs task) ks) (i, move) has)
    (of_places rs task i move ks)
  where
    of : Contains (moves_at rs task k) (i, move) ⊎ Contains (flat_map (moves_at rs task) ks) (i, move)
        → (Contains (flat_map (moves_at rs task) ks) (i, move) → Contains (moves_at rs task i) (i, move))
        → Contains (moves_at rs task i) (i, move)
    of (inl here) more =
        let P : ℕ → Type 0 = λ n. Contains (moves_at rs task n) (i, move) in
        subst P (labelled k i move _ here).0 here
    of (inr later) more = more later

moved_there : (rs : List Record) (task i : ℕ) (move : Move) → Contains (moves_at rs task i) (i, move)
    → (i < length rs) × ((at subject rs i ≡ Some task) ⊎ (at object rs i ≡ Some task))
moved_there rs task i move has = of (slice_get rs i) refl has
  where
    of : (o : Option Record) → slice_get rs i ≡ o
        → Contains {X = ℕ × Move}
        (map (λ m. (i, m)) (option_map_or (λ (r : Record). moves_by task r.body) o [])) (i, move)
        → (i < length rs) × ((at subject rs i ≡ Some task) ⊎ (at object rs i ≡ Some task))
    of None e (j, low, is) = absurd (omega arith)
    of (Some r) e has' = (
      slice_get_within rs i r e,
      elim (named_by task r.body move (labelled i i move (moves_by task r.body) has').1) [
        | inl is ↦ inl (ap (option_and_then (λ (q : Record). subject q.body)) e ∙ is)
        | inr is ↦ inr (ap (option_and_then (λ (q : Record). object q.body)) e ∙ is)
      ],
    )

-- a move by which it begins a turn is one that the record makes, as is one by which it ends it
start_there : (rs : List Record) (task turn k i : ℕ) (move : Move)
    → Contains (turn_starts_at rs task turn k) (i, move) → Contains (moves_at rs task i) (i, move)
start_there rs task turn k i move has = of (is_turn task turn (at begun_turn rs k)) refl has
  where
    of : (b : Bool) → is_turn task turn (at begun_turn rs k) ≡ b
        → Contains {X = ℕ × Move} (cond b ((k, Started) ∷ []) []) (i, move)
        → Contains (moves_at rs task i) (i, move)
    of false e (j, low, is) = absurd (omega arith)
    of true e (suc j, low, is) = absurd (omega arith)
    of true e (zero, low, is) =
        subst (λ (s : ℕ × Move). Contains (moves_at rs task s.0) s) is
        (makes (begun_started rs k task turn (turn_is (at begun_turn rs k) e)))
      where
        turn_is : (o : Option (ℕ × ℕ)) → is_turn task turn o ≡ true → o ≡ Some (task, turn)
        turn_is None e' = absurd (false≢true e')
        turn_is (Some b) e' =
            let (own, same) = and_parts (b.0 == task) (b.1 == turn) e' in
            ap (λ t. Some (t, b.1)) (eqb-true b.0 task own)
            ∙ ap (λ t. Some (task, t)) (eqb-true b.1 turn same)

        makes : at started rs k ≡ Some task → Contains {X = ℕ × Move} (moves_at rs task k) (k, Started)
        makes starts = there (slice_get rs k) refl starts
          where
            body : (b : Body) → started b ≡ Some task
                → Contains {X = ℕ × Move} (map (λ m. (k, m)) (moves_by task b)) (k, Started)
            body (TaskSchedule status turns prior next claimed) is' =
                subst
                (λ c.
                Contains {X = ℕ × Move}
                (map (λ m. (k, m))
                ((cond (prior == task) (Stopped status ∷ []) [] ++ cond c (Started ∷ []) [])
                ++ []))
                (k, Started))
                (sym (the_task task next is')) (after (prior == task))
              where
                after : (c : Bool)
                    → Contains {X = ℕ × Move}
                    (map (λ m. (k, m)) ((cond c (Stopped status ∷ []) [] ++ Started ∷ []) ++ []))
                    (k, Started)
                after true = (1, omega arith, refl)
                after false = (0, omega arith, refl)
            body _ is' = absurd (none-some task is')

            there : (o : Option Record) → slice_get rs k ≡ o
                → option_and_then (λ (r : Record). started r.body) o ≡ Some task
                → Contains (moves_at rs task k) (k, Started)
            there None e' is' = absurd (none-some task is')
            there (Some r) e' is' =
                let P : Option Record → Type 0 =
                λ o.
                Contains {X = ℕ × Move}
                (map (λ m. (k, m)) (option_map_or (λ (q : Record). moves_by task q.body) o []))
                (k, Started) in
                subst P (sym e') (body r.body is')

with_place : (k : ℕ) (move : Move) (moves : List Move) → Contains moves move
    → Contains {X = ℕ × Move} (map (λ m. (k, m)) moves) (k, move)
with_place k move [] (i, low, is) = absurd (omega arith)
with_place k move (m ∷ ms) (zero, low, is) = (0, omega arith, ap {B = ℕ × Move} (λ n. (k, n)) is)
with_place k move (m ∷ ms) (suc i, low, is) =
    let (j, low', is') = with_place k move ms (i, omega (arith, low), is) in (suc j, omega (arith, low'), is')

end_there : (rs : List Record) (task turn k i : ℕ) (move : Move)
    → Contains (turn_ends_at rs task turn k) (i, move) → Contains (moves_at rs task i) (i, move)
end_there rs task turn k i move has = of (is_turn task turn (at ended_turn rs k)) has
  where
    stopped_there : Option Record → List Move
    stopped_there o = option_map_or (λ (r : Record). stops task r.body) o []

    body : (b : Body) → Contains (stops task b) move → Contains (moves_by task b) move
    body b has' =
        let started_too : List Move = cond (is_task task (started b)) (Started ∷ []) [] in
        let discarded_too : List Move = cond (is_task task (discarded b)) (Discarded ∷ []) [] in
        Contains-append_left (stops task b ++ started_too) discarded_too move
        (Contains-append_left (stops task b) started_too move has')

    there : (o : Option Record) → Contains (stopped_there o) move
        → Contains (option_map_or (λ (r : Record). moves_by task r.body) o []) move
    there None has' = has'
    there (Some r) has' = body r.body has'

    of : (b : Bool)
        → Contains {X = ℕ × Move} (cond b (map (λ m. (k, m)) (stopped_there (slice_get rs k))) []) (i, move)
        → Contains (moves_at rs task i) (i, move)
    of false (j, low, is) = absurd (omega arith)
    of true has' =
        let (same, makes) = labelled k i move (stopped_there (slice_get rs k)) has' in
        let P : ℕ → Type 0 = λ n. Contains {X = ℕ × Move} (moves_at rs task n) (n, move) in
        subst P same
        (with_place k move (option_map_or (λ (r : Record). moves_by task r.body) (slice_get rs k) [])
        (there (slice_get rs k) makes))

-- what passes of a list is in the list
kept_in : {X : Type 0} (p : X → Bool) (xs : List X) (x : X) → Contains (filter p xs) x → Contains xs x
kept_in p [] x has = has
kept_in p (y ∷ ys) x has =
    by (p y)
    (λ (has' : Contains (filter p ys) x).
    let (i, low, is) = kept_in p ys x has' in (suc i, omega (arith, low), is))
    has
  where
    by : (b : Bool) → (Contains (filter p ys) x → Contains (y ∷ ys) x)
        → Contains (cond b (y ∷ filter p ys) (filter p ys)) x → Contains (y ∷ ys) x
    by false later has' = later has'
    by true later (zero, low, is) = (0, omega arith, is)
    by true later (suc i, low, is) = later (i, omega (arith, low), is)

-- a part of many has what all have
of_parts : {X : Type 0} (f : X → List (ℕ × Move)) (step : ℕ × Move) (P : Type 0)
    → ((x : X) → Contains (f x) step → P) → (xs : List X) → Contains (flat_map f xs) step → P
of_parts f step P part [] (j, low, is) = absurd (omega arith)
of_parts f step P part (x ∷ xs) has =
    of (Contains-append_cases (f x) (flat_map f xs) step has) (of_parts f step P part xs)
  where
    of : Contains (f x) step ⊎ Contains (flat_map f xs) step → (Contains (flat_map f xs) step → P) → P
    of (inl here) more = part x here
    of (inr later) more = more later

-- each move of the task is one that the record at its place makes
moved_by : (rs : List Record) (task i : ℕ) (move : Move) → Contains (all_moves_of rs task) (i, move)
    → Contains (moves_at rs task i) (i, move)
moved_by rs task i move has = by (has_moved rs task) has
  where
    step : ℕ × Move
    step = (i, move)

    There : Type 0
    There = Contains (moves_at rs task i) (i, move)

    by_file : (passes : Move → Bool) → Contains (moves_by_file rs task passes) step → There
    by_file passes has' =
        of_places rs task i move (places rs)
        (kept_in (λ (s : ℕ × Move). passes s.1) (flat_map (moves_at rs task) (places rs)) step has')

    by_turn : (turn : ℕ) → Contains (turn_moves rs task turn) step → There
    by_turn turn has' =
        elim
        (Contains-append_cases (flat_map (turn_starts_at rs task turn) (places rs))
        (flat_map (turn_ends_at rs task turn) (places rs)) step has') [
          | inl starts ↦
              of_parts (turn_starts_at rs task turn) step There (λ k. start_there rs task turn k i move)
              (places rs) starts
          | inr ends ↦
              of_parts (turn_ends_at rs task turn) step There (λ k. end_there rs task turn k i move)
              (places rs)
              ends
        ]

    turns : List (ℕ × Move)
    turns = flat_map (turn_moves rs task) (range_with_len 0 (turns_in rs))

    by : (b : Bool) → Contains (cond b (moved_moves rs task) (moves_of rs task)) step → There
    by false has' = of_places rs task i move (places_of rs task) has'
    by true has' =
        elim
        (Contains-append_cases (moves_by_file rs task is_early_move ++ turns)
        (moves_by_file rs task is_apart) step has') [
          | inl before ↦
              elim (Contains-append_cases (moves_by_file rs task is_early_move) turns step before) [
                | inl early ↦ by_file is_early_move early
                | inr turning ↦
                    of_parts (turn_moves rs task) step There by_turn (range_with_len 0 (turns_in rs)) turning
              ]
          | inr apart ↦ by_file is_apart apart
        ]

refused_there : (rs : List Record) (family : FamilyView) (task i : ℕ) → IsFamilyOf rs family
    → IsMoveRefused (nature_of rs task) (all_moves_of rs task) i
    → (i < length rs) × Contains family.tasks task
refused_there rs family task i are refused =
    let has =
    moved_by rs task i refused.move
    (get_contains (all_moves_of rs task) (i, refused.move) refused.number refused.made_there) in
    let (within, names) = moved_there rs task i refused.move has in (
      within,
      elim names [
        | inl is ↦
            let (index, found, stands) =
            call_index family.tasks (at subject rs i) _ task (subject_calls rs family i are) is in
            get_contains family.tasks task index stands
        | inr is ↦
            let (index, found, stands) =
            call_index family.tasks (at object rs i) _ task (object_calls rs family i are) is in
            get_contains family.tasks task index stands
      ],
    )

-- ---- the cause that is looked for

state_of_cause : (rs : List Record) (i : ℕ) → HasCause rs i StatusOrder → HasNoState rs i
state_of_cause rs i (status_order h) = h

refused_of : (rs : List Record) (i : ℕ) → (h : HasNoState rs i)
    → IsMoveRefused (nature_of rs h.task) (all_moves_of rs h.task) i
refused_of rs i h = record {
  number = h.number;
  move = h.move;
  made_there = h.made_there;
  allowed = h.allowed;
  not_allowed = h.not_allowed;
}

no_state_of : (rs : List Record) (task i : ℕ) → IsMoveRefused (nature_of rs task) (all_moves_of rs task) i
    → HasNoState rs i
no_state_of rs task i all = record {
  task = task;
  number = all.number;
  move = all.move;
  made_there = all.made_there;
  allowed = all.allowed;
  not_allowed = all.not_allowed;
}

none_refused : (rs : List Record) (family : FamilyView) (progress : ProgressView) → IsFamilyOf rs family
    → HasCome rs family.tasks (all_moves_of rs) progress → progress.refused ≡ None → IsFreeOf rs StatusOrder
none_refused rs family progress are come none i has =
    let h = state_of_cause rs i has in
    let refused = refused_of rs i h in
    let P : Option ℕ → Type 0 = λ o. IsSomeAnd o (λ first. first ≤ i) in
    subst P none (come.least h.task i (refused_there rs family h.task i are refused).1 refused)

first_refused : (rs : List Record) (family : FamilyView) (progress : ProgressView) (i : ℕ)
    → IsFamilyOf rs family → HasCome rs family.tasks (all_moves_of rs) progress → progress.refused ≡ Some i
    → IsFirstWith rs StatusOrder i
first_refused rs family progress i are come some =
    let (task, refused) = come.found i some in
    record {
      within = (refused_there rs family task i are refused).0;
      has = status_order (no_state_of rs task i refused);
      first = λ k below has.
          let h = state_of_cause rs k has in
          let before = refused_of rs k h in
          let P : Option ℕ → Type 0 = λ o. IsSomeAnd o (λ first. first ≤ k) in
          let less : i ≤ k =
          subst P some (come.least h.task k (refused_there rs family h.task k are before).1 before) in
          absurd (omega (arith, less, below));
    }

pub refused_first : (rs : List Record) (family : FamilyView) (progress : ProgressView) (found : Option ℕ)
    → IsFamilyOf rs family → HasCome rs family.tasks (all_moves_of rs) progress → found ≡ progress.refused
    → FindsFirst rs StatusOrder found
refused_first rs family progress None are come same = none_refused rs family progress are come (sym same)
refused_first rs family progress (Some i) are come same =
    first_refused rs family progress i are come (sym same)

-- the places that are marked are those of all such records
pub refused_all : (rs : List Record) (family : FamilyView) (progress : ProgressView) (places : List ℕ)
    → IsFamilyOf rs family → HasCome rs family.tasks (all_moves_of rs) progress
    → length progress.marks ≡ length rs
    → AreAllBelow (λ i. IsTrue (get_or progress.marks i false)) (length progress.marks) places
    → AreAllWith rs StatusOrder places
refused_all rs family progress places are come all found = record {
  rising = found.rising;
  within = subst (λ n. All (λ place. place < n) places) all found.within;
  hold = λ k d inside.
      let (task, known, refused) =
      (come.marked (get_or places k d) (found.within k d inside)).0 (found.hold k d inside) in
      status_order (no_state_of rs task (get_or places k d) refused);
  complete = λ i has.
      let h = state_of_cause rs i has in
      let refused = refused_of rs i h in
      let (inside, known) = refused_there rs family h.task i are refused in
      let within : i < length progress.marks = omega (arith, inside, all) in
      found.complete i within ((come.marked i within).1 (h.task, known, refused));
}

-- ---- the least of the five

after_status : (other : Cause) → Contains (RegionOrder ∷ []) other → cause_number other < 6 → ⊥
after_status other (zero, below, is) less = let number = ap cause_number is in omega (arith, number, less)
after_status other (suc k, below, is) less = omega arith

after_gap : (other : Cause) → Contains (StatusOrder ∷ RegionOrder ∷ []) other → cause_number other < 5 → ⊥
after_gap other (zero, below, is) less = let number = ap cause_number is in omega (arith, number, less)
after_gap other (suc k, below, is) less = after_status other (k, omega arith, is) (omega arith)

after_moved : (other : Cause) → Contains (TurnGap ∷ StatusOrder ∷ RegionOrder ∷ []) other
    → cause_number other < 5 → ⊥
after_moved other (zero, below, is) less = let number = ap cause_number is in omega (arith, number, less)
after_moved other (suc k, below, is) less = after_gap other (k, omega arith, is) less

after_current : (other : Cause) → Contains (Moved ∷ TurnGap ∷ StatusOrder ∷ RegionOrder ∷ []) other
    → cause_number other < 4 → ⊥
after_current other (zero, below, is) less = let number = ap cause_number is in omega (arith, number, less)
after_current other (suc k, below, is) less = after_moved other (k, omega arith, is) (omega arith)

-- the trace shows the first four where a record has them
pub fault_current : (rs : List Record) (fault : Fault) → IsFault rs (NotCurrent ∷ []) fault
    → IsShownFault rs (NotCurrent ∷ Moved ∷ TurnGap ∷ StatusOrder ∷ RegionOrder ∷ []) fault
fault_current rs fault found =
    shown_before rs NotCurrent (Moved ∷ TurnGap ∷ StatusOrder ∷ RegionOrder ∷ []) fault after_current
    (shown_alone rs NotCurrent fault (λ i. (λ h. h, λ h. h)) found)

pub fault_moved : (rs : List Record) (fault : Fault) → IsFreeOf rs NotCurrent → IsFault rs (Moved ∷ []) fault
    → IsShownFault rs (NotCurrent ∷ Moved ∷ TurnGap ∷ StatusOrder ∷ RegionOrder ∷ []) fault
fault_moved rs fault current found =
    shown_after rs NotCurrent (Moved ∷ TurnGap ∷ StatusOrder ∷ RegionOrder ∷ []) fault current
    (shown_before rs Moved (TurnGap ∷ StatusOrder ∷ RegionOrder ∷ []) fault after_moved
    (shown_alone rs Moved fault (λ i. (λ h. h, λ h. h)) found))

pub fault_gap : (rs : List Record) (fault : Fault) → IsFreeOf rs NotCurrent → IsFreeOf rs Moved
    → IsFault rs (TurnGap ∷ []) fault
    → IsShownFault rs (NotCurrent ∷ Moved ∷ TurnGap ∷ StatusOrder ∷ RegionOrder ∷ []) fault
fault_gap rs fault current stay found =
    shown_after rs NotCurrent (Moved ∷ TurnGap ∷ StatusOrder ∷ RegionOrder ∷ []) fault current
    (shown_after rs Moved (TurnGap ∷ StatusOrder ∷ RegionOrder ∷ []) fault stay
    (shown_before rs TurnGap (StatusOrder ∷ RegionOrder ∷ []) fault after_gap
    (shown_alone rs TurnGap fault (λ i. (λ h. h, λ h. h)) found)))

-- a fault behind the first three causes
behind_gap : (rs : List Record) (fault : Fault) → IsFreeOf rs NotCurrent → IsFreeOf rs Moved
    → IsFreeOf rs TurnGap → IsShownFault rs (StatusOrder ∷ RegionOrder ∷ []) fault
    → IsShownFault rs (NotCurrent ∷ Moved ∷ TurnGap ∷ StatusOrder ∷ RegionOrder ∷ []) fault
behind_gap rs fault current stay gapless found =
    shown_after rs NotCurrent (Moved ∷ TurnGap ∷ StatusOrder ∷ RegionOrder ∷ []) fault current
    (shown_after rs Moved (TurnGap ∷ StatusOrder ∷ RegionOrder ∷ []) fault stay
    (shown_after rs TurnGap (StatusOrder ∷ RegionOrder ∷ []) fault gapless found))

pub fault_status : (rs : List Record) (fault : Fault) → IsFreeOf rs NotCurrent → IsFreeOf rs Moved
    → IsFreeOf rs TurnGap → IsFault rs (StatusOrder ∷ []) fault
    → IsShownFault rs (NotCurrent ∷ Moved ∷ TurnGap ∷ StatusOrder ∷ RegionOrder ∷ []) fault
fault_status rs fault current stay gapless found =
    behind_gap rs fault current stay gapless
    (shown_before rs StatusOrder (RegionOrder ∷ []) fault after_status
    (shown_alone rs StatusOrder fault (λ i. (λ h. h, λ h. h)) found))

-- and the last where a record has it in the tasks' own order
pub fault_region : (rs : List Record) (own : OwnView) (fault : Fault) → IsOwnOf rs own
    → AreAllPlaces own.places (length own.run.records) → IsFreeOf rs NotCurrent → IsFreeOf rs Moved
    → IsFreeOf rs TurnGap → IsFreeOf rs StatusOrder → IsOwnFault own RegionOrder fault
    → IsShownFault rs (NotCurrent ∷ Moved ∷ TurnGap ∷ StatusOrder ∷ RegionOrder ∷ []) fault
fault_region rs own fault of all current stay gapless ordered found =
    behind_gap rs fault current stay gapless
    (shown_after rs StatusOrder (RegionOrder ∷ []) fault ordered
    (own_fault rs own RegionOrder fault of_regions of all found))

-- ---- the states after all records

-- the state that was read
pub last_is : (states : StatesView) (task index : ℕ) (read : Option State) → IsStates states
    → slice_get states.run.family.tasks index ≡ Some task → slice_get states.states index ≡ Some read
    → IsLastState states.run.records task read
last_is states task index read are stands read_there =
    let rs = states.run.records in (
      λ made.
          same_Some read (state_of (nature_of rs task) (all_moves_of rs task))
          (sym read_there ∙ are.each index task stands),
      λ unmade. let (place, within, makes) =
          are.run.family.noted.only task (get_contains states.run.family.tasks task index stands) in
          absurd (unmade (place, makes)),
    )

pub last_none : (states : StatesView) (task : ℕ) (index : Option ℕ) → IsStates states
    → ((k : ℕ) → (index ≡ Some k) ↔ (slice_get states.run.family.tasks k ≡ Some task)) → index ≡ None
    → IsLastState states.run.records task None
last_none states task index are is none = (
  λ (place, makes). let (k, stands) =
      contains_get states.run.family.tasks task
      (are.run.family.noted.each place task (at_within made states.run.records place task makes) makes) in
      absurd (none-some k (sym none ∙ (is k).1 stands)),
  λ unmade. refl,
)

-- the states that were found, with the regions, are those of the run
pub are_states : (found run : RunView) (own : OwnView) (states : List (Option State)) (regions : RegionsView)
    → found ≡ run → IsRun found → IsOwnOf run.records own → length states ≡ length found.family.tasks
    → AreStates found.records found.family.tasks states → regions.own ≡ own → AreRegions regions
    → IsStates (record { run = run; states = states; regions = regions })
are_states found run own states regions same is_run is_own all each of_own are =
    let P : RunView → Type 0 = λ r. AreStates r.records r.family.tasks states in
    let Q : OwnView → Type 0 = IsOwnOf run.records in
    record {
      run = subst IsRun same is_run;
      all = rw same at all;
      each = subst P same each;
      own = subst Q (sym of_own) is_own;
      regions = are;
    }
