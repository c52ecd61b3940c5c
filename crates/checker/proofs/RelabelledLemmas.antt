-- Two lists of records that are the same but for what their versions say of nesting, and for what the ends of
-- initial and implicit tasks say of their teams: they have the same turns, the same own order of each task,
-- the same moves and the same steps.
use Rattle.std.proofs.Common.{◌≡◌, ◌∙◌, ℕ, suc, ◌+◌, List, [], ◌∷◌, ◌++◌, Option, Some}
use Rattle.std.proofs.Common.{None, Bool, false, max, refl, sym, ap, map, cond}
use Rattle.std.specs.Prelude.{◌==◌, ◌&&◌, not, is_some, slice_get, option_map, option_and_then, take, filter}
use Rattle.std.specs.List.{filter_map, cons_option, flat_map, range_with_len, position_or_len, find}
use Rattle.std.specs.Option.{option_map_or}
use Rattle.ompt_events.specs.declared.records.Record.{Record}
use Rattle.ompt_events.specs.declared.records.Body.{Body}
use Rattle.ompt_events.specs.declared.records.Body.TheVariants.{TaskSchedule, ImplicitTask}
use Rattle.ompt_events.specs.declared.names.Endpoint.TheVariants.{End}
use Rattle.ompt_events.specs.Records.{running, started, told_turns, begun_turn, ended_turn, suspended_turn}
use Rattle.ompt_events.specs.Places.{at, places}
use Rattle.ompt_events.specs.Turns.{turn_after, turn_in, turn_of, turn_at, turns_in, own_places, in_own_order}
use Rattle.ompt_events.specs.Turns.{own_place, is_turn}
use Rattle.ompt_events.specs.States.{Move, Started, stops, is_task, is_on, home_of, has_moved, moves_at}
use Rattle.ompt_events.specs.States.{moves_by_file, turn_starts_at, turn_ends_at, turn_moves, moved_moves}
use Rattle.ompt_events.specs.States.{moves_of, all_moves_of, is_early_move, is_apart}
use Rattle.ompt_events.specs.HappensBefore.{resumption}
use Rattle.ompt_events.specs.Upgrades.{nesting}
use Rattle.ompt_events.specs.Ends.{without_team}
use Rattle.task_tree.proofs.BlindLemmas.{IsBlind}
use Rattle.checker.proofs.MappedLemmas.{AreSameBy, get_by, take_by, filter_by, fold_by}
use Rattle.checker.proofs.TwinLemmas.{AreTwins, blank}
use Rattle.checker.proofs.TwinMoveLemmas.{twin_places, filter_same, find_same, flat_same, twin_on, read_same}
use Rattle.checker.proofs.TwinMoveLemmas.{twin_moves_at, twin_moves_of}
use Rattle.checker.proofs.TwinStepLemmas.{KeepsSteps, HaveSameSteps}
use Rattle.checker.proofs.TeamBlindLemmas.{IsTeamBlind, team_untold, team_told, team_begun}
use Rattle.checker.proofs.TeamBlindLemmas.{team_ended, team_suspended, team_started, team_running}

-- the record without what its version says of nesting, and without what an end says of a team
abbrev pub plain : Record → Record
plain r = record { thread = r.thread; nests = false; seq = r.seq; seen = r.seen; body = without_team r.body }

-- the lists are the same without these
abbrev pub AreRelabelled : List Record → List Record → Type 0
AreRelabelled rs ss = AreSameBy plain rs ss

pub relabelled_back : (rs ss : List Record) → AreRelabelled rs ss → AreRelabelled ss rs
relabelled_back rs ss same = sym same

-- a trace of version 2, and what it is in version 3
pub nesting_relabelled : (rs : List Record) → AreRelabelled rs (map nesting rs)
nesting_relabelled [] = refl
nesting_relabelled (r ∷ rs) = ap (λ l. plain r ∷ l) (nesting_relabelled rs)

pub relabelled_twins : (rs ss : List Record) → AreRelabelled rs ss → AreTwins rs ss
relabelled_twins rs ss same = sym (through rs) ∙ ap (map blank) same ∙ through ss
  where
    through : (l : List Record) → map blank (map plain l) ≡ map blank l
    through [] = refl
    through (r ∷ l) =
        ap (λ m. blank (plain r) ∷ m) (through l) ∙ ap (λ b. saying r b ∷ map blank l) (team_untold r.body)
      where
        saying : Record → Body → Record
        saying q b = record { thread = q.thread; nests = false; seq = q.seq; seen = q.seen; body = b }

-- ---- at a place

pub same_at : {X : Type 0} (f : Body → Option X) → IsTeamBlind f → (rs ss : List Record) (i : ℕ)
    → AreRelabelled rs ss → at f rs i ≡ at f ss i
same_at {X} f blind rs ss i same =
    sym (through (slice_get rs i))
    ∙ ap (option_and_then (λ (r : Record). f r.body)) (get_by plain rs ss i same)
    ∙ through (slice_get ss i)
  where
    through : (o : Option Record)
        → option_and_then (λ (r : Record). f r.body) (option_map plain o)
        ≡ option_and_then (λ (r : Record). f r.body) o
    through None = refl
    through (Some r) = blind r.body

pub says_same : {X : Type 0} (f : Body → Option X) → IsTeamBlind f → (x : X) (rs ss : List Record) (i : ℕ)
    → AreRelabelled rs ss → at f rs i ≡ Some x → at f ss i ≡ Some x
says_same f blind x rs ss i same is = sym (same_at f blind rs ss i same) ∙ is

-- ---- turns

same_turn_in : (rs ss : List Record) (task thread n : ℕ) → AreRelabelled rs ss
    → turn_in task (filter (λ (q : Record). q.thread == thread) (take n rs))
    ≡ turn_in task (filter (λ (q : Record). q.thread == thread) (take n ss))
same_turn_in rs ss task thread n same =
    let on : Record → Bool = λ q. q.thread == thread in
    fold_by plain (turn_after task)
    (λ turn r.
    ap (λ o. option_map_or (λ (b : ℕ × ℕ). cond (b.0 == task) b.1 turn) o turn) (team_begun r.body))
    0 (filter on (take n rs)) (filter on (take n ss))
    (filter_by plain on (λ r. refl) (take n rs) (take n ss) (take_by plain rs ss n same))

pub same_turn : (rs ss : List Record) (i : ℕ) → AreRelabelled rs ss → turn_at rs i ≡ turn_at ss i
same_turn rs ss i same =
    sym (through rs (slice_get rs i))
    ∙ ap (λ o. option_map_or (λ (r : Record). turn_of rs r i) o 0) (get_by plain rs ss i same)
    ∙ between (option_map plain (slice_get ss i))
    ∙ through ss (slice_get ss i)
  where
    through : (l : List Record) (o : Option Record)
        → option_map_or (λ (r : Record). turn_of l r i) (option_map plain o) 0
        ≡ option_map_or (λ (r : Record). turn_of l r i) o 0
    through l None = refl
    through l (Some r) =
        let own : List Record = filter (λ (q : Record). q.thread == r.thread) (take i l) in
        ap (λ o. option_map_or (λ task. turn_in task own) o 0) (team_running r.body)

    of_task : (r : Record) (o : Option ℕ)
        → option_map_or (λ task. turn_in task (filter (λ (q : Record). q.thread == r.thread) (take i rs))) o 0
        ≡ option_map_or (λ task. turn_in task (filter (λ (q : Record). q.thread == r.thread) (take i ss))) o 0
    of_task r None = refl
    of_task r (Some task) = same_turn_in rs ss task r.thread i same

    between : (o : Option Record)
        → option_map_or (λ (r : Record). turn_of rs r i) o 0
        ≡ option_map_or (λ (r : Record). turn_of ss r i) o 0
    between None = refl
    between (Some r) = of_task r (running r.body)

same_turns : (rs ss : List Record) → AreRelabelled rs ss → turns_in rs ≡ turns_in ss
same_turns rs ss same =
    ap suc
    (fold_by plain
    (λ (most : ℕ) (r : Record). max most (option_map_or (λ (b : ℕ × ℕ). b.1) (begun_turn r.body) 0))
    (λ most r. ap (λ o. max most (option_map_or (λ (b : ℕ × ℕ). b.1) o 0)) (team_begun r.body)) 0 rs ss same)

pub same_places : (rs ss : List Record) → AreRelabelled rs ss → places rs ≡ places ss
same_places rs ss same = twin_places rs ss (relabelled_twins rs ss same)

-- ---- the tasks' own order

pub same_own_places : (rs ss : List Record) → AreRelabelled rs ss → own_places rs ≡ own_places ss
same_own_places rs ss same =
    flat_same (of_turn rs) (of_turn ss) each (range_with_len 0 (turns_in rs))
    ∙ ap (λ n. flat_map (of_turn ss) (range_with_len 0 n)) (same_turns rs ss same)
  where
    of_turn : List Record → ℕ → List ℕ
    of_turn l turn = filter (λ i. turn_at l i == turn) (places l)

    each : (turn : ℕ) → of_turn rs turn ≡ of_turn ss turn
    each turn =
        filter_same (λ i. turn_at rs i == turn) (λ i. turn_at ss i == turn)
        (λ i. ap (λ t. t == turn) (same_turn rs ss i same)) (places rs)
        ∙ ap (filter (λ i. turn_at ss i == turn)) (same_places rs ss same)

pub same_own_place : (rs ss : List Record) (i : ℕ) → AreRelabelled rs ss → own_place rs i ≡ own_place ss i
same_own_place rs ss i same = ap (position_or_len (λ k. k == i)) (same_own_places rs ss same)

pub same_own_order : (rs ss : List Record) → AreRelabelled rs ss
    → AreRelabelled (in_own_order rs) (in_own_order ss)
same_own_order rs ss same =
    picked (own_places rs) ∙ ap (λ l. map plain (filter_map (slice_get ss) l)) (same_own_places rs ss same)
  where
    one : (a b : Option Record) (l m : List Record) → option_map plain a ≡ option_map plain b
        → map plain l ≡ map plain m → map plain (cons_option a l) ≡ map plain (cons_option b m)
    one None None l m here rest = rest
    one None (Some s) l m here rest = cc
    one (Some r) None l m here rest = cc
    one (Some r) (Some s) l m here rest =
        ap (λ o. option_map_or (λ q. q ∷ map plain l) o []) here ∙ ap (λ k. plain s ∷ k) rest

    picked : (l : List ℕ)
        → map plain (filter_map (slice_get rs) l) ≡ map plain (filter_map (slice_get ss) l)
    picked [] = refl
    picked (i ∷ l) =
        one (slice_get rs i) (slice_get ss i) (filter_map (slice_get rs) l) (filter_map (slice_get ss) l)
        (get_by plain rs ss i same) (picked l)

-- ---- the moves of a task

blind_stops : (task : ℕ) → IsBlind (stops task)
blind_stops task (TaskSchedule status turns prior next claimed) = refl
blind_stops task (ImplicitTask End actual index given parallel own) = refl
blind_stops task _ = refl

same_moved : (rs ss : List Record) (task : ℕ) → AreRelabelled rs ss → has_moved rs task ≡ has_moved ss task
same_moved rs ss task same =
    ap is_some
    (find_same (away rs) (away ss) each (places rs) ∙ ap (find (away ss)) (same_places rs ss same))
  where
    away : List Record → ℕ → Bool
    away l i =
        (is_task task (at started l i) && is_some (at told_turns l i)) && not (is_on l (home_of l task) i)

    each : (i : ℕ) → away rs i ≡ away ss i
    each i =
        ap (λ o. (is_task task o && is_some (at told_turns rs i)) && not (is_on rs (home_of rs task) i))
        (same_at started team_started rs ss i same)
        ∙ ap (λ o. (is_task task (at started ss i) && is_some o) && not (is_on rs (home_of rs task) i))
        (same_at told_turns team_told rs ss i same)
        ∙ ap (λ b. (is_task task (at started ss i) && is_some (at told_turns ss i)) && not b)
        (twin_on rs ss task i (relabelled_twins rs ss same))

same_by_file : (rs ss : List Record) (task : ℕ) (passes : Move → Bool) → AreRelabelled rs ss
    → moves_by_file rs task passes ≡ moves_by_file ss task passes
same_by_file rs ss task passes same =
    ap (filter (λ (step : ℕ × Move). passes step.1))
    (flat_same (moves_at rs task) (moves_at ss task)
    (λ i. twin_moves_at rs ss task i (relabelled_twins rs ss same)) (places rs)
    ∙ ap (flat_map (moves_at ss task)) (same_places rs ss same))

same_turn_moves : (rs ss : List Record) (task turn : ℕ) → AreRelabelled rs ss
    → turn_moves rs task turn ≡ turn_moves ss task turn
same_turn_moves rs ss task turn same =
    ap (λ l. l ++ flat_map (turn_ends_at rs task turn) (places rs))
    (along (turn_starts_at rs task turn) (turn_starts_at ss task turn) starts)
    ∙ ap (λ l. flat_map (turn_starts_at ss task turn) (places ss) ++ l)
    (along (turn_ends_at rs task turn) (turn_ends_at ss task turn) ends)
  where
    along : (f g : ℕ → List (ℕ × Move)) → ((i : ℕ) → f i ≡ g i)
        → flat_map f (places rs) ≡ flat_map g (places ss)
    along f g each = flat_same f g each (places rs) ∙ ap (flat_map g) (same_places rs ss same)

    starts : (i : ℕ) → turn_starts_at rs task turn i ≡ turn_starts_at ss task turn i
    starts i =
        ap (λ o. cond {A = List (ℕ × Move)} (is_turn task turn o) ((i, Started) ∷ []) [])
        (same_at begun_turn team_begun rs ss i same)

    ends : (i : ℕ) → turn_ends_at rs task turn i ≡ turn_ends_at ss task turn i
    ends i =
        ap
        (λ o.
        cond {A = List (ℕ × Move)} (is_turn task turn o)
        (map (λ move. (i, move)) (option_map_or (λ (r : Record). stops task r.body) (slice_get rs i) []))
        [])
        (same_at ended_turn team_ended rs ss i same)
        ∙ ap
        (λ (l : List Move).
        cond {A = List (ℕ × Move)} (is_turn task turn (at ended_turn ss i)) (map (λ move. (i, move)) l) [])
        (read_same (stops task) [] (blind_stops task) rs ss i (relabelled_twins rs ss same))

same_moved_moves : (rs ss : List Record) (task : ℕ) → AreRelabelled rs ss
    → moved_moves rs task ≡ moved_moves ss task
same_moved_moves rs ss task same =
    ap
    (λ l.
    l ++ flat_map (turn_moves rs task) (range_with_len 0 (turns_in rs)) ++ moves_by_file rs task is_apart)
    (same_by_file rs ss task is_early_move same)
    ∙ ap (λ l. moves_by_file ss task is_early_move ++ l ++ moves_by_file rs task is_apart)
    (flat_same (turn_moves rs task) (turn_moves ss task) (λ turn. same_turn_moves rs ss task turn same)
    (range_with_len 0 (turns_in rs))
    ∙ ap (λ n. flat_map (turn_moves ss task) (range_with_len 0 n)) (same_turns rs ss same))
    ∙ ap
    (λ l.
    moves_by_file ss task is_early_move
    ++ flat_map (turn_moves ss task) (range_with_len 0 (turns_in ss))
    ++ l)
    (same_by_file rs ss task is_apart same)

pub same_moves : (rs ss : List Record) (task : ℕ) → AreRelabelled rs ss
    → all_moves_of rs task ≡ all_moves_of ss task
same_moves rs ss task same =
    ap (λ b. cond b (moved_moves rs task) (moves_of rs task)) (same_moved rs ss task same)
    ∙ ap (λ l. cond (has_moved ss task) l (moves_of rs task)) (same_moved_moves rs ss task same)
    ∙ ap (λ l. cond (has_moved ss task) (moved_moves ss task) l)
    (twin_moves_of rs ss task (relabelled_twins rs ss same))

-- ---- steps

keeps : (rs ss : List Record) → AreRelabelled rs ss → KeepsSteps rs ss
keeps rs ss same = record {
  twins = relabelled_twins rs ss same;
  starts =
      λ i task explicit is. record {
        starts = says_same begun_turn team_begun (task, 0) rs ss i same is.starts;
        first = λ k below there.
            is.first k below
            (says_same begun_turn team_begun (task, 0) ss rs k (relabelled_back rs ss same) there);
      };
  resumes =
      λ a b is.
      resumption (record {
        task = is.task;
        turn = is.turn;
        suspends = says_same suspended_turn team_suspended (is.task, is.turn) rs ss a same is.suspends;
        resumes = says_same begun_turn team_begun (is.task, is.turn + 1) rs ss b same is.resumes;
        another = is.another;
      });
}

pub relabelled_steps : (rs ss : List Record) → AreRelabelled rs ss → HaveSameSteps rs ss
relabelled_steps rs ss same =
    record { there = keeps rs ss same; back = keeps ss rs (relabelled_back rs ss same) }
