-- Where tasks that moved begin and end their turns, one record on, and the moves that they make there.
use Rattle.std.proofs.Common.{◌≡◌, ◌∙◌, ℕ, ◌<◌, ◌≤◌, ◌+◌, List, [], ◌∷◌, ◌++◌, Option, Some, None, Bool, true}
use Rattle.std.proofs.Common.{false, cond, get_or, refl, sym, ap, arith, inl, inr, set}
use Rattle.std.proofs.lemmas.Bool.{cases_eq, eq-eqb, ne_eqb, eqb-true, false≢true}
use Rattle.std.proofs.lemmas.Option.{none-some, same_Some, slice_get_within, slice_get-get_or}
use Rattle.std.proofs.lemmas.List.{append-nil, append_assoc}
use Rattle.std.proofs.lemmas.List.Elements.{filter-append, All-filter}
use Rattle.std.proofs.lemmas.List.FromFn.{length-range_with_len, get_or-range_with_len}
use Rattle.std.proofs.lemmas.Grind.{flat_map-append}
use Rattle.std.specs.Prelude.{◌==◌, ◌&&◌, All, map, unwrap_or, filter, slice_get, option_and_then, option_map}
use Rattle.std.specs.List.{flat_map, range_with_len}
use Rattle.std.specs.Option.{option_map_or}
use Rattle.std.specs.Global.{Vec}
use Rattle.ompt_events.specs.declared.records.Record.{Record}
use Rattle.ompt_events.specs.declared.records.Body.{Body}
use Rattle.ompt_events.specs.declared.records.Body.TheVariants.{TaskSchedule}
use Rattle.ompt_events.specs.declared.names.Status.{Status}
use Rattle.ompt_events.specs.Names.{demands_next}
use Rattle.ompt_events.specs.Records.{schedule, started, stopped, begun_turn, ended_turn, next_turn}
use Rattle.ompt_events.specs.Records.{prior_turn}
use Rattle.ompt_events.specs.Places.{at, places}
use Rattle.ompt_events.specs.Turns.{is_turn}
use Rattle.ompt_events.specs.States.{Move, Stopped, Started, stops, has_moved, turn_starts_at, turn_ends_at}
use Rattle.ompt_events.specs.States.{turn_moves}
use Rattle.ompt_events.proofs.PlaceLemmas.{range_more, get_at}
use Rattle.ompt_events.proofs.EveryLemmas.{every_get, every_passes}
use Rattle.task_states.specs.declared.turn_edges.Edge.{Edge}
use Rattle.task_states.specs.declared.turn_edges.Edge.TheVariants.{Begins, Ends}
use Rattle.task_states.specs.Progress.{turned}
use Rattle.task_states.specs.Rows.{row_at, AreSameRows, IsPlaceAdded}
use Rattle.task_states.proofs.RowLemmas.{row_here, row_set_same, row_set_other}
use Rattle.task_states.specs.TurnEdges.{edge_turn, moved_turn, is_edge, edge_moves, AreEdges}
use Rattle.task_states.specs.TurnEdges.{IsNoEdge}

-- ---- the turn at a place

edge_said : (edge : Edge) (rs : List Record) (i : ℕ) (r : Record) → slice_get rs i ≡ Some r
    → at (edge_turn edge) rs i ≡ edge_turn edge r.body
edge_said edge rs i r stands = ap (option_and_then (λ (q : Record). edge_turn edge q.body)) stands

abbrev turn_if : List Record → Option (ℕ × ℕ) → Option ℕ
turn_if rs found = option_and_then (λ (b : ℕ × ℕ). cond (has_moved rs b.0) (Some b.1) None) found

-- the turn that begins is that of the task that runs next
begun_own : (b : Body) (task : ℕ) → started b ≡ Some task → (p : ℕ × ℕ) → begun_turn b ≡ Some p → p.0 ≡ task
begun_own b task starts p is =
    ap (λ (q : ℕ × ℕ). q.0)
    (same_Some p (task, next_turn b)
    (sym is ∙ ap (option_map {U = ℕ × ℕ} (λ t. (t, next_turn b))) starts))

-- and the one that ends that of the prior task
stopped_own : (b : Body) (task prior : ℕ) (status : Status) (next : Option ℕ)
    → schedule b ≡ Some (status, prior, next) → stopped b ≡ Some task → task ≡ prior
stopped_own (TaskSchedule s turns own follower claimed) task prior status next says stops =
    of (demands_next s) stops
    ∙ ap (λ (t : Status × ℕ × Option ℕ). t.1) (same_Some (s, own, follower) (status, prior, next) says)
  where
    of : (b : Bool) → cond b (Some own) None ≡ Some task → task ≡ own
    of true is = sym (same_Some own task is)
    of false is = absurd (none-some task is)
stopped_own _ task prior status next says stops = absurd (none-some (status, prior, next) says)

ended_own : (b : Body) (prior : ℕ) (status : Status) (next : Option ℕ)
    → schedule b ≡ Some (status, prior, next) → (p : ℕ × ℕ) → ended_turn b ≡ Some p → p.0 ≡ prior
ended_own b prior status next says p is = of (stopped b) refl is
  where
    of : (o : Option ℕ) → stopped b ≡ o → option_map {U = ℕ × ℕ} (λ t. (t, prior_turn b)) o ≡ Some p
        → p.0 ≡ prior
    of None e is' = absurd (none-some p is')
    of (Some task) e is' =
        ap (λ (q : ℕ × ℕ). q.0) (sym (same_Some (task, prior_turn b) p is'))
        ∙ stopped_own b task prior status next says e

-- where no task runs next, none begins a turn
pub none_begun : (rs : List Record) (i : ℕ) → at started rs i ≡ None → moved_turn Begins rs i ≡ None
none_begun rs i silent = there (slice_get rs i) refl silent
  where
    there : (o : Option Record) → slice_get rs i ≡ o
        → option_and_then (λ (q : Record). started q.body) o ≡ None → moved_turn Begins rs i ≡ None
    there None e is =
        ap (λ (o : Option Record). turn_if rs (option_and_then (λ (q : Record). begun_turn q.body) o)) e
    there (Some r) e is =
        ap (turn_if rs)
        (edge_said Begins rs i r e ∙ ap (option_map {U = ℕ × ℕ} (λ t. (t, next_turn r.body))) is)

-- where nothing is scheduled, none ends one
pub none_ended : (rs : List Record) (i : ℕ) → at schedule rs i ≡ None → moved_turn Ends rs i ≡ None
none_ended rs i silent = there (slice_get rs i) refl silent
  where
    of : (b : Body) → schedule b ≡ None → ended_turn b ≡ None
    of (TaskSchedule s turns prior next claimed) is = absurd (none-some (s, prior, next) (sym is))
    of _ is = refl

    there : (o : Option Record) → slice_get rs i ≡ o
        → option_and_then (λ (q : Record). schedule q.body) o ≡ None → moved_turn Ends rs i ≡ None
    there None e is =
        ap (λ (o : Option Record). turn_if rs (option_and_then (λ (q : Record). ended_turn q.body) o)) e
    there (Some r) e is = ap (turn_if rs) (edge_said Ends rs i r e ∙ of r.body is)

-- ---- the rows

-- one more place
edges_more : (edge : Edge) (rs : List Record) (turn n : ℕ)
    → filter (is_edge edge rs turn) (range_with_len 0 (n + 1))
    ≡ filter (is_edge edge rs turn) (range_with_len 0 n) ++ cond (is_edge edge rs turn n) (n ∷ []) []
edges_more edge rs turn n =
    ap (filter (is_edge edge rs turn)) (range_more n)
    ∙ filter-append (is_edge edge rs turn) (range_with_len 0 n) (n ∷ [])

pub edges_passed : (edge : Edge) (rs : List Record) (n turns : ℕ) (rows : List (Vec ℕ))
    → AreEdges edge rs n turns rows → ((turn : ℕ) → turn < turns → is_edge edge rs turn n ≡ false)
    → AreEdges edge rs (n + 1) turns rows
edges_passed edge rs n turns rows are none turn low =
    are turn low
    ∙ sym
    (edges_more edge rs turn n
    ∙ ap (λ b. filter (is_edge edge rs turn) (range_with_len 0 n) ++ cond b (n ∷ []) [])
    (none turn low)
    ∙ append-nil (filter (is_edge edge rs turn) (range_with_len 0 n)))

pub edges_noted : (edge : Edge) (rs : List Record) (n turns turn : ℕ) (before after : List (Vec ℕ))
    → AreEdges edge rs n turns before → moved_turn edge rs n ≡ Some turn → IsPlaceAdded before after turn n
    → AreEdges edge rs (n + 1) turns after
edges_noted edge rs n turns turn before after are is noted other below = elim (cases_eq other turn) [
  | inl same ↦
      ap (row_at after) same ∙ noted.here ∙ ap (λ t. row_at before t ++ n ∷ []) (sym same)
      ∙ ap (λ l. l ++ n ∷ []) (are other below)
      ∙ sym
      (edges_more edge rs other n
      ∙ ap (λ b. row ++ cond b (n ∷ []) []) (here ∙ eq-eqb turn other (sym same)))
  | inr apart ↦
      noted.others other apart ∙ are other below
      ∙ sym
      (edges_more edge rs other n
      ∙ ap (λ b. row ++ cond b (n ∷ []) []) (here ∙ ne_eqb turn other (λ same. apart (sym same)))
      ∙ append-nil row)
]
  where
    row : List ℕ
    row = filter (is_edge edge rs other) (range_with_len 0 n)

    here : is_edge edge rs other n ≡ (turn == other)
    here = ap (λ o. option_map_or (λ t. t == other) o false) is

-- before any place there is none
pub edges_none : (edge : Edge) (rs : List Record) (turns : ℕ) (rows : List (Vec ℕ)) → rows ≡ []
    → AreEdges edge rs 0 turns rows
edges_none edge rs turns rows empty turn low = ap (λ l. row_at l turn) empty

-- a place is noted in a row
pub row_noted : (before rows : List (Vec ℕ)) (turn place : ℕ) (old new : Vec ℕ) → AreSameRows before rows
    → slice_get rows turn ≡ Some old → new.items ≡ old.items ++ place ∷ []
    → IsPlaceAdded before (set rows turn new) turn place
row_noted before rows turn place old new same stands pushed = record {
  here =
      row_set_same rows turn new (slice_get_within rows turn old stands) ∙ pushed
      ∙ ap (λ l. l ++ place ∷ []) (sym (row_here rows turn old stands) ∙ same turn);
  others = λ other apart. row_set_other rows turn other new apart ∙ same other;
}

-- a turn that is not among those that are asked for, or none
pub edge_past : (edge : Edge) (rs : List Record) (n turns turn : ℕ) → moved_turn edge rs n ≡ Some turn
    → turns ≤ turn → (other : ℕ) → other < turns → is_edge edge rs other n ≡ false
edge_past edge rs n turns turn is past other below =
    ap (λ o. option_map_or (λ t. t == other) o false) is
    ∙ ne_eqb turn other (λ same. absurd (omega (arith, past, below, same)))

pub edge_none : (edge : Edge) (rs : List Record) (n : ℕ) → moved_turn edge rs n ≡ None → (other : ℕ)
    → is_edge edge rs other n ≡ false
edge_none edge rs n is other = ap (λ o. option_map_or (λ t. t == other) o false) is

pub no_edge : (rs : List Record) (edge : Edge) (n : ℕ) → moved_turn edge rs n ≡ None → IsNoEdge rs edge n
no_edge rs edge n is other here = false≢true (sym (edge_none edge rs n is other) ∙ here)

-- ---- the move at a place

-- where a task that moved begins or ends the turn, it is this one, in this turn
edge_is : (edge : Edge) (rs : List Record) (i turn : ℕ) → is_edge edge rs turn i ≡ true
    → (task : ℕ) × (at (edge_turn edge) rs i ≡ Some (task, turn)) × (has_moved rs task ≡ true)
edge_is edge rs i turn here = of (at (edge_turn edge) rs i) refl here
  where
    of : (o : Option (ℕ × ℕ)) → at (edge_turn edge) rs i ≡ o
        → option_map_or (λ t. t == turn) (turn_if rs o) false ≡ true
        → (task : ℕ) × (at (edge_turn edge) rs i ≡ Some (task, turn)) × (has_moved rs task ≡ true)
    of None e is = absurd (false≢true is)
    of (Some b) e is = by (has_moved rs b.0) refl is
      where
        by : (m : Bool) → has_moved rs b.0 ≡ m
            → option_map_or (λ t. t == turn) (cond m (Some b.1) None) false ≡ true
            → (task : ℕ) × (at (edge_turn edge) rs i ≡ Some (task, turn)) × (has_moved rs task ≡ true)
        by false e' is' = absurd (false≢true is')
        by true e' is' = (b.0, e ∙ ap (λ t. Some (b.0, t)) (eqb-true b.1 turn is'), e')

-- the start of a turn
pub start_alone : (rs : List Record) (i task turn other : ℕ) → at started rs i ≡ Some task
    → is_edge Begins rs turn i ≡ true
    → turn_starts_at rs other turn i ≡ cond (task == other) ((i, Started) ∷ []) []
start_alone rs i task turn other starts here =
    let (own, says, moves) = edge_is Begins rs i turn here in
    let (r, stands, begins) = get_at begun_turn rs i (own, turn) says in
    let same : own ≡ task =
    begun_own r.body task (sym (ap (option_and_then (λ (q : Record). started q.body)) stands) ∙ starts)
    (own, turn) begins in
    ap (λ o. cond (is_turn other turn o) ((i, Started) ∷ []) []) says
    ∙ ap (λ b. cond ((own == other) && b) ((i, Started) ∷ []) []) (eq-eqb turn turn refl)
    ∙ ap (λ b. cond b ((i, Started) ∷ []) []) (and_true (own == other) ∙ ap (λ t. t == other) same)
  where
    and_true : (b : Bool) → b && true ≡ b
    and_true true = refl
    and_true false = refl

-- the end of one
pub end_alone : (rs : List Record) (i prior turn other : ℕ) (status : Status) (next : Option ℕ)
    → at schedule rs i ≡ Some (status, prior, next) → is_edge Ends rs turn i ≡ true
    → turn_ends_at rs other turn i ≡ cond (prior == other) ((i, Stopped status) ∷ []) []
end_alone rs i prior turn other status next says here =
    let (own, ends, moves) = edge_is Ends rs i turn here in
    let (r, stands, is) = get_at schedule rs i (status, prior, next) says in
    let same : own ≡ prior =
    ended_own r.body prior status next is (own, turn) (sym (edge_said Ends rs i r stands) ∙ ends) in
    ap (λ o. cond (is_turn other turn o) (stopped_there (slice_get rs i)) []) ends
    ∙ ap (λ b. cond ((own == other) && b) (stopped_there (slice_get rs i)) []) (eq-eqb turn turn refl)
    ∙ ap (λ t. cond ((t == other) && true) (stopped_there (slice_get rs i)) []) same
    ∙ ap (λ o. cond ((prior == other) && true) (stopped_there o) []) stands
    ∙ ap (λ l. cond ((prior == other) && true) (map {B = ℕ × Move} (λ move. (i, move)) l) []) (by r.body is)
    ∙ both (prior == other)
  where
    stopped_there : Option Record → List (ℕ × Move)
    stopped_there o = map (λ move. (i, move)) (option_map_or (λ (r : Record). stops other r.body) o [])

    by : (b : Body) → schedule b ≡ Some (status, prior, next)
        → stops other b ≡ cond (prior == other) (Stopped status ∷ []) []
    by (TaskSchedule s turns p n claimed) is =
        ap (λ (t : Status × ℕ × Option ℕ). cond (t.1 == other) (Stopped t.0 ∷ []) [])
        (same_Some (s, p, n) (status, prior, next) is)
    by _ is = absurd (none-some (status, prior, next) is)

    both : (b : Bool)
        → cond (b && true) (map {B = ℕ × Move} (λ move. (i, move)) (cond b (Stopped status ∷ []) [])) []
        ≡ cond b ((i, Stopped status) ∷ []) []
    both true = refl
    both false = refl

-- ---- the moves of a row

silent : (edge : Edge) (rs : List Record) (task turn i : ℕ)
    → is_turn task turn (at (edge_turn edge) rs i) ≡ false → edge_moves edge rs task turn i ≡ []
silent Begins rs task turn i off = ap (λ b. cond b ((i, Started) ∷ []) []) off
silent Ends rs task turn i off =
    ap
    (λ b.
    cond b
    (map (λ move. (i, move))
    (option_map_or (λ (r : Record). stops task r.body) (slice_get rs i) [])) [])
    off

-- a task that has not moved does nothing there
row_other : (edge : Edge) (rs : List Record) (task turn i : ℕ) → has_moved rs task ≡ false
    → is_edge edge rs turn i ≡ true → edge_moves edge rs task turn i ≡ []
row_other edge rs task turn i stays here =
    let (own, says, moves) = edge_is edge rs i turn here in
    silent edge rs task turn i
    (ap (is_turn task turn) says
    ∙ ap (λ b. b && (turn == turn))
    (ne_eqb own task
    (λ same. absurd (false≢true (sym stays ∙ ap (has_moved rs) (sym same) ∙ moves)))))

-- one that moved does nothing elsewhere
row_own : (edge : Edge) (rs : List Record) (task turn i : ℕ) → has_moved rs task ≡ true
    → is_edge edge rs turn i ≡ false → edge_moves edge rs task turn i ≡ []
row_own edge rs task turn i moves off = silent edge rs task turn i (of (at (edge_turn edge) rs i) refl off)
  where
    of : (o : Option (ℕ × ℕ)) → at (edge_turn edge) rs i ≡ o
        → option_map_or (λ t. t == turn) (turn_if rs o) false ≡ false
        → is_turn task turn (at (edge_turn edge) rs i) ≡ false
    of None e is = ap (is_turn task turn) e
    of (Some b) e is = ap (is_turn task turn) e ∙ elim (cases_eq b.0 task) [
      | inl same ↦ ap (λ c. c && (b.1 == turn)) (eq-eqb b.0 task same)
          ∙ sym
          (ap (λ c. option_map_or (λ t. t == turn) (cond c (Some b.1) None) false)
          (ap (has_moved rs) same ∙ moves))
          ∙ is
      | inr apart ↦ ap (λ c. c && (b.1 == turn)) (ne_eqb b.0 task apart)
    ]

pub row_moves : (edge : Edge) (rs : List Record) (task turn : ℕ) (ks : List ℕ)
    → flat_map (edge_moves edge rs task turn) (filter (is_edge edge rs turn) ks)
    ≡ cond (has_moved rs task) (flat_map (edge_moves edge rs task turn) ks) []
row_moves edge rs task turn ks = by (has_moved rs task) refl ks
  where
    f : ℕ → List (ℕ × Move)
    f = edge_moves edge rs task turn

    q : ℕ → Bool
    q = is_edge edge rs turn

    one : (k : ℕ) (rest : List ℕ) (b m : Bool) → q k ≡ b → has_moved rs task ≡ m
        → flat_map f rest ≡ flat_map f rest
        → flat_map f (cond b (k ∷ rest) rest) ≡ cond m (f k) [] ++ flat_map f rest
    one k rest true true e m same = refl
    one k rest true false e m same = ap (λ l. l ++ flat_map f rest) (row_other edge rs task turn k m e)
    one k rest false true e m same = ap (λ l. l ++ flat_map f rest) (sym (row_own edge rs task turn k m e))
    one k rest false false e m same = refl

    by : (m : Bool) → has_moved rs task ≡ m → (ks : List ℕ)
        → flat_map f (filter q ks) ≡ cond m (flat_map f ks) []
    by true e [] = refl
    by false e [] = refl
    by true e (k ∷ ks) = one k (filter q ks) (q k) true refl e refl ∙ ap (λ l. f k ++ l) (by true e ks)
    by false e (k ∷ ks) = one k (filter q ks) (q k) false refl e refl ∙ by false e ks

-- the places of a row
pub row_within : (edge : Edge) (rs : List Record) (turn n : ℕ)
    → All (λ place. place < n) (filter (is_edge edge rs turn) (range_with_len 0 n))
row_within edge rs turn n =
    All-filter (is_edge edge rs turn) (λ place. place < n) (range_with_len 0 n) (λ k d low.
    let inside : k < n = rw (length-range_with_len 0 n) at low in
    let same = get_or-range_with_len 0 n k d inside in
    omega (arith, inside, same))

pub row_edges : (edge : Edge) (rs : List Record) (turn : ℕ) (ks : List ℕ)
    → All (λ place. is_edge edge rs turn place ≡ true) (filter (is_edge edge rs turn) ks)
row_edges edge rs turn ks = λ k d low.
    let row = filter (is_edge edge rs turn) ks in
    every_get (λ place. is_edge edge rs turn place ≡ true) row k (get_or row k d)
    (every_passes (is_edge edge rs turn) ks) (slice_get-get_or row k d low)

-- ---- one turn more

-- before the first turn there are no moves
pub turned_none : (rs : List Record) (task : ℕ) → turned rs 0 task ≡ []
turned_none rs task = by (has_moved rs task)
  where
    by : (m : Bool) → cond {A = List (ℕ × Move)} m [] [] ≡ []
    by true = refl
    by false = refl

-- of a task that has not moved none are made at all
pub turned_never : (rs : List Record) (n task : ℕ) → has_moved rs task ≡ false → turned rs n task ≡ []
turned_never rs n task stays = ap (λ b. cond b (flat_map (turn_moves rs task) (range_with_len 0 n)) []) stays

pub turned_more : (rs : List Record) (task turn : ℕ) (before : List (ℕ × Move)) (begins ends : List ℕ)
    → begins ≡ filter (is_edge Begins rs turn) (places rs) → ends ≡ filter (is_edge Ends rs turn) (places rs)
    → before ++ turned rs (turn + 1) task
    ≡ (before ++ turned rs turn task ++ flat_map (edge_moves Begins rs task turn) begins)
    ++ flat_map (edge_moves Ends rs task turn) ends
turned_more rs task turn before begins ends are are' =
    of (has_moved rs task)
    ∙ ap (λ l. (before ++ turned rs turn task ++ l) ++ cond (has_moved rs task) last [])
    (sym (ap (flat_map (edge_moves Begins rs task turn)) are ∙ row_moves Begins rs task turn (places rs)))
    ∙ ap (λ l. (before ++ turned rs turn task ++ flat_map (edge_moves Begins rs task turn) begins) ++ l)
    (sym (ap (flat_map (edge_moves Ends rs task turn)) are' ∙ row_moves Ends rs task turn (places rs)))
  where
    first : List (ℕ × Move)
    first = flat_map (turn_starts_at rs task turn) (places rs)

    last : List (ℕ × Move)
    last = flat_map (turn_ends_at rs task turn) (places rs)

    turns : ℕ → List (ℕ × Move)
    turns n = flat_map (turn_moves rs task) (range_with_len 0 n)

    of : (m : Bool)
        → before ++ cond m (turns (turn + 1)) []
        ≡ (before ++ cond m (turns turn) [] ++ cond m first []) ++ cond m last []
    of true =
        ap (λ l. before ++ l)
        (ap (flat_map (turn_moves rs task)) (range_more turn)
        ∙ flat_map-append (turn_moves rs task) (range_with_len 0 turn) (turn ∷ [])
        ∙ ap (λ l. turns turn ++ l) (append-nil (first ++ last)))
        ∙ sym (append_assoc before (turns turn) (first ++ last))
        ∙ sym (append_assoc (before ++ turns turn) first last)
    of false = sym (append-nil (before ++ [] ++ []) ∙ append-nil (before ++ []))

-- the turn that begins, or 0 where none does
pub turn_or_zero : (begins : Option (ℕ × ℕ)) (turn : Option ℕ) → turn ≡ option_map (λ (b : ℕ × ℕ). b.1) begins
    → unwrap_or turn 0 ≡ option_map_or (λ (b : ℕ × ℕ). b.1) begins 0
turn_or_zero None turn is = ap (λ o. unwrap_or o 0) is
turn_or_zero (Some begin) turn is = ap (λ o. unwrap_or o 0) is
