-- What a thread has left off running, and goes on with later: each such task is in the turn that it began
-- there last, and has not been stopped since.
use Rattle.std.proofs.Common.{◌≡◌, ◌≢◌, ◌∙◌, ℕ, zero, suc, ◌<◌, ◌≤◌, ◌+◌, ◌-◌, List, [], ◌∷◌, ◌++◌}
use Rattle.std.proofs.Common.{Option, Some}
use Rattle.std.proofs.Common.{None, Bool, true, false, cond, get_or, take, drop, refl, sym, ap, subst}
use Rattle.std.proofs.Common.{arith}
use Rattle.std.proofs.Common.{inl, inr, ◌⊎◌}
use Rattle.std.proofs.lemmas.Bool.{eqb-true, cases_eq, cases_lt, cases_order, eq-eqb, ne_eqb, true≢false}
use Rattle.std.proofs.lemmas.Bool.{false≢true}
use Rattle.std.proofs.lemmas.Option.{none-some, same_Some, slice_get_within}
use Rattle.std.proofs.lemmas.List.Sums.{fold-append}
use Rattle.std.specs.Prelude.{All, ◌==◌, ◌&&◌, not, is_some, slice_get, option_and_then, option_map, fold}
use Rattle.std.specs.Option.{option_map_or}
use Rattle.ompt_events.specs.declared.records.Record.{Record}
use Rattle.ompt_events.specs.declared.records.Body.{Body}
use Rattle.ompt_events.specs.declared.records.Body.TheVariants.{ImplicitTask, TaskSchedule}
use Rattle.ompt_events.specs.declared.names.Endpoint.TheVariants.{Begin, End, BeginEnd}
use Rattle.ompt_events.specs.declared.cause.Cause.TheVariants.{CreatedTwice, NotCurrent, TurnGap}
use Rattle.ompt_events.specs.declared.cause.Cause.TheVariants.{StatusOrder}
use Rattle.ompt_events.specs.Names.{demands_next}
use Rattle.ompt_events.specs.Records.{begun_root, running, started, stopped, suspended_turn, told_turns}
use Rattle.ompt_events.specs.Records.{next_turn, begun_turn}
use Rattle.ompt_events.specs.Places.{at, thread_at, places}
use Rattle.ompt_events.specs.Turns.{turn_after, turn_in, turn_at}
use Rattle.ompt_events.specs.Tree.{IsRoot, IsExplicit}
use Rattle.ompt_events.specs.Threads.{Walk, at_start, uncovered, after_body, after_record, walk_of}
use Rattle.ompt_events.specs.States.{has_moved, is_on, is_task, home_of}
use Rattle.ompt_events.specs.Traces.{IsSound, HasItsNext, IsTraceOf}
use Rattle.ompt_events.specs.Causes.{IsFreeOf, turn_gap, falling, missing, BeginsTurn, runs, is_root}
use Rattle.ompt_events.proofs.PlaceLemmas.{get_at, at_get, at_within, contains_place, the_task}
use Rattle.ompt_events.proofs.ListLemmas.{all_get}
use Rattle.ompt_events.proofs.TurnLemmas.{begun_started}
use Rattle.task_tree.proofs.RankedLemmas.{every_get}
use Rattle.task_tree.proofs.SuspendedLemmas.{runs_there, part_of, part_keeps, turn_here}
use Rattle.task_tree.proofs.SuspendedLemmas.{roots_are, Suspended, suspended_parts, told_right, begun_told}
use Rattle.task_tree.proofs.SuspendedLemmas.{begun_once, TellsStarts, explicit_not_root}
use Rattle.task_states.proofs.OriginLemmas.{found_some}
use Rattle.checker.proofs.TurnWalkLemmas.{starts_told, turn_greatest}
use Rattle.checker.proofs.HomeMoveLemmas.{stopped_between}
use Rattle.checker.proofs.OwnTurnLemmas.{own_turn}
use Rattle.checker.proofs.TurnEndLemmas.{suspended_in, told_or_never}

-- what is known of a trace that tells its turns and has no cause up to StatusOrder
pub record HasOrderlyTurns (rs : List Record) : Type 0 where
  pub sound : All (λ r. IsSound r.body) rs
  pub told : TellsStarts rs
  pub once : IsFreeOf rs CreatedTwice
  pub current : IsFreeOf rs NotCurrent
  pub gap : IsFreeOf rs TurnGap
  pub ordered : IsFreeOf rs StatusOrder

-- no record begins the task as a root
abbrev pub IsNoRoot : List Record → ℕ → Type 0
IsNoRoot rs task = IsRoot rs task → ⊥

-- ---- the turns of a task

begun_of : (rs : List Record) (i task : ℕ) (r : Record) → slice_get rs i ≡ Some r → started r.body ≡ Some task
    → at begun_turn rs i ≡ Some (task, next_turn r.body)
begun_of rs i task r stands starts =
    at_get begun_turn rs i r stands ∙ ap (option_map {U = ℕ × ℕ} (λ t. (t, next_turn r.body))) starts

begins_cases : (rs : List Record) (k task turn : ℕ) → BeginsTurn rs k task turn
    → (at begun_turn rs k ≡ Some (task, turn)) ⊎ IsRoot rs task
begins_cases rs k task turn (runs is) = inl is
begins_cases rs k task _ (is_root is) = inr (k, is)

-- the turn before one that begins begins too
pub begun_before : (rs : List Record) (task turn e : ℕ) → TellsStarts rs → IsFreeOf rs TurnGap
    → IsNoRoot rs task → at begun_turn rs e ≡ Some (task, turn + 1)
    → (c : ℕ) × (at begun_turn rs c ≡ Some (task, turn))
begun_before rs task turn e told gap not_root begins = elim (told_or_never begun_turn rs task turn) [
  | inl found ↦ found
  | inr never ↦
      absurd
      (gap e
      (turn_gap
      (missing task turn (begun_told rs e task (turn + 1) told begins, begins)
      (λ k is. elim (begins_cases rs k task turn is) [
        | inl there ↦ never k there
        | inr root ↦ not_root root
      ]))))
]

pub begun_earlier : (rs : List Record) (task turn d late e : ℕ) → TellsStarts rs → IsFreeOf rs TurnGap
    → IsNoRoot rs task → turn + d ≡ late → at begun_turn rs e ≡ Some (task, late)
    → (c : ℕ) × (at begun_turn rs c ≡ Some (task, turn))
begun_earlier rs task turn zero late e told gap not_root sum begins =
    let same : late ≡ turn = omega (arith, sum) in (e, begins ∙ ap (λ t. Some (task, t)) same)
begun_earlier rs task turn (suc d) late e told gap not_root sum begins =
    let next : late ≡ (turn + d) + 1 = omega (arith, sum) in
    let (c, there) =
    begun_before rs task (turn + d) e told gap not_root (begins ∙ ap (λ t. Some (task, t)) next) in
    begun_earlier rs task turn d (turn + d) c told gap not_root refl there

-- ---- a task that goes on

-- a record of the thread before n begins this turn of the task, and none behind it stops the task
pub record GoesOn (rs : List Record) (thread n task turn : ℕ) : Type 0 where
  pub place : ℕ
  pub earlier : place < n
  pub on : thread_at rs place ≡ Some thread
  pub begins : at begun_turn rs place ≡ Some (task, turn)
  pub unstopped : (k : ℕ) → place < k → k < n → thread_at rs k ≡ Some thread → at stopped rs k ≢ Some task

goes_more : (rs : List Record) (thread n task turn : ℕ) → GoesOn rs thread n task turn
    → (thread_at rs n ≡ Some thread → at stopped rs n ≢ Some task) → GoesOn rs thread (n + 1) task turn
goes_more rs thread n task turn known here = record {
  place = known.place;
  earlier = let e = known.earlier in omega arith;
  on = known.on;
  begins = known.begins;
  unstopped = λ k above below on. elim (cases_eq k n) [
    | inl same ↦
        λ stops. here (ap (thread_at rs) (sym same) ∙ on) (ap (at stopped rs) (sym same) ∙ stops)
    | inr apart ↦ known.unstopped k above (omega (arith, below, apart)) on
  ];
}

-- a record that stops the task in a turn is on the thread that began the turn, behind the begin
record StopsThere (rs : List Record) (a task turn : ℕ) : Type 0 where
  begin : ℕ
  begins : at begun_turn rs begin ≡ Some (task, turn)
  earlier : begin < a
  same_thread : thread_at rs a ≡ thread_at rs begin
  stops : at stopped rs a ≡ Some task
  runs_here : at running rs a ≡ Some task
  in_turn : turn_at rs a ≡ turn
  turn_there : (thread : ℕ) → thread_at rs a ≡ Some thread → turn_in task (part_of rs thread a) ≡ turn

stops_there : (rs : List Record) (a task turn : ℕ) → HasOrderlyTurns rs → IsNoRoot rs task
    → at suspended_turn rs a ≡ Some (task, turn) → StopsThere rs a task turn
stops_there rs a task turn facts not_root suspends =
    let (r, stands, is) = get_at suspended_turn rs a (task, turn) suspends in
    let fits : IsSound r.body = all_get (λ (q : Record). IsSound q.body) rs a r facts.sound stands in
    let turned : is_some (told_turns r.body) ≡ is_some (started r.body) =
    all_get (λ (q : Record). is_some (told_turns q.body) ≡ is_some (started q.body)) rs a r facts.told
    stands in
    let parts : Suspended r.body task turn = suspended_parts r.body task turn fits.next turned is in
    let runs_here : at running rs a ≡ Some task = at_get running rs a r stands ∙ parts.runs in
    let own = own_turn rs a task facts.current not_root runs_here in
    let in_turn : turn_at rs a ≡ turn =
    sym (told_right rs a parts.told facts.gap (at_get told_turns rs a r stands ∙ parts.tells))
    ∙ parts.turn_told in
    record {
      begin = own.known.place;
      begins = own.known.begins ∙ ap (λ t. Some (task, t)) in_turn;
      earlier = own.known.earlier;
      same_thread = own.on ∙ sym own.known.on;
      stops = at_get stopped rs a r stands ∙ parts.stops;
      runs_here = runs_here;
      in_turn = in_turn;
      turn_there = λ thread on.
          let same : r.thread ≡ thread =
          same_Some r.thread thread (sym (ap (option_map (λ (q : Record). q.thread)) stands) ∙ on) in
          ap (λ t. turn_in task (part_of rs t a)) (sym same) ∙ sym (turn_here rs a task r stands parts.runs)
          ∙ in_turn;
    }

-- ---- where a task runs next

-- the task runs next there, as turns tell, and not at its home
abbrev is_away : List Record → ℕ → ℕ → Bool
is_away rs task i =
    is_task task (at started rs i) && is_some (at told_turns rs i) && not (is_on rs (home_of rs task) i)

pub at_home : (home on : Option ℕ)
    → option_map_or (λ h. option_map_or (λ t. t == h) on false) home false ≡ true → on ≡ home
at_home None on is = absurd (false≢true is)
at_home (Some h) None is = absurd (false≢true is)
at_home (Some h) (Some t) is = ap Some (eqb-true t h is)

-- a task that runs next elsewhere has moved
pub moved_away : (rs : List Record) (task i : ℕ) → TellsStarts rs → at started rs i ≡ Some task
    → is_on rs (home_of rs task) i ≡ false → has_moved rs task ≡ true
moved_away rs task i tells starts off =
    found_some (is_away rs task) (places rs) i (contains_place rs i (at_within started rs i task starts))
    (ap (λ c. c && is_some (at told_turns rs i) && not (is_on rs (home_of rs task) i))
    (the_task task (at started rs i) starts)
    ∙ ap (λ c. c && not (is_on rs (home_of rs task) i)) told ∙ ap not off)
  where
    some : {X : Type 0} (o : Option X) → o ≢ None → is_some o ≡ true
    some None not_none = absurd (not_none refl)
    some (Some x) not_none = refl

    told : is_some (at told_turns rs i) ≡ true
    told = some (at told_turns rs i) (starts_told rs i task tells starts)

-- a task that has not moved runs next at its home alone
starts_home : (rs : List Record) (task i : ℕ) → TellsStarts rs → has_moved rs task ≡ false
    → at started rs i ≡ Some task → is_on rs (home_of rs task) i ≡ true
starts_home rs task i told still starts = by (is_on rs (home_of rs task) i) refl
  where
    by : (b : Bool) → is_on rs (home_of rs task) i ≡ b → is_on rs (home_of rs task) i ≡ true
    by true is = is
    by false off = absurd (false≢true (sym still ∙ moved_away rs task i told starts off))

-- a task that goes on does not run next
not_started_again : (rs : List Record) (thread m task turn : ℕ) (r : Record) → HasOrderlyTurns rs
    → IsNoRoot rs task → slice_get rs m ≡ Some r → r.thread ≡ thread
    → started r.body ≡ Some task
    → stopped r.body ≢ Some task → GoesOn rs thread m task turn → ⊥
not_started_again rs thread m task turn r facts not_root stands same starts never goes =
    by (has_moved rs task) refl
  where
    on : thread_at rs m ≡ Some thread
    on = ap (option_map (λ (q : Record). q.thread)) stands ∙ ap Some same

    begins : at begun_turn rs m ≡ Some (task, next_turn r.body)
    begins = begun_of rs m task r stands starts

    -- the turn that begins is a later one
    later : turn < next_turn r.body
    later = elim (cases_order turn (next_turn r.body)) [
      | inl is ↦
          let low = goes.earlier in
          let one = begun_once rs facts.told facts.gap task turn goes.place m goes.begins
          (begins ∙ ap (λ t. Some (task, t)) (sym is)) in
          absurd (omega (arith, low, one))
      | inr (inl less) ↦ less
      | inr (inr falls) ↦
          absurd
          (facts.gap m
          (turn_gap
          (falling task (next_turn r.body) goes.place turn
          (begun_told rs m task (next_turn r.body) facts.told begins, begins) goes.earlier
          (goes.on ∙ sym on) goes.begins falls)))
    ]

    not_here : at stopped rs m ≢ Some task
    not_here stops = never (sym (at_get stopped rs m r stands) ∙ stops)

    away : (c : ℕ) → at begun_turn rs c ≡ Some (task, turn + 1) → has_moved rs task ≡ true → ⊥
    away c there moves =
        let (a, suspends) = suspended_in rs task turn goes.place c facts.ordered moves goes.begins there in
        let stop = stops_there rs a task turn facts not_root suspends in
        let one : stop.begin ≡ goes.place =
        begun_once rs facts.told facts.gap task turn stop.begin goes.place stop.begins goes.begins in
        let on_thread : thread_at rs a ≡ Some thread =
        stop.same_thread ∙ ap (thread_at rs) one ∙ goes.on in
        let low = stop.earlier in
        elim (cases_order a m) [
          | inl is ↦ not_here (ap (at stopped rs) (sym is) ∙ stop.stops)
          | inr (inl less) ↦ goes.unstopped a (omega (arith, low, one)) less on_thread stop.stops
          | inr (inr more) ↦
              let most =
              turn_greatest rs thread task facts.told facts.gap a m (next_turn r.body) more on begins in
              let there = stop.turn_there thread on_thread in
              absurd (omega (arith, most, there, later))
        ]

    by : (b : Bool) → has_moved rs task ≡ b → ⊥
    by true moves =
        let d = next_turn r.body - (turn + 1) in
        let sum : (turn + 1) + d ≡ next_turn r.body = omega (arith, later) in
        let (c, there) =
        begun_earlier rs task (turn + 1) d (next_turn r.body) m facts.told facts.gap not_root sum begins in
        away c there moves
    by false still =
        let before = begun_started rs goes.place task turn goes.begins in
        let (q, stands_there, starts_there) = get_at started rs goes.place task before in
        let fits : IsSound r.body = all_get (λ (x : Record). IsSound x.body) rs m r facts.sound stands in
        let here = starts_home rs task goes.place facts.told still before in
        let there = starts_home rs task m facts.told still (at_get started rs m r stands ∙ starts) in
        stopped_between rs task goes.place m q r facts.ordered still stands_there starts_there here stands
        fits.next starts never there goes.earlier (slice_get_within rs m r stands)
        (λ k above below is.
        goes.unstopped k above below
        (at_home (home_of rs task) (thread_at rs k) is
        ∙ sym (at_home (home_of rs task) (thread_at rs goes.place) here) ∙ goes.on))

-- ---- all tasks that a thread goes on with

-- those that it has left off, behind the one that it runs
abbrev pub ongoing : Walk → List (Option ℕ)
ongoing walk = walk.current ∷ walk.outer

-- each of them that was created is one that goes on, and none is there twice
record AreOngoing (rs : List Record) (thread n : ℕ) (l : List Record) (tasks : List (Option ℕ)) : Type 0 where
  each : (k task : ℕ) → IsNoRoot rs task → get_or tasks k None ≡ Some task
      → GoesOn rs thread n task (turn_in task l)
  apart : (a b task : ℕ) → IsNoRoot rs task → get_or tasks a None ≡ Some task
      → get_or tasks b None ≡ Some task → a ≡ b

-- the created tasks of the one list are in the other, each at a place of its own
record IsPart (rs : List Record) (some all : List (Option ℕ)) : Type 0 where
  to : ℕ → ℕ
  was : (k task : ℕ) → IsNoRoot rs task → get_or some k None ≡ Some task → get_or all (to k) None ≡ Some task
  once : (a b task : ℕ) → IsNoRoot rs task → get_or some a None ≡ Some task → get_or some b None ≡ Some task
      → to a ≡ to b → a ≡ b

-- a record that starts nothing leaves the turns as they are, and so does one that starts another task
turn_kept : (task : ℕ) (l : List Record) (r : Record) → started r.body ≢ Some task
    → turn_in task (l ++ r ∷ []) ≡ turn_in task l
turn_kept task l r never =
    fold-append (turn_after task) 0 l (r ∷ []) ∙ by (started r.body) refl
  where
    by : (s : Option ℕ) → started r.body ≡ s
        → option_map_or (λ (b : ℕ × ℕ). cond (b.0 == task) b.1 (turn_in task l))
        (option_map {U = ℕ × ℕ} (λ t. (t, next_turn r.body)) s) (turn_in task l)
        ≡ turn_in task l
    by None is = refl
    by (Some t) is = elim (cases_eq t task) [
      | inl same ↦ absurd (never (is ∙ ap Some same))
      | inr apart ↦ ap (λ b. cond b (next_turn r.body) (turn_in task l)) (ne_eqb t task apart)
    ]

turn_begun : (task : ℕ) (l : List Record) (r : Record) → started r.body ≡ Some task
    → turn_in task (l ++ r ∷ []) ≡ next_turn r.body
turn_begun task l r starts =
    fold-append (turn_after task) 0 l (r ∷ [])
    ∙ ap
    (λ (s : Option ℕ).
    option_map_or (λ (b : ℕ × ℕ). cond (b.0 == task) b.1 (turn_in task l))
    (option_map {U = ℕ × ℕ} (λ t. (t, next_turn r.body)) s) (turn_in task l))
    starts
    ∙ ap (λ b. cond b (next_turn r.body) (turn_in task l)) (eq-eqb task task refl)

-- a record that starts and stops nothing leaves a part of them
part_goes_on : (rs : List Record) (thread n : ℕ) (l : List Record) (r : Record) (tasks next : List (Option ℕ))
    → started r.body ≡ None → (thread_at rs n ≡ Some thread → at stopped rs n ≡ None)
    → IsPart rs next tasks → AreOngoing rs thread n l tasks → AreOngoing rs thread (n + 1) (l ++ r ∷ []) next
part_goes_on rs thread n l r tasks next none quiet part are = record {
  each = λ k task no_root is.
      subst (GoesOn rs thread (n + 1) task)
      (sym (turn_kept task l r (λ starts. none-some task (sym none ∙ starts))))
      (goes_more rs thread n task (turn_in task l)
      (are.each (part.to k) task no_root (part.was k task no_root is))
      (λ on stops. none-some task (sym (quiet on) ∙ stops)));
  apart = λ a b task no_root one other.
      part.once a b task no_root one other
      (are.apart (part.to a) (part.to b) task no_root (part.was a task no_root one)
      (part.was b task no_root other));
}

-- the parts that are left
same_part : (rs : List Record) (tasks : List (Option ℕ)) → IsPart rs tasks tasks
same_part rs tasks = record {
  to = λ k. k;
  was = λ k task no_root is. is;
  once = λ a b task no_root one other is. is;
}

abbrev before_one : ℕ → ℕ
before_one zero = 0
before_one (suc k) = k

-- behind a root that begins they are all there
root_part : (rs : List Record) (root : Option ℕ) (tasks : List (Option ℕ))
    → ((task : ℕ) → IsNoRoot rs task → root ≢ Some task) → IsPart rs (root ∷ tasks) tasks
root_part rs root tasks none = record { to = before_one; was = was; once = once }
  where
    was : (k task : ℕ) → IsNoRoot rs task → get_or (root ∷ tasks) k None ≡ Some task
        → get_or tasks (before_one k) None ≡ Some task
    was zero task no_root is = absurd (none task no_root is)
    was (suc k) task no_root is = is

    once : (a b task : ℕ) → IsNoRoot rs task → get_or (root ∷ tasks) a None ≡ Some task
        → get_or (root ∷ tasks) b None ≡ Some task → before_one a ≡ before_one b → a ≡ b
    once zero b task no_root one other same = absurd (none task no_root one)
    once (suc a) zero task no_root one other same = absurd (none task no_root other)
    once (suc a) (suc b) task no_root one other same = ap suc same

-- where a root ends, all but that root's place
shorter : (outer : List (Option ℕ)) (current : Option ℕ) (k : ℕ)
    → get_or (get_or outer 0 None ∷ drop 1 outer) k None ≡ get_or (current ∷ outer) (suc k) None
shorter [] current zero = refl
shorter [] current (suc k) = refl
shorter (o ∷ os) current zero = refl
shorter (o ∷ os) current (suc k) = refl

back_part : (rs : List Record) (walk : Walk)
    → IsPart rs (get_or walk.outer 0 None ∷ drop 1 walk.outer) (ongoing walk)
back_part rs walk = record {
  to = suc;
  was = λ k task no_root is. sym (shorter walk.outer walk.current k) ∙ is;
  once = λ a b task no_root one other same. omega (arith, same);
}

-- and where the root below goes on, that of its outer task too
below_part : (rs : List Record) (walk : Walk) (root : Option ℕ)
    → ((task : ℕ) → IsNoRoot rs task → root ≢ Some task)
    → IsPart rs (root ∷ drop 1 walk.outer) (ongoing walk)
below_part rs walk root none = record {
  to = suc;
  was = was walk.outer;
  once = λ a b task no_root one other same. omega (arith, same);
}
  where
    was : (outer : List (Option ℕ)) (k task : ℕ) → IsNoRoot rs task
        → get_or (root ∷ drop 1 outer) k None ≡ Some task
        → get_or (walk.current ∷ outer) (suc k) None ≡ Some task
    was outer zero task no_root is = absurd (none task no_root is)
    was [] (suc k) task no_root is = is
    was (o ∷ os) (suc k) task no_root is = is

-- a record that runs another task in the place of the one that ran
schedule_goes_on : (rs : List Record) (thread n : ℕ) (l : List Record) (r : Record) (walk : Walk)
    → HasOrderlyTurns rs
    → slice_get rs n ≡ Some r → r.thread ≡ thread → stopped r.body ≡ walk.current
    → AreOngoing rs thread n l (ongoing walk)
    → AreOngoing rs thread (n + 1) (l ++ r ∷ []) (started r.body ∷ walk.outer)
schedule_goes_on rs thread n l r walk facts stands same stops are = record { each = each; apart = apart }
  where
    on : thread_at rs n ≡ Some thread
    on = ap (option_map (λ (q : Record). q.thread)) stands ∙ ap Some same

    -- a task that was left off is not the one that ran
    never : (k task : ℕ) → IsNoRoot rs task → get_or walk.outer k None ≡ Some task
        → stopped r.body ≢ Some task
    never k task no_root is stopped_there =
        let one : 0 ≡ suc k = are.apart 0 (suc k) task no_root (sym stops ∙ stopped_there) is in
        absurd (omega (arith, one))

    again : (k task : ℕ) → IsNoRoot rs task → get_or walk.outer k None ≡ Some task
        → started r.body ≢ Some task
    again k task no_root is starts =
        not_started_again rs thread n task (turn_in task l) r facts no_root stands same starts
        (never k task no_root is) (are.each (suc k) task no_root is)

    each : (k task : ℕ) → IsNoRoot rs task → get_or (started r.body ∷ walk.outer) k None ≡ Some task
        → GoesOn rs thread (n + 1) task (turn_in task (l ++ r ∷ []))
    each zero task no_root is = record {
      place = n;
      earlier = omega arith;
      on = on;
      begins = begun_of rs n task r stands is ∙ ap (λ t. Some (task, t)) (sym (turn_begun task l r is));
      unstopped = λ k above below. absurd (omega (arith, above, below));
    }
    each (suc k) task no_root is =
        subst (GoesOn rs thread (n + 1) task) (sym (turn_kept task l r (again k task no_root is)))
        (goes_more rs thread n task (turn_in task l) (are.each (suc k) task no_root is)
        (λ there stopped_there.
        never k task no_root is (sym (at_get stopped rs n r stands) ∙ stopped_there)))

    apart : (a b task : ℕ) → IsNoRoot rs task → get_or (started r.body ∷ walk.outer) a None ≡ Some task
        → get_or (started r.body ∷ walk.outer) b None ≡ Some task → a ≡ b
    apart zero zero task no_root one other = refl
    apart zero (suc b) task no_root one other = absurd (again b task no_root other one)
    apart (suc a) zero task no_root one other = absurd (again a task no_root one other)
    apart (suc a) (suc b) task no_root one other = are.apart (suc a) (suc b) task no_root one other

ongoing_all : (rs : List Record) (thread : ℕ) → HasOrderlyTurns rs → (n : ℕ)
    → AreOngoing rs thread n (part_of rs thread n) (ongoing (walk_of thread (take n rs)))
ongoing_all rs thread facts n =
    part_keeps rs thread (λ m l. AreOngoing rs thread m l (ongoing (fold after_record at_start l)))
    (record {
      each = λ k task no_root is. absurd (nothing k task is);
      apart = λ a b task no_root one other. absurd (nothing a task one);
    })
    own
    (λ m apart before. record {
      each = λ k task no_root is.
          goes_more rs thread m task (turn_in task (part_of rs thread m)) (before.each k task no_root is)
          (λ on. absurd (apart on));
      apart = before.apart;
    })
    n
  where
    nothing : (k task : ℕ) → get_or (None ∷ []) k None ≡ Some task → ⊥
    nothing zero task is = none-some task is
    nothing (suc k) task is = none-some task is

    own : (m : ℕ) (r : Record) → slice_get rs m ≡ Some r → r.thread ≡ thread
        → AreOngoing rs thread m (part_of rs thread m)
        (ongoing (fold after_record at_start (part_of rs thread m)))
        → AreOngoing rs thread (m + 1) (part_of rs thread m ++ r ∷ [])
        (ongoing (fold after_record at_start (part_of rs thread m ++ r ∷ [])))
    own m r stands same before =
        subst (λ w. AreOngoing rs thread (m + 1) (part_of rs thread m ++ r ∷ []) (ongoing w))
        (sym (fold-append after_record at_start (part_of rs thread m) (r ∷ []))) (by r.body refl)
      where
        l : List Record
        l = part_of rs thread m

        walk : Walk
        walk = walk_of thread (take m rs)

        root_not : (task : ℕ) → IsNoRoot rs task → begun_root r.body ≢ Some task
        root_not task no_root begins =
            no_root (m, ap (option_and_then (λ (q : Record). begun_root q.body)) stands ∙ begins)

        below_not : (task : ℕ) → IsNoRoot rs task → slice_get walk.roots 1 ≢ Some task
        below_not task no_root is =
            no_root (every_get (IsRoot rs) walk.roots 1 task (roots_are rs thread m) is)

        quiet : stopped r.body ≡ None → thread_at rs m ≡ Some thread → at stopped rs m ≡ None
        quiet none on = at_get stopped rs m r stands ∙ none

        ends : (nests : Bool) → started r.body ≡ None → stopped r.body ≡ None
            → AreOngoing rs thread (m + 1) (l ++ r ∷ []) (uncovered nests walk ∷ drop 1 walk.outer)
        ends true none silent =
            part_goes_on rs thread m l r (ongoing walk) (get_or walk.outer 0 None ∷ drop 1 walk.outer) none
            (quiet silent) (back_part rs walk) before
        ends false none silent =
            part_goes_on rs thread m l r (ongoing walk) (slice_get walk.roots 1 ∷ drop 1 walk.outer) none
            (quiet silent) (below_part rs walk (slice_get walk.roots 1) below_not) before

        stays : started r.body ≡ None → stopped r.body ≡ None
            → AreOngoing rs thread (m + 1) (l ++ r ∷ []) (ongoing walk)
        stays none silent =
            part_goes_on rs thread m l r (ongoing walk) (ongoing walk) none (quiet silent)
            (same_part rs (ongoing walk)) before

        fits : HasItsNext r.body
        fits = (all_get (λ (q : Record). IsSound q.body) rs m r facts.sound stands).next

        -- the task that a schedule stops runs there
        stops_current : (b : Body) → r.body ≡ b → (task : ℕ) → running b ≡ Some task
            → walk.current ≡ Some task
        stops_current b e task is =
            subst (λ t. (walk_of t (take m rs)).current ≡ Some task) same
            (runs_there rs m task r facts.current stands (ap running e ∙ is))

        by : (b : Body) → r.body ≡ b
            → AreOngoing rs thread (m + 1) (l ++ r ∷ []) (ongoing (after_body r.nests walk b))
        by (ImplicitTask Begin actual index flags parallel root) e =
            part_goes_on rs thread m l r (ongoing walk) (Some root ∷ ongoing walk) (ap started e)
            (quiet (ap stopped e))
            (root_part rs (Some root) (ongoing walk)
            (λ task no_root is. root_not task no_root (ap begun_root e ∙ is)))
            before
        by (ImplicitTask End actual index flags parallel root) e = ends r.nests (ap started e) (ap stopped e)
        by (ImplicitTask BeginEnd actual index flags parallel root) e = stays (ap started e) (ap stopped e)
        by (TaskSchedule status turns prior next claimed) e = goes (demands_next status) refl
          where
            goes : (d : Bool) → demands_next status ≡ d
                → AreOngoing rs thread (m + 1) (l ++ r ∷ [])
                (ongoing (cond d (record { roots = walk.roots; outer = walk.outer; current = next }) walk))
            goes true demands =
                let stops : stopped r.body ≡ Some prior =
                ap stopped e ∙ ap (λ d. cond d (Some prior) None) demands in
                let ran = stops_current (TaskSchedule status turns prior next claimed) e prior
                (ap (λ d. cond d (Some prior) None) demands) in
                subst (λ o. AreOngoing rs thread (m + 1) (l ++ r ∷ []) (o ∷ walk.outer)) (ap started e)
                (schedule_goes_on rs thread m l r walk facts stands same (stops ∙ sym ran) before)
            goes false silent =
                stays
                (ap started e ∙ missing_next next (sym (ap is_some (ap started e)) ∙ has ∙ silent))
                (ap stopped e ∙ ap (λ d. cond d (Some prior) None) silent)
              where
                has : is_some (started r.body) ≡ demands_next status
                has =
                    subst (λ b. HasItsNext b → is_some (started b) ≡ demands_next status) (sym e)
                    (λ is. is) fits

                missing_next : (o : Option ℕ) → is_some o ≡ false → o ≡ None
                missing_next None is = refl
                missing_next (Some t) is = absurd (true≢false is)
        by b e = stays (ap started e) (ap stopped e)

-- ---- what follows

-- a task that a thread runs is in the turn that it began there last, and has not been stopped since
pub goes_on : (rs : List Record) (thread n task : ℕ) → HasOrderlyTurns rs → IsNoRoot rs task
    → (walk_of thread (take n rs)).current ≡ Some task
    → GoesOn rs thread n task (turn_in task (part_of rs thread n))
goes_on rs thread n task facts no_root is_running =
    (ongoing_all rs thread facts n).each 0 task no_root is_running

-- the same at a record of the task
pub goes_on_at : (rs : List Record) (i task : ℕ) → HasOrderlyTurns rs → IsNoRoot rs task
    → at running rs i ≡ Some task
    → (thread : ℕ) × (thread_at rs i ≡ Some thread) × GoesOn rs thread i task (turn_at rs i)
goes_on_at rs i task facts no_root is_running =
    let (r, stands, is) = get_at running rs i task is_running in (
      r.thread,
      ap (option_map (λ (q : Record). q.thread)) stands,
      subst (GoesOn rs r.thread i task) (sym (turn_here rs i task r stands is))
          (goes_on rs r.thread i task facts no_root (runs_there rs i task r facts.current stands is)),
    )

-- no record of a task in the turn that a record of its thread stops comes after that
pub none_after_stop : (rs : List Record) (task turn a i begin : ℕ) → HasOrderlyTurns rs → IsNoRoot rs task
    → at stopped rs a ≡ Some task → at begun_turn rs begin ≡ Some (task, turn) → begin < a
    → thread_at rs a ≡ thread_at rs begin → at running rs i ≡ Some task → turn_at rs i ≡ turn → i ≤ a
none_after_stop rs task turn a i begin facts no_root stops begins low same is_running is =
    elim (cases_lt a i) [
      | inr before ↦ before
      | inl after ↦
          let (thread, on, goes) = goes_on_at rs i task facts no_root is_running in
          let one : goes.place ≡ begin =
          begun_once rs facts.told facts.gap task turn goes.place begin
          (goes.begins ∙ ap (λ t. Some (task, t)) is) begins in
          let there = same ∙ ap (thread_at rs) (sym one) ∙ goes.on in
          absurd (goes.unstopped a (omega (arith, low, one)) after there stops)
    ]

not_twice : (rs : List Record) (task turn a b : ℕ) → HasOrderlyTurns rs → IsNoRoot rs task
    → at suspended_turn rs a ≡ Some (task, turn) → at suspended_turn rs b ≡ Some (task, turn) → a < b → ⊥
not_twice rs task turn a b facts no_root one other less =
    let first = stops_there rs a task turn facts no_root one in
    let second = stops_there rs b task turn facts no_root other in
    let low =
    none_after_stop rs task turn a b first.begin facts no_root first.stops first.begins first.earlier
    first.same_thread second.runs_here second.in_turn in
    absurd (omega (arith, low, less))

-- a task is suspended at most once in each of its turns
pub suspended_once : (rs : List Record) (task turn a b : ℕ) → HasOrderlyTurns rs → IsNoRoot rs task
    → at suspended_turn rs a ≡ Some (task, turn) → at suspended_turn rs b ≡ Some (task, turn) → a ≡ b
suspended_once rs task turn a b facts no_root one other = elim (cases_order a b) [
  | inl same ↦ same
  | inr (inl less) ↦ absurd (not_twice rs task turn a b facts no_root one other less)
  | inr (inr more) ↦ absurd (not_twice rs task turn b a facts no_root other one more)
]

-- so in version 2 and in version 3
pub suspended_in_versions : (version : ℕ) (rs : List Record) → IsTraceOf version rs → 1 < version
    → IsFreeOf rs CreatedTwice → IsFreeOf rs NotCurrent → IsFreeOf rs TurnGap → IsFreeOf rs StatusOrder
    → (task turn a b : ℕ) → IsExplicit rs task
    → at suspended_turn rs a ≡ Some (task, turn) → at suspended_turn rs b ≡ Some (task, turn) → a ≡ b
suspended_in_versions version rs trace later once current gap ordered task turn a b explicit one other =
    suspended_once rs task turn a b facts (explicit_not_root rs task once explicit) one other
  where
    told : TellsStarts rs
    told = elim trace.known [
      | inl first ↦ absurd (omega (arith, first, later))
      | inr known ↦ elim known [
        | inl second ↦ (subst (λ v. IsTraceOf v rs) second trace).turns
        | inr third ↦ (subst (λ v. IsTraceOf v rs) third trace).turns
      ]
    ]

    facts : HasOrderlyTurns rs
    facts = record {
      sound = trace.is_trace.sound;
      told = told;
      once = once;
      current = current;
      gap = gap;
      ordered = ordered;
    }
