-- Where no record shows a cause, what happens before what keeps each task's own order: along one thread by
-- the order of the thread, and from one thread to another by the suspension that ends each turn and the
-- record that begins the next one.
use Rattle.std.proofs.Common.{◌≡◌, ◌≢◌, ◌∙◌, ℕ, zero, suc, ◌<◌, ◌+◌, ◌-◌, List, length, Some}
use Rattle.std.proofs.Common.{Bool, true, false, refl, sym, ap, subst, arith, inl, inr, ◌⊎◌}
use Rattle.std.proofs.lemmas.Bool.{cases_eq, cases_order}
use Rattle.std.specs.Prelude.{is_some, option_map}
use Rattle.ompt_events.specs.declared.records.Record.{Record}
use Rattle.ompt_events.specs.declared.cause.Cause.TheVariants.{CreatedTwice, NotCurrent, TurnGap, StatusOrder}
use Rattle.ompt_events.specs.Records.{begun_root, running, started, stopped, next_turn, begun_turn}
use Rattle.ompt_events.specs.Records.{suspended_turn, told_turns}
use Rattle.ompt_events.specs.Places.{at, thread_at, is_own}
use Rattle.ompt_events.specs.Tree.{IsRoot}
use Rattle.ompt_events.specs.Traces.{IsTrace, IsTraceOf, IsSound}
use Rattle.ompt_events.specs.Turns.{turn_at, own_place}
use Rattle.ompt_events.specs.States.{is_on, home_of, has_moved}
use Rattle.ompt_events.specs.HappensBefore.{IsStart, thread_order, resumption, program, HappensBefore, step}
use Rattle.ompt_events.specs.HappensBefore.{chain}
use Rattle.ompt_events.specs.Causes.{IsFreeOf, turn_gap, falling}
use Rattle.ompt_events.proofs.PlaceLemmas.{at_get, at_within, get_at, is_the_task, the_task}
use Rattle.ompt_events.proofs.ListLemmas.{all_get}
use Rattle.ompt_events.proofs.TurnLemmas.{begun_started, start_starts, start_first, first_version_tells_none}
use Rattle.task_tree.proofs.OwnOrderLemmas.{own_order}
use Rattle.task_tree.proofs.RisingLemmas.{untold_rise}
use Rattle.task_tree.proofs.SuspendedLemmas.{Suspended, suspended_parts, told_right, begun_told, begun_once}
use Rattle.task_tree.proofs.SuspendedLemmas.{TellsStarts}
use Rattle.checker.specs.Readings.{by_task}
use Rattle.checker.specs.Verdicts.{ShowsNone}
use Rattle.checker.proofs.TurnWalkLemmas.{first_or_told}
use Rattle.checker.proofs.UpgradeWalkLemmas.{StaysAtHome, one_home, runs_home, same_or_not}
use Rattle.checker.proofs.UpgradeableLemmas.{moves_nowhere}
use Rattle.checker.proofs.TurnEndLemmas.{suspended_in}
use Rattle.checker.proofs.OngoingLemmas.{HasOrderlyTurns, IsNoRoot, begun_before, begun_earlier}
use Rattle.checker.proofs.OngoingLemmas.{none_after_stop, at_home, moved_away}
use Rattle.checker.proofs.OwnTurnLemmas.{OwnTurn, own_turn, later_turn_later}
use Rattle.checker.proofs.OwnTurnLemmas.{root_own, root_next}

-- ---- what happens before what

-- the same record, or an earlier one
abbrev IsBefore : List Record → ℕ → ℕ → Type 0
IsBefore rs a b = (a ≡ b) ⊎ HappensBefore rs a b

then_before : (rs : List Record) (a b c : ℕ) → IsBefore rs a b → HappensBefore rs b c → HappensBefore rs a c
then_before rs a b c (inl same) next = subst (λ k. HappensBefore rs k c) (sym same) next
then_before rs a b c (inr before) next = chain before next

both_before : (rs : List Record) (a b c : ℕ) → IsBefore rs a b → IsBefore rs b c → IsBefore rs a c
both_before rs a b c before (inl same) = subst (IsBefore rs a) same before
both_before rs a b c before (inr next) = inr (then_before rs a b c before next)

on_one_thread : (rs : List Record) (a b : ℕ) → a < b → b < length rs → thread_at rs a ≡ thread_at rs b
    → HappensBefore rs a b
on_one_thread rs a b less within same = step (program (thread_order less within same))

-- ---- a task that moves

-- what is known of the trace, and of a task that begins as no root and runs on more than one thread
record HasMoved (rs : List Record) (task : ℕ) : Type 0 where
  facts : HasOrderlyTurns rs
  not_root : IsNoRoot rs task
  moves : has_moved rs task ≡ true

begun_of : (rs : List Record) (i task : ℕ) → at started rs i ≡ Some task
    → (turn : ℕ) × (at begun_turn rs i ≡ Some (task, turn))
begun_of rs i task starts =
    let (r, stands, is) = get_at started rs i task starts in (
      next_turn r.body,
      at_get begun_turn rs i r stands ∙ ap (option_map {U = ℕ × ℕ} (λ t. (t, next_turn r.body))) is,
    )

-- what is known of a trace without a cause that tells its turns
orderly : (rs : List Record) → IsTrace rs → TellsStarts rs → ShowsNone (by_task rs) → HasOrderlyTurns rs
orderly rs trace told none = record {
  sound = trace.sound;
  told = told;
  once = λ n. none n CreatedTwice;
  current = λ n. none n NotCurrent;
  gap = λ n. none n TurnGap;
  ordered = λ n. none n StatusOrder;
}

-- the end of a turn: a record of the task in the turn. The next turn begins there, or at a record that this
-- one happens before
record TurnEnd (rs : List Record) (task turn e : ℕ) : Type 0 where
  place : ℕ
  runs_there : at running rs place ≡ Some task
  stops : at stopped rs place ≡ Some task
  in_turn : turn_at rs place ≡ turn
  next : IsBefore rs place e

turn_end : (rs : List Record) (task turn c e : ℕ) → HasMoved rs task → at begun_turn rs c ≡ Some (task, turn)
    → at begun_turn rs e ≡ Some (task, turn + 1) → TurnEnd rs task turn e
turn_end rs task turn c e known begins resumes =
    let (a, suspends) = suspended_in rs task turn c e known.facts.ordered known.moves begins resumes in
    let (r, stands, is) = get_at suspended_turn rs a (task, turn) suspends in
    let fits : IsSound r.body =
    all_get (λ (q : Record). IsSound q.body) rs a r known.facts.sound stands in
    let turned : is_some (told_turns r.body) ≡ is_some (started r.body) =
    all_get (λ (q : Record). is_some (told_turns q.body) ≡ is_some (started q.body)) rs a r known.facts.told
    stands in
    let parts : Suspended r.body task turn = suspended_parts r.body task turn fits.next turned is in
    record {
      place = a;
      runs_there = at_get running rs a r stands ∙ parts.runs;
      stops = at_get stopped rs a r stands ∙ parts.stops;
      in_turn =
          sym (told_right rs a parts.told known.facts.gap (at_get told_turns rs a r stands ∙ parts.tells))
          ∙ parts.turn_told;
      next = elim (cases_eq a e) [
        | inl same ↦ inl same
        | inr apart ↦ inr (step (program (resumption (record {
          task = task;
          turn = turn;
          suspends = suspends;
          resumes = resumes;
          another = apart;
        }))))
      ];
    }

-- two records of the task in one turn come after one record that begins it, on its thread
same_begin : (rs : List Record) (task i k : ℕ) → HasMoved rs task → (one : OwnTurn rs i task)
    → (other : OwnTurn rs k task) → turn_at rs i ≡ turn_at rs k → one.known.place ≡ other.known.place
same_begin rs task i k known one other same =
    begun_once rs known.facts.told known.facts.gap task (turn_at rs i) one.known.place other.known.place
    one.known.begins (other.known.begins ∙ ap (λ t. Some (task, t)) (sym same))

same_thread : (rs : List Record) (task i k : ℕ) → (one : OwnTurn rs i task) → (other : OwnTurn rs k task)
    → one.known.place ≡ other.known.place → thread_at rs i ≡ thread_at rs k
same_thread rs task i k one other same =
    one.on ∙ sym one.known.on ∙ ap (thread_at rs) same ∙ other.known.on ∙ sym other.on

-- a record of the task in a turn is before the next turn
own_before_next : (rs : List Record) (task i e : ℕ) → HasMoved rs task → at running rs i ≡ Some task
    → at begun_turn rs e ≡ Some (task, turn_at rs i + 1) → IsBefore rs i e
own_before_next rs task i e known is resumes =
    let own = own_turn rs i task known.facts.current known.not_root is in
    let end = turn_end rs task (turn_at rs i) own.known.place e known own.known.begins resumes in
    let stop = own_turn rs end.place task known.facts.current known.not_root end.runs_there in
    let same = same_begin rs task i end.place known own stop (sym end.in_turn) in
    let low =
    none_after_stop rs task (turn_at rs i) end.place i stop.known.place known.facts known.not_root end.stops
    (stop.known.begins ∙ ap (λ t. Some (task, t)) end.in_turn) stop.known.earlier
    (stop.on ∙ sym stop.known.on) is refl in
    let to_end : IsBefore rs i end.place = elim (cases_eq i end.place) [
      | inl there ↦ inl there
      | inr apart ↦
          inr
          (on_one_thread rs i end.place (omega (arith, low, apart))
          (at_within running rs end.place task end.runs_there)
          (same_thread rs task i end.place own stop same))
    ] in
    both_before rs i end.place e to_end end.next

-- the begin of a record's turn is before the record
begin_before_own : (rs : List Record) (task i : ℕ) → at running rs i ≡ Some task → (own : OwnTurn rs i task)
    → HappensBefore rs own.known.place i
begin_before_own rs task i is own =
    on_one_thread rs own.known.place i own.known.earlier (at_within running rs i task is)
    (own.known.on ∙ sym own.on)

-- the begin of a turn is before that of the next
begin_before_next : (rs : List Record) (task turn c e : ℕ) → HasMoved rs task
    → at begun_turn rs c ≡ Some (task, turn) → at begun_turn rs e ≡ Some (task, turn + 1) → IsBefore rs c e
begin_before_next rs task turn c e known begins resumes =
    let end = turn_end rs task turn c e known begins resumes in
    let stop = own_turn rs end.place task known.facts.current known.not_root end.runs_there in
    let same : c ≡ stop.known.place =
    begun_once rs known.facts.told known.facts.gap task turn c stop.known.place begins
    (stop.known.begins ∙ ap (λ t. Some (task, t)) end.in_turn) in
    both_before rs c end.place e
    (inr
    (then_before rs c stop.known.place end.place (inl same)
    (begin_before_own rs task end.place end.runs_there stop)))
    end.next

-- and before that of each later one
begins_rise : (rs : List Record) (task turn d late c e : ℕ) → HasMoved rs task → turn + d ≡ late
    → at begun_turn rs c ≡ Some (task, turn) → at begun_turn rs e ≡ Some (task, late) → IsBefore rs c e
begins_rise rs task turn zero late c e known sum begins later =
    let same : late ≡ turn = omega (arith, sum) in
    inl
    (begun_once rs known.facts.told known.facts.gap task turn c e begins
    (later ∙ ap (λ t. Some (task, t)) same))
begins_rise rs task turn (suc d) late c e known sum begins later =
    let next : late ≡ (turn + d) + 1 = omega (arith, sum) in
    let resumes : at begun_turn rs e ≡ Some (task, (turn + d) + 1) =
    later ∙ ap (λ t. Some (task, t)) next in
    let (b, there) =
    begun_before rs task (turn + d) e known.facts.told known.facts.gap known.not_root resumes in
    both_before rs c b e (begins_rise rs task turn d (turn + d) c b known refl begins there)
    (begin_before_next rs task (turn + d) b e known there resumes)

-- a record of the task is before each record of a later turn
earlier_turn_before : (rs : List Record) (task i k : ℕ) → HasMoved rs task → at running rs i ≡ Some task
    → at running rs k ≡ Some task → turn_at rs i < turn_at rs k → HappensBefore rs i k
earlier_turn_before rs task i k known one other less =
    let own = own_turn rs k task known.facts.current known.not_root other in
    let e = own.known.place in
    let d = turn_at rs k - (turn_at rs i + 1) in
    let sum : (turn_at rs i + 1) + d ≡ turn_at rs k = omega (arith, less) in
    let (b, there) =
    begun_earlier rs task (turn_at rs i + 1) d (turn_at rs k) e known.facts.told known.facts.gap
    known.not_root sum own.known.begins in
    then_before rs i e k
    (both_before rs i b e (own_before_next rs task i b known one there)
    (begins_rise rs task (turn_at rs i + 1) d (turn_at rs k) b e known sum there own.known.begins))
    (begin_before_own rs task k other own)

-- ---- which tasks move

-- a task that runs next on two threads
moved_between : (rs : List Record) (task a b : ℕ) → TellsStarts rs → at started rs a ≡ Some task
    → at started rs b ≡ Some task → thread_at rs a ≢ thread_at rs b → has_moved rs task ≡ true
moved_between rs task a b tells one other apart =
    by (is_on rs (home_of rs task) a) (is_on rs (home_of rs task) b) refl refl
  where
    by : (p q : Bool) → is_on rs (home_of rs task) a ≡ p → is_on rs (home_of rs task) b ≡ q
        → has_moved rs task ≡ true
    by false q e f = moved_away rs task a tells one e
    by true false e f = moved_away rs task b tells other f
    by true true e f =
        absurd
        (apart
        (at_home (home_of rs task) (thread_at rs a) e ∙ sym (at_home (home_of rs task) (thread_at rs b) f)))

-- a task that runs on two threads is no root: a root runs on one
rootless_apart : (rs : List Record) (task i k : ℕ) → IsFreeOf rs CreatedTwice → IsFreeOf rs NotCurrent
    → at running rs i ≡ Some task → at running rs k ≡ Some task → thread_at rs i ≢ thread_at rs k
    → IsNoRoot rs task
rootless_apart rs task i k once current one other apart (s, begins) =
    apart
    (sym (root_own rs i task s once current begins one) ∙ root_own rs k task s once current begins other)

-- and moves
moved_apart : (rs : List Record) (task i k : ℕ) → HasOrderlyTurns rs → at running rs i ≡ Some task
    → at running rs k ≡ Some task → thread_at rs i ≢ thread_at rs k → HasMoved rs task
moved_apart rs task i k facts one other apart =
    let not_root = rootless_apart rs task i k facts.once facts.current one other apart in
    let a = own_turn rs i task facts.current not_root one in
    let b = own_turn rs k task facts.current not_root other in
    record {
      facts = facts;
      not_root = not_root;
      moves =
          moved_between rs task a.known.place b.known.place facts.told
          (begun_started rs a.known.place task (turn_at rs i) a.known.begins)
          (begun_started rs b.known.place task (turn_at rs k) b.known.begins)
          (λ same. apart (a.on ∙ sym a.known.on ∙ same ∙ b.known.on ∙ sym b.on));
    }

-- so a record of it happens before each one of a later turn on another thread
pub turn_kept : (rs : List Record) (task i k : ℕ) → HasOrderlyTurns rs → at running rs i ≡ Some task
    → at running rs k ≡ Some task → thread_at rs i ≢ thread_at rs k → turn_at rs i < turn_at rs k
    → HappensBefore rs i k
turn_kept rs task i k facts one other apart less =
    earlier_turn_before rs task i k (moved_apart rs task i k facts one other apart) one other less

-- ---- a task's own order

-- no task moves in a trace of version 1
stays_home : (rs : List Record) → IsTraceOf 1 rs → ShowsNone (by_task rs) → StaysAtHome rs
stays_home rs trace none = record {
  current = λ i. none i NotCurrent;
  once = λ i. none i CreatedTwice;
  still = moves_nowhere rs trace none;
}

-- of two records of a task on one thread, the one that is earlier in its own order is earlier there
own_on_thread : (version : ℕ) (rs : List Record) (task i k : ℕ) → IsTraceOf version rs → IsFreeOf rs TurnGap
    → at running rs i ≡ Some task → at running rs k ≡ Some task → thread_at rs i ≡ thread_at rs k
    → own_place rs i < own_place rs k → i < k
own_on_thread version rs task i k trace gap one other same less =
    elim ((own_order rs i k (at_within running rs i task one) (at_within running rs k task other)).0 less) [
      | inr (turn, before) ↦ before
      | inl lower ↦ elim (first_or_told version rs trace) [
        | inr told ↦ later_turn_later rs task i k told gap one other same lower
        | inl first ↦ first_version first lower
      ]
    ]
  where
    first_version : IsTraceOf 1 rs → turn_at rs i < turn_at rs k → i < k
    first_version first lower = elim (cases_order i k) [
      | inl is ↦ absurd (let turns = ap (turn_at rs) is in omega (arith, turns, lower))
      | inr (inl before) ↦ before
      | inr (inr after) ↦
          let rise =
          untold_rise rs (first_version_tells_none rs first) task k i (the_task task (at running rs k) other)
          (the_task task (at running rs i) one) after in
          absurd (omega (arith, rise, lower))
    ]

-- a record of a task happens before each one that is later in the task's own order
pub own_kept : (version : ℕ) (rs : List Record) (task i k : ℕ) → IsTraceOf version rs → ShowsNone (by_task rs)
    → is_own rs task i ≡ true → is_own rs task k ≡ true → own_place rs i < own_place rs k
    → HappensBefore rs i k
own_kept version rs task i k trace none is_one is_other less =
    elim (same_or_not (thread_at rs i) (thread_at rs k)) [
      | inl same ↦
          on_one_thread rs i k
          (own_on_thread version rs task i k trace (λ n. none n TurnGap) one other same less) within same
      | inr apart ↦ elim (first_or_told version rs trace) [
        | inl first ↦
            absurd
            (apart
            (at_one_home first
            (rootless_apart rs task i k (λ n. none n CreatedTwice) (λ n. none n NotCurrent) one other apart)))
        | inr told ↦ elsewhere told apart
      ]
    ]
  where
    one : at running rs i ≡ Some task
    one = is_the_task task (at running rs i) is_one

    other : at running rs k ≡ Some task
    other = is_the_task task (at running rs k) is_other

    within : k < length rs
    within = at_within running rs k task other

    at_one_home : IsTraceOf 1 rs → (IsRoot rs task → ⊥) → thread_at rs i ≡ thread_at rs k
    at_one_home first not_root =
        let own = own_turn rs i task (λ n. none n NotCurrent) not_root one in
        let starts = begun_started rs own.known.place task (turn_at rs i) own.known.begins in
        let stays = stays_home rs first none in
        runs_home rs task i own.known.place stays one starts
        ∙ sym (runs_home rs task k own.known.place stays other starts)

    elsewhere : TellsStarts rs → thread_at rs i ≢ thread_at rs k → HappensBefore rs i k
    elsewhere told apart =
        let known = moved_apart rs task i k (orderly rs trace.is_trace told none) one other apart in
        let a = own_turn rs i task known.facts.current known.not_root one in
        let b = own_turn rs k task known.facts.current known.not_root other in
        elim ((own_order rs i k (at_within running rs i task one) within).0 less) [
          | inl lower ↦ earlier_turn_before rs task i k known one other lower
          | inr (turn, before) ↦
              absurd (apart (same_thread rs task i k a b (same_begin rs task i k known a b turn)))
        ]

-- ---- a task's start

-- of two starts on one thread, the first start is the earlier one
start_on_thread : (version : ℕ) (rs : List Record) (task i k : ℕ) → IsTraceOf version rs → IsFreeOf rs TurnGap
    → IsStart rs i task → at started rs k ≡ Some task → i ≢ k → thread_at rs i ≡ thread_at rs k → i < k
start_on_thread version rs task i k trace gap start starts apart same = elim (cases_order i k) [
  | inl is ↦ absurd (apart is)
  | inr (inl before) ↦ before
  | inr (inr after) ↦ elim (first_or_told version rs trace) [
    | inl first ↦
        absurd (start_first rs i task (first_version_tells_none rs first) start k after starts)
    | inr told ↦ absurd (falls told after)
  ]
]
  where
    falls : TellsStarts rs → k < i → ⊥
    falls told after =
        let (turn, begins) = begun_of rs k task starts in
        elim (cases_eq turn 0) [
          | inl zero_turn ↦ start.first k after (begins ∙ ap (λ t. Some (task, t)) zero_turn)
          | inr later ↦
              gap i
              (turn_gap
              (falling task 0 k turn (begun_told rs i task 0 told start.starts, start.starts) after
              (sym same) begins (omega (arith, later))))
        ]

-- the record that first starts a task happens before each other one at which the task runs next
pub start_kept : (version : ℕ) (rs : List Record) (task i k : ℕ) → IsTraceOf version rs
    → ShowsNone (by_task rs) → IsStart rs i task → at started rs k ≡ Some task → i ≢ k
    → HappensBefore rs i k
start_kept version rs task i k trace none start starts other =
    elim (same_or_not (thread_at rs i) (thread_at rs k)) [
      | inl same ↦
          on_one_thread rs i k
          (start_on_thread version rs task i k trace (λ n. none n TurnGap) start starts other same)
          (at_within started rs k task starts) same
      | inr apart ↦ elim (first_or_told version rs trace) [
        | inl first ↦
            absurd
            (apart (one_home rs task i k (moves_nowhere rs first none) (start_starts rs i task start) starts))
        | inr told ↦ elsewhere told apart
      ]
    ]
  where
    elsewhere : TellsStarts rs → thread_at rs i ≢ thread_at rs k → HappensBefore rs i k
    elsewhere told apart =
        let (turn, begins) = begun_of rs k task starts in
        let known : HasMoved rs task = record {
          facts = orderly rs trace.is_trace told none;
          not_root = λ (root : IsRoot rs task).
              let next = λ (n : ℕ) (is : at started rs n ≡ Some task).
              (root_next rs n task root.0 (λ m. none m CreatedTwice) (λ m. none m NotCurrent) root.1 is).1 in
              apart (sym (next i (start_starts rs i task start)) ∙ next k starts);
          moves = moved_between rs task i k told (start_starts rs i task start) starts apart;
        } in
        elim (begins_rise rs task 0 turn turn i k known (omega arith) start.starts begins) [
          | inl same ↦ absurd (other same)
          | inr before ↦ before
        ]

-- the record that begins a root happens before each at which the root runs next
pub begin_kept : (rs : List Record) (task i k : ℕ) → ShowsNone (by_task rs) → at begun_root rs i ≡ Some task
    → at started rs k ≡ Some task → HappensBefore rs i k
begin_kept rs task i k none begins starts =
    let (before, same) =
    root_next rs k task i (λ n. none n CreatedTwice) (λ n. none n NotCurrent) begins starts in
    on_one_thread rs i k before (at_within started rs k task starts) same
