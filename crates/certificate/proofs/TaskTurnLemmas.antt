-- What is noted of the tasks, by the records so far.
use Rattle.std.proofs.Common.{◌≡◌, ◌∙◌, ℕ, ◌<◌, ◌≤◌, ◌+◌, ◌-◌, ◌⊎◌, List, [], ◌∷◌, ◌++◌, length, take, Option}
use Rattle.std.proofs.Common.{Some, None, Bool, true, false, cond, refl, sym, ap, arith, inl, inr, add-one}
use Rattle.std.specs.Prelude.{slice_get, option_and_then, option_map, ◌||◌, ◌==◌, count_by, find, filter}
use Rattle.std.specs.Prelude.{fold, slice_set, is_some, IsSome, if◌then◌else◌}
use Rattle.std.specs.List.{list_any}
use Rattle.std.specs.Option.{option_map_or, unwrap_or}
use Rattle.std.specs.Ordering.{nat_cmp}
use Rattle.std.specs.BTreeMap.{BTreeMap, get}
use Rattle.std.proofs.lemmas.Bool.{cases_Bool, cases_eq, eq-eqb, ne_eqb, true≢false}
use Rattle.std.proofs.lemmas.List.{length-take-le}
use Rattle.std.proofs.lemmas.List.Folds.{list_any_more}
use Rattle.std.proofs.lemmas.List.Sums.{count_by_more_yes, count_by_more_no, count_by-le-length, fold-append}
use Rattle.std.proofs.lemmas.List.Elements.{filter-append}
use Rattle.std.proofs.lemmas.Option.{none-some, same_Some, slice_get_within, get_or_from_slice_get}
use Rattle.std.proofs.Math.Seq.{take-suc-set}
use Rattle.ompt_events.specs.declared.records.Record.{Record}
use Rattle.ompt_events.specs.declared.records.Body.{Body}
use Rattle.ompt_events.specs.declared.records.Body.TheVariants.{TaskSchedule}
use Rattle.ompt_events.specs.declared.records.Turns.{Turns}
use Rattle.ompt_events.specs.Records.{begun_root, started, begun_turn}
use Rattle.ompt_events.specs.Turns.{turn_in, turn_after}
use Rattle.ompt_events.specs.Places.{at, thread_at}
use Rattle.ompt_events.specs.States.{is_task, is_made_so}
use Rattle.certificate.specs.declared.task_turns.TaskTurns.{TaskTurns}
use Rattle.ompt_events.specs.Upgrades.{Moves, turn_counted, telling}
use Rattle.ompt_events.proofs.PlaceLemmas.{at_get, thread_get, is_the_task, the_task}
use Rattle.certificate.specs.TaskTurns.{no_turns, first_turn, noted, with_begin, with_start, with_turn}
use Rattle.certificate.specs.TaskTurns.{one_later, turn_ended, IsElsewhere, IsAtHome, AreHomesNoted}
use Rattle.certificate.specs.TaskTurns.{AreTurnsNoted}
use Rattle.certificate.specs.TaskTurns.{AreEnded, turns_told, told_by}

-- ---- single records

-- a place where a task runs next has a thread
no_thread : (rs : List Record) (k task : ℕ) → at started rs k ≡ Some task → thread_at rs k ≡ None → ⊥
no_thread rs k task ran none = by (slice_get rs k) refl
  where
    by : (o : Option Record) → slice_get rs k ≡ o → ⊥
    by None e = none-some task (sym (ap (option_and_then (λ (q : Record). started q.body)) e) ∙ ran)
    by (Some r) e = none-some r.thread (sym none ∙ thread_get rs k r e)

-- ---- the first pass

begin_home : (task : ℕ) (r : Record) (t : TaskTurns) → (with_begin task r t).home ≡ t.home
begin_home task r t = by (is_task task (begun_root r.body))
  where
    by : (b : Bool) → (cond {A = TaskTurns} b (record { home = t.home; next = 1 }) t).home ≡ t.home
    by true = refl
    by false = refl

begin_next : (task : ℕ) (r : Record) (t : TaskTurns)
    → (with_begin task r t).next ≡ cond (is_task task (begun_root r.body)) 1 t.next
begin_next task r t = by (is_task task (begun_root r.body))
  where
    by : (b : Bool) → (cond {A = TaskTurns} b (record { home = t.home; next = 1 }) t).next ≡ cond b 1 t.next
    by true = refl
    by false = refl

start_next : (task : ℕ) (r : Record) (t : TaskTurns) → (with_start task r t).next ≡ t.next
start_next task r t = by (is_task task (started r.body))
  where
    by : (b : Bool)
        → (cond {A = TaskTurns} b (record { home = Some r.thread; next = t.next }) t).next ≡ t.next
    by true = refl
    by false = refl

start_home : (task : ℕ) (r : Record) (t : TaskTurns)
    → (with_start task r t).home ≡ cond (is_task task (started r.body)) (Some r.thread) t.home
start_home task r t = by (is_task task (started r.body))
  where
    by : (b : Bool)
        → (cond {A = TaskTurns} b (record { home = Some r.thread; next = t.next }) t).home
        ≡ cond b (Some r.thread) t.home
    by true = refl
    by false = refl

-- whether one is found, as a test of all
finds : (p : Record → Bool) (rs : List Record) → is_some (find p rs) ≡ list_any p rs
finds p [] = refl
finds p (r ∷ rs) = by (p r) (finds p rs)
  where
    by : (b : Bool) → is_some (find p rs) ≡ list_any p rs
        → is_some (cond b (Some r) (find p rs)) ≡ (b || list_any p rs)
    by true is = refl
    by false is = is

or_first : (x y : Bool) (n : ℕ) → n ≡ cond x 1 0 → cond y 1 n ≡ cond {A = ℕ} (x || y) 1 0
or_first true true n is = refl
or_first true false n is = is
or_first false true n is = refl
or_first false false n is = is

-- one more record, at which no task moves
pub homes_more : (rs : List Record) (i : ℕ) (r : Record) (old mid new : BTreeMap ℕ TaskTurns)
    → slice_get rs i ≡ Some r → AreHomesNoted rs i old
    → ((task : ℕ) → noted mid task ≡ with_begin task r (noted old task)) → IsAtHome mid r
    → ((task : ℕ) → noted new task ≡ with_start task r (noted mid task)) → AreHomesNoted rs (i + 1) new
homes_more rs i r old mid new stands are begins stays starts = record {
  at_home = λ task k below ran. elim (cases_Bool (is_task task (started r.body))) [
    | inl is ↦ elim (cases_eq k i) [
      | inl same ↦ ap (thread_at rs) same ∙ thread_get rs i r stands ∙ sym (home_here task is)
      | inr apart ↦ elim (stays task (is_the_task task (started r.body) is)) [
        | inl nowhere ↦
            absurd
            (no_thread rs k task ran
            (are.at_home task k (omega (arith, below, apart)) ran ∙ sym (mid_home task) ∙ nowhere))
        | inr home ↦
            are.at_home task k (omega (arith, below, apart)) ran ∙ sym (mid_home task) ∙ home
            ∙ sym (home_here task is)
      ]
    ]
    | inr never ↦ elim (cases_eq k i) [
      | inl same ↦
          absurd
          (true≢false
          (sym
          (the_task task (started r.body)
          (sym (at_get started rs i r stands) ∙ ap (at started rs) (sym same) ∙ ran))
          ∙ never))
      | inr apart ↦ are.at_home task k (omega (arith, below, apart)) ran ∙ sym (home_there task never)
    ]
  ];
  ran = λ task home lives. elim (cases_Bool (is_task task (started r.body))) [
    | inl is ↦ (
      i,
      omega arith,
      at_get started rs i r stands ∙ is_the_task task (started r.body) is,
      thread_get rs i r stands ∙ sym (home_here task is) ∙ lives,
    )
    | inr never ↦
        let before = are.ran task home (sym (home_there task never) ∙ lives) in
        (before.0, omega (arith, before.1), before.2, before.3)
  ];
  first = λ task.
      let test : Record → Bool = λ q. is_task task (begun_root q.body) in
      let more : list_any test (take (i + 1) rs) ≡ (list_any test (take i rs) || test r) =
      list_any_more test rs i r (slice_get_within rs i r stands)
      ∙ ap (λ (q : Record). list_any test (take i rs) || test q)
      (get_or_from_slice_get rs i r r stands) in
      let before : (noted old task).next ≡ cond {A = ℕ} (list_any test (take i rs)) 1 0 =
      are.first task ∙ ap (λ b. cond {A = ℕ} b 1 0) (finds test (take i rs)) in
      ap (λ (t : TaskTurns). t.next) (starts task) ∙ start_next task r (noted mid task)
      ∙ ap (λ (t : TaskTurns). t.next) (begins task) ∙ begin_next task r (noted old task)
      ∙ or_first (list_any test (take i rs)) (test r) (noted old task).next before
      ∙ ap (λ b. cond {A = ℕ} b 1 0) (sym (finds test (take (i + 1) rs) ∙ more));
}
  where
    mid_home : (task : ℕ) → (noted mid task).home ≡ (noted old task).home
    mid_home task = ap (λ (t : TaskTurns). t.home) (begins task) ∙ begin_home task r (noted old task)

    home_here : (task : ℕ) → is_task task (started r.body) ≡ true → (noted new task).home ≡ Some r.thread
    home_here task is =
        ap (λ (t : TaskTurns). t.home) (starts task) ∙ start_home task r (noted mid task)
        ∙ ap (λ b. cond b (Some r.thread) (noted mid task).home) is

    home_there : (task : ℕ) → is_task task (started r.body) ≡ false
        → (noted new task).home ≡ (noted old task).home
    home_there task never =
        ap (λ (t : TaskTurns). t.home) (starts task) ∙ start_home task r (noted mid task)
        ∙ ap (λ b. cond b (Some r.thread) (noted mid task).home) never ∙ mid_home task

-- the task that is noted to run on another thread moves
pub moves : (rs : List Record) (i : ℕ) (r : Record) (old mid : BTreeMap ℕ TaskTurns) → slice_get rs i ≡ Some r
    → AreHomesNoted rs i old → ((task : ℕ) → noted mid task ≡ with_begin task r (noted old task))
    → IsElsewhere mid r → Moves rs i
moves rs i r old mid stands are begins elsewhere =
    let task = elsewhere.task in
    let before =
    are.ran task elsewhere.home
    (sym (begin_home task r (noted old task)) ∙ ap (λ (t : TaskTurns). t.home) (sym (begins task))
    ∙ elsewhere.lives) in
    record {
      task = task;
      next = at_get started rs i r stands ∙ elsewhere.runs;
      earlier = before.0;
      before = before.1;
      next_before = before.2;
      elsewhere =
          λ same.
          elsewhere.apart
          (same_Some elsewhere.home r.thread (sym before.3 ∙ same ∙ thread_get rs i r stands));
    }

-- and one that is noted to run on this thread, or on none, does not
pub stays_home : (rs : List Record) (i : ℕ) (r : Record) (old mid : BTreeMap ℕ TaskTurns)
    → slice_get rs i ≡ Some r → AreHomesNoted rs i old
    → ((task : ℕ) → noted mid task ≡ with_begin task r (noted old task)) → IsAtHome mid r → Moves rs i → ⊥
stays_home rs i r old mid stands are begins stays move =
    let task = move.task in
    let home : thread_at rs move.earlier ≡ (noted mid task).home =
    are.at_home task move.earlier move.before move.next_before
    ∙ sym (ap (λ (t : TaskTurns). t.home) (begins task) ∙ begin_home task r (noted old task)) in
    elim (stays task (sym (at_get started rs i r stands) ∙ move.next)) [
      | inl nowhere ↦ no_thread rs move.earlier task move.next_before (home ∙ nowhere)
      | inr here ↦ move.elsewhere (home ∙ here ∙ sym (thread_get rs i r stands))
    ]

-- ---- the second pass

pub first_few : (rs : List Record) (task : ℕ) → first_turn rs task ≤ 1
first_few rs task = by (is_made_so (λ b. is_task task (begun_root b)) rs)
  where
    by : (b : Bool) → cond {A = ℕ} b 1 0 ≤ 1
    by true = omega arith
    by false = omega arith

pub turn_few : (rs : List Record) (task i : ℕ) → i ≤ length rs → turn_counted rs i task ≤ i + 1
turn_few rs task i short =
    let first = first_few rs task in
    let starts = count_by-le-length (λ (r : Record). is_task task (started r.body)) (take i rs) in
    let long = length-take-le i rs short in
    omega (arith, first, starts, long)

-- after how many of these records the task runs next
abbrev starts_in : ℕ → List Record → ℕ
starts_in task rs = count_by (λ (r : Record). is_task task (started r.body)) rs

starts_more : (rs : List Record) (i : ℕ) (r : Record) (task : ℕ) → slice_get rs i ≡ Some r
    → starts_in task (take (i + 1) rs) ≡ starts_in task (take i rs) + cond (is_task task (started r.body)) 1 0
starts_more rs i r task stands = elim (cases_Bool (test r)) [
  | inl is ↦
      count_by_more_yes test rs i r (slice_get_within rs i r stands)
      (ap test (get_or_from_slice_get rs i r r stands) ∙ is)
      ∙ ap (λ b. starts_in task (take i rs) + cond b 1 0) (sym is)
  | inr never ↦
      let one =
      count_by_more_no test rs i r (slice_get_within rs i r stands)
      (ap test (get_or_from_slice_get rs i r r stands) ∙ never) in
      let zero_more : starts_in task (take i rs) ≡ starts_in task (take i rs) + 0 = omega arith in
      one ∙ zero_more ∙ ap (λ b. starts_in task (take i rs) + cond b 1 0) (sym never)
]
  where
    test : Record → Bool
    test q = is_task task (started q.body)

turn_home : (task : ℕ) (r : Record) (t : TaskTurns) → (with_turn task r t).home ≡ t.home
turn_home task r t = by (is_task task (started r.body))
  where
    by : (b : Bool) → (cond {A = TaskTurns} b (one_later t) t).home ≡ t.home
    by true = refl
    by false = refl

turn_next : (task : ℕ) (r : Record) (t : TaskTurns)
    → (with_turn task r t).next ≡ t.next + cond (is_task task (started r.body)) 1 0
turn_next task r t = by (is_task task (started r.body))
  where
    by : (b : Bool) → (cond {A = TaskTurns} b (one_later t) t).next ≡ t.next + cond b 1 0
    by true = refl
    by false = omega arith

-- one more record
pub turns_more : (rs : List Record) (i : ℕ) (r : Record) (old new : BTreeMap ℕ TaskTurns)
    → slice_get rs i ≡ Some r → AreTurnsNoted rs i old
    → ((task : ℕ) → noted new task ≡ with_turn task r (noted old task)) → AreTurnsNoted rs (i + 1) new
turns_more rs i r old new stands are begins = record {
  at_home =
      λ task k ran.
      are.at_home task k ran
      ∙ sym (ap (λ (t : TaskTurns). t.home) (begins task) ∙ turn_home task r (noted old task));
  next = λ task.
      let now : (noted new task).next ≡ (noted old task).next + cond (is_task task (started r.body)) 1 0 =
      ap (λ (t : TaskTurns). t.next) (begins task) ∙ turn_next task r (noted old task) in
      let before = are.next task in
      let more = starts_more rs i r task stands in
      omega (arith, now, before, more);
}

-- a task that runs next is noted
pub is_noted : (rs : List Record) (i : ℕ) (r : Record) (table : BTreeMap ℕ TaskTurns)
    → slice_get rs i ≡ Some r → AreTurnsNoted rs i table → (task : ℕ) → started r.body ≡ Some task
    → IsSome (get nat_cmp table task)
is_noted rs i r table stands are task runs = by (get nat_cmp table task) refl
  where
    by : (o : Option TaskTurns) → get nat_cmp table task ≡ o → IsSome o
    by None e =
        absurd
        (no_thread rs i task (at_get started rs i r stands ∙ runs)
        (are.at_home task i (at_get started rs i r stands ∙ runs)
        ∙ ap (λ (o : Option TaskTurns). (unwrap_or o no_turns).home) e))
    by (Some t) e = refl

-- ---- the turns that end

-- a record with its turns
pub told_thread : (table : BTreeMap ℕ TaskTurns) (r : Record) → (told_by table r).thread ≡ r.thread
told_thread table r = by (turns_told table r.thread r.body)
  where
    by : (o : Option Turns)
        → (option_map_or
        (λ (turns : Turns). record {
          thread = r.thread;
          nests = r.nests;
          seq = r.seq;
          seen = r.seen;
          body = telling turns r.body;
        }) o r).thread
        ≡ r.thread
    by None = refl
    by (Some turns) = refl

told_begins : (table : BTreeMap ℕ TaskTurns) (r : Record)
    → begun_turn (told_by table r).body
    ≡ option_map (λ next. (next, (noted table next).next)) (started r.body)
    ⊎ (started r.body ≡ None)
told_begins table r = by r.body refl
  where
    by : (body : Body) → r.body ≡ body
        → begun_turn
        (option_map_or
        (λ (turns : Turns). record {
          thread = r.thread;
          nests = r.nests;
          seq = r.seq;
          seen = r.seen;
          body = telling turns body;
        })
        (turns_told table r.thread body) r).body
        ≡ option_map (λ next. (next, (noted table next).next)) (started body)
        ⊎ (started body ≡ None)
    by (TaskSchedule status before prior (Some next) claim) is = inl refl
    by (TaskSchedule status before prior None claim) is = inr refl
    by _ is = inr refl

told_not : (table : BTreeMap ℕ TaskTurns) (r : Record) → started r.body ≡ None
    → begun_turn (told_by table r).body ≡ None
told_not table r still = by r.body refl still
  where
    by : (body : Body) → r.body ≡ body → started body ≡ None
        → begun_turn
        (option_map_or
        (λ (turns : Turns). record {
          thread = r.thread;
          nests = r.nests;
          seq = r.seq;
          seen = r.seen;
          body = telling turns body;
        })
        (turns_told table r.thread body) r).body
        ≡ None
    by (TaskSchedule status before prior (Some next) claim) is nothing = absurd (none-some next (sym nothing))
    by (TaskSchedule status before prior None claim) is nothing = ap begun_turn is
    by _ is nothing = ap begun_turn is

end_at : (t : TaskTurns) (thread home : ℕ) → t.home ≡ Some home
    → turn_ended t thread ≡ cond (home == thread) (t.next - 1) 0
end_at t thread home lives =
    ap (λ (o : Option ℕ). cond (option_map_or (λ h. h == thread) o false) (t.next - 1) 0) lives

-- the turn in which the task is after the record at n, on a thread
ended_by : (rs : List Record) (n : ℕ) (r : Record) (old new : BTreeMap ℕ TaskTurns) → slice_get rs n ≡ Some r
    → AreTurnsNoted rs n old → ((task : ℕ) → noted new task ≡ with_turn task r (noted old task))
    → (task thread : ℕ) (b : Bool) → (r.thread == thread) ≡ b
    → fold (turn_after task) (turn_ended (noted old task) thread) (cond b (told_by old r ∷ []) [])
    ≡ turn_ended (noted new task) thread
ended_by rs n r old new stands are begins task thread b at_thread = by (started r.body) refl
  where
    same : is_task task (started r.body) ≡ false
        → turn_ended (noted old task) thread ≡ turn_ended (noted new task) thread
    same never =
        sym
        (ap (λ (t : TaskTurns). turn_ended t thread)
        (begins task
        ∙ ap (λ c. cond {A = TaskTurns} c (one_later (noted old task)) (noted old task)) never))

    after : (o : Option (ℕ × ℕ)) → begun_turn (told_by old r).body ≡ o → (t : ℕ)
        → turn_after task t (told_by old r)
        ≡ option_map_or (λ (p : ℕ × ℕ). if p.0 == task then p.1 else t) o t
    after o is t =
        ap (λ (x : Option (ℕ × ℕ)). option_map_or (λ (p : ℕ × ℕ). if p.0 == task then p.1 else t) x t) is

    -- no turn of the task begins
    other : (c : Bool) → ((t : ℕ) → turn_after task t (told_by old r) ≡ t) → (t : ℕ)
        → fold (turn_after task) t (cond c (told_by old r ∷ []) []) ≡ t
    other true stays t = stays t
    other false stays t = refl

    told : (next : ℕ) → started r.body ≡ Some next
        → begun_turn (told_by old r).body ≡ Some (next, (noted old next).next)
    told next runs = elim (told_begins old r) [
      | inl is ↦ is ∙ ap (option_map (λ k. (k, (noted old k).next))) runs
      | inr still ↦ absurd (none-some next (sym still ∙ runs))
    ]

    home : (next : ℕ) → started r.body ≡ Some next → next ≡ task → (noted old task).home ≡ Some r.thread
    home next runs is =
        sym (are.at_home task n (at_get started rs n r stands ∙ runs ∙ ap Some is)) ∙ thread_get rs n r stands

    here : (next : ℕ) → started r.body ≡ Some next → next ≡ task → (c : Bool) → (r.thread == thread) ≡ c
        → fold (turn_after task) (turn_ended (noted old task) thread) (cond c (told_by old r ∷ []) [])
        ≡ cond c ((noted old task).next + 1 - 1) 0
    here next runs is true here_too =
        let one_more : (noted old task).next ≡ (noted old task).next + 1 - 1 = omega arith in
        after (Some (next, (noted old next).next)) (told next runs) (turn_ended (noted old task) thread)
        ∙ ap (λ c. cond c (noted old next).next (turn_ended (noted old task) thread)) (eq-eqb next task is)
        ∙ ap (λ k. (noted old k).next) is ∙ one_more
    here next runs is false elsewhere =
        end_at (noted old task) thread r.thread (home next runs is)
        ∙ ap (λ c. cond c ((noted old task).next - 1) 0) elsewhere

    by : (o : Option ℕ) → started r.body ≡ o
        → fold (turn_after task) (turn_ended (noted old task) thread) (cond b (told_by old r ∷ []) [])
        ≡ turn_ended (noted new task) thread
    by None still =
        other b (after None (told_not old r still)) (turn_ended (noted old task) thread)
        ∙ same (ap (is_task task) still)
    by (Some next) runs = elim (cases_eq next task) [
      | inl is ↦
          let later : noted new task ≡ one_later (noted old task) =
          begins task
          ∙ ap (λ c. cond {A = TaskTurns} c (one_later (noted old task)) (noted old task))
          (ap (is_task task) runs ∙ eq-eqb next task is) in
          here next runs is b at_thread
          ∙ sym
          (ap (λ (t : TaskTurns). turn_ended t thread) later
          ∙ end_at (one_later (noted old task)) thread r.thread (home next runs is)
          ∙ ap (λ c. cond c ((noted old task).next + 1 - 1) 0) at_thread)
      | inr apart ↦
          other b
          (λ t.
          after (Some (next, (noted old next).next)) (told next runs) t
          ∙ ap (λ c. cond c (noted old next).next t) (ne_eqb next task apart))
          (turn_ended (noted old task) thread)
          ∙ same (ap (is_task task) runs ∙ ne_eqb next task apart)
    ]

-- one more record, with its turns
pub ended_more : (rs now : List Record) (n : ℕ) (r : Record) (old new : BTreeMap ℕ TaskTurns)
    → slice_get rs n ≡ Some r → n < length now → AreTurnsNoted rs n old → AreEnded now n old
    → ((task : ℕ) → noted new task ≡ with_turn task r (noted old task))
    → AreEnded (slice_set now n (told_by old r)) (n + 1) new
ended_more rs now n r old new stands within are ended begins = λ task thread.
    let p : Record → Bool = λ q. q.thread == thread in
    let parts : take (n + 1) (slice_set now n (told_by old r)) ≡ take n now ++ told_by old r ∷ [] =
    ap (λ m. take m (slice_set now n (told_by old r))) (add-one n)
    ∙ take-suc-set now n (told_by old r) within in
    ap (λ (xs : List Record). turn_in task (filter p xs)) parts
    ∙ ap (turn_in task) (filter-append p (take n now) (told_by old r ∷ []))
    ∙ fold-append (turn_after task) 0 (filter p (take n now)) (filter p (told_by old r ∷ []))
    ∙ ap (λ t. fold (turn_after task) t (filter p (told_by old r ∷ []))) (ended task thread)
    ∙ ap
    (λ m.
    fold (turn_after task) (turn_ended (noted old task) thread)
    (cond (m == thread) (told_by old r ∷ []) []))
    (told_thread old r)
    ∙ ended_by rs n r old new stands are begins task thread (r.thread == thread) refl
