-- A created task is suspended at most once in each of its turns: what a thread runs is the task that the last
-- start on it began.
use Rattle.std.proofs.Common.{◌≡◌, ◌≢◌, ◌∙◌, ℕ, ◌<◌, ◌+◌, zero, suc, List, [], ◌∷◌, ◌++◌, Option, Some, None}
use Rattle.std.proofs.Common.{true, false, Bool, cond, if◌then◌else◌, refl, sym, ap, subst, arith, inl, inr}
use Rattle.std.proofs.Common.{append-nil, true≢false}
use Rattle.std.proofs.lemmas.Option.{none-some, same_Some, slice_get_within, get_or_from_slice_get}
use Rattle.std.proofs.lemmas.Option.{slice_get_cases, some_pair_parts}
use Rattle.std.proofs.lemmas.Bool.{cases_order, cases_eq, eq-eqb, ne_eqb}
use Rattle.std.proofs.lemmas.List.Sums.{fold-append}
use Rattle.std.proofs.lemmas.List.Elements.{filter_more}
use Rattle.std.specs.Prelude.{◌==◌, slice_get, option_and_then, option_map, is_some, filter, fold, take, drop}
use Rattle.std.specs.Prelude.{All}
use Rattle.std.specs.Option.{option_map_or}
use Rattle.ompt_events.specs.declared.records.Record.{Record}
use Rattle.ompt_events.specs.declared.records.Body.{Body}
use Rattle.ompt_events.specs.declared.records.Body.TheVariants.{ImplicitTask, TaskSchedule}
use Rattle.ompt_events.specs.declared.records.Turns.{Turns}
use Rattle.ompt_events.specs.declared.names.Endpoint.TheVariants.{Begin, End, BeginEnd}
use Rattle.ompt_events.specs.declared.names.Status.TheVariants.{Yield, Switch}
use Rattle.ompt_events.specs.declared.cause.Cause.TheVariants.{CreatedTwice, NotCurrent, TurnGap}
use Rattle.ompt_events.specs.Names.{demands_next}
use Rattle.ompt_events.specs.Records.{begun_root, running, started, stopped, suspended_turn, told_turns}
use Rattle.ompt_events.specs.Records.{created}
use Rattle.ompt_events.specs.Records.{next_turn, begun_turn}
use Rattle.ompt_events.specs.Places.{at, thread_at}
use Rattle.ompt_events.specs.Turns.{turn_after, turn_in, turn_at, turn_of}
use Rattle.ompt_events.specs.Tree.{IsRoot, IsExplicit}
use Rattle.ompt_events.specs.Threads.{Walk, at_start, uncovered, after_body, after_record, walk_of, MisfitsAt}
use Rattle.ompt_events.specs.Threads.{not_running}
use Rattle.ompt_events.specs.HappensBefore.{IsResumption}
use Rattle.ompt_events.specs.Traces.{IsTraceOf, IsSound, HasItsNext, HasItsTurns}
use Rattle.ompt_events.specs.Causes.{IsFreeOf, not_current, turn_gap, other_turn, begun_again}
use Rattle.ompt_events.proofs.TurnLemmas.{begun_started}
use Rattle.ompt_events.proofs.ListLemmas.{all_get, take_past}
use Rattle.ompt_events.proofs.RecordLemmas.{begun_at_made, created_at_made, root_or_created}
use Rattle.task_tree.proofs.RankedLemmas.{Every, every_get}
use Rattle.task_tree.proofs.OnceLemmas.{made_once}

-- ---- what no record has

-- a record that misfits is the first of its thread that does, or comes after one
pub no_misfit_below : (rs : List Record) → IsFreeOf rs NotCurrent → (n i : ℕ) → i < n → MisfitsAt rs i → ⊥
no_misfit_below rs none zero i below misfits = absurd (omega arith)
no_misfit_below rs none (suc n) i below misfits =
    none i
    (not_current (record {
      misfits = misfits;
      first = λ k less same earlier. no_misfit_below rs none n k (omega arith) earlier;
    }))

pub no_misfit : (rs : List Record) (i : ℕ) → IsFreeOf rs NotCurrent → MisfitsAt rs i → ⊥
no_misfit rs i none misfits = no_misfit_below rs none (i + 1) i (omega arith) misfits

-- the task that a record is of is the one that its thread runs there
pub runs_there : (rs : List Record) (i task : ℕ) (r : Record) → IsFreeOf rs NotCurrent
    → slice_get rs i ≡ Some r → running r.body ≡ Some task
    → (walk_of r.thread (take i rs)).current ≡ Some task
runs_there rs i task r none stands runs = by (walk_of r.thread (take i rs)).current refl
  where
    misfit : (walk_of r.thread (take i rs)).current ≢ Some task → ⊥
    misfit apart =
        no_misfit rs i none (record {
          the_record = r;
          stands = stands;
          misfits = not_running task runs apart;
        })

    by : (o : Option ℕ) → (walk_of r.thread (take i rs)).current ≡ o → o ≡ Some task
    by None e = absurd (misfit (λ is. none-some task (sym e ∙ is)))
    by (Some t) e = elim (cases_eq t task) [
      | inl same ↦ ap Some same
      | inr apart ↦ absurd (misfit (λ is. apart (same_Some t task (sym e ∙ is))))
    ]

-- ---- one record of a thread more

abbrev pub part_of : List Record → ℕ → ℕ → List Record
part_of rs thread n = filter (λ q. q.thread == thread) (take n rs)

part_more : (rs : List Record) (thread n : ℕ) (r : Record) → slice_get rs n ≡ Some r
    → part_of rs thread (n + 1) ≡ part_of rs thread n ++ cond (r.thread == thread) (r ∷ []) []
part_more rs thread n r stands =
    filter_more (λ q. q.thread == thread) rs n r (slice_get_within rs n r stands)
    ∙ ap (λ (q : Record). part_of rs thread n ++ cond (q.thread == thread) (q ∷ []) [])
    (get_or_from_slice_get rs n r r stands)

pub part_own : (rs : List Record) (thread n : ℕ) (r : Record) → slice_get rs n ≡ Some r → r.thread ≡ thread
    → part_of rs thread (n + 1) ≡ part_of rs thread n ++ r ∷ []
part_own rs thread n r stands same =
    part_more rs thread n r stands
    ∙ ap (λ b. part_of rs thread n ++ cond b (r ∷ []) []) (eq-eqb r.thread thread same)

pub part_other : (rs : List Record) (thread n : ℕ) (r : Record) → slice_get rs n ≡ Some r → r.thread ≢ thread
    → part_of rs thread (n + 1) ≡ part_of rs thread n
part_other rs thread n r stands apart =
    part_more rs thread n r stands
    ∙ ap (λ b. part_of rs thread n ++ cond b (r ∷ []) []) (ne_eqb r.thread thread apart)
    ∙ append-nil (part_of rs thread n)

-- what holds at the start and is kept by each record of the thread holds of all that it has recorded
pub part_keeps : (rs : List Record) (thread : ℕ) (P : ℕ → List Record → Type 0) → P 0 []
    → ((n : ℕ) (r : Record) → slice_get rs n ≡ Some r → r.thread ≡ thread → P n (part_of rs thread n)
    → P (n + 1) (part_of rs thread n ++ r ∷ []))
    → ((n : ℕ) → thread_at rs n ≢ Some thread → P n (part_of rs thread n) → P (n + 1) (part_of rs thread n))
    → (n : ℕ) → P n (part_of rs thread n)
part_keeps rs thread P start own other zero = start
part_keeps rs thread P start own other (suc n) =
    let next : suc n ≡ n + 1 = omega arith in
    subst (λ m. P m (part_of rs thread m)) (sym next) (elim (slice_get_cases rs n).1 [
      | inl (r, within, stands, read) ↦ elim (cases_eq r.thread thread) [
        | inl same ↦
            subst (P (n + 1)) (sym (part_own rs thread n r stands same))
            (own n r stands same (part_keeps rs thread P start own other n))
        | inr apart ↦
            subst (P (n + 1)) (sym (part_other rs thread n r stands apart))
            (other n
            (λ is.
            apart
            (same_Some r.thread thread
            (sym (ap (option_map (λ (q : Record). q.thread)) stands) ∙ is)))
            (part_keeps rs thread P start own other n))
      ]
      | inr (past, stands) ↦
          subst (P (n + 1))
          (ap (filter (λ q. q.thread == thread))
          (take_past rs n past ∙ sym (take_past rs (n + 1) (omega arith))))
          (other n (λ is. none-some thread (sym (ap (option_map (λ (q : Record). q.thread)) stands) ∙ is))
          (part_keeps rs thread P start own other n))
    ])

-- ---- the walk by one record

every_rest : {X : Type 0} (P : X → Type 0) (xs : List X) → Every P xs → Every P (drop 1 xs)
every_rest P [] each = tt
every_rest P (x ∷ xs) each = each.1

pub after_roots : (P : ℕ → Type 0) (nests : Bool) (walk : Walk) (b : Body)
    → ((task : ℕ) → begun_root b ≡ Some task → P task)
    → Every P walk.roots → Every P (after_body nests walk b).roots
after_roots P nests walk (ImplicitTask Begin actual index flags parallel task) new each =
    (new task refl, each)
after_roots P nests walk (ImplicitTask End actual index flags parallel task) new each =
    every_rest P walk.roots each
after_roots P nests walk (ImplicitTask BeginEnd actual index flags parallel task) new each = each
after_roots P nests walk (TaskSchedule status turns prior next claimed) new each = by (demands_next status)
  where
    by : (d : Bool)
        → Every P
        (if d then (record { roots = walk.roots; outer = walk.outer; current = next }) else walk).roots
    by true = each
    by false = each
after_roots P nests walk b new each = each

-- how a task comes to run, or goes on running
data ComesToRun (nests : Bool) (walk : Walk) (b : Body) (task : ℕ) : Type 0 where
  root_begins : begun_root b ≡ Some task → ComesToRun nests walk b task
  is_uncovered : uncovered nests walk ≡ Some task → ComesToRun nests walk b task
  is_started : started b ≡ Some task → ComesToRun nests walk b task
  goes_on : walk.current ≡ Some task → started b ≡ None → stopped b ≡ None → ComesToRun nests walk b task

after_current : (nests : Bool) (walk : Walk) (b : Body) (task : ℕ) → HasItsNext b
    → (after_body nests walk b).current ≡ Some task → ComesToRun nests walk b task
after_current nests walk (ImplicitTask Begin actual index flags parallel root) task fits is = root_begins is
after_current nests walk (ImplicitTask End actual index flags parallel root) task fits is = is_uncovered is
after_current nests walk (ImplicitTask BeginEnd actual index flags parallel root) task fits is =
    goes_on is refl refl
after_current nests walk (TaskSchedule status turns prior next claimed) task fits is =
    by (demands_next status) refl next fits is
  where
    going : Option ℕ → Walk
    going o = record { roots = walk.roots; outer = walk.outer; current = o }

    by : (d : Bool) → demands_next status ≡ d → (o : Option ℕ) → is_some o ≡ demands_next status
        → (if demands_next status then going o else walk).current ≡ Some task
        → ComesToRun nests walk (TaskSchedule status turns prior o claimed) task
    by true e o fits' is' =
        is_started
        (sym (ap (λ d. (if d then going o else walk).current) e) ∙ is')
    by false e None fits' is' =
        goes_on
        (sym (ap (λ d. (if d then going None else walk).current) e) ∙ is')
        refl (ap (λ d. if d then Some prior else None) e)
    by false e (Some t) fits' is' = cc
after_current nests walk b task fits is = goes_on is refl refl

-- ---- the start of what runs

walked : (walk : Walk) (l : List Record) (r : Record)
    → fold after_record walk (l ++ r ∷ []) ≡ after_record (fold after_record walk l) r
walked walk l r = fold-append after_record walk l (r ∷ [])

-- the open roots of a thread are roots
pub roots_are : (rs : List Record) (thread n : ℕ) → Every (IsRoot rs) (walk_of thread (take n rs)).roots
roots_are rs thread n =
    part_keeps rs thread (λ m l. Every (IsRoot rs) (fold after_record at_start l).roots) tt
    (λ m r stands same before.
    subst (λ (w : Walk). Every (IsRoot rs) w.roots) (sym (walked at_start (part_of rs thread m) r))
    (after_roots (IsRoot rs) r.nests (walk_of thread (take m rs)) r.body
    (λ task is. (m, ap (option_and_then (λ (q : Record). begun_root q.body)) stands ∙ is)) before))
    (λ m apart before. before) n

-- no region lies inside another
abbrev pub NestNever : List Record → Type 0
NestNever rs = All (λ r. r.nests ≡ false) rs

-- so in a trace of version 2
pub never_in_version_2 : (rs : List Record) → IsTraceOf 2 rs → NestNever rs
never_in_version_2 rs trace = trace.nesting

-- there the root below goes on behind the innermost one
pub below_root : (rs : List Record) (i : ℕ) (r : Record) (walk : Walk) (task : ℕ) → NestNever rs
    → slice_get rs i ≡ Some r → uncovered r.nests walk ≡ Some task → slice_get walk.roots 1 ≡ Some task
below_root rs i r walk task flat stands is =
    sym (ap (λ b. uncovered b walk) (all_get (λ (q : Record). q.nests ≡ false) rs i r flat stands)) ∙ is

-- the last record before n that changed what the thread runs begins this turn of the task
record LastStart (rs : List Record) (thread n task turn : ℕ) : Type 0 where
  place : ℕ
  earlier : place < n
  on : thread_at rs place ≡ Some thread
  begins_turn : at begun_turn rs place ≡ Some (task, turn)
  quiet : (k : ℕ) → place < k → k < n → thread_at rs k ≡ Some thread → at stopped rs k ≡ None

pub explicit_not_root : (rs : List Record) (task : ℕ) → IsFreeOf rs CreatedTwice → IsExplicit rs task
    → IsRoot rs task → ⊥
explicit_not_root rs task once explicit root =
    by (slice_get rs explicit.0) explicit.1
    (ap (at begun_root rs)
    (made_once rs task explicit.0 root.0 once (created_at_made task rs explicit.0 explicit.1)
    (begun_at_made task rs root.0 root.1))
    ∙ root.1)
  where
    by : (o : Option Record) → option_and_then (λ (r : Record). created r.body) o ≡ Some task
        → option_and_then (λ (r : Record). begun_root r.body) o ≡ Some task → ⊥
    by None is begins = none-some task is
    by (Some r) is begins = root_or_created task task r.body begins is

pub turn_here : (rs : List Record) (i task : ℕ) (r : Record) → slice_get rs i ≡ Some r
    → running r.body ≡ Some task → turn_at rs i ≡ turn_in task (part_of rs r.thread i)
turn_here rs i task r stands own =
    ap (λ (o : Option Record). option_map_or (λ (q : Record). turn_of rs q i) o 0) stands
    ∙ ap (λ (o : Option ℕ). option_map_or (λ t. turn_in t (part_of rs r.thread i)) o 0) own

last_start : (rs : List Record) (thread : ℕ) → All (λ r. IsSound r.body) rs → NestNever rs
    → IsFreeOf rs CreatedTwice
    → (n task : ℕ) → IsExplicit rs task → (walk_of thread (take n rs)).current ≡ Some task
    → LastStart rs thread n task (turn_in task (part_of rs thread n))
last_start rs thread sound flat once n =
    part_keeps rs thread P (λ task explicit is. absurd (none-some task is)) own other n
  where
    P : ℕ → List Record → Type 0
    P m l =
        (task : ℕ) → IsExplicit rs task → (fold after_record at_start l).current ≡ Some task
        → LastStart rs thread m task (turn_in task l)

    -- a record that starts nothing leaves the turn
    kept : (task m : ℕ) (r : Record) → started r.body ≡ None
        → turn_in task (part_of rs thread m ++ r ∷ []) ≡ turn_in task (part_of rs thread m)
    kept task m r none =
        fold-append (turn_after task) 0 (part_of rs thread m) (r ∷ [])
        ∙ ap
        (λ (s : Option ℕ).
        option_map_or (λ (p : ℕ × ℕ). if p.0 == task then p.1 else turn_in task (part_of rs thread m))
        (option_map {U = ℕ × ℕ} (λ t. (t, next_turn r.body)) s)
        (turn_in task (part_of rs thread m)))
        none

    -- one that starts the task begins the turn in which it is
    begun_here : (task m : ℕ) (r : Record) → started r.body ≡ Some task
        → turn_in task (part_of rs thread m ++ r ∷ []) ≡ next_turn r.body
    begun_here task m r starts =
        fold-append (turn_after task) 0 (part_of rs thread m) (r ∷ [])
        ∙ ap
        (λ (s : Option ℕ).
        option_map_or (λ (p : ℕ × ℕ). if p.0 == task then p.1 else turn_in task (part_of rs thread m))
        (option_map {U = ℕ × ℕ} (λ t. (t, next_turn r.body)) s)
        (turn_in task (part_of rs thread m)))
        starts
        ∙ ap (λ b. cond b (next_turn r.body) (turn_in task (part_of rs thread m))) (eq-eqb task task refl)

    on_thread : (m : ℕ) (r : Record) → slice_get rs m ≡ Some r → r.thread ≡ thread
        → thread_at rs m ≡ Some thread
    on_thread m r stands same = ap (option_map (λ (q : Record). q.thread)) stands ∙ ap Some same

    later : (m task turn : ℕ) → LastStart rs thread m task turn
        → (thread_at rs m ≡ Some thread → at stopped rs m ≡ None) → LastStart rs thread (m + 1) task turn
    later m task turn last silent = record {
      place = last.place;
      earlier = let e = last.earlier in omega arith;
      on = last.on;
      begins_turn = last.begins_turn;
      quiet = λ k after before at_thread. elim (cases_eq k m) [
        | inl same ↦ ap (at stopped rs) same ∙ silent (sym (ap (thread_at rs) same) ∙ at_thread)
        | inr apart ↦ last.quiet k after (omega (arith, apart)) at_thread
      ];
    }

    step : (m : ℕ) (r : Record) → slice_get rs m ≡ Some r → r.thread ≡ thread → P m (part_of rs thread m)
        → (task : ℕ) → IsExplicit rs task → ComesToRun r.nests (walk_of thread (take m rs)) r.body task
        → LastStart rs thread (m + 1) task (turn_in task (part_of rs thread m ++ r ∷ []))
    step m r stands same before task explicit (root_begins is) =
        absurd
        (explicit_not_root rs task once explicit
        (m, ap (option_and_then (λ (q : Record). begun_root q.body)) stands ∙ is))
    step m r stands same before task explicit (is_uncovered is) =
        absurd
        (explicit_not_root rs task once explicit
        (every_get (IsRoot rs) (walk_of thread (take m rs)).roots 1 task (roots_are rs thread m)
        (below_root rs m r (walk_of thread (take m rs)) task flat stands is)))
    step m r stands same before task explicit (is_started is) = record {
      place = m;
      earlier = omega arith;
      on = on_thread m r stands same;
      begins_turn =
          ap (option_and_then (λ (q : Record). begun_turn q.body)) stands
          ∙ ap (option_map {U = ℕ × ℕ} (λ t. (t, next_turn r.body))) is
          ∙ ap (λ t. Some (task, t)) (sym (begun_here task m r is));
      quiet = λ k after before' at_thread. absurd (omega arith);
    }
    step m r stands same before task explicit (goes_on is none silent) =
        subst (LastStart rs thread (m + 1) task) (sym (kept task m r none))
        (later m task (turn_in task (part_of rs thread m)) (before task explicit is)
        (λ at_thread. ap (option_and_then (λ (q : Record). stopped q.body)) stands ∙ silent))

    own : (m : ℕ) (r : Record) → slice_get rs m ≡ Some r → r.thread ≡ thread → P m (part_of rs thread m)
        → P (m + 1) (part_of rs thread m ++ r ∷ [])
    own m r stands same before task explicit is =
        let fits : IsSound r.body = all_get (λ (q : Record). IsSound q.body) rs m r sound stands in
        step m r stands same before task explicit
        (after_current r.nests (walk_of thread (take m rs)) r.body task fits.next
        (sym (ap (λ (w : Walk). w.current) (walked at_start (part_of rs thread m) r)) ∙ is))

    other : (m : ℕ) → thread_at rs m ≢ Some thread → P m (part_of rs thread m)
        → P (m + 1) (part_of rs thread m)
    other m apart before task explicit is =
        later m task (turn_in task (part_of rs thread m)) (before task explicit is)
        (λ at_thread. absurd (apart at_thread))

-- ---- suspensions

pub record Suspended (b : Body) (task turn : ℕ) : Type 0 where
  pub told : Turns
  pub tells : told_turns b ≡ Some told
  pub turn_told : told.prior ≡ turn
  pub runs : running b ≡ Some task
  pub stops : stopped b ≡ Some task

-- each record at which a task runs next tells its turns, and no other does
abbrev pub TellsStarts : List Record → Type 0
TellsStarts rs = All (λ r. is_some (told_turns r.body) ≡ is_some (started r.body)) rs

pub suspended_parts : (b : Body) (task turn : ℕ) → HasItsNext b
    → is_some (told_turns b) ≡ is_some (started b)
    → suspended_turn b ≡ Some (task, turn) → Suspended b task turn
suspended_parts (TaskSchedule Yield None prior None claimed) task turn fits told is = cc
suspended_parts (TaskSchedule Yield (Some t) prior None claimed) task turn fits told is = cc
suspended_parts (TaskSchedule Yield None prior (Some q) claimed) task turn fits told is = cc
suspended_parts (TaskSchedule Yield (Some t) prior (Some q) claimed) task turn fits told is =
    let parts = some_pair_parts prior task t.prior turn is in
    record { told = t; tells = refl; turn_told = parts.1; runs = ap Some parts.0; stops = ap Some parts.0 }
suspended_parts (TaskSchedule Switch None prior None claimed) task turn fits told is = cc
suspended_parts (TaskSchedule Switch (Some t) prior None claimed) task turn fits told is = cc
suspended_parts (TaskSchedule Switch None prior (Some q) claimed) task turn fits told is = cc
suspended_parts (TaskSchedule Switch (Some t) prior (Some q) claimed) task turn fits told is =
    let parts = some_pair_parts prior task t.prior turn is in
    record { told = t; tells = refl; turn_told = parts.1; runs = ap Some parts.0; stops = ap Some parts.0 }
suspended_parts b task turn fits told is = absurd (none-some (task, turn) is)

-- the task is suspended at i, on the thread on which it began that turn last
record Suspension (rs : List Record) (i task turn : ℕ) : Type 0 where
  thread : ℕ
  on : thread_at rs i ≡ Some thread
  stops : at stopped rs i ≡ Some task
  last : LastStart rs thread i task turn

-- the turn that is told is the one in which the record is
pub told_right : (rs : List Record) (i : ℕ) (told : Turns) → IsFreeOf rs TurnGap
    → at told_turns rs i ≡ Some told → told.prior ≡ turn_at rs i
told_right rs i told gap tells = elim (cases_eq told.prior (turn_at rs i)) [
  | inl same ↦ same
  | inr apart ↦ absurd (gap i (turn_gap (other_turn told tells apart)))
]

suspension : (rs : List Record) → IsTraceOf 2 rs → IsFreeOf rs CreatedTwice → IsFreeOf rs NotCurrent
    → IsFreeOf rs TurnGap → (task turn i : ℕ) → IsExplicit rs task
    → at suspended_turn rs i ≡ Some (task, turn) → Suspension rs i task turn
suspension rs trace once current gap task turn i explicit suspends = by (slice_get rs i) refl suspends
  where
    by : (o : Option Record) → slice_get rs i ≡ o
        → option_and_then (λ (r : Record). suspended_turn r.body) o ≡ Some (task, turn)
        → Suspension rs i task turn
    by None stands is = absurd (none-some (task, turn) is)
    by (Some r) stands is =
        let fits : IsSound r.body =
        all_get (λ (q : Record). IsSound q.body) rs i r trace.is_trace.sound stands in
        let turned : HasItsTurns 2 r.body =
        all_get (λ (q : Record). HasItsTurns 2 q.body) rs i r trace.turns stands in
        let parts = suspended_parts r.body task turn fits.next turned is in
        let same : turn_in task (part_of rs r.thread i) ≡ turn =
        sym (turn_here rs i task r stands parts.runs)
        ∙ sym
        (told_right rs i parts.told gap
        (ap (option_and_then (λ (q : Record). told_turns q.body)) stands ∙ parts.tells))
        ∙ parts.turn_told in
        record {
          thread = r.thread;
          on = ap (option_map (λ (q : Record). q.thread)) stands;
          stops = ap (option_and_then (λ (q : Record). stopped q.body)) stands ∙ parts.stops;
          last =
              subst (LastStart rs r.thread i task) same
              (last_start rs r.thread trace.is_trace.sound (never_in_version_2 rs trace) once i task explicit
              (runs_there rs i task r current stands parts.runs));
        }

-- each record that begins a turn tells it there
pub begun_told : (rs : List Record) (i task turn : ℕ) → TellsStarts rs
    → at begun_turn rs i ≡ Some (task, turn) → at told_turns rs i ≢ None
begun_told rs i task turn told begins untold =
    by (slice_get rs i) refl (begun_started rs i task turn begins) untold
  where
    by : (o : Option Record) → slice_get rs i ≡ o
        → option_and_then (λ (r : Record). started r.body) o ≡ Some task
        → option_and_then (λ (r : Record). told_turns r.body) o ≡ None → ⊥
    by None stands starts none = none-some task starts
    by (Some r) stands starts none =
        let turned : is_some (told_turns r.body) ≡ is_some (started r.body) =
        all_get (λ (q : Record). is_some (told_turns q.body) ≡ is_some (started q.body)) rs i r told stands in
        true≢false (sym (turned ∙ ap is_some starts) ∙ ap is_some none)

-- no two records begin the same turn
pub begun_once : (rs : List Record) → TellsStarts rs → IsFreeOf rs TurnGap → (task turn a b : ℕ)
    → at begun_turn rs a ≡ Some (task, turn) → at begun_turn rs b ≡ Some (task, turn) → a ≡ b
begun_once rs told gap task turn a b one other = elim (cases_order a b) [
  | inl same ↦ same
  | inr (inl less) ↦
      absurd
      (gap b (turn_gap (begun_again task turn a (begun_told rs b task turn told other, other) less one)))
  | inr (inr more) ↦
      absurd
      (gap a (turn_gap (begun_again task turn b (begun_told rs a task turn told one, one) more other)))
]

-- a thread that suspends a task runs it only after another start of it
not_again : (rs : List Record) → IsTraceOf 2 rs → IsFreeOf rs TurnGap → (task turn a b : ℕ)
    → Suspension rs a task turn → Suspension rs b task turn → a < b → ⊥
not_again rs trace gap task turn a b one other less =
    let same : one.last.place ≡ other.last.place =
    begun_once rs trace.turns gap task turn one.last.place other.last.place one.last.begins_turn
    other.last.begins_turn in
    let threads : Some one.thread ≡ Some other.thread =
    sym one.last.on ∙ ap (thread_at rs) same ∙ other.last.on in
    let before : one.last.place < a = one.last.earlier in
    none-some task (sym (other.last.quiet a (omega arith) less (one.on ∙ threads)) ∙ one.stops)

pub suspended_once : (rs : List Record) → IsTraceOf 2 rs → IsFreeOf rs CreatedTwice → IsFreeOf rs NotCurrent
    → IsFreeOf rs TurnGap → (task turn a b : ℕ) → IsExplicit rs task
    → at suspended_turn rs a ≡ Some (task, turn) → at suspended_turn rs b ≡ Some (task, turn) → a ≡ b
suspended_once rs trace once current gap task turn a b explicit one other =
    let first = suspension rs trace once current gap task turn a explicit one in
    let second = suspension rs trace once current gap task turn b explicit other in
    elim (cases_order a b) [
      | inl same ↦ same
      | inr (inl less) ↦ absurd (not_again rs trace gap task turn a b first second less)
      | inr (inr more) ↦ absurd (not_again rs trace gap task turn b a second first more)
    ]

-- so a task that runs on awaits one record
pub awaited_once : (rs : List Record) → IsTraceOf 2 rs → IsFreeOf rs CreatedTwice → IsFreeOf rs NotCurrent
    → IsFreeOf rs TurnGap → (task a b i : ℕ) → IsExplicit rs task → at started rs i ≡ Some task
    → IsResumption rs a i → IsResumption rs b i → a ≡ b
awaited_once rs trace once current gap task a b i explicit starts one other =
    let mine : one.task ≡ task =
    same_Some one.task task (sym (begun_started rs i one.task (one.turn + 1) one.resumes) ∙ starts) in
    let parts =
    some_pair_parts one.task other.task (one.turn + 1) (other.turn + 1)
    (sym one.resumes ∙ other.resumes) in
    let same : one.turn ≡ other.turn = omega (arith, parts.1) in
    suspended_once rs trace once current gap one.task one.turn a b (subst (IsExplicit rs) (sym mine) explicit)
    one.suspends
    (other.suspends ∙ ap (λ t. Some (t, other.turn)) (sym parts.0) ∙ ap (λ t. Some (one.task, t)) (sym same))
