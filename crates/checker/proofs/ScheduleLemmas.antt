-- What each record awaits, by tasks and by their indices; and when file order is an order.
use Rattle.std.proofs.Common.{◌≡◌, ◌∙◌, ℕ, ◌<◌, ◌+◌, List, length, get_or, Option, Some, None, Bool, cond}
use Rattle.std.proofs.Common.{refl, sym, ap, subst, arith, inl, inr, ◌⊎◌}
use Rattle.std.proofs.lemmas.Bool.{cases_eq, eq-eqb, ne_eqb, lt-ltb}
use Rattle.std.proofs.lemmas.List.Sums.{position_or_len_is}
use Rattle.std.specs.List.{position, position_or_len}
use Rattle.std.proofs.lemmas.Option.{none-some, same_Some, some_pair_parts, slice_get_within}
use Rattle.std.proofs.lemmas.Option.{slice_get-get_or}
use Rattle.std.specs.Prelude.{◌↔◌, ◌==◌, is_some, slice_get, slice_index, option_and_then, option_map}
use Rattle.std.specs.Option.{option_or}
use Rattle.ompt_events.specs.declared.records.Record.{Record}
use Rattle.ompt_events.specs.declared.records.Body.{Body}
use Rattle.ompt_events.specs.declared.records.Body.TheVariants.{TaskCreate, TaskSchedule, Cancel}
use Rattle.ompt_events.specs.declared.names.Status.TheVariants as status
use Rattle.ompt_events.specs.Records.{created, started, next_turn, begun_turn, suspended_turn, discarded}
use Rattle.ompt_events.specs.Records.{fulfilled, finish}
use Rattle.ompt_events.specs.Places.{at, seen_at}
use Rattle.ompt_events.specs.Tree.{IsRoot, IsExplicit}
use Rattle.ompt_events.specs.HappensBefore.{IsResumption, IsFinishing, IsProgramStep, thread_order, creation}
use Rattle.ompt_events.specs.HappensBefore.{resumption, discard, fulfilment, IsStep, program, ledger}
use Rattle.ompt_events.specs.HappensBefore.{HappensBefore, step, chain}
use Rattle.ompt_events.specs.Causes.{known_after}
use Rattle.ompt_events.proofs.TurnLemmas.{begun_started}
use Rattle.ompt_events.proofs.PlaceLemmas.{at_within}
use Rattle.ompt_events.proofs.RecordLemmas.{at_through, made_cases, created_unfinished}
use Rattle.index_tables.specs.Numbering.{AreApart}
use Rattle.task_tree.specs.Subjects.{Calls}
use Rattle.packed_trace.specs.Named.{object}
use Rattle.task_tree.specs.Family.{FamilyView, IsFamilyOf}
use Rattle.task_tree.proofs.SubjectLemmas.{call_task, call_index}
use Rattle.task_tree.proofs.NamedLemmas.{started_object}
use Rattle.task_tree.proofs.LookupLemmas.{object_calls, root_or_explicit}
use Rattle.task_tree.specs.Rising.{IsStartOf}
use Rattle.checker.specs.Schedule.{first_started, awaited, Awaits, awaits_creation, awaits_end}
use Rattle.checker.specs.Schedule.{IsEarlierOnThread, EachAwaitsOne}
use Rattle.checker.specs.Merge.{turn_slot, key_of}

-- ---- single records

pub started_keeps : (b : Body) (task : ℕ) → started b ≡ Some task → discarded b ≡ None
started_keeps (Cancel flags own claimed) task starts = absurd (none-some task starts)
started_keeps _ task starts = refl

begun_starts : (b : Body) (task turn : ℕ) → begun_turn b ≡ Some (task, turn) → started b ≡ Some task
begun_starts b task turn begins = by (started b) begins
  where
    by : (s : Option ℕ) → option_map {U = ℕ × ℕ} (λ t. (t, next_turn b)) s ≡ Some (task, turn) → s ≡ Some task
    by None is = absurd (none-some (task, turn) is)
    by (Some t) is = ap Some (some_pair_parts t task (next_turn b) turn is).0

first_begins : (b : Body) (task : ℕ) → first_started b ≡ Some task → begun_turn b ≡ Some (task, 0)
first_begins b task starts = by (begun_turn b) starts
  where
    by : (o : Option (ℕ × ℕ))
        → option_and_then {U = ℕ} (λ (p : ℕ × ℕ). cond (p.1 == 0) (Some p.0) None) o ≡ Some task
        → o ≡ Some (task, 0)
    by None is = absurd (none-some task is)
    by (Some (t, turn)) is = elim (cases_eq turn 0) [
      | inl first ↦
          let Q : Bool → Type 0 = λ b. cond b (Some t) None ≡ Some task in
          ap (λ u. Some (t, u)) first
          ∙ ap (λ u. Some (u, 0)) (same_Some t task (subst Q (eq-eqb turn 0 first) is))
      | inr later ↦
          let Q : Bool → Type 0 = λ b. cond b (Some t) None ≡ Some task in
          absurd (none-some task (subst Q (ne_eqb turn 0 later) is))
    ]

begins_first : (b : Body) (task : ℕ) → begun_turn b ≡ Some (task, 0) → first_started b ≡ Some task
begins_first b task begins =
    ap (option_and_then {U = ℕ} (λ (p : ℕ × ℕ). cond (p.1 == 0) (Some p.0) None)) begins

awaited_fulfilled : (b : Body) (task : ℕ) → fulfilled b ≡ Some task → awaited b ≡ Some task
awaited_fulfilled b task fulfils = ap (λ o. option_or o (option_or (discarded b) (first_started b))) fulfils

awaited_discard : (b : Body) (task : ℕ) → discarded b ≡ Some task → awaited b ≡ Some task
awaited_discard (Cancel flags own claimed) task gone = ap (λ o. option_or o None) gone
awaited_discard _ task gone = absurd (none-some task gone)

awaited_start : (b : Body) (task : ℕ) (o : Option ℕ) → fulfilled b ≡ o → ((other : ℕ) → o ≡ Some other → ⊥)
    → begun_turn b ≡ Some (task, 0) → awaited b ≡ Some task
awaited_start b task None e apart begins =
    ap (λ o. option_or o (option_or (discarded b) (first_started b))) e
    ∙ ap (λ o. option_or o (first_started b)) (started_keeps b task (begun_starts b task 0 begins))
    ∙ begins_first b task begins
awaited_start b task (Some other) e apart begins = absurd (apart other refl)

option_cases : (a b : Option ℕ) (x : ℕ) → option_or a b ≡ Some x → (a ≡ Some x) ⊎ (b ≡ Some x)
option_cases None b x is = inr is
option_cases (Some y) b x is = inl is

awaited_of : (b : Body) (task : ℕ) → awaited b ≡ Some task
    → (fulfilled b ≡ Some task) ⊎ ((discarded b ≡ Some task) ⊎ (begun_turn b ≡ Some (task, 0)))
awaited_of b task is = elim (option_cases (fulfilled b) (option_or (discarded b) (first_started b)) task is) [
  | inl fulfils ↦ inl fulfils
  | inr rest ↦ elim (option_cases (discarded b) (first_started b) task rest) [
    | inl gone ↦ inr (inl gone)
    | inr starts ↦ inr (inr (first_begins b task starts))
  ]
]

-- a record at which a task is suspended creates none, and finishes none
created_goes_on : (b : Body) (task : ℕ) → created b ≡ Some task → suspended_turn b ≡ None
created_goes_on (TaskCreate deps flags own child) task creates = refl
created_goes_on _ task creates = absurd (none-some task creates)

suspended_finishes : (b : Body) (task turn : ℕ) → suspended_turn b ≡ Some (task, turn) → finish b ≡ None
suspended_finishes (TaskSchedule status.Yield turns prior next claimed) task turn suspends = refl
suspended_finishes (TaskSchedule status.Switch turns prior next claimed) task turn suspends = refl
suspended_finishes _ task turn suspends = absurd (none-some (task, turn) suspends)

-- ---- records at places

pub first_begun : (rs : List Record) (i task : ℕ) → at first_started rs i ≡ Some task
    → at begun_turn rs i ≡ Some (task, 0)
first_begun rs i task starts =
    at_through first_started begun_turn task (task, 0) rs i (λ b. first_begins b task) starts

pub first_begun_starts : (rs : List Record) (i task : ℕ) → at begun_turn rs i ≡ Some (task, 0)
    → at first_started rs i ≡ Some task
first_begun_starts rs i task begins =
    at_through begun_turn first_started (task, 0) task rs i (λ b. begins_first b task) begins

-- what a record says, where each that says one thing says no other
pub silent : {X Y : Type 0} (f : Body → Option X) (g : Body → Option Y) (x : X) (rs : List Record) (i : ℕ)
    → ((b : Body) → f b ≡ Some x → g b ≡ None) → at f rs i ≡ Some x → at g rs i ≡ None
silent {X} {Y} f g x rs i each is = by (slice_get rs i) is
  where
    by : (o : Option Record) → option_and_then (λ (r : Record). f r.body) o ≡ Some x
        → option_and_then (λ (r : Record). g r.body) o ≡ None
    by None is' = refl
    by (Some r) is' = each r.body is'

pub awaited_at : (rs : List Record) (i task : ℕ) → at awaited rs i ≡ Some task
    → (at fulfilled rs i ≡ Some task)
    ⊎ ((at discarded rs i ≡ Some task) ⊎ (at begun_turn rs i ≡ Some (task, 0)))
awaited_at rs i task is = there (slice_get rs i) is
  where
    there : (o : Option Record) → option_and_then (λ (r : Record). awaited r.body) o ≡ Some task
        → (option_and_then (λ (r : Record). fulfilled r.body) o ≡ Some task)
        ⊎ ((option_and_then (λ (r : Record). discarded r.body) o ≡ Some task)
        ⊎ (option_and_then (λ (r : Record). begun_turn r.body) o ≡ Some (task, 0)))
    there None is' = absurd (none-some task is')
    there (Some r) is' = awaited_of r.body task is'

start_awaits : (rs : List Record) (i task : ℕ) → EachAwaitsOne rs → at begun_turn rs i ≡ Some (task, 0)
    → at awaited rs i ≡ Some task
start_awaits rs i task facts begins = there (slice_get rs i) (facts.apart i) begins
  where
    there : (o : Option Record)
        → ((t other : ℕ) → option_and_then (λ (r : Record). fulfilled r.body) o ≡ Some t
        → option_and_then (λ (r : Record). started r.body) o ≡ Some other → ⊥)
        → option_and_then (λ (r : Record). begun_turn r.body) o ≡ Some (task, 0)
        → option_and_then (λ (r : Record). awaited r.body) o ≡ Some task
    there None none is = absurd (none-some (task, 0) is)
    there (Some r) none is =
        awaited_start r.body task (fulfilled r.body) refl
        (λ other fulfils. none other task fulfils (begun_starts r.body task 0 is)) is

-- a record that begins a later turn awaits no creation
pub later_awaits_none : (rs : List Record) (i task turn : ℕ) → EachAwaitsOne rs
    → at begun_turn rs i ≡ Some (task, turn) → 0 < turn → at awaited rs i ≡ None
later_awaits_none rs i task turn facts begins later = by (at awaited rs i) refl
  where
    by : (o : Option ℕ) → at awaited rs i ≡ o → o ≡ None
    by None is = refl
    by (Some own) is = elim (awaited_at rs i own is) [
      | inl fulfils ↦ absurd (facts.apart i own task fulfils (begun_started rs i task turn begins))
      | inr (inl gone) ↦
          absurd
          (none-some own
          (sym
          (silent started discarded task rs i (λ b. started_keeps b task)
          (begun_started rs i task turn begins))
          ∙ gone))
      | inr (inr first) ↦
          let parts = some_pair_parts own task 0 turn (sym first ∙ begins) in
          absurd (omega (arith, later, parts.1))
    ]

pub created_suspends : (rs : List Record) (c task other turn : ℕ) → at created rs c ≡ Some task
    → at suspended_turn rs c ≡ Some (other, turn) → ⊥
created_suspends rs c task other turn creates suspends =
    none-some (other, turn)
    (sym (silent created suspended_turn task rs c (λ b. created_goes_on b task) creates) ∙ suspends)

known_unfinished : (rs : List Record) (c : ℕ) → at finish rs c ≡ None → known_after rs c ≡ seen_at rs c
known_unfinished rs c none = ap (λ o. cond (is_some o) (seen_at rs c + 1) (seen_at rs c)) none

-- a record that is awaited knows the length that it names
pub known_awaited : (rs : List Record) (i c : ℕ) → Awaits rs i c → known_after rs c ≡ seen_at rs c
known_awaited rs i c (awaits_creation task waits creates) =
    known_unfinished rs c (silent created finish task rs c (λ b. created_unfinished b task) creates)
known_awaited rs i c (awaits_end again explicit) =
    known_unfinished rs c
    (silent suspended_turn finish (again.task, again.turn) rs c
    (λ b. suspended_finishes b again.task again.turn) again.suspends)

pub awaits_within : (rs : List Record) (i c : ℕ) → Awaits rs i c → c < length rs
awaits_within rs i c (awaits_creation task waits creates) = at_within created rs c task creates
awaits_within rs i c (awaits_end again explicit) =
    at_within suspended_turn rs c (again.task, again.turn) again.suspends

pub waits_within : (rs : List Record) (i c : ℕ) → Awaits rs i c → i < length rs
waits_within rs i c (awaits_creation task waits creates) = at_within awaited rs i task waits
waits_within rs i c (awaits_end again explicit) =
    at_within begun_turn rs i (again.task, again.turn + 1) again.resumes

-- ---- steps

-- a step of the program is one along a thread, or it is awaited
pub program_awaits : (rs : List Record) (a b : ℕ) → EachAwaitsOne rs → IsProgramStep rs a b
    → IsEarlierOnThread rs a b ⊎ Awaits rs b a
program_awaits rs a b facts (thread_order earlier within same) =
    inl (record { earlier = earlier; within = within; same = same })
program_awaits rs a b facts (creation task creates start) =
    inr (awaits_creation task (start_awaits rs b task facts start.starts) creates)
program_awaits rs a b facts (resumption again) = elim (facts.on_thread a b again) [
  | inl explicit ↦ inr (awaits_end again explicit)
  | inr earlier ↦ inl earlier
]
program_awaits rs a b facts (discard task creates gone) =
    inr
    (awaits_creation task
    (at_through discarded awaited task task rs b (λ body. awaited_discard body task) gone) creates)
program_awaits rs a b facts (fulfilment task creates fulfils) =
    inr
    (awaits_creation task
    (at_through fulfilled awaited task task rs b (λ body. awaited_fulfilled body task) fulfils)
    creates)

-- from what a record awaits a step leads to it, or to an earlier one of its thread
pub awaits_program : (rs : List Record) (i c : ℕ) → EachAwaitsOne rs → Awaits rs i c
    → IsProgramStep rs c i ⊎ ((s : ℕ) × IsProgramStep rs c s × IsEarlierOnThread rs s i)
awaits_program rs i c facts (awaits_creation task waits creates) = elim (awaited_at rs i task waits) [
  | inl fulfils ↦ inl (fulfilment task creates fulfils)
  | inr (inl gone) ↦ inl (discard task creates gone)
  | inr (inr begins) ↦ elim (facts.at_home i task (c, creates) begins) [
    | inl start ↦ inl (creation task creates start)
    | inr (s, earlier, start) ↦ inr (s, creation task creates start, earlier)
  ]
]
awaits_program rs i c facts (awaits_end again explicit) = inl (resumption again)

along_thread : (rs : List Record) (a b : ℕ) → IsEarlierOnThread rs a b → HappensBefore rs a b
along_thread rs a b is = step (program (thread_order is.earlier is.within is.same))

pub awaits_before : (rs : List Record) (i c : ℕ) → EachAwaitsOne rs → Awaits rs i c → HappensBefore rs c i
awaits_before rs i c facts awaits = elim (awaits_program rs i c facts awaits) [
  | inl is ↦ step (program is)
  | inr (s, is, earlier) ↦ chain (step (program is)) (along_thread rs s i earlier)
]

-- ---- whether a record awaits another

-- a task that starts somewhere is one of the tasks
pub begun_index : (rs : List Record) (family : FamilyView) (i task turn : ℕ) → IsFamilyOf rs family
    → at begun_turn rs i ≡ Some (task, turn) → (index : ℕ) × (slice_get family.tasks index ≡ Some task)
begun_index rs family i task turn are begins =
    let found =
    call_index family.tasks (at object rs i) _ task (object_calls rs family i are)
    (at_through started object task task rs i (λ b. started_object task b)
    (begun_started rs i task turn begins)) in
    (found.0, found.2)

-- and either explicit or not
pub begun_root_or_explicit : (rs : List Record) (family : FamilyView) (i task turn : ℕ) → IsFamilyOf rs family
    → at begun_turn rs i ≡ Some (task, turn) → IsRoot rs task ⊎ IsExplicit rs task
begun_root_or_explicit rs family i task turn are begins =
    let found = begun_index rs family i task turn are begins in
    let within = slice_get_within family.tasks found.0 task found.1 in
    let same =
    same_Some (get_or family.tasks found.0 task) task
    (sym (slice_get-get_or family.tasks found.0 task within) ∙ found.1) in
    let makes = are.noted.only task (found.0, within, same) in
    by makes.0 (slice_get rs makes.0) refl makes.2
  where
    by : (k : ℕ) (o : Option Record) → slice_get rs k ≡ o
        → option_and_then (λ (r : Record). Rattle.ompt_events.specs.Records.made r.body) o ≡ Some task
        → IsRoot rs task ⊎ IsExplicit rs task
    by k None stands is = absurd (none-some task is)
    by k (Some r) stands is = elim (made_cases task r.body is) [
      | inl begins' ↦
          inl (
            k,
            ap (option_and_then (λ (q : Record). Rattle.ompt_events.specs.Records.begun_root q.body))
                stands
                ∙ begins',
          )
      | inr creates ↦ inr (k, ap (option_and_then (λ (q : Record). created q.body)) stands ∙ creates)
    ]

pub awaits_or_not : (rs : List Record) (family : FamilyView) (i c : ℕ) → EachAwaitsOne rs
    → IsFamilyOf rs family → Awaits rs i c ⊎ (Awaits rs i c → ⊥)
awaits_or_not rs family i c facts are = decide (at awaited rs i) (at created rs c) refl refl
  where
    of_end : (begins : Option (ℕ × ℕ)) (suspends : Option (ℕ × ℕ)) → at begun_turn rs i ≡ begins
        → at suspended_turn rs c ≡ suspends
        → Awaits rs i c ⊎ ((again : IsResumption rs c i) → IsExplicit rs again.task → ⊥)
    of_end None suspends e f =
        inr (λ again explicit. none-some (again.task, again.turn + 1) (sym e ∙ again.resumes))
    of_end (Some begun) None e f =
        inr (λ again explicit. none-some (again.task, again.turn) (sym f ∙ again.suspends))
    of_end (Some (task, turn)) (Some (other, before)) e f = elim (cases_eq other task) [
      | inr apart ↦
          inr
          (λ again explicit.
          apart
          ((some_pair_parts other again.task before again.turn (sym f ∙ again.suspends)).0
          ∙ sym
          (some_pair_parts task again.task turn (again.turn + 1)
          (sym e ∙ again.resumes)).0))
      | inl same ↦ elim (cases_eq turn (before + 1)) [
        | inr apart ↦ inr (λ again explicit.
            let one = (some_pair_parts other again.task before again.turn (sym f ∙ again.suspends)).1 in
            let two = (some_pair_parts task again.task turn (again.turn + 1) (sym e ∙ again.resumes)).1 in
            apart (omega (arith, one, two)))
        | inl next ↦ elim (cases_eq c i) [
          | inl here ↦ inr (λ again explicit. again.another here)
          | inr another ↦ elim (begun_root_or_explicit rs family i task turn are e) [
            | inr explicit ↦
                inl
                (awaits_end
                (record {
                  task = task;
                  turn = before;
                  suspends = f ∙ ap (λ t. Some (t, before)) same;
                  resumes = e ∙ ap (λ t. Some (task, t)) next;
                  another = another;
                })
                explicit)
            | inl root ↦
                inr
                (λ again explicit.
                root_or_explicit rs task are.once root
                (subst (IsExplicit rs)
                (sym
                (some_pair_parts task again.task turn (again.turn + 1)
                (sym e ∙ again.resumes)).0)
                explicit))
          ]
        ]
      ]
    ]

    both : (((task : ℕ) → at awaited rs i ≡ Some task → at created rs c ≡ Some task → ⊥))
        → Awaits rs i c ⊎ (Awaits rs i c → ⊥)
    both no_creation = elim (of_end (at begun_turn rs i) (at suspended_turn rs c) refl refl) [
      | inl awaits ↦ inl awaits
      | inr no_end ↦ inr (λ awaits. neither awaits no_end)
    ]
      where
        neither : Awaits rs i c → ((again : IsResumption rs c i) → IsExplicit rs again.task → ⊥) → ⊥
        neither (awaits_creation task waits creates) no_end = no_creation task waits creates
        neither (awaits_end again explicit) no_end = no_end again explicit

    decide : (waits creates : Option ℕ) → at awaited rs i ≡ waits → at created rs c ≡ creates
        → Awaits rs i c ⊎ (Awaits rs i c → ⊥)
    decide None creates e f = both (λ task own other. none-some task (sym e ∙ own))
    decide (Some own) None e f = both (λ task first other. none-some task (sym f ∙ other))
    decide (Some own) (Some other) e f = elim (cases_eq own other) [
      | inl same ↦ inl (awaits_creation own e (f ∙ ap Some (sym same)))
      | inr apart ↦
          both
          (λ task first second.
          apart (same_Some own task (sym e ∙ first) ∙ sym (same_Some other task (sym f ∙ second))))
    ]

-- ---- by indices of tasks

-- an index is the first at which its task stands, since each stands once
index_first : (tasks : List ℕ) (index task : ℕ) → AreApart tasks → slice_get tasks index ≡ Some task
    → position (λ t. t == task) tasks ≡ Some index
index_first tasks index task apart is =
    let inside = slice_get_within tasks index task is in
    let here : get_or tasks index 0 ≡ task =
    same_Some (get_or tasks index 0) task (sym (slice_get-get_or tasks index 0 inside) ∙ is) in
    let first : position_or_len (λ t. t == task) tasks ≡ index =
    position_or_len_is (λ t. t == task) tasks index 0 (omega arith)
    (λ k below.
    ne_eqb (get_or tasks k 0) task
    (λ same.
    (let one = apart k index task (slice_get-get_or tasks k 0 (omega arith) ∙ ap Some same) is in
    omega (arith, below, one))))
    (λ low. eq-eqb (get_or tasks index 0) task here) in
    rw (first, lt-ltb index (length tasks) inside) refl

-- the creation of the task that is called is where it was made
pub creation_called : (rs : List Record) (tasks : List ℕ) (i index : ℕ) (place : Option ℕ) → EachAwaitsOne rs
    → Calls tasks (at awaited rs i) (Some index)
    → ((task c : ℕ) → slice_get tasks index ≡ Some task → (place ≡ Some c) ↔ (at created rs c ≡ Some task))
    → (c : ℕ) → (place ≡ Some c) ↔ Awaits rs i c
creation_called rs tasks i index place facts calls is c =
    let called = call_task tasks (at awaited rs i) (Some index) index calls refl in (
      λ here. awaits_creation called.0 called.1 ((is called.0 c called.2).0 here),
      λ awaits. of called.0 called.1 called.2 awaits,
    )
  where
    of : (task : ℕ) → at awaited rs i ≡ Some task → slice_get tasks index ≡ Some task → Awaits rs i c
        → place ≡ Some c
    of task waits there (awaits_creation other waits' creates) =
        (is task c there).1 (creates ∙ sym waits' ∙ waits)
    of task waits there (awaits_end again explicit) =
        absurd
        (none-some task
        (sym (later_awaits_none rs i again.task (again.turn + 1) facts again.resumes (omega arith))
        ∙ waits))

-- ---- keys

called_position : (tasks : List ℕ) (found : Option ℕ) (index : ℕ) → AreApart tasks
    → Calls tasks found (Some index)
    → option_and_then (λ task. position (λ t. t == task) tasks) found ≡ Some index
called_position tasks None index apart is = absurd (none-some index (sym is))
called_position tasks (Some task) index apart (k, is, there) = index_first tasks k task apart there ∙ sym is

pub key_creation : (rs : List Record) (tasks rows : List ℕ) (i index : ℕ) → AreApart tasks
    → Calls tasks (at awaited rs i) (Some index) → key_of tasks rs rows i ≡ Some index
key_creation rs tasks rows i index apart calls =
    ap (λ o. option_or o (turn_slot tasks rs rows i))
    (called_position tasks (at awaited rs i) index apart calls)

pub key_turn : (rs : List Record) (tasks rows : List ℕ) (i index turn : ℕ) → EachAwaitsOne rs → AreApart tasks
    → IsStartOf rs tasks i index turn → 0 < turn
    → key_of tasks rs rows i ≡ Some (length tasks + (slice_index rows index + turn))
key_turn rs tasks rows i index turn facts apart begins later =
    ap
    (λ o.
    option_or (option_and_then (λ task. position (λ t. t == task) tasks) o) (turn_slot tasks rs rows i))
    (later_awaits_none rs i begins.task turn facts begins.starts later)
    ∙ ap
    (option_and_then
    (λ (b : ℕ × ℕ).
    option_map (λ k. length tasks + (slice_index rows k + b.1)) (position (λ t. t == b.0) tasks)))
    begins.starts
    ∙ ap (option_map (λ k. length tasks + (slice_index rows k + turn)))
    (index_first tasks index begins.task apart begins.indexed)

-- ---- when file order is an order

-- each kind of step, as the two tests have it
pub steps_less : (rs : List Record) → EachAwaitsOne rs → ((i c : ℕ) → Awaits rs i c → c < i)
    → ((a b : ℕ) → IsFinishing rs a → seen_at rs a < seen_at rs b → a < b) → (a b : ℕ) → IsStep rs a b → a < b
steps_less rs facts by_awaited by_entry a b (program is) = elim (program_awaits rs a b facts is) [
  | inl earlier ↦ earlier.earlier
  | inr awaits ↦ by_awaited b a awaits
]
steps_less rs facts by_awaited by_entry a b (ledger finishes less) = by_entry a b finishes less
