-- On which thread a root runs, and how the turns of a task rise along a thread.
use Rattle.std.proofs.Common.{◌≡◌, ◌≢◌, ◌∙◌, ℕ, ◌<◌, ◌≤◌, ◌+◌, List, [], ◌∷◌, ◌++◌, Option, Some}
use Rattle.std.proofs.Common.{None, Bool, true, false, cond, refl, sym, ap, subst, arith, inl, inr, ◌⊎◌}
use Rattle.std.proofs.lemmas.Bool.{false≢true, cases_eq, cases_lt, eq-eqb, ne_eqb}
use Rattle.std.proofs.lemmas.Option.{none-some, same_Some, some_pair_parts}
use Rattle.std.proofs.lemmas.List.Sums.{fold-append}
use Rattle.std.specs.Prelude.{is_some, ◌==◌, slice_get, get_or, option_and_then, option_map, fold, take}
use Rattle.std.specs.Option.{option_map_or}
use Rattle.ompt_events.specs.declared.records.Record.{Record}
use Rattle.ompt_events.specs.declared.records.Body.{Body}
use Rattle.ompt_events.specs.declared.records.Body.TheVariants.{ImplicitTask, TaskSchedule}
use Rattle.ompt_events.specs.declared.names.Endpoint.TheVariants.{Begin, End, BeginEnd}
use Rattle.ompt_events.specs.declared.cause.Cause.TheVariants.{CreatedTwice, NotCurrent, TurnGap}
use Rattle.ompt_events.specs.Names.{demands_next}
use Rattle.ompt_events.specs.Records.{told_turns, begun_root, started, begun_turn}
use Rattle.ompt_events.specs.Places.{at, thread_at}
use Rattle.ompt_events.specs.Tree.{IsRoot}
use Rattle.ompt_events.specs.Threads.{Walk, at_start, uncovered, after_body, after_record, walk_of}
use Rattle.ompt_events.specs.Threads.{other_root}
use Rattle.ompt_events.specs.Turns.{turn_after, turn_in}
use Rattle.ompt_events.specs.Traces.{IsTraceOf}
use Rattle.ompt_events.specs.Causes.{IsFreeOf, turn_gap, falling}
use Rattle.ompt_events.proofs.ListLemmas.{all_get}
use Rattle.ompt_events.proofs.RecordLemmas.{begun_at_made}
use Rattle.task_tree.proofs.OnceLemmas.{made_once}
use Rattle.task_tree.proofs.RankedLemmas.{Every, every_get}
use Rattle.task_tree.proofs.SuspendedLemmas.{no_misfit, part_of, part_keeps}
use Rattle.task_tree.proofs.SuspendedLemmas.{begun_told, TellsStarts}
use Rattle.task_tree.proofs.SuspendedLemmas.{after_roots}
use Rattle.checker.proofs.UpgradeWalkLemmas.{outer_pushed, outer_dropped}

pub same_option : (a b : Option ℕ) → (a ≢ b → ⊥) → a ≡ b
same_option None None both = refl
same_option None (Some y) both = absurd (both (λ e. none-some y e))
same_option (Some x) None both = absurd (both (λ e. none-some x (sym e)))
same_option (Some x) (Some y) both = elim (cases_eq x y) [
  | inl same ↦ ap Some same
  | inr apart ↦ absurd (both (λ e. apart (same_Some x y e)))
]

-- ---- the versions

-- a trace is of version 1, which tells no turns, or each record at which a task runs next tells its turns
pub first_or_told : (version : ℕ) (rs : List Record) → IsTraceOf version rs → IsTraceOf 1 rs ⊎ TellsStarts rs
first_or_told version rs trace = elim trace.known [
  | inl first ↦ inl (subst (λ v. IsTraceOf v rs) first trace)
  | inr later ↦ elim later [
    | inl second ↦ inr (subst (λ v. IsTraceOf v rs) second trace).turns
    | inr third ↦ inr (subst (λ v. IsTraceOf v rs) third trace).turns
  ]
]

-- a record at which a task runs next gives turns
pub starts_told : (rs : List Record) (i task : ℕ) → TellsStarts rs → at started rs i ≡ Some task
    → at told_turns rs i ≡ None → ⊥
starts_told rs i task tells = told (slice_get rs i) refl
  where
    told : (o : Option Record) → slice_get rs i ≡ o
        → option_and_then (λ (r : Record). started r.body) o ≡ Some task
        → option_and_then (λ (r : Record). told_turns r.body) o ≡ None → ⊥
    told None e starts none = none-some task starts
    told (Some r) e starts none =
        let turned : is_some (told_turns r.body) ≡ is_some (started r.body) =
        all_get (λ (q : Record). is_some (told_turns q.body) ≡ is_some (started q.body)) rs i r tells e in
        false≢true (sym (ap is_some none) ∙ turned ∙ ap is_some starts)

-- ---- where a root runs

-- the record begins the root on the thread
abbrev pub BeginsOnThread : List Record → ℕ → ℕ → Type 0
BeginsOnThread rs thread task = (k : ℕ) × (thread_at rs k ≡ Some thread) × (at begun_root rs k ≡ Some task)

-- what holds of the tasks that can run next holds of the one that runs after the record
record CanRun (P : ℕ → Type 0) (nests : Bool) (walk : Walk) (b : Body) : Type 0 where
  begins : (task : ℕ) → begun_root b ≡ Some task → P task
  starts : (task : ℕ) → started b ≡ Some task → P task
  goes_on : (task : ℕ) → uncovered nests walk ≡ Some task → P task
  runs : (task : ℕ) → walk.current ≡ Some task → P task

after_current : (P : ℕ → Type 0) (nests : Bool) (walk : Walk) (b : Body) → CanRun P nests walk b
    → (task : ℕ) → (after_body nests walk b).current ≡ Some task → P task
after_current P nests walk (ImplicitTask Begin actual index flags parallel root) can task is =
    can.begins task is
after_current P nests walk (ImplicitTask End actual index flags parallel root) can task is =
    can.goes_on task is
after_current P nests walk (ImplicitTask BeginEnd actual index flags parallel root) can task is =
    can.runs task is
after_current P nests walk (TaskSchedule status turns prior next claimed) can task is =
    by (demands_next status) is
  where
    by : (d : Bool)
        → (cond d (record { roots = walk.roots; outer = walk.outer; current = next }) walk).current
        ≡ Some task
        → P task
    by true is' = can.starts task is'
    by false is' = can.runs task is'
after_current P nests walk b can task is = can.runs task is

-- and what held of the tasks that ran when the open roots began holds of them after it
after_outer : (P : ℕ → Type 0) (nests : Bool) (walk : Walk) (b : Body)
    → ((task : ℕ) → walk.current ≡ Some task → P task)
    → ((k task : ℕ) → get_or walk.outer k None ≡ Some task → P task)
    → (k task : ℕ) → get_or (after_body nests walk b).outer k None ≡ Some task → P task
after_outer P nests walk (ImplicitTask Begin actual index flags parallel root) runs ran k task is =
    outer_pushed P walk.current walk.outer runs ran k task is
after_outer P nests walk (ImplicitTask End actual index flags parallel root) runs ran k task is =
    outer_dropped P walk.outer ran k task is
after_outer P nests walk (ImplicitTask BeginEnd actual index flags parallel root) runs ran k task is =
    ran k task is
after_outer P nests walk (TaskSchedule status turns prior next claimed) runs ran k task is =
    by (demands_next status) is
  where
    by : (d : Bool)
        → get_or (cond d (record { roots = walk.roots; outer = walk.outer; current = next }) walk).outer k
        None
        ≡ Some task
        → P task
    by true is' = ran k task is'
    by false is' = ran k task is'
after_outer P nests walk b runs ran k task is = ran k task is

-- what holds of a walk: its open roots began on the thread, and so did each task that ran when one of them
-- began, and the task that runs, if it is a root
pub record AreOnThread (rs : List Record) (thread : ℕ) (walk : Walk) : Type 0 where
  pub roots : Every (BeginsOnThread rs thread) walk.roots
  outer : (k task : ℕ) → get_or walk.outer k None ≡ Some task → IsRoot rs task → BeginsOnThread rs thread task
  pub runs : (task : ℕ) → walk.current ≡ Some task → IsRoot rs task → BeginsOnThread rs thread task

-- a root that a record starts is the innermost open one
pub start_on : (rs : List Record) (i task : ℕ) (r : Record) → IsFreeOf rs NotCurrent → slice_get rs i ≡ Some r
    → started r.body ≡ Some task → IsRoot rs task
    → slice_get (walk_of r.thread (take i rs)).roots 0 ≡ Some task
start_on rs i task r current stands starts root =
    same_option (slice_get (walk_of r.thread (take i rs)).roots 0) (Some task)
    (λ apart. no_misfit rs i current (record {
      the_record = r;
      stands = stands;
      misfits = other_root task starts root apart;
    }))

pub walks_on : (rs : List Record) (thread : ℕ) → IsFreeOf rs NotCurrent → (n : ℕ)
    → AreOnThread rs thread (walk_of thread (take n rs))
walks_on rs thread current n =
    part_keeps rs thread (λ m l. AreOnThread rs thread (fold after_record at_start l))
    (record {
      roots = tt;
      outer = λ k task is. absurd (none-some task is);
      runs = λ task is. absurd (none-some task is);
    })
    own
    (λ m apart before. before) n
  where
    own : (m : ℕ) (r : Record) → slice_get rs m ≡ Some r → r.thread ≡ thread
        → AreOnThread rs thread (fold after_record at_start (part_of rs thread m))
        → AreOnThread rs thread (fold after_record at_start (part_of rs thread m ++ r ∷ []))
    own m r stands same before =
        let walk : Walk = walk_of thread (take m rs) in
        let on : thread_at rs m ≡ Some thread =
        ap (option_map (λ (q : Record). q.thread)) stands ∙ ap Some same in
        let begins : (task : ℕ) → begun_root r.body ≡ Some task → BeginsOnThread rs thread task =
        λ task is. (m, on, ap (option_and_then (λ (q : Record). begun_root q.body)) stands ∙ is) in
        subst (AreOnThread rs thread) (sym (fold-append after_record at_start (part_of rs thread m) (r ∷ [])))
        (record {
          roots = after_roots (BeginsOnThread rs thread) r.nests walk r.body begins before.roots;
          outer = after_outer P r.nests walk r.body before.runs before.outer;
          runs = after_current P r.nests walk r.body (record {
            begins = λ task is root. begins task is;
            starts =
                λ task is root.
                every_get (BeginsOnThread rs thread) walk.roots 0 task before.roots
                (subst (λ t. slice_get (walk_of t (take m rs)).roots 0 ≡ Some task) same
                (start_on rs m task r current stands is root));
            goes_on = behind r.nests;
            runs = before.runs;
          });
        })
      where
        P : ℕ → Type 0
        P task = IsRoot rs task → BeginsOnThread rs thread task

        behind : (nests : Bool) (task : ℕ) → uncovered nests (walk_of thread (take m rs)) ≡ Some task → P task
        behind true task is root = before.outer 0 task is root
        behind false task is root =
            every_get (BeginsOnThread rs thread) (walk_of thread (take m rs)).roots 1 task before.roots is

-- the thread on which a root begins is one
pub begins_once : (rs : List Record) (task one other : ℕ) → IsFreeOf rs CreatedTwice
    → BeginsOnThread rs one task → BeginsOnThread rs other task → Some one ≡ Some other
begins_once rs task one other once (k, on, begins) (j, on', begins') =
    let same =
    made_once rs task k j once (begun_at_made task rs k begins) (begun_at_made task rs j begins') in
    sym on ∙ ap (thread_at rs) same ∙ on'

-- ---- along a thread no turn falls

pub turn_greatest : (rs : List Record) (thread task : ℕ) → TellsStarts rs → IsFreeOf rs TurnGap
    → (n k turn : ℕ)
    → k < n → thread_at rs k ≡ Some thread → at begun_turn rs k ≡ Some (task, turn)
    → turn ≤ turn_in task (part_of rs thread n)
turn_greatest rs thread task told gap n =
    part_keeps rs thread P (λ k turn below. absurd (omega (arith, below))) own other n
  where
    P : ℕ → List Record → Type 0
    P m l =
        (k turn : ℕ) → k < m → thread_at rs k ≡ Some thread → at begun_turn rs k ≡ Some (task, turn)
        → turn ≤ turn_in task l

    other : (m : ℕ) → thread_at rs m ≢ Some thread → P m (part_of rs thread m)
        → P (m + 1) (part_of rs thread m)
    other m apart before k turn below on begins = elim (cases_eq k m) [
      | inl same ↦ absurd (apart (ap (thread_at rs) (sym same) ∙ on))
      | inr less ↦ before k turn (omega (arith, below, less)) on begins
    ]

    own : (m : ℕ) (r : Record) → slice_get rs m ≡ Some r → r.thread ≡ thread → P m (part_of rs thread m)
        → P (m + 1) (part_of rs thread m ++ r ∷ [])
    own m r stands same before k turn below on begins =
        subst (λ t. turn ≤ t) (sym (fold-append (turn_after task) 0 (part_of rs thread m) (r ∷ [])))
        (by (begun_turn r.body) refl)
      where
        here : thread_at rs m ≡ Some thread
        here = ap (option_map (λ (q : Record). q.thread)) stands ∙ ap Some same

        here_begins : (o : Option (ℕ × ℕ)) → begun_turn r.body ≡ o → at begun_turn rs m ≡ o
        here_begins o is = ap (option_and_then (λ (q : Record). begun_turn q.body)) stands ∙ is

        old : ℕ
        old = turn_in task (part_of rs thread m)

        by : (o : Option (ℕ × ℕ)) → begun_turn r.body ≡ o
            → turn ≤ option_map_or (λ (b : ℕ × ℕ). cond (b.0 == task) b.1 old) o old
        by None is = elim (cases_eq k m) [
          | inl last ↦
              absurd
              (none-some (task, turn)
              (sym (here_begins None is) ∙ ap (at begun_turn rs) (sym last) ∙ begins))
          | inr less ↦ before k turn (omega (arith, below, less)) on begins
        ]
        by (Some (t, u)) is = elim (cases_eq t task) [
          | inl own_task ↦
              subst (λ (b : Bool). turn ≤ cond b u old) (sym (eq-eqb t task own_task)) (elim (cases_eq k m) [
                | inl last ↦
                    let parts =
                    some_pair_parts task t turn u
                    (sym begins ∙ ap (at begun_turn rs) last ∙ here_begins (Some (t, u)) is) in
                    omega (arith, parts.1)
                | inr less ↦ elim (cases_lt u turn) [
                  | inr low ↦ low
                  | inl falls ↦
                      let starts : at begun_turn rs m ≡ Some (task, u) =
                      here_begins (Some (t, u)) is ∙ ap (λ x. Some (x, u)) own_task in
                      absurd
                      (gap m
                      (turn_gap
                      (falling task u k turn (begun_told rs m task u told starts, starts)
                      (omega (arith, below, less)) (on ∙ sym here) begins falls)))
                ]
              ])
          | inr apart ↦
              subst (λ (b : Bool). turn ≤ cond b u old) (sym (ne_eqb t task apart)) (elim (cases_eq k m) [
                | inl last ↦
                    absurd
                    (apart
                    (sym
                    (some_pair_parts task t turn u
                    (sym begins ∙ ap (at begun_turn rs) last ∙ here_begins (Some (t, u)) is)).0))
                | inr less ↦ before k turn (omega (arith, below, less)) on begins
              ])
        ]
