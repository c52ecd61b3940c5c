-- Where no record speaks for a task that its thread does not run, a task runs on the thread on which it
-- began or ran next; so where no task moves, on one thread alone.
use Rattle.std.proofs.Common.{◌≡◌, ◌≢◌, ◌∙◌, ℕ, zero, suc, ◌<◌, ◌+◌, List, [], ◌∷◌, ◌++◌, Option, Some}
use Rattle.std.proofs.Common.{None}
use Rattle.std.proofs.Common.{get_or, drop, Bool, true, false, refl, sym, ap, subst, arith, inl, inr, ◌⊎◌}
use Rattle.std.proofs.lemmas.Bool.{cases_eq, cases_order}
use Rattle.std.proofs.lemmas.Option.{none-some, same_Some}
use Rattle.std.proofs.lemmas.List.Sums.{fold_push}
use Rattle.std.specs.Prelude.{slice_get, option_map, option_and_then, take, fold, if◌then◌else◌}
use Rattle.ompt_events.specs.declared.records.Record.{Record}
use Rattle.ompt_events.specs.declared.records.Body.{Body}
use Rattle.ompt_events.specs.declared.records.Body.TheVariants.{ImplicitTask, TaskSchedule}
use Rattle.ompt_events.specs.declared.names.Endpoint.TheVariants.{Begin, End}
use Rattle.ompt_events.specs.declared.cause.Cause.TheVariants.{CreatedTwice, NotCurrent}
use Rattle.ompt_events.specs.Names.{demands_next}
use Rattle.ompt_events.specs.Records.{running, started, begun_root}
use Rattle.ompt_events.specs.Places.{at, thread_at}
use Rattle.ompt_events.specs.Tree.{IsRoot}
use Rattle.ompt_events.specs.Threads.{Walk, at_start, uncovered, after_body, after_record, walk_of}
use Rattle.ompt_events.specs.Threads.{other_root}
use Rattle.ompt_events.specs.Causes.{IsFreeOf}
use Rattle.ompt_events.specs.Upgrades.{MovesNowhere}
use Rattle.ompt_events.proofs.EveryLemmas.{Every, every_weaker, every_get, every_rest}
use Rattle.ompt_events.proofs.RecordLemmas.{begun_at_made}
use Rattle.ompt_events.proofs.PlaceLemmas.{get_at}
use Rattle.task_tree.proofs.OnceLemmas.{made_once}
use Rattle.task_tree.proofs.SuspendedLemmas.{no_misfit, runs_there, part_of, part_keeps}

-- the task began on the thread as a root before the place, or ran next there
abbrev pub BeganOn : List Record → ℕ → ℕ → ℕ → Type 0
BeganOn rs thread n task =
    (k : ℕ) × (k < n) × (at begun_root rs k ≡ Some task) × (thread_at rs k ≡ Some thread)

abbrev pub RanOnThread : List Record → ℕ → ℕ → ℕ → Type 0
RanOnThread rs thread n task =
    (k : ℕ) × (k < n) × (at started rs k ≡ Some task) × (thread_at rs k ≡ Some thread)

abbrev WasOn : List Record → ℕ → ℕ → ℕ → Type 0
WasOn rs thread n task = BeganOn rs thread n task ⊎ RanOnThread rs thread n task

-- the open roots of the walk began so, and so did the tasks that ran when they began and the one that runs,
-- or they ran next
pub record IsWalkFrom (rs : List Record) (thread n : ℕ) (walk : Walk) : Type 0 where
  pub roots : Every (BeganOn rs thread n) walk.roots
  outer : (k task : ℕ) → get_or walk.outer k None ≡ Some task → WasOn rs thread n task
  current : (task : ℕ) → walk.current ≡ Some task → WasOn rs thread n task

-- what the record at n adds
record AddsTo (rs : List Record) (thread n : ℕ) (b : Body) : Type 0 where
  begins : (task : ℕ) → begun_root b ≡ Some task → BeganOn rs thread (n + 1) task
  starts : (task : ℕ) → started b ≡ Some task → RanOnThread rs thread (n + 1) task

began_more : (rs : List Record) (thread n task : ℕ) → BeganOn rs thread n task
    → BeganOn rs thread (n + 1) task
began_more rs thread n task (k, below, begins, there) = (k, omega (arith, below), begins, there)

was_more : (rs : List Record) (thread n task : ℕ) → WasOn rs thread n task → WasOn rs thread (n + 1) task
was_more rs thread n task (inl began) = inl (began_more rs thread n task began)
was_more rs thread n task (inr (k, below, starts, there)) = inr (k, omega (arith, below), starts, there)

from_more : (rs : List Record) (thread n : ℕ) (walk : Walk) → IsWalkFrom rs thread n walk
    → IsWalkFrom rs thread (n + 1) walk
from_more rs thread n walk from = record {
  roots =
      every_weaker (BeganOn rs thread n) (BeganOn rs thread (n + 1)) (began_more rs thread n) walk.roots
      from.roots;
  outer = λ k task is. was_more rs thread n task (from.outer k task is);
  current = λ task is. was_more rs thread n task (from.current task is);
}

-- what holds of the tasks that ran holds of them where a root begins or ends
pub outer_pushed : (P : ℕ → Type 0) (current : Option ℕ) (outer : List (Option ℕ))
    → ((task : ℕ) → current ≡ Some task → P task)
    → ((k task : ℕ) → get_or outer k None ≡ Some task → P task)
    → (k task : ℕ) → get_or (current ∷ outer) k None ≡ Some task → P task
outer_pushed P current outer runs ran zero task is = runs task is
outer_pushed P current outer runs ran (suc k) task is = ran k task is

pub outer_dropped : (P : ℕ → Type 0) (outer : List (Option ℕ))
    → ((k task : ℕ) → get_or outer k None ≡ Some task → P task)
    → (k task : ℕ) → get_or (drop 1 outer) k None ≡ Some task → P task
outer_dropped P [] ran k task is = ran k task is
outer_dropped P (o ∷ os) ran k task is = ran (suc k) task is

uncovered_from : (rs : List Record) (thread n : ℕ) (nests : Bool) (walk : Walk) → IsWalkFrom rs thread n walk
    → (task : ℕ) → uncovered nests walk ≡ Some task → WasOn rs thread n task
uncovered_from rs thread n true walk from task is = from.outer 0 task is
uncovered_from rs thread n false walk from task is =
    inl (every_get (BeganOn rs thread n) walk.roots 1 task from.roots is)

after_from : (rs : List Record) (thread n : ℕ) (nests : Bool) (walk : Walk) (b : Body) → AddsTo rs thread n b
    → IsWalkFrom rs thread (n + 1) walk → IsWalkFrom rs thread (n + 1) (after_body nests walk b)
after_from rs thread n nests walk (ImplicitTask Begin actual index flags parallel root) adds from = record {
  roots = (adds.begins root refl, from.roots);
  outer = outer_pushed (WasOn rs thread (n + 1)) walk.current walk.outer from.current from.outer;
  current =
      λ task is. inl (subst (BeganOn rs thread (n + 1)) (same_Some root task is) (adds.begins root refl));
}
after_from rs thread n nests walk (ImplicitTask End actual index flags parallel root) adds from = record {
  roots = every_rest (BeganOn rs thread (n + 1)) walk.roots from.roots;
  outer = outer_dropped (WasOn rs thread (n + 1)) walk.outer from.outer;
  current = uncovered_from rs thread (n + 1) nests walk from;
}
after_from rs thread n nests walk (TaskSchedule status turns prior next claimed) adds from =
    by (demands_next status)
  where
    by : (d : Bool)
        → IsWalkFrom rs thread (n + 1)
        (if d then (record { roots = walk.roots; outer = walk.outer; current = next }) else walk)
    by true = record {
      roots = from.roots;
      outer = from.outer;
      current = λ task is. inr (adds.starts task is);
    }
    by false = from
after_from rs thread n nests walk _ adds from = from

pub walk_from : (rs : List Record) (thread n : ℕ) → IsWalkFrom rs thread n (walk_of thread (take n rs))
walk_from rs thread n =
    part_keeps rs thread P
    (record {
      roots = tt;
      outer = λ k task is. absurd (none-some task is);
      current = λ task is. absurd (none-some task is);
    })
    own (λ m apart from. from_more rs thread m (walk_of thread (take m rs)) from) n
  where
    P : ℕ → List Record → Type 0
    P m l = IsWalkFrom rs thread m (fold after_record at_start l)

    own : (m : ℕ) (r : Record) → slice_get rs m ≡ Some r → r.thread ≡ thread → P m (part_of rs thread m)
        → P (m + 1) (part_of rs thread m ++ r ∷ [])
    own m r stands same from =
        let there : thread_at rs m ≡ Some thread =
        ap (option_map (λ (q : Record). q.thread)) stands ∙ ap Some same in
        let adds : AddsTo rs thread m r.body = record {
          begins =
              λ task is. (
                m,
                omega arith,
                ap (option_and_then (λ (q : Record). begun_root q.body)) stands ∙ is,
                there,
              );
          starts =
              λ task is.
              (m, omega arith, ap (option_and_then (λ (q : Record). started q.body)) stands ∙ is, there);
        } in
        subst (IsWalkFrom rs thread (m + 1)) (sym (fold_push after_record at_start (part_of rs thread m) r))
        (after_from rs thread m r.nests (walk_of thread (take m rs)) r.body adds
        (from_more rs thread m (walk_of thread (take m rs)) from))

-- ---- where a task runs

-- the thread of a record, with what is known of the task there
pub record IsThere (rs : List Record) (i : ℕ) (known : ℕ → Type 0) : Type 0 where
  pub thread : ℕ
  pub on : thread_at rs i ≡ Some thread
  pub is_known : known thread

pub running_from : (rs : List Record) (i task : ℕ) → IsFreeOf rs NotCurrent → at running rs i ≡ Some task
    → IsThere rs i (λ thread. BeganOn rs thread i task ⊎ RanOnThread rs thread i task)
running_from rs i task current says =
    let (r, stands, is) = get_at running rs i task says in
    record {
      thread = r.thread;
      on = ap (option_map (λ (q : Record). q.thread)) stands;
      is_known = (walk_from rs r.thread i).current task (runs_there rs i task r current stands is);
    }

-- a root that runs next began on the thread before
pub root_from : (rs : List Record) (i task : ℕ) → IsFreeOf rs NotCurrent → IsRoot rs task
    → at started rs i ≡ Some task → IsThere rs i (λ thread. BeganOn rs thread i task)
root_from rs i task current root says =
    let (r, stands, is) = get_at started rs i task says in
    record {
      thread = r.thread;
      on = ap (option_map (λ (q : Record). q.thread)) stands;
      is_known =
          every_get (BeganOn rs r.thread i) (walk_of r.thread (take i rs)).roots 0 task
          (walk_from rs r.thread i).roots
          (innermost (slice_get (walk_of r.thread (take i rs)).roots 0)
          (λ apart. no_misfit rs i current (record {
            the_record = r;
            stands = stands;
            misfits = other_root task is root apart;
          })));
    }
  where
    innermost : (top : Option ℕ) → (top ≢ Some task → ⊥) → top ≡ Some task
    innermost None not_other = absurd (not_other (λ is. none-some task is))
    innermost (Some found) not_other = elim (cases_eq found task) [
      | inl same ↦ ap Some same
      | inr apart ↦ absurd (not_other (λ is. apart (same_Some found task is)))
    ]

-- a root begins once
pub begun_once : (rs : List Record) (task a b : ℕ) → IsFreeOf rs CreatedTwice → at begun_root rs a ≡ Some task
    → at begun_root rs b ≡ Some task → a ≡ b
begun_once rs task a b once one other =
    made_once rs task a b once (begun_at_made task rs a one) (begun_at_made task rs b other)

-- ---- one thread

-- two options of numbers are the same or not
pub same_or_not : (a b : Option ℕ) → (a ≡ b) ⊎ (a ≢ b)
same_or_not None None = inl refl
same_or_not None (Some y) = inr (λ is. none-some y is)
same_or_not (Some x) None = inr (λ is. none-some x (sym is))
same_or_not (Some x) (Some y) = elim (cases_eq x y) [
  | inl same ↦ inl (ap Some same)
  | inr apart ↦ inr (λ is. apart (same_Some x y is))
]

home_below : (rs : List Record) (task k i : ℕ) → MovesNowhere rs → at started rs k ≡ Some task
    → at started rs i ≡ Some task → k < i → thread_at rs k ≡ thread_at rs i
home_below rs task k i still before starts below = elim (same_or_not (thread_at rs k) (thread_at rs i)) [
  | inl same ↦ same
  | inr apart ↦
      absurd
      (still i (record {
        task = task;
        next = starts;
        earlier = k;
        before = below;
        next_before = before;
        elsewhere = apart;
      }))
]

-- it runs next on one thread
pub one_home : (rs : List Record) (task k i : ℕ) → MovesNowhere rs → at started rs k ≡ Some task
    → at started rs i ≡ Some task → thread_at rs k ≡ thread_at rs i
one_home rs task k i still before starts = elim (cases_order k i) [
  | inl same ↦ ap (thread_at rs) same
  | inr (inl less) ↦ home_below rs task k i still before starts less
  | inr (inr more) ↦ sym (home_below rs task i k still starts before more)
]

-- what is known of a trace in which no task moves and none runs elsewhere
pub record StaysAtHome (rs : List Record) : Type 0 where
  pub current : IsFreeOf rs NotCurrent
  pub once : IsFreeOf rs CreatedTwice
  pub still : MovesNowhere rs

-- a record of a task is on the thread on which the task runs next
pub runs_home : (rs : List Record) (task i k : ℕ) → StaysAtHome rs → at running rs i ≡ Some task
    → at started rs k ≡ Some task → thread_at rs i ≡ thread_at rs k
runs_home rs task i k stays runs starts =
    let here = running_from rs i task stays.current runs in
    elim here.is_known [
      | inl (b, below, begins, there) ↦
          let from = root_from rs k task stays.current (b, begins) starts in
          let (c, low, begins', there') = from.is_known in
          here.on ∙ sym there ∙ ap (thread_at rs) (begun_once rs task b c stays.once begins begins') ∙ there'
          ∙ sym from.on
      | inr (j, below, before, there) ↦ here.on ∙ sym there ∙ one_home rs task j k stays.still before starts
    ]
