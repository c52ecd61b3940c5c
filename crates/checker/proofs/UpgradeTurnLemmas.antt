-- In an upgraded trace no task's turns fall along the file, and where a task runs on it does so later on the
-- same thread: so it has the steps and starts of the trace that it was made of.
use Rattle.std.proofs.Common.{◌≡◌, ◌≢◌, ◌∙◌, ℕ, ◌<◌, ◌≤◌, ◌+◌, List, [], ◌∷◌, ◌++◌, Option, Some, None, Bool}
use Rattle.std.proofs.Common.{true, false, cond, refl, sym, ap, subst, arith, inl, inr, ◌⊎◌}
use Rattle.std.proofs.lemmas.Bool.{cases_eq, cases_order, eq-eqb, ne_eqb, false≢true}
use Rattle.std.proofs.lemmas.Option.{none-some, same_Some}
use Rattle.std.proofs.lemmas.List.Sums.{fold_push}
use Rattle.std.specs.Prelude.{◌==◌, slice_get, option_map, option_and_then, is_some}
use Rattle.std.specs.List.{find}
use Rattle.std.specs.Option.{option_map_or}
use Rattle.ompt_events.specs.declared.records.Record.{Record}
use Rattle.ompt_events.specs.declared.records.Body.{Body}
use Rattle.ompt_events.specs.declared.records.Body.TheVariants.{TaskSchedule}
use Rattle.ompt_events.specs.declared.records.Turns.{Turns}
use Rattle.ompt_events.specs.declared.names.Status.TheVariants.{Yield, Switch}
use Rattle.ompt_events.specs.Records.{running, started, begun_root, begun_turn, suspended, suspended_turn}
use Rattle.ompt_events.specs.Records.{told_turns, prior_turn}
use Rattle.ompt_events.specs.Places.{at, thread_at, places}
use Rattle.ompt_events.specs.Tree.{IsRoot, IsExplicit}
use Rattle.ompt_events.specs.HappensBefore.{IsStart, IsResumption}
use Rattle.ompt_events.specs.Turns.{TellsNoTurns, turn_after, turn_in, turn_at}
use Rattle.ompt_events.specs.States.{is_task, is_on, home_of, has_moved}
use Rattle.ompt_events.specs.Causes.{BeginsTurn, runs, is_root}
use Rattle.ompt_events.specs.Traces.{HasItsNext, IsSound, IsTraceOf}
use Rattle.ompt_events.specs.Upgrades.{turn_counted, IsUpgrade}
use Rattle.ompt_events.proofs.PlaceLemmas.{at_within, contains_place, is_the_task, the_task}
use Rattle.ompt_events.proofs.TurnLemmas.{begun_started, start_first, is_start_untold, no_resumption}
use Rattle.ompt_events.proofs.ListLemmas.{all_get}
use Rattle.task_tree.specs.Rising.{TurnsRise, AreTurnsInOrder}
use Rattle.task_tree.proofs.BlindLemmas.{blind_running, blind_begun_root}
use Rattle.task_tree.proofs.SuspendedLemmas.{part_of, part_keeps, explicit_not_root, turn_here}
use Rattle.task_tree.proofs.RisingPassLemmas.{in_order_rise}
use Rattle.task_states.proofs.OriginLemmas.{found_some, found_passes, root_home, explicit_home}
use Rattle.task_states.proofs.HomeLemmas.{has_not_moved, on_thread}
use Rattle.checker.proofs.BlindBodyLemmas.{blind_suspended}
use Rattle.checker.proofs.TwinLemmas.{AreTwins, twins_back, twin_says, twin_thread}
use Rattle.checker.proofs.TwinStepLemmas.{IsLaterThere, HaveSameSteps, later_step}
use Rattle.checker.proofs.UpgradeLemmas.{upgrade_twins, counted_later, first_counted, starts_telling}
use Rattle.checker.proofs.UpgradeLemmas.{begins_counted}
use Rattle.checker.proofs.UpgradeWalkLemmas.{StaysAtHome, root_from, begun_once, one_home, runs_home}

-- what is known of the two traces
pub record IsStillUpgrade (rs ss : List Record) : Type 0 where
  pub trace : IsTraceOf 1 rs
  pub untold : TellsNoTurns rs
  pub upgrade : IsUpgrade rs ss
  pub stays : StaysAtHome rs

-- the records say the same of all but turns
pub still_twins : (rs ss : List Record) → IsStillUpgrade rs ss → AreTwins rs ss
still_twins rs ss known = upgrade_twins rs ss known.upgrade

-- ---- turns rise

-- the turn of a task on a thread is none that began before the last that began there
turn_reached : (rs ss : List Record) (task thread n k : ℕ) → IsUpgrade rs ss → k < n
    → at started rs k ≡ Some task → thread_at ss k ≡ Some thread
    → turn_counted rs k task ≤ turn_in task (part_of ss thread n)
turn_reached rs ss task thread n k upgrade below starts there =
    part_keeps ss thread P (λ j low is on. absurd (omega (arith, low))) own other n k below starts there
  where
    P : ℕ → List Record → Type 0
    P m l =
        (j : ℕ) → j < m → at started rs j ≡ Some task → thread_at ss j ≡ Some thread
        → turn_counted rs j task ≤ turn_in task l

    other : (m : ℕ) → thread_at ss m ≢ Some thread → P m (part_of ss thread m)
        → P (m + 1) (part_of ss thread m)
    other m apart before j low is on = elim (cases_eq j m) [
      | inl same ↦ absurd (apart (ap (thread_at ss) (sym same) ∙ on))
      | inr less ↦ before j (omega (arith, low, less)) is on
    ]

    own : (m : ℕ) (r : Record) → slice_get ss m ≡ Some r → r.thread ≡ thread → P m (part_of ss thread m)
        → P (m + 1) (part_of ss thread m ++ r ∷ [])
    own m r stands same before j low is on =
        subst Q (sym (fold_push (turn_after task) 0 (part_of ss thread m) r)) (by (begun_turn r.body) refl)
      where
        Q : ℕ → Type 0
        Q turn = turn_counted rs j task ≤ turn

        begins_here : (b : ℕ × ℕ) → begun_turn r.body ≡ Some b → at begun_turn ss m ≡ Some b
        begins_here b e = ap (option_and_then (λ (q : Record). begun_turn q.body)) stands ∙ e

        -- where the record begins no turn of the task
        kept : ((turn : ℕ) → begun_turn r.body ≡ Some (task, turn) → ⊥)
            → Q (turn_in task (part_of ss thread m))
        kept none = elim (cases_eq j m) [
          | inl here ↦
              absurd
              (none (turn_counted rs m task)
              (sym (ap (option_and_then (λ (q : Record). begun_turn q.body)) stands)
              ∙ (starts_telling rs ss m task upgrade (ap (at started rs) (sym here) ∙ is)).begun))
          | inr less ↦ before j (omega (arith, low, less)) is on
        ]

        by : (o : Option (ℕ × ℕ)) → begun_turn r.body ≡ o
            → Q
            (option_map_or (λ (b : ℕ × ℕ). cond (b.0 == task) b.1 (turn_in task (part_of ss thread m))) o
            (turn_in task (part_of ss thread m)))
        by None e = kept (λ turn is. none-some (task, turn) (sym e ∙ is))
        by (Some b) e = elim (cases_eq b.0 task) [
          | inl own' ↦
              let began = begins_counted rs ss m b.0 b.1 upgrade (begins_here b e) in
              let mine : at started rs m ≡ Some task = began.0 ∙ ap Some own' in
              let turn : b.1 ≡ turn_counted rs m task = began.1 ∙ ap (turn_counted rs m) own' in
              subst Q (sym (ap (λ c. cond c b.1 (turn_in task (part_of ss thread m))) (eq-eqb b.0 task own')))
              (elim (cases_eq j m) [
                | inl here ↦ omega (arith, turn, ap (λ x. turn_counted rs x task) here)
                | inr less ↦ omega (arith, turn, counted_later rs task j m is (omega (arith, low, less)))
              ])
          | inr apart ↦
              subst Q
              (sym (ap (λ c. cond c b.1 (turn_in task (part_of ss thread m))) (ne_eqb b.0 task apart)))
              (kept (λ turn is. apart (ap (λ (p : ℕ × ℕ). p.0) (same_Some b (task, turn) (sym e ∙ is)))))
        ]

-- at a record of a task no later turn began before
turn_there : (rs ss : List Record) (task i k : ℕ) → IsStillUpgrade rs ss → at running ss i ≡ Some task → k < i
    → at started rs k ≡ Some task → turn_counted rs k task ≤ turn_at ss i
turn_there rs ss task i k known says below starts = by (slice_get ss i) refl says
  where
    by : (o : Option Record) → slice_get ss i ≡ o
        → option_and_then (λ (r : Record). running r.body) o ≡ Some task
        → turn_counted rs k task ≤ turn_at ss i
    by None e is = absurd (none-some task is)
    by (Some r) e is =
        let twins = still_twins rs ss known in
        let home : thread_at rs i ≡ thread_at rs k =
        runs_home rs task i k known.stays
        (twin_says running blind_running task ss rs i (twins_back rs ss twins) says) starts in
        let there : thread_at ss k ≡ Some r.thread =
        sym (twin_thread rs ss k twins) ∙ sym home ∙ twin_thread rs ss i twins
        ∙ ap (option_map (λ (q : Record). q.thread)) e in
        let reached = turn_reached rs ss task r.thread i k known.upgrade below starts there in
        omega (arith, turn_here ss i task r e is, reached)

begins_low : (rs ss : List Record) (task i turn k later : ℕ) → IsStillUpgrade rs ss → k < i
    → BeginsTurn ss i task turn → BeginsTurn ss k task later → later ≤ turn
begins_low rs ss task i turn k later known below (runs begins) (runs before) =
    let here = begins_counted rs ss i task turn known.upgrade begins in
    let there = begins_counted rs ss k task later known.upgrade before in
    omega (arith, counted_later rs task k i there.0 below, here.1, there.1)
begins_low rs ss task i turn k later known below begins (is_root first) = omega arith
begins_low rs ss task i turn k later known below (is_root begins) (runs before) =
    let twins = twins_back rs ss (still_twins rs ss known) in
    let root : at begun_root rs i ≡ Some task =
    twin_says begun_root blind_begun_root task ss rs i twins begins in
    let there = begins_counted rs ss k task later known.upgrade before in
    let from = root_from rs k task known.stays.current (i, root) there.0 in
    let (b, low, began, on) = from.is_known in
    absurd (omega (arith, begun_once rs task b i known.stays.once began root, low, below))

own_low : (rs ss : List Record) (task i k later : ℕ) → IsStillUpgrade rs ss → k < i
    → at running ss i ≡ Some task → BeginsTurn ss k task later → later ≤ turn_at ss i
own_low rs ss task i k later known below says (runs before) =
    let there = begins_counted rs ss k task later known.upgrade before in
    omega (arith, turn_there rs ss task i k known says below there.0, there.1)
own_low rs ss task i k later known below says (is_root first) = omega arith

upgrade_in_order : (rs ss : List Record) → IsStillUpgrade rs ss → AreTurnsInOrder ss
upgrade_in_order rs ss known i = record {
  own = λ task says k later below begins. own_low rs ss task i k later known below says begins;
  begins =
      λ task turn begins k later below before. begins_low rs ss task i turn k later known below begins before;
}

pub upgrade_rises : (rs ss : List Record) → IsStillUpgrade rs ss → TurnsRise ss
upgrade_rises rs ss known = in_order_rise ss (upgrade_in_order rs ss known)

-- ---- no task has moved

begun_or_not : (rs : List Record) (task : ℕ) → IsRoot rs task ⊎ (IsRoot rs task → ⊥)
begun_or_not rs task = by (find p (places rs)) refl
  where
    p : ℕ → Bool
    p i = is_task task (at begun_root rs i)

    by : (o : Option ℕ) → find p (places rs) ≡ o → IsRoot rs task ⊎ (IsRoot rs task → ⊥)
    by None e =
        inr
        (λ (i, begins).
        false≢true
        (ap is_some (sym e)
        ∙ found_some p (places rs) i
        (contains_place rs i (at_within begun_root rs i task begins))
        (the_task task (at begun_root rs i) begins)))
    by (Some i) e = inl (i, is_the_task task (at begun_root rs i) (found_passes p (places rs) i e).0)

at_home : (rs : List Record) (task i : ℕ) → StaysAtHome rs → at started rs i ≡ Some task
    → is_on rs (home_of rs task) i ≡ true
at_home rs task i stays starts = elim (begun_or_not rs task) [
  | inl root ↦
      let from = root_from rs i task stays.current root starts in
      let (b, low, began, there) = from.is_known in
      on_thread rs (home_of rs task) i from.thread from.thread
      (root_home rs task b stays.once began from.thread there) from.on
      ∙ eq-eqb from.thread from.thread refl
  | inr not_root ↦ first (find p (places rs)) refl not_root (thread_at rs i) refl
]
  where
    p : ℕ → Bool
    p k = is_task task (at started rs k)

    there : (t : Option ℕ) → home_of rs task ≡ t → thread_at rs i ≡ t → is_on rs (home_of rs task) i ≡ true
    there None home on = absurd (nowhere (slice_get rs i) on starts)
      where
        nowhere : (o : Option Record) → option_map (λ (r : Record). r.thread) o ≡ None
            → option_and_then (λ (r : Record). started r.body) o ≡ Some task → ⊥
        nowhere None out is = none-some task is
        nowhere (Some r) out is = none-some r.thread (sym out)
    there (Some thread) home on =
        on_thread rs (home_of rs task) i thread thread home on ∙ eq-eqb thread thread refl

    first : (o : Option ℕ) → find p (places rs) ≡ o → (IsRoot rs task → ⊥) → (t : Option ℕ)
        → thread_at rs i ≡ t → is_on rs (home_of rs task) i ≡ true
    first None e not_root t on =
        absurd
        (false≢true
        (ap is_some (sym e)
        ∙ found_some p (places rs) i (contains_place rs i (at_within started rs i task starts))
        (the_task task (at started rs i) starts)))
    first (Some k) e not_root t on =
        let same : thread_at rs k ≡ thread_at rs i =
        one_home rs task k i stays.still
        (is_the_task task (at started rs k) (found_passes p (places rs) k e).0) starts in
        let home : home_of rs task ≡ thread_at rs i =
        explicit_home rs task not_root ∙ ap (option_and_then (thread_at rs)) e ∙ same in
        there t (home ∙ on) on

pub none_has_moved : (rs : List Record) (task : ℕ) → StaysAtHome rs → has_moved rs task ≡ false
none_has_moved rs task stays = has_not_moved rs task (λ i starts tells. at_home rs task i stays starts)

-- ---- steps

there_starts : (rs ss : List Record) (i task : ℕ) → IsStillUpgrade rs ss → IsExplicit rs task
    → IsStart rs i task → IsStart ss i task
there_starts rs ss i task known explicit start = record {
  starts =
      (starts_telling rs ss i task known.upgrade (begun_started rs i task 0 start.starts)).begun
      ∙ ap (λ t. Some (task, t))
      (first_counted rs task i (explicit_not_root rs task known.stays.once explicit)
      (start_first rs i task known.untold start));
  first =
      λ k below before.
      start_first rs i task known.untold start k below
      (begins_counted rs ss k task 0 known.upgrade before).0;
}

back_starts : (rs ss : List Record) (i task : ℕ) → IsStillUpgrade rs ss → IsStart ss i task
    → IsStart rs i task
back_starts rs ss i task known start =
    let here = begins_counted rs ss i task 0 known.upgrade start.starts in
    is_start_untold rs i task known.untold here.0
    (λ k below before. omega (arith, counted_later rs task k i before below, here.1))

-- a body that suspends a task is of that task, and another runs next
suspends_on : (b : Body) (task : ℕ) → HasItsNext b → suspended b ≡ Some task
    → (running b ≡ Some task) × ((next : ℕ) × (started b ≡ Some next))
suspends_on (TaskSchedule Yield turns prior None claimed) task fits is = cc
suspends_on (TaskSchedule Yield turns prior (Some next) claimed) task fits is = (is, (next, refl))
suspends_on (TaskSchedule Switch turns prior None claimed) task fits is = cc
suspends_on (TaskSchedule Switch turns prior (Some next) claimed) task fits is = (is, (next, refl))
suspends_on _ task fits is = absurd (none-some task is)

-- the task that is suspended, and the turn that the record tells of it
suspended_parts : (o : Option Record) (task turn : ℕ)
    → option_and_then (λ (r : Record). suspended_turn r.body) o ≡ Some (task, turn)
    → (option_and_then (λ (r : Record). suspended r.body) o ≡ Some task)
    × (turn
    ≡ option_map_or (λ (t : Turns). t.prior) (option_and_then (λ (r : Record). told_turns r.body) o)
    0)
suspended_parts None task turn is = absurd (none-some (task, turn) is)
suspended_parts (Some r) task turn is = by (suspended r.body) refl is
  where
    by : (s : Option ℕ) → suspended r.body ≡ s
        → option_map {U = ℕ × ℕ} (λ t. (t, prior_turn r.body)) s ≡ Some (task, turn)
        → (suspended r.body ≡ Some task) × (turn ≡ prior_turn r.body)
    by None e same = absurd (none-some (task, turn) same)
    by (Some t) e same =
        let pair = same_Some (t, prior_turn r.body) (task, turn) same in
        (e ∙ ap (λ (p : ℕ × ℕ). Some p.0) pair, sym (ap (λ (p : ℕ × ℕ). p.1) pair))

-- a suspension is at a record of the task, and ends the turn in which that is
record Suspends (rs ss : List Record) (a task turn : ℕ) : Type 0 where
  own : at running rs a ≡ Some task
  ends : turn ≡ turn_at ss a

suspension : (rs ss : List Record) (a task turn : ℕ) → IsStillUpgrade rs ss
    → at suspended_turn ss a ≡ Some (task, turn) → Suspends rs ss a task turn
suspension rs ss a task turn known suspends = by (slice_get rs a) refl says
  where
    parts : (at suspended ss a ≡ Some task)
        × (turn ≡ option_map_or (λ (t : Turns). t.prior) (at told_turns ss a) 0)
    parts = suspended_parts (slice_get ss a) task turn suspends

    says : at suspended rs a ≡ Some task
    says =
        twin_says suspended blind_suspended task ss rs a (twins_back rs ss (still_twins rs ss known)) parts.0

    by : (o : Option Record) → slice_get rs a ≡ o
        → option_and_then (λ (r : Record). suspended r.body) o ≡ Some task → Suspends rs ss a task turn
    by None e is = absurd (none-some task is)
    by (Some r) e is =
        let fits : IsSound r.body =
        all_get (λ (q : Record). IsSound q.body) rs a r known.trace.is_trace.sound e in
        let (own, (next, starts)) = suspends_on r.body task fits.next is in
        record {
          own = ap (option_and_then (λ (q : Record). running q.body)) e ∙ own;
          ends =
              parts.1
              ∙ ap (λ o. option_map_or (λ (t : Turns). t.prior) o 0)
              (starts_telling rs ss a next known.upgrade
              (ap (option_and_then (λ (q : Record). started q.body)) e ∙ starts)).told;
        }

resumes_later : (rs ss : List Record) (a b : ℕ) → IsStillUpgrade rs ss → IsResumption ss a b
    → IsLaterThere ss a b
resumes_later rs ss a b known again = record {
  later = elim (cases_order a b) [
    | inl same ↦ absurd (again.another same)
    | inr (inl less) ↦ less
    | inr (inr more) ↦
        absurd
        (omega (
          arith,
          turn_there rs ss again.task a b known
              (twin_says running blind_running again.task rs ss a twins ended.own) more begun.0,
          ended.ends,
          begun.1,
        ))
  ];
  within = at_within begun_turn ss b (again.task, again.turn + 1) again.resumes;
  same_thread =
      sym (twin_thread rs ss a twins) ∙ runs_home rs again.task a b known.stays ended.own begun.0
      ∙ twin_thread rs ss b twins;
}
  where
    twins : AreTwins rs ss
    twins = still_twins rs ss known

    ended : Suspends rs ss a again.task again.turn
    ended = suspension rs ss a again.task again.turn known again.suspends

    begun : (at started rs b ≡ Some again.task) × (again.turn + 1 ≡ turn_counted rs b again.task)
    begun = begins_counted rs ss b again.task (again.turn + 1) known.upgrade again.resumes

pub upgrade_steps : (rs ss : List Record) → IsStillUpgrade rs ss → HaveSameSteps rs ss
upgrade_steps rs ss known = record {
  there = record {
    twins = still_twins rs ss known;
    starts = λ i task explicit start. there_starts rs ss i task known explicit start;
    resumes = λ a b again. absurd (no_resumption rs a b known.untold again);
  };
  back = record {
    twins = twins_back rs ss (still_twins rs ss known);
    starts = λ i task explicit start. back_starts rs ss i task known start;
    resumes =
        λ a b again.
        later_step ss rs a b (twins_back rs ss (still_twins rs ss known))
        (resumes_later rs ss a b known again);
  };
}
