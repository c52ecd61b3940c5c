-- Each record awaits one other at most: where no record tells a turn, and where those of a trace of version 2
-- have no gap.
use Rattle.std.proofs.Common.{◌≡◌, ◌≢◌, ◌∙◌, ℕ, zero, suc, ◌<◌, ◌+◌, List, Option, Some}
use Rattle.std.proofs.Common.{None, refl, sym, ap, arith, inl, inr, ◌⊎◌}
use Rattle.std.proofs.lemmas.Bool.{cases_eq, cases_order, false≢true}
use Rattle.std.proofs.lemmas.Option.{none-some, same_Some, slice_get_within}
use Rattle.std.specs.Prelude.{is_some, slice_get, option_and_then, option_map, take}
use Rattle.ompt_events.specs.declared.records.Record.{Record}
use Rattle.ompt_events.specs.declared.records.Body.{Body}
use Rattle.ompt_events.specs.declared.records.Body.TheVariants.{TaskSchedule}
use Rattle.ompt_events.specs.declared.names.Status.TheVariants as status
use Rattle.ompt_events.specs.declared.cause.Cause.TheVariants.{NotCurrent, Moved, TurnGap, StatusOrder}
use Rattle.ompt_events.specs.Records.{started, begun_turn, suspended_turn, told_turns, fulfilled}
use Rattle.ompt_events.specs.Places.{at, thread_at}
use Rattle.ompt_events.specs.Tree.{IsRoot, IsExplicit}
use Rattle.ompt_events.specs.Threads.{walk_of}
use Rattle.ompt_events.specs.Turns.{TellsNoTurns, turn_in}
use Rattle.ompt_events.specs.Traces.{IsTrace, IsSound, HasItsNext}
use Rattle.ompt_events.specs.HappensBefore.{IsStart, IsResumption}
use Rattle.ompt_events.specs.Causes.{IsFreeOf, moved, turn_gap, begun_again}
use Rattle.ompt_events.proofs.TurnLemmas.{first_version_tells_none, begun_started, is_start_untold}
use Rattle.ompt_events.proofs.TurnLemmas.{start_starts, no_resumption}
use Rattle.ompt_events.proofs.PlaceLemmas.{at_within}
use Rattle.ompt_events.proofs.ListLemmas.{all_get}
use Rattle.task_tree.specs.Family.{FamilyView, IsFamilyOf}
use Rattle.task_tree.proofs.RankedLemmas.{every_get}
use Rattle.task_tree.proofs.SuspendedLemmas.{runs_there, part_of, told_right}
use Rattle.task_tree.proofs.SuspendedLemmas.{turn_here}
use Rattle.task_tree.proofs.SuspendedLemmas.{begun_told, Suspended, suspended_parts}
use Rattle.task_tree.proofs.SuspendedLemmas.{explicit_not_root}
use Rattle.task_tree.specs.Runs.{RunView}
use Rattle.checker.specs.Search.{IsSoundRun}
use Rattle.checker.specs.Schedule.{IsEarlierOnThread, EachAwaitsOne}
use Rattle.checker.proofs.ScheduleLemmas.{begun_root_or_explicit}
use Rattle.checker.proofs.TurnWalkLemmas.{same_option, BeginsOnThread, start_on, walks_on, begins_once}
use Rattle.checker.proofs.TurnWalkLemmas.{first_or_told, starts_told, turn_greatest}
use Rattle.checker.proofs.OngoingLemmas.{HasOrderlyTurns, suspended_once}

-- ---- in any trace

sound_apart : (b : Body) → HasItsNext b → (task other : ℕ) → fulfilled b ≡ Some task → started b ≡ Some other
    → ⊥
sound_apart (TaskSchedule status.EarlyFulfill turns prior next claimed) sound task other fulfils starts =
    false≢true (sym sound ∙ ap is_some starts)
sound_apart (TaskSchedule status.LateFulfill turns prior next claimed) sound task other fulfils starts =
    false≢true (sym sound ∙ ap is_some starts)
sound_apart _ sound task other fulfils starts = none-some task fulfils

trace_apart : (rs : List Record) → IsTrace rs → (i task other : ℕ) → at fulfilled rs i ≡ Some task
    → at started rs i ≡ Some other → ⊥
trace_apart rs trace i task other fulfils starts = there (slice_get rs i) refl fulfils starts
  where
    there : (o : Option Record) → slice_get rs i ≡ o
        → option_and_then (λ (r : Record). fulfilled r.body) o ≡ Some task
        → option_and_then (λ (r : Record). started r.body) o ≡ Some other → ⊥
    there None e fulfils' starts' = none-some task fulfils'
    there (Some r) e fulfils' starts' =
        let sound : IsSound r.body = all_get (λ (q : Record). IsSound q.body) rs i r trace.sound e in
        sound_apart r.body sound.next task other fulfils' starts'

-- ---- where no record tells a turn

starts_below : (rs : List Record) (task n : ℕ) → TellsNoTurns rs
    → ((s : ℕ) × (s < n) × IsStart rs s task) ⊎ ((k : ℕ) → k < n → at started rs k ≢ Some task)
starts_below rs task zero untold = inr (λ k below. absurd (omega arith))
starts_below rs task (suc n) untold = elim (starts_below rs task n untold) [
  | inl found ↦ inl (found.0, omega (arith, found.1), found.2)
  | inr none ↦ here (at started rs n) refl none
]
  where
    here : (o : Option ℕ) → at started rs n ≡ o → ((k : ℕ) → k < n → at started rs k ≢ Some task)
        → ((s : ℕ) × (s < suc n) × IsStart rs s task) ⊎ ((k : ℕ) → k < suc n → at started rs k ≢ Some task)
    here None e none = inr (λ k below starts. elim (cases_eq k n) [
      | inl same ↦ none-some task (sym e ∙ ap (at started rs) (sym same) ∙ starts)
      | inr apart ↦ none k (omega arith) starts
    ])
    here (Some other) e none = elim (cases_eq other task) [
      | inl same ↦ inl (n, omega arith, is_start_untold rs n task untold (e ∙ ap Some same) none)
      | inr different ↦ inr (λ k below starts. elim (cases_eq k n) [
        | inl is ↦ different (same_Some other task (sym e ∙ ap (at started rs) (sym is) ∙ starts))
        | inr apart ↦ none k (omega arith) starts
      ])
    ]

-- a task starts on one thread, so an earlier record of the thread of each start is the first
pub untold_awaits_one : (rs : List Record) → IsTrace rs → TellsNoTurns rs → IsFreeOf rs Moved
    → EachAwaitsOne rs
untold_awaits_one rs trace untold still = record {
  apart = trace_apart rs trace;
  at_home =
      λ i task explicit begins.
      home i task explicit (begun_started rs i task 0 begins) (starts_below rs task i untold);
  on_thread = λ a b again. absurd (no_resumption rs a b untold again);
  once = λ a b i again explicit other. absurd (no_resumption rs a i untold again);
  alike = λ i k task starts none. untold k;
}
  where
    home : (i task : ℕ) → IsExplicit rs task → at started rs i ≡ Some task
        → ((s : ℕ) × (s < i) × IsStart rs s task) ⊎ ((k : ℕ) → k < i → at started rs k ≢ Some task)
        → IsStart rs i task ⊎ ((s : ℕ) × IsEarlierOnThread rs s i × IsStart rs s task)
    home i task explicit starts (inr none) = inl (is_start_untold rs i task untold starts none)
    home i task explicit starts (inl (s, below, first)) = inr (
      s,
      record {
        earlier = below;
        within = at_within started rs i task starts;
        same =
            same_option (thread_at rs s) (thread_at rs i)
            (λ other.
            still i
            (moved (
              task,
              s,
              explicit,
              starts,
              below,
              start_starts rs s task first,
              other,
              untold i,
            )));
      },
      first,
    )

-- where a root is suspended and where it runs on, it does so on the thread on which it began; so the
-- suspension is the earlier one
root_runs_on : (rs : List Record) (a b : ℕ) → HasOrderlyTurns rs → (again : IsResumption rs a b)
    → IsRoot rs again.task → IsEarlierOnThread rs a b
root_runs_on rs a b facts again root =
    by (slice_get rs a) (slice_get rs b) refl refl again.suspends again.resumes
  where
    task : ℕ
    task = again.task

    turn : ℕ
    turn = again.turn

    by : (one other : Option Record) → slice_get rs a ≡ one → slice_get rs b ≡ other
        → option_and_then (λ (r : Record). suspended_turn r.body) one ≡ Some (task, turn)
        → option_and_then (λ (r : Record). begun_turn r.body) other ≡ Some (task, turn + 1)
        → IsEarlierOnThread rs a b
    by None other e f suspends resumes = absurd (none-some (task, turn) suspends)
    by (Some r) None e f suspends resumes = absurd (none-some (task, turn + 1) resumes)
    by (Some r) (Some q) e f suspends resumes =
        let fits : IsSound r.body = all_get (λ (x : Record). IsSound x.body) rs a r facts.sound e in
        let turned : is_some (told_turns r.body) ≡ is_some (started r.body) =
        all_get (λ (x : Record). is_some (told_turns x.body) ≡ is_some (started x.body)) rs a r facts.told e
        in
        let parts : Suspended r.body task turn = suspended_parts r.body task turn fits.next turned suspends in
        let ran : BeginsOnThread rs r.thread task =
        (walks_on rs r.thread facts.current a).runs task (runs_there rs a task r facts.current e parts.runs)
        root in
        let starts : started q.body ≡ Some task =
        sym (ap (option_and_then (λ (x : Record). started x.body)) f)
        ∙ begun_started rs b task (turn + 1) again.resumes in
        let runs : BeginsOnThread rs q.thread task =
        every_get (BeginsOnThread rs q.thread) (walk_of q.thread (take b rs)).roots 0 task
        (walks_on rs q.thread facts.current b).roots (start_on rs b task q facts.current f starts root) in
        let threads : Some r.thread ≡ Some q.thread =
        begins_once rs task r.thread q.thread facts.once ran runs in
        let on : thread_at rs a ≡ Some r.thread = ap (option_map (λ (x : Record). x.thread)) e in
        let on_b : thread_at rs b ≡ Some r.thread =
        ap (option_map (λ (x : Record). x.thread)) f ∙ sym threads in
        let there : turn_in task (part_of rs r.thread a) ≡ turn =
        sym (turn_here rs a task r e parts.runs)
        ∙ sym
        (told_right rs a parts.told facts.gap
        (ap (option_and_then (λ (x : Record). told_turns x.body)) e ∙ parts.tells))
        ∙ parts.turn_told in
        record {
          earlier = elim (cases_order a b) [
            | inl same ↦ absurd (again.another same)
            | inr (inl less) ↦ less
            | inr (inr more) ↦
                let most =
                turn_greatest rs r.thread task facts.told facts.gap a b (turn + 1) more on_b again.resumes in
                absurd (omega (arith, most, there))
          ];
          within = slice_get_within rs b q f;
          same = on ∙ sym on_b;
        }

-- ---- the facts of a trace that tells its turns

pub told_awaits_one : (rs : List Record) (family : FamilyView) → IsTrace rs → HasOrderlyTurns rs
    → IsFamilyOf rs family → EachAwaitsOne rs
told_awaits_one rs family trace facts are = record {
  apart = trace_apart rs trace;
  at_home = λ i task explicit begins. inl (record {
    starts = begins;
    first =
        λ k below earlier.
        facts.gap i
        (turn_gap (begun_again task 0 k (begun_told rs i task 0 facts.told begins, begins) below earlier));
  });
  on_thread =
      λ a b again. elim (begun_root_or_explicit rs family b again.task (again.turn + 1) are again.resumes) [
        | inl root ↦ inr (root_runs_on rs a b facts again root)
        | inr explicit ↦ inl explicit
      ];
  once = λ a b i again explicit suspends.
      suspended_once rs again.task again.turn a b facts (explicit_not_root rs again.task facts.once explicit)
      again.suspends suspends;
  alike = λ i k task starts none. absurd (starts_told rs i task facts.told starts none);
}

-- ---- the facts of a run

-- where none of the causes before those of the ledger occurs: a run is of a trace of some version
pub sound_awaits_one : (run : RunView) → IsSoundRun run → EachAwaitsOne run.records
sound_awaits_one run sound = elim (first_or_told sound.is_run.version rs sound.is_run.of_version) [
  | inl first ↦
      untold_awaits_one rs sound.is_run.trace (first_version_tells_none rs first)
      (sound.clear Moved (4, omega arith, refl))
  | inr told ↦ told_awaits_one rs run.family sound.is_run.trace (record {
    sound = sound.is_run.trace.sound;
    told = told;
    once = sound.is_run.family.once;
    current = sound.clear NotCurrent (3, omega arith, refl);
    gap = sound.clear TurnGap (5, omega arith, refl);
    ordered = sound.clear StatusOrder (6, omega arith, refl);
  }) sound.is_run.family
]
  where
    rs : List Record
    rs = run.records
