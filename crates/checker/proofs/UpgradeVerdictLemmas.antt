-- An upgraded trace has the verdict of the trace that it was made of, and the same counter orders.
use Rattle.std.proofs.Common.{◌≡◌, ◌∙◌, ℕ, ◌<◌, ◌≤◌, false, List, Option, Some, None, refl, sym, arith}
use Rattle.std.proofs.Common.{inl, inr}
use Rattle.std.proofs.lemmas.Bool.{cases_lt}
use Rattle.ompt_events.specs.declared.records.Record.{Record}
use Rattle.ompt_events.specs.declared.cause.Cause.{Cause}
use Rattle.ompt_events.specs.declared.cause.Cause.TheVariants.{SeqGap, CreatedTwice, Rootless, NotCurrent}
use Rattle.ompt_events.specs.declared.cause.Cause.TheVariants.{Moved, TurnGap, StatusOrder, RegionOrder}
use Rattle.ompt_events.specs.declared.cause.Cause.TheVariants.{TeamShort, NestedParallel, RegionNesting}
use Rattle.ompt_events.specs.declared.cause.Cause.TheVariants.{DepsPlace}
use Rattle.ompt_events.specs.declared.cause.Cause.TheVariants.{ShareWrong, EntryTwice, LengthAhead}
use Rattle.ompt_events.specs.declared.cause.Cause.TheVariants.{LengthBack, NoOrder, TargetTask}
use Rattle.ompt_events.specs.CauseNames.{cause_number}
use Rattle.ompt_events.specs.Records.{created, started, wait_completed}
use Rattle.ompt_events.specs.Turns.{TellsNoTurns}
use Rattle.ompt_events.specs.Traces.{IsTraceOf}
use Rattle.ompt_events.specs.Causes.{HasCause, Shows, IsFreeOf, turn_gap}
use Rattle.ompt_events.specs.Upgrades.{MovesNowhere, IsUpgrade}
use Rattle.ompt_events.proofs.ListLemmas.{all_get}
use Rattle.ompt_events.proofs.TurnLemmas.{first_version_tells_none, free_of_gaps}
use Rattle.task_tree.proofs.BlindLemmas.{blind_created}
use Rattle.task_tree.proofs.RenamingLemmas.{renamed_covers, renamed_predecessor}
use Rattle.checker.specs.declared.verdict.Verdict.{Verdict}
use Rattle.checker.specs.declared.verdict.Verdict.TheVariants.{Yes, No, Malformed}
use Rattle.checker.specs.Readings.{by_task, by_file}
use Rattle.checker.specs.Verdicts.{ShowsNone, IsLeastShown, IsVerdict}
use Rattle.checker.specs.Counter.{IsCounterBy}
use Rattle.checker.proofs.BlindBodyLemmas.{blind_started, blind_wait_completed}
use Rattle.checker.proofs.TwinLemmas.{AreTwins, twins_back, twins_long, twin_says, twin_thread, twin_renaming}
use Rattle.checker.proofs.TwinCauseLemmas.{twin_cause}
use Rattle.checker.proofs.FlatTwinLemmas.{AreFlatTwins, flat_twins_back, flat_cause}
use Rattle.checker.proofs.TwinMoveLemmas.{twin_states}
use Rattle.checker.proofs.TwinStepLemmas.{HaveSameSteps, same_steps_back, kept_order, kept_greedy}
use Rattle.checker.proofs.TwinStepLemmas.{kept_earliest, kept_behind, kept_no_order, kept_explicit}
use Rattle.checker.proofs.TwinStepLemmas.{kept_complete_at, kept_complete_in}
use Rattle.checker.proofs.UpgradeLemmas.{upgrade_flat, upgrade_gapless, stays_unmoved}
use Rattle.checker.proofs.UpgradeWalkLemmas.{StaysAtHome}
use Rattle.checker.proofs.UpgradeTurnLemmas.{IsStillUpgrade, upgrade_steps, upgrade_rises, none_has_moved}
use Rattle.checker.proofs.ReadingLemmas.{AreAlike, StartsExplicit, alike_back, alike_verdict, alike_counter}
use Rattle.checker.proofs.ReadingLemmas.{rising_alike, first_version_alike}

-- ---- where no task moves, and none of the first four causes occurs

-- the two traces have the same steps, in neither a task is elsewhere than at home, and no turns have a gap
record AreSameRuns (rs ss : List Record) : Type 0 where
  steps : HaveSameSteps rs ss
  flat : AreFlatTwins rs ss
  stays : StaysAtHome rs
  stay : StaysAtHome ss
  gapless : IsFreeOf rs TurnGap
  no_gaps : IsFreeOf ss TurnGap

same_runs_back : (rs ss : List Record) → AreSameRuns rs ss → AreSameRuns ss rs
same_runs_back rs ss same = record {
  steps = same_steps_back rs ss same.steps;
  flat = flat_twins_back rs ss same.flat;
  stays = same.stay;
  stay = same.stays;
  gapless = same.no_gaps;
  no_gaps = same.gapless;
}

-- in file order they show the same causes
same_cause : (rs ss : List Record) (i : ℕ) (cause : Cause) → AreSameRuns rs ss → HasCause rs i cause
    → HasCause ss i cause
same_cause rs ss i Moved same has = absurd (stays_unmoved rs rs i refl same.stays.still has)
same_cause rs ss i TurnGap same has = absurd (same.gapless i has)
same_cause rs ss i StatusOrder same has =
    twin_states rs ss i same.steps.there.twins (λ task. none_has_moved rs task same.stays)
    (λ task. none_has_moved ss task same.stay) has
same_cause rs ss i LengthBack same has = kept_behind rs ss i same.steps has
same_cause rs ss i NoOrder same has = kept_no_order rs ss i same.steps has
same_cause rs ss i SeqGap same has = twin_cause rs ss i SeqGap tt same.steps.there.twins has
same_cause rs ss i CreatedTwice same has = twin_cause rs ss i CreatedTwice tt same.steps.there.twins has
same_cause rs ss i Rootless same has = twin_cause rs ss i Rootless tt same.steps.there.twins has
same_cause rs ss i NotCurrent same has = flat_cause rs ss i NotCurrent tt same.flat has
same_cause rs ss i RegionOrder same has = twin_cause rs ss i RegionOrder tt same.steps.there.twins has
same_cause rs ss i TeamShort same has = twin_cause rs ss i TeamShort tt same.steps.there.twins has
same_cause rs ss i NestedParallel same has = flat_cause rs ss i NestedParallel tt same.flat has
same_cause rs ss i RegionNesting same has = flat_cause rs ss i RegionNesting tt same.flat has
same_cause rs ss i DepsPlace same has = twin_cause rs ss i DepsPlace tt same.steps.there.twins has
same_cause rs ss i ShareWrong same has = twin_cause rs ss i ShareWrong tt same.steps.there.twins has
same_cause rs ss i EntryTwice same has = twin_cause rs ss i EntryTwice tt same.steps.there.twins has
same_cause rs ss i LengthAhead same has = twin_cause rs ss i LengthAhead tt same.steps.there.twins has
same_cause rs ss i TargetTask same has = flat_cause rs ss i TargetTask tt same.flat has

starts_same : (rs ss : List Record) (i task : ℕ) → HaveSameSteps rs ss → StartsExplicit rs i task
    → StartsExplicit ss i task
starts_same rs ss i task same (explicit, start) =
    (kept_explicit rs ss task same.there.twins explicit, same.there.starts i task explicit start)

-- so they read alike
same_runs_alike : (rs ss : List Record) → AreSameRuns rs ss → AreAlike (by_file rs) (by_file ss)
same_runs_alike rs ss same =
    let twins : AreTwins rs ss = same.steps.there.twins in
    let back : AreTwins ss rs = twins_back rs ss twins in
    let other : HaveSameSteps ss rs = same_steps_back rs ss same.steps in
    record {
      long = twins_long rs ss twins;
      shows =
          λ i cause. (same_cause rs ss i cause same, same_cause ss rs i cause (same_runs_back rs ss same));
      covers = λ i task. renamed_covers (twin_renaming rs ss twins) i task;
      depends = λ task predecessor. renamed_predecessor (twin_renaming rs ss twins) task predecessor;
      creates =
          λ i task. (
            twin_says created blind_created task rs ss i twins,
            twin_says created blind_created task ss rs i back,
          );
      starts = λ i task. (starts_same rs ss i task same.steps, starts_same ss rs i task other);
      completes =
          λ i task. (
            twin_says wait_completed blind_wait_completed task rs ss i twins,
            twin_says wait_completed blind_wait_completed task ss rs i back,
          );
      ordered = λ order. (kept_order rs ss order same.steps, kept_order ss rs order other);
      greedy = λ order. (kept_greedy rs ss order same.steps, kept_greedy ss rs order other);
      earliest = λ i order. (kept_earliest rs ss i order same.steps, kept_earliest ss rs i order other);
      complete_at =
          λ task i.
          (kept_complete_at rs ss task i same.steps.there, kept_complete_at ss rs task i same.steps.back);
      complete_in =
          λ order task i. (
            kept_complete_in rs ss order task i same.steps.there,
            kept_complete_in ss rs order task i same.steps.back,
          );
    }

-- ---- an upgrade

-- the trace and what it is in version 2
pub record IsUpgradeOfFirst (rs ss : List Record) : Type 0 where
  pub trace : IsTraceOf 1 rs
  pub still : MovesNowhere rs
  pub upgrade : IsUpgrade rs ss

first_twins : (rs ss : List Record) → IsUpgradeOfFirst rs ss → AreFlatTwins rs ss
first_twins rs ss known =
    upgrade_flat rs ss known.upgrade
    (λ i r stands. all_get (λ (q : Record). q.nests ≡ false) rs i r known.trace.nesting stands)

-- a cause with a number below 5 is shown in file order, and of what records say beside turns
low_shown : (rs ss : List Record) (i : ℕ) (cause : Cause) → AreFlatTwins rs ss → cause_number cause < 5
    → Shows rs i cause → Shows ss i cause
low_shown rs ss i SeqGap twins low has = twin_cause rs ss i SeqGap tt twins.twins has
low_shown rs ss i CreatedTwice twins low has = twin_cause rs ss i CreatedTwice tt twins.twins has
low_shown rs ss i Rootless twins low has = twin_cause rs ss i Rootless tt twins.twins has
low_shown rs ss i NotCurrent twins low has = flat_cause rs ss i NotCurrent tt twins has
low_shown rs ss i _ twins low has = absurd (omega (arith, low))

low_least : (rs ss : List Record) (i : ℕ) (cause : Cause) → AreFlatTwins rs ss → cause_number cause < 5
    → IsLeastShown (by_task rs) i cause → IsLeastShown (by_task ss) i cause
low_least rs ss i cause twins low is =
    let back : AreFlatTwins ss rs = flat_twins_back rs ss twins in
    record {
      within = let inside = is.within in let long = twins_long rs ss twins.twins in omega arith;
      shown = low_shown rs ss i cause twins low is.shown;
      first = λ k below shown. is.first k below (low_shown ss rs k cause back low shown);
      least =
          λ k other less shown.
          is.least k other less (low_shown ss rs k other back (omega (arith, less, low)) shown);
    }

-- no cause with a number below 5 occurs
abbrev IsClearBelow : List Record → Type 0
IsClearBelow rs = (i : ℕ) (cause : Cause) → cause_number cause < 5 → Shows rs i cause → ⊥

clear_twin : (rs ss : List Record) → AreFlatTwins rs ss → IsClearBelow rs → IsClearBelow ss
clear_twin rs ss twins clear i cause low shown =
    clear i cause low (low_shown ss rs i cause (flat_twins_back rs ss twins) low shown)

still_twin : (rs ss : List Record) → AreTwins rs ss → MovesNowhere rs → MovesNowhere ss
still_twin rs ss twins still i moves = still i (record {
  task = moves.task;
  next = twin_says started blind_started moves.task ss rs i (twins_back rs ss twins) moves.next;
  earlier = moves.earlier;
  before = moves.before;
  next_before =
      twin_says started blind_started moves.task ss rs moves.earlier (twins_back rs ss twins)
      moves.next_before;
  elsewhere =
      λ same.
      moves.elsewhere (sym (twin_thread rs ss moves.earlier twins) ∙ same ∙ twin_thread rs ss i twins);
})

clear_stays : (rs : List Record) → MovesNowhere rs → IsClearBelow rs → StaysAtHome rs
clear_stays rs still clear = record {
  current = λ i has. clear i NotCurrent (omega arith) has;
  once = λ i has. clear i CreatedTwice (omega arith) has;
  still = still;
}

no_gap : (rs ss : List Record) (i : ℕ) → TellsNoTurns rs → IsUpgrade rs ss → HasCause ss i TurnGap → ⊥
no_gap rs ss i untold upgrade (turn_gap is) = upgrade_gapless rs ss i untold upgrade is

clear_runs : (rs ss : List Record) → IsUpgradeOfFirst rs ss → IsClearBelow rs
    → IsStillUpgrade rs ss × AreSameRuns rs ss
clear_runs rs ss known clear =
    let twins = first_twins rs ss known in
    let untold : TellsNoTurns rs = first_version_tells_none rs known.trace in
    let stays : StaysAtHome rs = clear_stays rs known.still clear in
    let still : IsStillUpgrade rs ss = record {
      trace = known.trace;
      untold = untold;
      upgrade = known.upgrade;
      stays = stays;
    } in (
      still,
      record {
        steps = upgrade_steps rs ss still;
        flat = twins;
        stays = stays;
        stay = clear_stays ss (still_twin rs ss twins.twins known.still) (clear_twin rs ss twins clear);
        gapless = free_of_gaps rs untold;
        no_gaps = λ i has. no_gap rs ss i untold known.upgrade has;
      },
    )

-- both read alike, each task's records in its own order
record ReadAlike (rs ss : List Record) : Type 0 where
  file : AreAlike (by_file rs) (by_file ss)
  old : AreAlike (by_task rs) (by_file rs)
  new : AreAlike (by_task ss) (by_file ss)

clear_alike : (rs ss : List Record) → IsUpgradeOfFirst rs ss → IsClearBelow rs → ReadAlike rs ss
clear_alike rs ss known clear =
    let both = clear_runs rs ss known clear in
    record {
      file = same_runs_alike rs ss both.1;
      old = first_version_alike rs known.trace;
      new = rising_alike ss (upgrade_rises rs ss both.0);
    }

there_verdict : (rs ss : List Record) (verdict : Verdict) → ReadAlike rs ss → IsVerdict rs verdict
    → IsVerdict ss verdict
there_verdict rs ss verdict alike is =
    alike_verdict (by_file ss) (by_task ss) verdict (alike_back (by_task ss) (by_file ss) alike.new)
    (alike_verdict (by_file rs) (by_file ss) verdict alike.file
    (alike_verdict (by_task rs) (by_file rs) verdict alike.old is))

back_verdict : (rs ss : List Record) (verdict : Verdict) → ReadAlike rs ss → IsVerdict ss verdict
    → IsVerdict rs verdict
back_verdict rs ss verdict alike is =
    alike_verdict (by_file rs) (by_task rs) verdict (alike_back (by_task rs) (by_file rs) alike.old)
    (alike_verdict (by_file ss) (by_file rs) verdict (alike_back (by_file rs) (by_file ss) alike.file)
    (alike_verdict (by_task ss) (by_file ss) verdict alike.new is))

-- a verdict that names none of the first four causes says that none occurs
none_below : (rs : List Record) → ShowsNone (by_task rs) → IsClearBelow rs
none_below rs none i cause low shown = none i cause shown

least_below : (rs : List Record) (i : ℕ) (cause : Cause) → 5 ≤ cause_number cause
    → IsLeastShown (by_task rs) i cause → IsClearBelow rs
least_below rs i cause high is k other low shown = is.least k other (omega (arith, low, high)) shown

pub kept_verdict : (rs ss : List Record) (verdict : Verdict) → IsUpgradeOfFirst rs ss → IsVerdict rs verdict
    → IsVerdict ss verdict
kept_verdict rs ss (Yes order) known is =
    there_verdict rs ss (Yes order) (clear_alike rs ss known (none_below rs is.well_formed)) is
kept_verdict rs ss (No i why) known is =
    there_verdict rs ss (No i why) (clear_alike rs ss known (none_below rs is.well_formed)) is
kept_verdict rs ss (Malformed i cause) known is = elim (cases_lt (cause_number cause) 5) [
  | inl low ↦ low_least rs ss i cause (first_twins rs ss known) low is
  | inr high ↦
      there_verdict rs ss (Malformed i cause) (clear_alike rs ss known (least_below rs i cause high is)) is
]

-- the other way round: what the upgraded trace does not show the old one does not
clear_back : (rs ss : List Record) → IsUpgradeOfFirst rs ss → IsClearBelow ss → IsClearBelow rs
clear_back rs ss known clear = clear_twin ss rs (flat_twins_back rs ss (first_twins rs ss known)) clear

pub given_verdict : (rs ss : List Record) (verdict : Verdict) → IsUpgradeOfFirst rs ss → IsVerdict ss verdict
    → IsVerdict rs verdict
given_verdict rs ss (Yes order) known is =
    back_verdict rs ss (Yes order)
    (clear_alike rs ss known (clear_back rs ss known (none_below ss is.well_formed))) is
given_verdict rs ss (No i why) known is =
    back_verdict rs ss (No i why)
    (clear_alike rs ss known (clear_back rs ss known (none_below ss is.well_formed))) is
given_verdict rs ss (Malformed i cause) known is = elim (cases_lt (cause_number cause) 5) [
  | inl low ↦ low_least ss rs i cause (flat_twins_back rs ss (first_twins rs ss known)) low is
  | inr high ↦
      back_verdict rs ss (Malformed i cause)
      (clear_alike rs ss known (clear_back rs ss known (least_below ss i cause high is))) is
]

-- ---- counter orders

there_counter : (rs ss : List Record) (i task : ℕ) (found : Option (List ℕ)) → ReadAlike rs ss
    → IsCounterBy (by_task rs) i task found → IsCounterBy (by_task ss) i task found
there_counter rs ss i task found alike is =
    alike_counter (by_file ss) (by_task ss) i task found (alike_back (by_task ss) (by_file ss) alike.new)
    (alike_counter (by_file rs) (by_file ss) i task found alike.file
    (alike_counter (by_task rs) (by_file rs) i task found alike.old is))

back_counter : (rs ss : List Record) (i task : ℕ) (found : Option (List ℕ)) → ReadAlike rs ss
    → IsCounterBy (by_task ss) i task found → IsCounterBy (by_task rs) i task found
back_counter rs ss i task found alike is =
    alike_counter (by_file rs) (by_task rs) i task found (alike_back (by_task rs) (by_file rs) alike.old)
    (alike_counter (by_file ss) (by_file rs) i task found (alike_back (by_file rs) (by_file ss) alike.file)
    (alike_counter (by_task ss) (by_file ss) i task found alike.new is))

pub kept_counter : (rs ss : List Record) (i task : ℕ) (found : Option (List ℕ)) → IsUpgradeOfFirst rs ss
    → IsCounterBy (by_task rs) i task found → IsCounterBy (by_task ss) i task found
kept_counter rs ss i task (Some order) known is =
    there_counter rs ss i task (Some order) (clear_alike rs ss known (none_below rs is.well_formed)) is
kept_counter rs ss i task None known none = λ free missed.
    let alike = clear_alike rs ss known (clear_back rs ss known (none_below ss free)) in
    there_counter rs ss i task None alike none free missed

pub given_counter : (rs ss : List Record) (i task : ℕ) (found : Option (List ℕ)) → IsUpgradeOfFirst rs ss
    → IsCounterBy (by_task ss) i task found → IsCounterBy (by_task rs) i task found
given_counter rs ss i task (Some order) known is =
    back_counter rs ss i task (Some order)
    (clear_alike rs ss known (clear_back rs ss known (none_below ss is.well_formed))) is
given_counter rs ss i task None known none = λ free missed.
    let alike = clear_alike rs ss known (none_below rs free) in
    back_counter rs ss i task None alike none free missed
