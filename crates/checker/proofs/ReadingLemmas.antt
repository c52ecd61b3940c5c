-- Two readings of the same records that say the same have the same verdicts; where no task's turns fall along
-- the file, each task's own order and the order of the file are such readings.
use Rattle.std.proofs.Common.{◌≡◌, ℕ, ◌<◌, List, length, Option, Some, None, refl, sym, subst, arith, inl}
use Rattle.std.proofs.Common.{inr}
use Rattle.std.specs.Prelude.{◌↔◌, Bool, IsTrue, option_and_then, slice_get}
use Rattle.ompt_events.specs.declared.records.Record.{Record}
use Rattle.ompt_events.specs.declared.cause.Cause.{Cause}
use Rattle.ompt_events.specs.CauseNames.{all_causes}
use Rattle.ompt_events.specs.declared.names.SyncKind.{SyncKind}
use Rattle.ompt_events.specs.declared.names.Endpoint.{Endpoint}
use Rattle.ompt_events.specs.Records.{created, finish, region, wait_completed}
use Rattle.ompt_events.specs.Places.{at}
use Rattle.ompt_events.specs.Traces.{IsTraceOf}
use Rattle.ompt_events.specs.Turns.{in_own_order, own_place}
use Rattle.ompt_events.specs.Tree.{IsExplicit}
use Rattle.ompt_events.specs.HappensBefore.{IsStart}
use Rattle.ompt_events.specs.Linearization.{IsLinearization, IsGreedy}
use Rattle.ompt_events.specs.Completion.{IsCompleteIn, IsCompleteAt}
use Rattle.ompt_events.specs.Violations as violations
use Rattle.ompt_events.specs.declared.cause.Cause.TheVariants.{CreatedTwice, TurnGap, StatusOrder, ShareWrong}
use Rattle.ompt_events.specs.declared.cause.Cause.TheVariants.{EntryTwice, LengthAhead}
use Rattle.ompt_events.specs.Causes.{IsFreeOf, ShowsNowhere, IsShownMalformed, share_wrong}
use Rattle.ompt_events.proofs.PlaceLemmas.{at_within}
use Rattle.ompt_events.proofs.TurnLemmas.{first_version_tells_none}
use Rattle.ompt_events.proofs.ListLemmas.{iff_flipped}
use Rattle.task_tree.specs.Rising.{TurnsRise}
use Rattle.task_tree.proofs.OwnOrderLemmas.{own_place_iff, arranged_get, arranged_length}
use Rattle.task_tree.proofs.RenamingLemmas.{renamed_covers, renamed_predecessor}
use Rattle.task_tree.proofs.RisingLemmas.{own_renaming, untold_rise}
use Rattle.task_tree.proofs.SayingLemmas.{shows_has}
use Rattle.checker.specs.declared.verdict.Verdict.{Verdict}
use Rattle.checker.specs.declared.verdict.Verdict.TheVariants.{Yes, No, Malformed}
use Rattle.checker.specs.declared.verdict.Why.{Why}
use Rattle.checker.specs.declared.verdict.Why.TheVariants.{Unfinished, Predecessor}
use Rattle.checker.specs.Readings.{Reading, by_task, by_file, IsPrecededBy, IsRequiredBy}
use Rattle.checker.specs.Verdicts.{ShowsNone, IsLeastShown, IsCoveredUnfinishedBy, IsUnfinished, IsMissed}
use Rattle.checker.specs.Verdicts.{IsFirstSo}
use Rattle.checker.specs.Verdicts.{IsApproved, IsRejected, IsReason, IsVerdictBy, task_of}
use Rattle.checker.specs.Counter.{IsEarliestOrder, IsCounterOrderBy, IsCounterBy}
use Rattle.checker.specs.Search.{IsClear, SoundView, IsSoundView, ClearView, IsClearView, IsKnownOf}
use Rattle.checker.specs.Search.{IsOfRecords}
use Rattle.task_tree.specs.Own.{OwnView, IsOwn, of_claims}
use Rattle.task_tree.specs.Families.{IsOwnOf}
use Rattle.task_tree.proofs.OwnRunLemmas.{place_of_number}
use Rattle.task_tree.proofs.ShownLemmas.{shown_there}
use Rattle.credit_ledger.specs.TraceEntries.{HasRightEntries}
use Rattle.credit_ledger.proofs.RightEntryLemmas.{own_entries}
use Rattle.teams.specs.Teams.{own_of}
use Rattle.wait_coverage.specs.Done.{AreDone}
use Rattle.wait_coverage.specs.Known.{KnownView, AreCreditLengths}
use Rattle.wait_coverage.specs.Waits.{IsCoveredUnfinished}
use Rattle.wait_coverage.proofs.ShownLemmas.{own_open}
use Rattle.checker.proofs.VerdictLemmas.{cover_ends, preceded_starts, at_cases, listed}

-- ---- readings that say the same

-- an explicit task starts there
abbrev pub StartsExplicit : List Record → ℕ → ℕ → Type 0
StartsExplicit rs i task = IsExplicit rs task × IsStart rs i task

-- what the one reading says the other says too, and of records that have the same orders, creations, starts
-- and completions
pub record AreAlike (a b : Reading) : Type 0 where
  pub long : length a.records ≡ length b.records
  pub shows : (i : ℕ) (cause : Cause) → a.shows i cause ↔ b.shows i cause
  pub covers : (i task : ℕ) → a.covers i task ↔ b.covers i task
  pub depends : (task other : ℕ) → a.depends task other ↔ b.depends task other
  pub creates : (i task : ℕ) → (at created a.records i ≡ Some task) ↔ (at created b.records i ≡ Some task)
  pub starts : (i task : ℕ) → StartsExplicit a.records i task ↔ StartsExplicit b.records i task
  pub completes : (i task : ℕ)
      → (at wait_completed a.records i ≡ Some task) ↔ (at wait_completed b.records i ≡ Some task)
  pub ordered : (order : List ℕ) → IsLinearization a.records order ↔ IsLinearization b.records order
  pub greedy : (order : List ℕ) → IsGreedy a.records order ↔ IsGreedy b.records order
  pub earliest : (i : ℕ) (order : List ℕ)
      → IsEarliestOrder a.records i order ↔ IsEarliestOrder b.records i order
  pub complete_at : (task i : ℕ) → IsCompleteAt a.records task i ↔ IsCompleteAt b.records task i
  pub complete_in : (order : List ℕ) (task i : ℕ)
      → IsCompleteIn a.records order task i ↔ IsCompleteIn b.records order task i

same : {A : Type 0} → A ↔ A
same = (λ x. x, λ x. x)

-- the other way round
pub alike_back : (a b : Reading) → AreAlike a b → AreAlike b a
alike_back a b alike = record {
  long = sym alike.long;
  shows = λ i cause. iff_flipped (alike.shows i cause);
  covers = λ i task. iff_flipped (alike.covers i task);
  depends = λ task other. iff_flipped (alike.depends task other);
  creates = λ i task. iff_flipped (alike.creates i task);
  starts = λ i task. iff_flipped (alike.starts i task);
  completes = λ i task. iff_flipped (alike.completes i task);
  ordered = λ order. iff_flipped (alike.ordered order);
  greedy = λ order. iff_flipped (alike.greedy order);
  earliest = λ i order. iff_flipped (alike.earliest i order);
  complete_at = λ task i. iff_flipped (alike.complete_at task i);
  complete_in = λ order task i. iff_flipped (alike.complete_in order task i);
}

alike_preceded : (a b : Reading) (i task : ℕ) → AreAlike a b → IsPrecededBy a i task → IsPrecededBy b i task
alike_preceded a b i task alike (inl (dependent, explicit, start, after)) =
    let there : StartsExplicit b.records i dependent = (alike.starts i dependent).0 (explicit, start) in
    inl (dependent, there.0, there.1, (alike.depends dependent task).0 after)
alike_preceded a b i task alike (inr (dependent, completes, after)) =
    inr (dependent, (alike.completes i dependent).0 completes, (alike.depends dependent task).0 after)

alike_required : (a b : Reading) (i task : ℕ) → AreAlike a b → IsRequiredBy a i task → IsRequiredBy b i task
alike_required a b i task alike (inl covers) = inl ((alike.covers i task).0 covers)
alike_required a b i task alike (inr preceded) = inr (alike_preceded a b i task alike preceded)

alike_none : (a b : Reading) → AreAlike a b → ShowsNone a → ShowsNone b
alike_none a b alike free i cause shown = free i cause ((alike.shows i cause).1 shown)

alike_least : (a b : Reading) (i : ℕ) (cause : Cause) → AreAlike a b → IsLeastShown a i cause
    → IsLeastShown b i cause
alike_least a b i cause alike is = record {
  within = let inside = is.within in let long = alike.long in omega arith;
  shown = (alike.shows i cause).0 is.shown;
  first = λ k below shown. is.first k below ((alike.shows k cause).1 shown);
  least = λ k other less shown. is.least k other less ((alike.shows k other).1 shown);
}

alike_unfinished : (a b : Reading) (i task : ℕ) → AreAlike a b → IsUnfinished a i task → IsUnfinished b i task
alike_unfinished a b i task alike is = record {
  required = alike_required a b i task alike is.required;
  incomplete = λ complete. is.incomplete ((alike.complete_at task i).1 complete);
}

alike_missed : (a b : Reading) (i task : ℕ) → AreAlike a b → IsMissed a i task → IsMissed b i task
alike_missed a b i task alike is = record {
  required = alike_required a b i task alike is.required;
  order = is.order;
  linearization = (alike.ordered is.order).0 is.linearization;
  incomplete = λ complete. is.incomplete ((alike.complete_in is.order task i).1 complete);
}

-- the first of which one thing is so is the first of which another is, where both are so of the same
first_so : (a b : Reading) (is_so is_too : ℕ → ℕ → Type 0) (i task : ℕ) → AreAlike a b
    → ((k other : ℕ) → is_so k other ↔ is_too k other) → IsFirstSo a.records is_so i task
    → IsFirstSo b.records is_too i task
first_so a b is_so is_too i task alike both is = record {
  so = (both i task).0 is.so;
  first = λ k other below so. is.first k other below ((both k other).1 so);
  creation = is.creation;
  is_created = (alike.creates is.creation task).0 is.is_created;
  created_first =
      λ k other below creates so.
      is.created_first k other below ((alike.creates k other).1 creates) ((both i other).1 so);
}

alike_reason : (a b : Reading) (i : ℕ) (why : Why) → AreAlike a b → IsReason a i why → IsReason b i why
alike_reason a b i (Unfinished task) alike reason = (alike.covers i task).0 reason
alike_reason a b i (Predecessor task) alike reason = alike_preceded a b i task alike reason

pub alike_yes : (a b : Reading) (order : List ℕ) → AreAlike a b → IsApproved a order → IsApproved b order
alike_yes a b order alike is = record {
  well_formed = alike_none a b alike is.well_formed;
  linearization = (alike.ordered order).0 is.linearization;
  greedy = (alike.greedy order).0 is.greedy;
  finished =
      λ i task unfinished. is.finished i task (alike_unfinished b a i task (alike_back a b alike) unfinished);
  always_complete = λ other linear i task required.
      (alike.complete_in other task i).0
      (is.always_complete other ((alike.ordered other).1 linear) i task
      (alike_required b a i task (alike_back a b alike) required));
}

pub alike_no : (a b : Reading) (i : ℕ) (why : Why) → AreAlike a b → IsRejected a i why → IsRejected b i why
alike_no a b i why alike is =
    let back = alike_back a b alike in
    record {
      well_formed = alike_none a b alike is.well_formed;
      unfinished =
          first_so a b (IsUnfinished a) (IsUnfinished b) i (task_of why) alike
          (λ k other. (alike_unfinished a b k other alike, alike_unfinished b a k other back))
          is.unfinished;
      missed =
          first_so a b (IsMissed a) (IsMissed b) i (task_of why) alike
          (λ k other. (alike_missed a b k other alike, alike_missed b a k other back)) is.missed;
      reason = alike_reason a b i why alike is.reason;
    }

-- they have the same verdicts
pub alike_verdict : (a b : Reading) (verdict : Verdict) → AreAlike a b → IsVerdictBy a verdict
    → IsVerdictBy b verdict
alike_verdict a b (Yes order) alike is = alike_yes a b order alike is
alike_verdict a b (No i why) alike is = alike_no a b i why alike is
alike_verdict a b (Malformed i cause) alike is = alike_least a b i cause alike is

pub alike_verdicts : (a b : Reading) (verdict : Verdict) → AreAlike a b
    → IsVerdictBy a verdict ↔ IsVerdictBy b verdict
alike_verdicts a b verdict alike =
    (alike_verdict a b verdict alike, alike_verdict b a verdict (alike_back a b alike))

alike_order : (a b : Reading) (i task : ℕ) (order : List ℕ) → AreAlike a b → IsCounterOrderBy a i task order
    → IsCounterOrderBy b i task order
alike_order a b i task order alike is = record {
  well_formed = alike_none a b alike is.well_formed;
  required = alike_required a b i task alike is.required;
  linearization = (alike.ordered order).0 is.linearization;
  incomplete = λ complete. is.incomplete ((alike.complete_in order task i).1 complete);
  earliest = (alike.earliest i order).0 is.earliest;
}

-- and the same counter orders
pub alike_counter : (a b : Reading) (i task : ℕ) (found : Option (List ℕ)) → AreAlike a b
    → IsCounterBy a i task found → IsCounterBy b i task found
alike_counter a b i task (Some order) alike is = alike_order a b i task order alike is
alike_counter a b i task None alike none = λ free missed.
    let back = alike_back a b alike in
    none (alike_none b a back free) (alike_missed b a i task back missed)

pub alike_counters : (a b : Reading) (i task : ℕ) (found : Option (List ℕ)) → AreAlike a b
    → IsCounterBy a i task found ↔ IsCounterBy b i task found
alike_counters a b i task found alike =
    (alike_counter a b i task found alike, alike_counter b a i task found (alike_back a b alike))

-- ---- the order of the file

-- where no task's turns fall the order of the file says what each task's own order says
pub rising_alike : (rs : List Record) → TurnsRise rs → AreAlike (by_task rs) (by_file rs)
rising_alike rs rise = record {
  long = refl;
  shows = shows_has rs rise;
  covers = λ i task. let c = renamed_covers (own_renaming rs rise) i task in (c.1, c.0);
  depends = λ task other. let p = renamed_predecessor (own_renaming rs rise) task other in (p.1, p.0);
  creates = λ i task. same;
  starts = λ i task. same;
  completes = λ i task. same;
  ordered = λ order. same;
  greedy = λ order. same;
  earliest = λ i order. same;
  complete_at = λ task i. same;
  complete_in = λ order task i. same;
}

pub first_version_alike : (rs : List Record) → IsTraceOf 1 rs → AreAlike (by_task rs) (by_file rs)
first_version_alike rs trace = rising_alike rs (untold_rise rs (first_version_tells_none rs trace))

-- ---- what is said by each task's own order is said of its records

own_region : (rs : List Record) (i : ℕ) (own : ℕ × SyncKind × Endpoint)
    → at region (in_own_order rs) (own_place rs i) ≡ Some own → (i < length rs) × (at region rs i ≡ Some own)
own_region rs i own says =
    let below = at_within region (in_own_order rs) (own_place rs i) own says in
    let within : i < length rs = (own_place_iff rs i).0 (rw (arranged_length rs) at below) in
    let P : Option Record → Type 0 = λ o. option_and_then (λ (r : Record). region r.body) o ≡ Some own in
    (within, subst P (arranged_get rs i within) says)

pub of_tasks : (rs : List Record) → IsOfRecords (by_task rs)
of_tasks rs = record {
  within =
      λ i task covers.
      let ends = cover_ends (in_own_order rs) (own_place rs i) task covers in
      (own_region rs i ends.0 ends.1).0;
  apart = λ i task other covers preceded.
      let ends = cover_ends (in_own_order rs) (own_place rs i) task covers in
      let starts = preceded_starts (by_task rs) i other preceded in
      at_cases rs i starts.0 ends.0 (own_region rs i ends.0 ends.1).1 starts.1;
}

-- and so is what is said by the order of the file
pub of_file : (rs : List Record) → IsOfRecords (by_file rs)
of_file rs = record {
  within = λ i task covers. let ends = cover_ends rs i task covers in at_within region rs i ends.0 ends.1;
  apart = λ i task other covers preceded.
      let ends = cover_ends rs i task covers in
      let starts = preceded_starts (by_file rs) i other preceded in
      at_cases rs i starts.0 ends.0 ends.1 starts.1;
}

-- ---- what is required, by the definitions of waits and dependences

pub task_required : (rs : List Record) (i task : ℕ)
    → IsRequiredBy (by_task rs) i task ↔ violations.MustBeComplete rs i task
task_required rs i task = (to, from)
  where
    to : IsRequiredBy (by_task rs) i task → violations.MustBeComplete rs i task
    to (inl covers) = violations.wait_ends covers
    to (inr (inl (dependent, explicit, start, after))) = violations.dependent_starts explicit start after
    to (inr (inr (dependent, completes, after))) = violations.taskwait_completes completes after

    from : violations.MustBeComplete rs i task → IsRequiredBy (by_task rs) i task
    from (violations.wait_ends covers) = inl covers
    from (violations.dependent_starts {dependent = dependent} explicit start after) =
        inr (inl (dependent, explicit, start, after))
    from (violations.taskwait_completes {dependent = dependent} completes after) =
        inr (inr (dependent, completes, after))

pub file_required : (rs : List Record) (i task : ℕ)
    → IsRequiredBy (by_file rs) i task ↔ violations.IsRequired rs i task
file_required rs i task = (to, from)
  where
    to : IsRequiredBy (by_file rs) i task → violations.IsRequired rs i task
    to (inl covers) = violations.covered covers
    to (inr (inl (dependent, explicit, start, after))) = violations.preceding explicit start after
    to (inr (inr (dependent, completes, after))) = violations.awaited completes after

    from : violations.IsRequired rs i task → IsRequiredBy (by_file rs) i task
    from (violations.covered covers) = inl covers
    from (violations.preceding {dependent = dependent} explicit start after) =
        inr (inl (dependent, explicit, start, after))
    from (violations.awaited {dependent = dependent} completes after) =
        inr (inr (dependent, completes, after))

-- ---- what the phases find

-- the least cause that the trace shows
pub least_shown : (rs : List Record) (i : ℕ) (cause : Cause) → IsShownMalformed rs all_causes i cause
    → IsLeastShown (by_task rs) i cause
least_shown rs i cause is = record {
  within = is.found.within;
  shown = is.found.shown;
  first = is.found.first;
  least = λ k other less shown. is.least other (listed other) less k shown;
}

pub shows_none : (rs : List Record) → IsClear rs all_causes → ShowsNone (by_task rs)
shows_none rs clear i cause shown = clear cause (listed cause) i shown

-- claims that the trace shows to be right are right in the tasks' own order
claims_right : (rs : List Record) (own : OwnView) → IsOwnOf rs own → IsOwn own → ShowsNowhere rs ShareWrong
    → IsFreeOf own.run.records ShareWrong
claims_right rs own of is_own none number (share_wrong (task, part, claimed, finishes, claims, wrong)) =
    let place =
    place_of_number rs own is_own.places number
    (at_within finish own.run.records number (task, part) finishes) in
    none place.0
    ((shown_there rs own ShareWrong of_claims of number place.0 place.1).1
    (share_wrong (task, part, claimed, finishes, claims, wrong)))

-- and the run in the tasks' own order has right entries where no cause occurs
pub clear_entries : (view : ClearView) → IsClearView view → HasRightEntries view.own.run.records
clear_entries view clear =
    let rs = view.run.records in
    let none = clear.well_formed in
    own_entries rs view.own clear.one.of_file
    (none CreatedTwice (1, omega arith, refl)) (none TurnGap (5, omega arith, refl))
    (none StatusOrder (6, omega arith, refl))
    (none EntryTwice (13, omega arith, refl)) (none LengthAhead (14, omega arith, refl))
    (claims_right rs view.own clear.one.of_file clear.one.is_own (none ShareWrong (12, omega arith, refl)))

-- what the phases give is a trace without a cause, and the least lengths at which its tasks' credit is held
pub clear_and_known : (view : SoundView) (order : List ℕ) (known : KnownView) → IsSoundView view
    → IsClear view.run.records all_causes → IsLinearization view.run.records order
    → IsGreedy view.run.records order → IsKnownOf view.own known
    → IsClearView (record { run = view.run; own = view.own; order = order })
    × (own_of known.done.teams ≡ view.own) × AreDone known.done × AreCreditLengths known.done
clear_and_known view order known sound clear linear greedy is =
    let whole : IsClearView (record { run = view.run; own = view.own; order = order }) = record {
      is_run = sound.sound.is_run;
      one = sound.one;
      well_formed = clear;
      linearization = linear;
      greedy = greedy;
    } in (
      whole,
      is.of_own,
      is.done,
      is.credit (clear_entries (record { run = view.run; own = view.own; order = order }) whole),
    )

-- ---- what the searches in the tasks' own order find

-- a task is open at a place exactly where it is at its number
unfinished_there : (rs : List Record) (own : OwnView) (number place task : ℕ) → IsOwnOf rs own → IsOwn own
    → slice_get own.places number ≡ Some place
    → IsCoveredUnfinished own.run.records number task ↔ IsCoveredUnfinishedBy (by_task rs) place task
unfinished_there rs own number place task of is_own stands =
    let shown = own_open rs own number place task of is_own stands in (
      λ is. let there = shown.0 is in (there.covered, there.incomplete),
      λ is. shown.1 (record { covered = is.0; incomplete = is.1 }),
    )

-- so a test by number tells it of the place
pub unfinished_reported : (view : ClearView) (number place task : ℕ) (told : Bool) → IsClearView view
    → slice_get view.own.places number ≡ Some place
    → IsTrue told ↔ IsCoveredUnfinished view.own.run.records number task
    → IsTrue told ↔ IsCoveredUnfinishedBy (by_task view.run.records) place task
unfinished_reported view number place task told clear stands tells =
    let there =
    unfinished_there view.run.records view.own number place task clear.one.of_file clear.one.is_own stands in
    (λ yes. there.0 (tells.0 yes), λ opened. tells.1 (there.1 opened))
