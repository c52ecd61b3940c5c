-- What is decided of one record, and the first of several.
use Rattle.std.proofs.Common.{◌≡◌, ℕ, ◌<◌, ◌≤◌, List, length, Some, sym, subst, arith, inl, inr}
use Rattle.std.proofs.lemmas.Bool.{cases_lt}
use Rattle.std.specs.Prelude.{slice_get}
use Rattle.ompt_events.specs.declared.records.Record.{Record}
use Rattle.task_tree.specs.Own.{OwnView, IsOwn}
use Rattle.task_tree.specs.Families.{IsOwnOf}
use Rattle.task_tree.proofs.ShownLemmas.{own_long}
use Rattle.teams.specs.Teams.{own_of}
use Rattle.credit_ledger.specs.TraceEntries.{HasRightEntries}
use Rattle.wait_coverage.specs.Done.{DoneView, records_of}
use Rattle.wait_coverage.specs.Known.{AreCreditLengths}
use Rattle.wait_coverage.specs.Shown.{IsCompleteShown, IsFirstUnfinishedShown}
use Rattle.wait_coverage.specs.Spans.{IsCoverComplete}
use Rattle.wait_coverage.specs.Waits.{IsFirstCoveredUnfinished}
use Rattle.wait_coverage.proofs.ShownLemmas.{unfinished_shown, all_shown}
use Rattle.checker.specs.declared.verdict.Why.{Why}
use Rattle.checker.specs.declared.verdict.Why.TheVariants.{Unfinished, Predecessor}
use Rattle.checker.specs.Readings.{Reading, by_task}
use Rattle.checker.specs.Verdicts.{AreComplete}
use Rattle.checker.specs.Search.{IsFirstViolation, ClearView, IsClearView}
use Rattle.checker.specs.Starts.{AreReady, IsFirstLateAt}
use Rattle.checker.specs.Deciding.{IsViolationAt}
use Rattle.checker.proofs.LateLemmas.{ready_past}
use Rattle.checker.proofs.ReadingLemmas.{of_tasks, clear_entries}
use Rattle.checker.proofs.VerdictLemmas.{covered_unfinished, late_unfinished, unfinished_cases}

-- a task that is unfinished at the end of a wait
pub violation_by_unfinished : (rs : List Record) (own : OwnView) (number place task : ℕ) → IsOwnOf rs own
    → IsOwn own → slice_get own.places number ≡ Some place → IsFirstCoveredUnfinished own number task
    → IsViolationAt (by_task rs) place (Unfinished task)
violation_by_unfinished rs own number place task of is stands first =
    let shown : IsFirstUnfinishedShown rs place task =
    unfinished_shown rs own number place (Some task) of is stands first in
    record {
      unfinished =
          covered_unfinished (by_task rs) place task
          (shown.unfinished_there.covered, shown.unfinished_there.incomplete);
      reason = shown.unfinished_there.covered;
      creation = shown.creation;
      is_created = shown.is_created;
      created_first =
          λ k other low creates unfinished. elim (unfinished_cases (by_task rs) place other unfinished) [
            | inl opened ↦
                shown.created_first k other low creates (record { covered = opened.0; incomplete = opened.1 })
            | inr late ↦ (of_tasks rs).apart place task other shown.unfinished_there.covered late.0
          ];
    }

-- a predecessor that is unfinished, where nothing that ends is open
pub violation_by_late : (rs : List Record) (place task : ℕ) → IsCompleteShown rs place
    → IsFirstLateAt rs place task → IsViolationAt (by_task rs) place (Predecessor task)
violation_by_late rs place task complete late = record {
  unfinished = late_unfinished (by_task rs) place task late.late;
  reason = late.late.0;
  creation = late.creation;
  is_created = late.is_created;
  created_first =
      λ k other low creates unfinished. elim (unfinished_cases (by_task rs) place other unfinished) [
        | inl opened ↦ opened.1 (complete other opened.0)
        | inr behind ↦ late.created_first k other low creates behind
      ];
}

pub complete_at : (rs : List Record) (place : ℕ) → IsCompleteShown rs place → AreReady rs place
    → AreComplete (by_task rs) place
complete_at rs place covered ready task (inl covers) = covered task covers
complete_at rs place covered ready task (inr preceded) = ready task preceded

-- ---- the same of a trace without a cause

-- a record's number is one of the run in the tasks' own order
pub number_within : (view : ClearView) (own : OwnView) (i : ℕ) → IsClearView view → own ≡ view.own
    → i < length view.run.records → i < length own.run.records
number_within view own i clear same within =
    let long = own_long view.run.records view.own clear.one.of_file in
    let P : OwnView → Type 0 = λ o. i < length o.run.records in
    subst P (sym same) (omega (arith, long, within))

-- what a search by the lengths finds at a place, where the credit is held from them on
abbrev FindsByLengths : DoneView → (OwnView → Type 0) → Type 0
FindsByLengths done IsThat =
    HasRightEntries (records_of done) → AreCreditLengths done → IsThat (own_of done.teams)

found_there : (view : ClearView) (done : DoneView) (IsThat : OwnView → Type 0) → IsClearView view
    → own_of done.teams ≡ view.own → AreCreditLengths done → FindsByLengths done IsThat → IsThat view.own
found_there view done IsThat clear same credit finds =
    let Right : OwnView → Type 0 = λ own. HasRightEntries own.run.records in
    subst IsThat same (finds (subst Right (sym same) (clear_entries view clear)) credit)

pub stands_there : (view : ClearView) (own : OwnView) (number place : ℕ) → own ≡ view.own
    → slice_get own.places number ≡ Some place → slice_get view.own.places number ≡ Some place
stands_there view own number place same stands =
    let P : OwnView → Type 0 = λ o. slice_get o.places number ≡ Some place in
    subst P same stands

pub unfinished_decided : (view : ClearView) (own : OwnView) (done : DoneView) (number place task : ℕ)
    → IsClearView view → own ≡ view.own → own_of done.teams ≡ view.own → AreCreditLengths done
    → slice_get own.places number ≡ Some place
    → FindsByLengths done (λ o. IsFirstCoveredUnfinished o number task)
    → IsViolationAt (by_task view.run.records) place (Unfinished task)
unfinished_decided view own done number place task clear same teams credit stands finds =
    violation_by_unfinished view.run.records view.own number place task clear.one.of_file clear.one.is_own
    (stands_there view own number place same stands)
    (found_there view done (λ o. IsFirstCoveredUnfinished o number task) clear teams credit finds)

pub covered_decided : (view : ClearView) (own : OwnView) (done : DoneView) (number place : ℕ)
    → IsClearView view → own ≡ view.own → own_of done.teams ≡ view.own → AreCreditLengths done
    → slice_get own.places number ≡ Some place
    → FindsByLengths done (λ o. IsCoverComplete o.run.records number)
    → IsCompleteShown view.run.records place
covered_decided view own done number place clear same teams credit stands finds =
    all_shown view.run.records view.own number place clear.one.of_file clear.one.is_own
    (stands_there view own number place same stands)
    (found_there view done (λ o. IsCoverComplete o.run.records number) clear teams credit finds)

-- ---- the first violation

pub first_violation : (reading : Reading) (i : ℕ) (why : Why) → IsViolationAt reading i why
    → ((k : ℕ) → k < i → AreComplete reading k) → IsFirstViolation reading i why
first_violation reading i why violation before = record {
  unfinished = record {
    so = violation.unfinished;
    first = λ k other below unfinished. unfinished.incomplete (before k below other unfinished.required);
    creation = violation.creation;
    is_created = violation.is_created;
    created_first = violation.created_first;
  };
  reason = violation.reason;
}

pub complete_past : (rs : List Record) (i : ℕ) → length rs ≤ i → AreComplete (by_task rs) i
complete_past rs i past task (inl covers) =
    absurd (let inside = (of_tasks rs).within i task covers in omega (arith, inside, past))
complete_past rs i past task (inr preceded) = ready_past rs i past task preceded

-- past the last record nothing has to be complete
pub complete_whole : (rs : List Record) (n i : ℕ) → ((k : ℕ) → k < n → AreComplete (by_task rs) k)
    → length rs ≤ n → AreComplete (by_task rs) i
complete_whole rs n i below past = elim (cases_lt i n) [
  | inl less ↦ below i less
  | inr more ↦ complete_past rs i (omega (arith, more, past))
]
