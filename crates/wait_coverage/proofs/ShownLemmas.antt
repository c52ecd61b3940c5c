-- What is unfinished in the tasks' own order is what the trace shows to be unfinished.
use Rattle.std.proofs.Common.{◌≡◌, ◌∙◌, ℕ, ◌<◌, List, Option, Some, None, sym, ap, subst, inl, inr}
use Rattle.std.specs.Prelude.{◌↔◌, MatchOption, slice_get}
use Rattle.std.specs.Option.{option_map_or}
use Rattle.ompt_events.specs.declared.records.Record.{Record}
use Rattle.ompt_events.specs.declared.records.Part.{Part}
use Rattle.ompt_events.specs.declared.records.Part.TheVariants.{Whole, Body, Event}
use Rattle.ompt_events.specs.Records.{finish, created, region}
use Rattle.ompt_events.specs.Places.{seen_at}
use Rattle.ompt_events.specs.Coverage.{Covers}
use Rattle.ompt_events.specs.Completion.{IsCompleteAt, IsPartFinished}
use Rattle.ompt_events.proofs.PlaceLemmas.{at_within}
use Rattle.task_tree.specs.Own.{OwnView, IsOwn}
use Rattle.task_tree.specs.Families.{IsOwnOf}
use Rattle.task_tree.proofs.ShownLemmas.{own_record}
use Rattle.task_tree.proofs.OwnRunLemmas.{own_says, own_covers, place_of_number, number_of_place}
use Rattle.teams.proofs.RegionEndLemmas.{EndsAt, ends_at}
use Rattle.credit_ledger.specs.TraceEntries.{IsDone}
use Rattle.wait_coverage.specs.Spans.{IsCoverComplete}
use Rattle.wait_coverage.specs.Waits.{IsCoveredUnfinished, IsFirstCoveredUnfinished}
use Rattle.wait_coverage.specs.Shown.{IsUnfinishedShown, IsCompleteShown, IsFirstUnfinishedShown}
use Rattle.wait_coverage.proofs.CoverLemmas.{done_there, complete_there}
use Rattle.wait_coverage.proofs.UnfinishedLemmas.{EndsWaitAt, covers_at}

-- ---- finished tasks

pub own_seen : (rs : List Record) (own : OwnView) → IsOwnOf rs own → (number place : ℕ)
    → slice_get own.places number ≡ Some place → seen_at own.run.records number ≡ seen_at rs place
own_seen rs own of number place stands =
    ap (λ (o : Option Record). option_map_or (λ (r : Record). r.seen) o 0)
    (own_record rs own of number place stands)

part_in_file : (rs : List Record) (own : OwnView) (n task : ℕ) (part : Part) → IsOwnOf rs own → IsOwn own
    → IsPartFinished own.run.records (λ k. seen_at own.run.records k < n) task part
    → IsPartFinished rs (λ k. seen_at rs k < n) task part
part_in_file rs own n task part of is (k, says, seen) =
    let there = place_of_number rs own is.places k (at_within finish own.run.records k (task, part) says) in
    let P : ℕ → Type 0 = λ s. s < n in (
      there.0,
      sym (own_says finish rs own of k there.0 there.1) ∙ says,
      subst P (own_seen rs own of k there.0 there.1) seen,
    )

part_in_own : (rs : List Record) (own : OwnView) (n task : ℕ) (part : Part) → IsOwnOf rs own → IsOwn own
    → IsPartFinished rs (λ k. seen_at rs k < n) task part
    → IsPartFinished own.run.records (λ k. seen_at own.run.records k < n) task part
part_in_own rs own n task part of is (place, says, seen) =
    let there = number_of_place rs own of is.places place (at_within finish rs place (task, part) says) in
    let P : ℕ → Type 0 = λ s. s < n in (
      there.0,
      own_says finish rs own of there.0 place there.1 ∙ says,
      subst P (sym (own_seen rs own of there.0 place there.1)) seen,
    )

-- the entries below a length finish the same tasks
pub own_done : (rs : List Record) (own : OwnView) (n task : ℕ) → IsOwnOf rs own → IsOwn own
    → IsDone own.run.records n task ↔ IsDone rs n task
own_done rs own n task of is = (there, back)
  where
    there : IsDone own.run.records n task → IsDone rs n task
    there (inl whole) = inl (part_in_file rs own n task Whole of is whole)
    there (inr both) =
        inr (part_in_file rs own n task Body of is both.0, part_in_file rs own n task Event of is both.1)

    back : IsDone rs n task → IsDone own.run.records n task
    back (inl whole) = inl (part_in_own rs own n task Whole of is whole)
    back (inr both) =
        inr (part_in_own rs own n task Body of is both.0, part_in_own rs own n task Event of is both.1)

-- at the end of a region the same tasks are complete
pub own_complete : (rs : List Record) (own : OwnView) (number place task covered : ℕ) → IsOwnOf rs own
    → IsOwn own → slice_get own.places number ≡ Some place → Covers own.run.records number covered
    → IsCompleteAt own.run.records task number ↔ IsCompleteAt rs task place
own_complete rs own number place task covered of is stands covers = (
  λ complete.
      let done =
      (own_done rs own (seen_at own.run.records number) task of is).0
      (done_there own.run.records number ends.task task ends.kind at_end.endpoint at_end.says
      complete) in
      let P : ℕ → Type 0 = λ n. IsDone rs n task in
      complete_there rs place task (subst P (own_seen rs own of number place stands) done),
  λ complete.
      let done =
      done_there rs place ends.task task ends.kind at_end.endpoint
      (sym (own_says region rs own of number place stands) ∙ at_end.says) complete in
      let P : ℕ → Type 0 = λ n. IsDone rs n task in
      complete_there own.run.records number task
      ((own_done rs own (seen_at own.run.records number) task of is).1
      (subst P (sym (own_seen rs own of number place stands)) done)),
)
  where
    ends : EndsWaitAt own.run.records number
    ends = covers_at own.run.records number covered covers

    at_end : EndsAt own.run.records number ends.task ends.begin ends.kind
    at_end = ends_at own.run.records number ends.task ends.begin ends.kind ends.is_region

-- ---- open ends

-- an end at a place is open there where its record is in the tasks' own order
pub own_open : (rs : List Record) (own : OwnView) (number place task : ℕ) → IsOwnOf rs own → IsOwn own
    → slice_get own.places number ≡ Some place
    → IsCoveredUnfinished own.run.records number task ↔ IsUnfinishedShown rs place task
own_open rs own number place task of is stands = (
  λ opened. record {
    covered = (own_covers rs own of number place stands task).0 opened.covered;
    incomplete =
        λ complete.
        opened.incomplete
        ((own_complete rs own number place task task of is stands opened.covered).1 complete);
  },
  λ opened.
      let covered = (own_covers rs own of number place stands task).1 opened.covered in
      record {
        covered = covered;
        incomplete =
            λ complete.
            opened.incomplete
            ((own_complete rs own number place task task of is stands covered).0 complete);
      },
)

pub all_shown : (rs : List Record) (own : OwnView) (number place : ℕ) → IsOwnOf rs own → IsOwn own
    → slice_get own.places number ≡ Some place → IsCoverComplete own.run.records number
    → IsCompleteShown rs place
all_shown rs own number place of is stands all task covers =
    let covered = (own_covers rs own of number place stands task).1 covers in
    (own_complete rs own number place task task of is stands covered).0 (all task covered)

first_shown : (rs : List Record) (own : OwnView) (number place task : ℕ) → IsOwnOf rs own → IsOwn own
    → slice_get own.places number ≡ Some place → IsFirstCoveredUnfinished own number task
    → IsFirstUnfinishedShown rs place task
first_shown rs own number place task of is stands first = record {
  unfinished_there = (own_open rs own number place task of is stands).0 first.unfinished;
  creation = first.creation;
  is_created =
      let made = first.is_created in sym (own_says created rs own of made.0 first.creation made.1) ∙ made.2;
  created_first = λ k other less makes opened.
      let there = number_of_place rs own of is.places k (at_within created rs k other makes) in
      first.created_first k other less
      (there.0, there.1, own_says created rs own of there.0 k there.1 ∙ makes)
      ((own_open rs own number place other of is stands).1 opened);
}

-- so what a search in the tasks' own order finds is what the trace shows
pub unfinished_shown : (rs : List Record) (own : OwnView) (number place : ℕ) (found : Option ℕ)
    → IsOwnOf rs own
    → IsOwn own → slice_get own.places number ≡ Some place
    → MatchOption found (IsCoverComplete own.run.records number) (IsFirstCoveredUnfinished own number)
    → MatchOption found (IsCompleteShown rs place) (IsFirstUnfinishedShown rs place)
unfinished_shown rs own number place None of is stands all = all_shown rs own number place of is stands all
unfinished_shown rs own number place (Some task) of is stands first =
    first_shown rs own number place task of is stands first
