-- What stands in the tasks' own order, as the trace shows it.
use Rattle.std.proofs.Common.{◌≡◌, ◌∙◌, ℕ, ◌<◌, zero, suc, List, [], ◌∷◌, length, Some, refl, sym, ap, subst}
use Rattle.std.proofs.Common.{arith}
use Rattle.std.specs.Prelude.{◌↔◌, Contains, slice_get}
use Rattle.ompt_events.specs.declared.records.Record.{Record}
use Rattle.ompt_events.specs.declared.cause.Cause.{Cause}
use Rattle.ompt_events.specs.declared.fault.Fault.{Fault}
use Rattle.ompt_events.specs.declared.fault.Fault.TheVariants.{Memory, Malformed}
use Rattle.ompt_events.specs.CauseNames.{cause_number}
use Rattle.ompt_events.specs.Causes.{HasCause, Shows, IsFreeOf, ShowsNowhere, IsFirstShown}
use Rattle.ompt_events.specs.Faults.{IsShownFault}
use Rattle.ompt_events.specs.Turns.{in_own_order, own_place}
use Rattle.task_tree.specs.OwnOrder.{AreAllPlaces}
use Rattle.task_tree.specs.Own.{OwnView, IsOwnCause, of_regions, of_teams, of_claims, IsFirstPlaceWith}
use Rattle.task_tree.specs.Own.{IsOwnFault}
use Rattle.task_tree.specs.Families.{IsOwnOf, own_in_file, own_by_turn}
use Rattle.task_tree.proofs.OwnOrderLemmas.{own_place_of, arranged_at, arranged_length}
use Rattle.task_tree.proofs.FamiliesLemmas.{file_place}
use Rattle.task_tree.proofs.SayingLemmas.{shows_has}

-- the record with a number is that at its place in the file
pub own_record : (rs : List Record) (own : OwnView) → IsOwnOf rs own → (number place : ℕ)
    → slice_get own.places number ≡ Some place → slice_get own.run.records number ≡ slice_get rs place
own_record rs own (own_in_file records order rise) number place is =
    ap (λ (l : List Record). slice_get l number) records
    ∙ ap (slice_get rs) (file_place rs number place (rw order at is))
own_record rs own (own_by_turn records order) number place is =
    ap (λ (l : List Record). slice_get l number) records ∙ arranged_at rs number place (rw order at is)

pub own_long : (rs : List Record) (own : OwnView) → IsOwnOf rs own → length own.run.records ≡ length rs
own_long rs own (own_in_file records order rise) = ap (λ (l : List Record). length l) records
own_long rs own (own_by_turn records order) = ap (λ (l : List Record). length l) records ∙ arranged_length rs

-- the trace shows the cause at a place exactly where the record with its number has it
pub shown_there : (rs : List Record) (own : OwnView) (cause : Cause) → IsOwnCause cause → IsOwnOf rs own
    → (number place : ℕ) → slice_get own.places number ≡ Some place
    → Shows rs place cause ↔ HasCause own.run.records number cause
shown_there rs own cause is (own_in_file records order rise) number place there =
    let same = file_place rs number place (rw order at there) in
    rw (records, same) (shows_has rs rise place cause)
shown_there rs own cause is (own_by_turn records order) number place there =
    let same = own_place_of rs number place (rw order at there) in
    rw (records, sym same) (both cause is)
  where
    both : (cause : Cause) → IsOwnCause cause
        → Shows rs place cause ↔ HasCause (in_own_order rs) (own_place rs place) cause
    both _ of_regions = (λ h. h, λ h. h)
    both _ of_teams = (λ h. h, λ h. h)
    both _ of_claims = (λ h. h, λ h. h)

-- so what no record has in the tasks' own order the trace shows nowhere
pub own_free : (rs : List Record) (own : OwnView) (cause : Cause) → IsOwnCause cause → IsOwnOf rs own
    → IsFreeOf own.run.records cause → ShowsNowhere rs cause
own_free rs own cause is (own_in_file records order rise) free i shown =
    let P : List Record → Type 0 = λ l. IsFreeOf l cause in
    subst P records free i ((shows_has rs rise i cause).0 shown)
own_free rs own cause is (own_by_turn records order) free i shown =
    let P : List Record → Type 0 = λ l. IsFreeOf l cause in
    with_none cause is (subst P records free) i shown
  where
    with_none : (cause : Cause) → IsOwnCause cause → IsFreeOf (in_own_order rs) cause → ShowsNowhere rs cause
    with_none _ of_regions none i shown = none (own_place rs i) shown
    with_none _ of_teams none i shown = none (own_place rs i) shown
    with_none _ of_claims none i shown = none (own_place rs i) shown

-- and the first place that has it is the first that shows it
pub own_first : (rs : List Record) (own : OwnView) (cause : Cause) (place : ℕ) → IsOwnCause cause
    → IsOwnOf rs own → AreAllPlaces own.places (length own.run.records) → IsFirstPlaceWith own cause place
    → IsFirstShown rs cause place
own_first rs own cause place is of all first = record {
  within = within place first.has.0 first.has.1;
  shown = (shown_there rs own cause is of first.has.0 place first.has.1).1 first.has.2;
  first = λ k less shown.
      let there =
      all.each k
      (let inside = within place first.has.0 first.has.1 in omega (arith, less, inside, long)) in
      first.first k less (there.0, there.1, (shown_there rs own cause is of there.0 k there.1).0 shown);
}
  where
    long : length own.run.records ≡ length rs
    long = own_long rs own of

    within : (place number : ℕ) → slice_get own.places number ≡ Some place → place < length rs
    within place number stands = let below = all.below number place stands in omega (arith, below, long)

pub own_fault : (rs : List Record) (own : OwnView) (cause : Cause) (fault : Fault) → IsOwnCause cause
    → IsOwnOf rs own → AreAllPlaces own.places (length own.run.records) → IsOwnFault own cause fault
    → IsShownFault rs (cause ∷ []) fault
own_fault rs own cause Memory is of all fault = tt
own_fault rs own cause (Malformed place found) is of all fault = rw (fault.0) (record {
  sought_for = (0, omega arith, refl);
  found = own_first rs own cause place is of all fault.1;
  least = λ other sought less. absurd (of_one other sought less);
})
  where
    of_one : (other : Cause) → Contains (cause ∷ []) other → cause_number other < cause_number cause → ⊥
    of_one other (zero, below, same) less = absurd (omega (arith, less, ap cause_number same))
    of_one other (suc k, below, same) less = absurd (omega (arith, below))
