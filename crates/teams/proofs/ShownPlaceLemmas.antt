-- How all places in the file are found at which a record has a cause in the tasks' own order.
use Rattle.std.proofs.Common.{◌≡◌, ◌∙◌, ℕ, ◌<◌, List, length, get_or, Option, Some, None, Bool, sym, ap}
use Rattle.std.proofs.Common.{subst}
use Rattle.std.proofs.Common.{arith, inl, inr}
use Rattle.std.proofs.lemmas.Bool.{cases_lt}
use Rattle.std.proofs.lemmas.Option.{none-some, same_Some, slice_get_within, slice_get-get_or}
use Rattle.std.specs.Prelude.{◌↔◌, IsTrue, slice_get}
use Rattle.ompt_events.specs.declared.cause.Cause.{Cause}
use Rattle.ompt_events.specs.Causes.{HasCause}
use Rattle.ompt_events.specs.Shown.{AreAllBelow}
use Rattle.task_tree.specs.Own.{OwnView, IsOwn, HasCauseAt, AreAllPlacesWith, FindsFirstPlace}

-- what is decided of the record with a number is decided of its place
pub at_place : (own : OwnView) (cause : Cause) (place number : ℕ) (shows : Bool) → IsOwn own
    → slice_get own.places number ≡ Some place → IsTrue shows ↔ HasCause own.run.records number cause
    → IsTrue shows ↔ HasCauseAt own cause place
at_place own cause place number shows is stands exact = (
  λ yes. (number, stands, exact.0 yes),
  λ has.
      let P : ℕ → Type 0 = λ k. HasCause own.run.records k cause in
      exact.1 (subst P (is.places.apart has.0 number place has.1 stands) has.2),
)

-- the places that are found along the whole file are all
pub all_places : (own : OwnView) (cause : Cause) (n : ℕ) (places : List ℕ) → IsOwn own
    → length own.run.records ≡ n → AreAllBelow (HasCauseAt own cause) n places
    → AreAllPlacesWith own cause places
all_places own cause n places is all are =
    let P : ℕ → Type 0 = λ m. AreAllBelow (HasCauseAt own cause) m places in
    let whole = subst P (sym all) are in
    record {
      rising = whole.rising;
      within = whole.within;
      hold = whole.hold;
      complete = λ place has. whole.complete place (is.places.below has.0 place has.1) has;
    }

-- the first of all places is the first at which a record has the cause
pub first_place_of : (own : OwnView) (cause : Cause) (places : List ℕ) (found : Option ℕ)
    → ((i : ℕ) → HasCause own.run.records i cause → i < length own.run.records) → IsOwn own
    → AreAllPlacesWith own cause places → found ≡ slice_get places 0 → FindsFirstPlace own cause found
first_place_of own cause places None inside_all is are first = λ number has.
    let within = inside_all number has in
    let place = get_or own.places number 0 in
    let all = is.places.all in
    let stands = slice_get-get_or own.places number 0 (omega (arith, within, all)) in
    let listed = are.complete place (number, stands, has) in
    let below = listed.1 in
    none-some (get_or places 0 0) (first ∙ slice_get-get_or places 0 0 (omega (arith, below)))
first_place_of own cause places (Some place) inside_all is are first =
    let there = sym first in
    let inside = slice_get_within places 0 place there in
    let here : get_or places 0 0 ≡ place =
    same_Some (get_or places 0 0) place (sym (slice_get-get_or places 0 0 inside) ∙ there) in
    record {
      has = subst (HasCauseAt own cause) here (are.hold 0 0 inside);
      first = λ k less has.
          let listed = are.complete k has in
          let is_k : get_or places listed.0 k ≡ k = listed.2 in
          elim (cases_lt 0 listed.0) [
            | inl later ↦
                let order = are.rising 0 listed.0 k later listed.1 in
                let same : get_or places 0 k ≡ place =
                same_Some (get_or places 0 k) place (sym (slice_get-get_or places 0 k inside) ∙ there) in
                omega (arith, order, is_k, same, less)
            | inr start ↦
                let zero_there : listed.0 ≡ 0 = omega (arith, start) in
                let same : get_or places 0 k ≡ place =
                same_Some (get_or places 0 k) place (sym (slice_get-get_or places 0 k inside) ∙ there) in
                let moved = ap (λ j. get_or places j k) zero_there in
                omega (arith, is_k, same, moved, less)
          ];
    }
