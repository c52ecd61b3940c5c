-- The tasks' own order of a trace: as in the file, or arranged.
use Rattle.std.proofs.Common.{◌≡◌, ◌∙◌, ℕ, ◌<◌, List, length, Option, Some, None}
use Rattle.std.proofs.Common.{sym, ap, subst, arith, inl, inr}
use Rattle.std.proofs.lemmas.Option.{none-some, same_Some, slice_get_within}
use Rattle.std.proofs.lemmas.List.FromFn.{length-range_with_len}
use Rattle.std.specs.Prelude.{slice_get, option_and_then, is_some}
use Rattle.ompt_events.specs.declared.records.Record.{Record}
use Rattle.ompt_events.specs.Records.{joined}
use Rattle.ompt_events.specs.Places.{at, places}
use Rattle.ompt_events.specs.Turns.{in_own_order, own_places}
use Rattle.ompt_events.specs.declared.cause.Cause.TheVariants.{TurnGap}
use Rattle.ompt_events.specs.Causes.{IsFreeOf}
use Rattle.ompt_events.specs.Faults.{FindsFirst}
use Rattle.ompt_events.proofs.ListLemmas.{range_get}
use Rattle.task_tree.specs.Rising.{TurnsRise}
use Rattle.task_tree.specs.Family.{IsFamilyOf}
use Rattle.task_tree.specs.Runs.{RunView, IsRun}
use Rattle.task_tree.specs.OwnOrder.{AreAllPlaces}
use Rattle.task_tree.specs.Own.{KeepsMembers}
use Rattle.task_tree.specs.Families.{FamiliesView, AreFamiliesOf, AreArranged, as_in_file, by_turn}
use Rattle.task_tree.proofs.OwnOrderLemmas.{own_all_places, own_within, own_order, own_place_of, arranged_at}
use Rattle.task_tree.proofs.OwnOrderLemmas.{arranged_length}
use Rattle.task_tree.proofs.RisingLemmas.{joined_zero}

within : (rs : List Record) (number place : ℕ) → slice_get (places rs) number ≡ Some place
    → number < length rs
within rs number place is =
    rw (length-range_with_len 0 (length rs)) at (slice_get_within (places rs) number place is)

-- a record of the file has its place for its number
pub file_place : (rs : List Record) (number place : ℕ) → slice_get (places rs) number ≡ Some place
    → number ≡ place
file_place rs number place is =
    same_Some number place (sym (range_get (length rs) number (within rs number place is)) ∙ is)

-- the places of a file are all places
pub file_all_places : (rs : List Record) → AreAllPlaces (places rs) (length rs)
file_all_places rs = record {
  all = length-range_with_len 0 (length rs);
  below =
      λ number place is.
      let e = file_place rs number place is in let b = within rs number place is in omega (arith, e, b);
  each = λ place below. (place, range_get (length rs) place below);
  apart =
      λ number other place one another.
      file_place rs number place one ∙ sym (file_place rs other place another);
}

-- so the order of a trace has each place once
pub file_order_all : (rs : List Record) (arranged : Option RunView) (order : List ℕ) → arranged ≡ None
    → AreArranged rs arranged order → AreAllPlaces order (length rs)
file_order_all rs arranged order none (as_in_file rise) = file_all_places rs
file_order_all rs arranged order none (by_turn {run = run} is same) = absurd (none-some run (sym none))

pub own_order_all : (rs : List Record) (arranged : Option RunView) (run : RunView) (order : List ℕ)
    → arranged ≡ Some run → AreArranged rs arranged order → AreAllPlaces order (length run.records)
own_order_all rs arranged run order some (as_in_file rise) = absurd (none-some run some)
own_order_all rs arranged run order some (by_turn {run = own} is same) =
    let long : length run.records ≡ length rs =
    ap (λ (r : RunView). length r.records) (sym (same_Some own run some)) ∙ ap length same
    ∙ arranged_length rs in
    let P : ℕ → Type 0 = AreAllPlaces (own_places rs) in
    subst P (sym long) (own_all_places rs)

-- members of teams begin there as in the file
file_members : (rs : List Record) → KeepsMembers rs (places rs)
file_members rs number other first second less one another at_first at_second =
    let a = file_place rs number first at_first in
    let b = file_place rs other second at_second in
    omega (arith, less, a, b)

arranged_members : (rs : List Record) → KeepsMembers (in_own_order rs) (own_places rs)
arranged_members rs number other first second less one another at_first at_second =
    let zero_first = joined_zero rs first (ap is_some (said number first at_first) ∙ one) in
    let zero_second = joined_zero rs second (ap is_some (said other second at_second) ∙ another) in
    let a = own_place_of rs number first at_first in
    let b = own_place_of rs other second at_second in
    elim
    ((own_order rs first second (own_within rs number first at_first)
    (own_within rs other second at_second)).0
    (omega (arith, less, a, b))) [
      | inl earlier ↦ absurd (omega (arith, earlier, zero_second))
      | inr same ↦ same.1
    ]
  where
    said : (n i : ℕ) → slice_get (own_places rs) n ≡ Some i → at joined rs i ≡ at joined (in_own_order rs) n
    said n i is = ap (option_and_then (λ (r : Record). joined r.body)) (sym (arranged_at rs n i is))

pub file_order_members : (rs : List Record) (arranged : Option RunView) (order : List ℕ) → arranged ≡ None
    → AreArranged rs arranged order → KeepsMembers rs order
file_order_members rs arranged order none (as_in_file rise) = file_members rs
file_order_members rs arranged order none (by_turn {run = run} is same) = absurd (none-some run (sym none))

pub own_order_members : (rs : List Record) (arranged : Option RunView) (run : RunView) (order : List ℕ)
    → arranged ≡ Some run → AreArranged rs arranged order → KeepsMembers run.records order
own_order_members rs arranged run order some (as_in_file rise) = absurd (none-some run some)
own_order_members rs arranged run order some (by_turn {run = own} is same) =
    let P : List Record → Type 0 = λ records. KeepsMembers records (own_places rs) in
    subst P (sym (ap (λ (r : RunView). r.records) (sym (same_Some own run some)) ∙ same))
    (arranged_members rs)

-- ---- the families of a trace

pub file_families : (rs : List Record) (families : FamiliesView) → IsFamilyOf rs families.file → TurnsRise rs
    → IsFreeOf rs TurnGap → families.arranged ≡ None → families.places ≡ places rs → families.gap ≡ None
    → AreFamiliesOf rs families
file_families rs families file rise free none order gap = record {
  file = file;
  own = rw (none, order) (as_in_file rise);
  gap = rw gap free;
}

pub arranged_families : (rs : List Record) (families : FamiliesView) (run : RunView)
    → IsFamilyOf rs families.file → IsRun run → run.records ≡ in_own_order rs
    → FindsFirst rs TurnGap families.gap → families.arranged ≡ Some run → families.places ≡ own_places rs
    → AreFamiliesOf rs families
arranged_families rs families run file is records gap some order = record {
  file = file;
  own =
      let P : List ℕ → Type 0 = AreArranged rs families.arranged in
      let Q : Option RunView → Type 0 = λ o. AreArranged rs o (own_places rs) in
      subst P (sym order) (subst Q (sym some) (by_turn is records));
  gap = gap;
}

-- ---- the arranged records
