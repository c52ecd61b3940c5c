-- What the records of a run in its tasks' own order say, as the trace is read in that order.
use Rattle.std.proofs.Common.{◌≡◌, ℕ, ◌<◌, List, length, Option, Some, ap}
use Rattle.std.proofs.lemmas.Option.{slice_get-get_or}
use Rattle.std.specs.Prelude.{◌↔◌, option_and_then, slice_get}
use Rattle.ompt_events.specs.declared.records.Record.{Record}
use Rattle.ompt_events.specs.declared.records.Body.{Body}
use Rattle.ompt_events.specs.Places.{at}
use Rattle.ompt_events.specs.Turns.{in_own_order, own_place}
use Rattle.ompt_events.specs.Coverage.{Covers}
use Rattle.ompt_events.specs.Dependences.{IsPredecessor}
use Rattle.task_tree.specs.OwnOrder.{AreAllPlaces}
use Rattle.task_tree.specs.Own.{OwnView}
use Rattle.task_tree.specs.Families.{IsOwnOf, own_in_file, own_by_turn}
use Rattle.task_tree.proofs.RenamingLemmas.{renamed_covers, renamed_predecessor}
use Rattle.task_tree.proofs.RisingLemmas.{own_renaming}
use Rattle.task_tree.proofs.OwnOrderLemmas.{own_place_of}
use Rattle.task_tree.proofs.FamiliesLemmas.{file_place}
use Rattle.task_tree.proofs.TreeLemmas.{HaveOneTree, same_tree, rising_tree}
use Rattle.task_tree.proofs.ShownLemmas.{own_record, own_long}

-- the same tree
pub own_tree : (rs : List Record) (own : OwnView) → IsOwnOf rs own
    → HaveOneTree own.run.records (in_own_order rs)
own_tree rs own (own_in_file records order rise) = rw records (rising_tree rs rise)
own_tree rs own (own_by_turn records order) = rw records (same_tree (in_own_order rs))

-- what a record says stands at its number
pub own_says : {X : Type 0} (f : Body → Option X) (rs : List Record) (own : OwnView) → IsOwnOf rs own
    → (number place : ℕ) → slice_get own.places number ≡ Some place
    → at f own.run.records number ≡ at f rs place
own_says f rs own of number place is =
    ap (option_and_then (λ (r : Record). f r.body)) (own_record rs own of number place is)

-- the place of a number, and the number of a place
pub place_of_number : (rs : List Record) (own : OwnView) → AreAllPlaces own.places (length own.run.records)
    → (number : ℕ) → number < length own.run.records
    → (place : ℕ) × (slice_get own.places number ≡ Some place)
place_of_number rs own all number below = (_, slice_get-get_or own.places number 0 (rw all.all below))

pub number_of_place : (rs : List Record) (own : OwnView) → IsOwnOf rs own
    → AreAllPlaces own.places (length own.run.records) → (place : ℕ) → place < length rs
    → (number : ℕ) × (slice_get own.places number ≡ Some place)
number_of_place rs own of all place below = all.each place (rw (own_long rs own of) below)

-- the end of a region waits for the same tasks
pub own_covers : (rs : List Record) (own : OwnView) → IsOwnOf rs own → (number place : ℕ)
    → slice_get own.places number ≡ Some place → (task : ℕ)
    → Covers own.run.records number task ↔ Covers (in_own_order rs) (own_place rs place) task
own_covers rs own (own_in_file records order rise) number place is task =
    rw (records, file_place rs number place (rw order at is))
    (renamed_covers (own_renaming rs rise) place task)
own_covers rs own (own_by_turn records order) number place is task =
    rw (records, own_place_of rs number place (rw order at is)) (λ c. c, λ c. c)

-- and a task for the same siblings
pub own_predecessor : (rs : List Record) (own : OwnView) → IsOwnOf rs own → (task other : ℕ)
    → IsPredecessor own.run.records task other ↔ IsPredecessor (in_own_order rs) task other
own_predecessor rs own (own_in_file records order rise) task other =
    rw records (renamed_predecessor (own_renaming rs rise) task other)
own_predecessor rs own (own_by_turn records order) task other = rw records (λ p. p, λ p. p)
