-- How the listing of one cause gives all records that show it, where no cause with a lesser number is shown.
use Rattle.std.proofs.Common.{◌≡◌, ℕ, Bool, ◌<◌, ◌≤◌, ◌++◌, List, [], ◌∷◌, Ok, IfOk, Result, length, refl}
use Rattle.std.proofs.Common.{subst, arith}
use Rattle.std.proofs.Math.Dec.{ltb}
use Rattle.std.proofs.lemmas.Bool.{lt-ltb, ltb-true}
use Rattle.std.proofs.lemmas.Result.{IfOk-weaker}
use Rattle.std.proofs.lemmas.List.Elements.{All-weaker, Contains-append_left}
use Rattle.std.specs.Prelude.{All, Contains}
use Rattle.ompt_events.specs.declared.records.Record.{Record}
use Rattle.ompt_events.specs.declared.cause.Cause.{Cause}
use Rattle.ompt_events.specs.declared.fault.Fault.{Fault}
use Rattle.ompt_events.specs.declared.fault.Fault.TheVariants.{Memory}
use Rattle.ompt_events.specs.declared.cause.Cause.TheVariants.{CreatedTwice, Rootless, NotCurrent}
use Rattle.ompt_events.specs.declared.cause.Cause.TheVariants.{EntryTwice, LengthAhead, LengthBack}
use Rattle.ompt_events.specs.CauseNames.{cause_number, all_causes, before}
use Rattle.ompt_events.specs.Causes.{HasCause, IsFreeOf, Shows, ShowsNowhere}
use Rattle.ompt_events.specs.Faults.{IsFault}
use Rattle.ompt_events.specs.Shown.{AreAllShown}
use Rattle.ompt_events.specs.Turns.{in_own_order, own_place}
use Rattle.ompt_events.proofs.PlaceLemmas.{Contains-filter}
use Rattle.task_tree.specs.Runs.{RunView, IsRun}
use Rattle.task_tree.specs.OwnOrder.{AreAllPlaces}
use Rattle.task_tree.specs.Own.{OwnView, IsOwnCause, of_regions, of_teams, of_claims, HasCauseAt}
use Rattle.task_tree.specs.Own.{AreAllPlacesWith}
use Rattle.task_tree.specs.Families.{IsOwnOf, own_in_file, own_by_turn}
use Rattle.task_tree.proofs.FamiliesLemmas.{file_all_places}
use Rattle.task_tree.proofs.OwnOrderLemmas.{own_all_places, own_place_iff, arranged_length}
use Rattle.task_tree.proofs.OwnRunLemmas.{place_of_number}
use Rattle.task_tree.proofs.RenamedCauseLemmas.{order_within, team_within, share_within}
use Rattle.task_tree.proofs.ShownLemmas.{own_long, shown_there}
use Rattle.checker.specs.Search.{IsClear}
use Rattle.checker.specs.Schedule.{EachAwaitsOne}
use Rattle.checker.specs.Readings.{by_task}
use Rattle.checker.specs.Verdicts.{IsLeastShown}
use Rattle.checker.proofs.EarlierLemmas.{filter_holds}
use Rattle.checker.proofs.AwaitsOneLemmas.{sound_awaits_one}
use Rattle.checker.proofs.PhaseLemmas.{fault_shown, memory_alone, one_clear, only_clear}

-- ---- the causes that do not occur

-- a cause with a lesser number is shown nowhere
lesser_nowhere : (rs : List Record) (cause other : Cause) → IsClear rs (before cause)
    → Contains all_causes other → cause_number other < cause_number cause → ShowsNowhere rs other
lesser_nowhere rs cause other clear among less =
    let P : Cause → Bool = λ c. ltb (cause_number c) (cause_number cause) in
    clear other (Contains-filter P all_causes other among
    (lt-ltb (cause_number other) (cause_number cause) less))

-- the causes before the least one that the trace shows
pub least_clear : (rs : List Record) (i : ℕ) (cause : Cause) → IsLeastShown (by_task rs) i cause
    → IsClear rs (before cause)
least_clear rs i cause least other has k shown =
    let P : Cause → Bool = λ c. ltb (cause_number c) (cause_number cause) in
    least.least k other (ltb-true _ _ (filter_holds P all_causes other has)) shown

-- two such causes
two_clear : (rs : List Record) (cause first second : Cause) → IsClear rs (before cause)
    → Contains all_causes first → cause_number first < cause_number cause
    → Contains all_causes second → cause_number second < cause_number cause
    → IsClear rs (first ∷ second ∷ [])
two_clear rs cause first second clear among less among_too less_too =
    one_clear rs first (second ∷ []) (lesser_nowhere rs cause first clear among less)
    (only_clear rs second (lesser_nowhere rs cause second clear among_too less_too))

-- so the tree of tasks is made unless memory runs out
pub families_memory : (rs : List Record) (cause : Cause) (fault : Fault)
    → cause_number NotCurrent ≤ cause_number cause → IsClear rs (before cause)
    → IsFault rs (CreatedTwice ∷ Rootless ∷ []) fault → fault ≡ Memory
families_memory rs cause fault late clear found =
    memory_alone rs (CreatedTwice ∷ Rootless ∷ []) fault
    (two_clear rs cause CreatedTwice Rootless clear (1, omega arith, refl) (omega arith)
    (2, omega arith, refl)
    (omega arith)) (fault_shown rs (CreatedTwice ∷ Rootless ∷ []) fault refl found)

-- and so is the ledger
pub ledger_memory : (rs : List Record) (cause : Cause) (fault : Fault)
    → cause_number LengthBack ≤ cause_number cause → IsClear rs (before cause)
    → IsFault rs (EntryTwice ∷ LengthAhead ∷ []) fault → fault ≡ Memory
ledger_memory rs cause fault late clear found =
    memory_alone rs (EntryTwice ∷ LengthAhead ∷ []) fault
    (two_clear rs cause EntryTwice LengthAhead clear (13, omega arith, refl) (omega arith)
    (14, omega arith, refl) (omega arith)) (fault_shown rs (EntryTwice ∷ LengthAhead ∷ []) fault refl found)

-- each record awaits one other at most, where none of the causes before those of the ledger occurs
pub clear_awaits_one : (run : RunView) (rest : List Cause) → IsRun run
    → IsClear run.records (before EntryTwice ++ rest) → EachAwaitsOne run.records
clear_awaits_one run rest is_run clear = sound_awaits_one run (record {
  is_run = is_run;
  clear = λ other among. clear other (Contains-append_left (before EntryTwice) rest other among);
})

-- ---- the list that a listing gives

-- what holds of a list holds of it where it is handed on
pub listed_places : {X E F : Type 0} (list : Result X E) (found : Result X F) (P : X → Type 0) → IfOk list P
    → IfOk found (λ places. list ≡ Ok places) → IfOk found P
listed_places {X} {E} list found P are is =
    let Right : Result X E → Type 0 = λ l. IfOk l P in
    IfOk-weaker found (λ places. list ≡ Ok places) P (λ places same. subst Right same are) is

-- ---- the causes that are read in the tasks' own order

-- the places are all places of the file
all_places : (rs : List Record) (own : OwnView) → IsOwnOf rs own
    → AreAllPlaces own.places (length own.run.records)
all_places rs own of = rw (own_long rs own of) (by of)
  where
    by : IsOwnOf rs own → AreAllPlaces own.places (length rs)
    by (own_in_file records order rise) = rw order (file_all_places rs)
    by (own_by_turn records order) = rw order (own_all_places rs)

-- only a record has the cause
has_within : (rs : List Record) (i : ℕ) (cause : Cause) → IsOwnCause cause → HasCause rs i cause
    → i < length rs
has_within rs i _ of_regions has = order_within rs i has
has_within rs i _ of_teams has = team_within rs i has
has_within rs i _ of_claims has = share_within rs i has

-- and a trace shows it only at a record
shown_within : (rs : List Record) (i : ℕ) (cause : Cause) → IsOwnCause cause → Shows rs i cause
    → i < length rs
shown_within rs i cause is shown =
    (own_place_iff rs i).0
    (rw (arranged_length rs)
    at (has_within (in_own_order rs) (own_place rs i) cause is (there cause is shown)))
  where
    there : (cause : Cause) → IsOwnCause cause → Shows rs i cause
        → HasCause (in_own_order rs) (own_place rs i) cause
    there _ of_regions shown = shown
    there _ of_teams shown = shown
    there _ of_claims shown = shown

-- no record has the cause in the tasks' own order, if the trace shows it nowhere
pub nowhere_free : (rs : List Record) (own : OwnView) (cause : Cause) → IsOwnCause cause → IsOwnOf rs own
    → ShowsNowhere rs cause → IsFreeOf own.run.records cause
nowhere_free rs own cause is of nowhere number has =
    let (place, there) =
    place_of_number rs own (all_places rs own of) number (has_within own.run.records number cause is has) in
    nowhere place ((shown_there rs own cause is of number place there).1 has)

-- all places that have the cause in the tasks' own order are all that show it
pub places_shown : (rs : List Record) (own : OwnView) (cause : Cause) (places : List ℕ) → IsOwnCause cause
    → IsOwnOf rs own → AreAllPlacesWith own cause places → AreAllShown rs cause places
places_shown rs own cause places is of are = record {
  rising = are.rising;
  within = subst (λ (n : ℕ). All (λ place. place < n) places) (own_long rs own of) are.within;
  hold =
      All-weaker (HasCauseAt own cause) (λ i. Shows rs i cause)
      (λ place has. (shown_there rs own cause is of has.0 place has.1).1 has.2) places are.hold;
  complete = λ i shown.
      let at =
      (all_places rs own of).each i
      (let inside = shown_within rs i cause is shown in omega (arith, inside, own_long rs own of)) in
      are.complete i (at.0, at.1, (shown_there rs own cause is of at.0 i at.1).0 shown);
}
