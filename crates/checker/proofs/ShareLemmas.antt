-- The ranges of the records that workers share out, and the first of what they find.
use Rattle.std.proofs.Common.{◌≡◌, ◌≢◌, ◌∙◌, ℕ, ◌<◌, ◌≤◌, ◌*◌, List, length}
use Rattle.std.proofs.Common.{zero, suc, get_or, Option, Some, None, refl, sym, ap, subst, arith, inl, inr}
use Rattle.std.proofs.lemmas.Bool.{cases_lt}
use Rattle.std.proofs.lemmas.Option.{none-some, same_Some, slice_get_within, slice_get-get_or}
use Rattle.std.proofs.Math.Nat.{div-le_self, mul-div_cancel_left}
use Rattle.std.specs.Prelude.{Result, Ok, Err, option_and_then, slice_get, slice_index_or}
use Rattle.std.specs.Result.{result_unwrap_or}
use Rattle.checker.specs.declared.workers.Finding.{Finding}
use Rattle.checker.specs.declared.workers.WorkerFault.{WorkerFault}
use Rattle.checker.specs.declared.workers.WorkerFault.TheVariants.{Gate}
use Rattle.checker.specs.Readings.{by_task}
use Rattle.checker.specs.Verdicts.{AreComplete}
use Rattle.checker.specs.Search.{IsFirstViolation}
use Rattle.checker.specs.Deciding.{WorkView, IsWork, begin_of, IsInRange, IsFirstOfRange}
use Rattle.checker.specs.Deciding.{IsOutcome, found_by, IsLeastFinding, HaveAllDecided, IsLeastOf}
use Rattle.checker.specs.Gate.{HaveAllPassed}
use Rattle.checker.proofs.DecidingLemmas.{first_violation, complete_past, complete_whole}

abbrev Outcome : Type 0
Outcome = Result (Option Finding) WorkerFault

-- ---- the ranges

-- a record before the range of the n-th worker is in the range of an earlier one
range_before : (work : WorkView) (n i : ℕ) → i < begin_of work n
    → (worker : ℕ) × (worker < n) × IsInRange work worker i
range_before work zero i below =
    let none = div-le_self (0 * length work.records) work.workers in absurd (omega (arith, below, none))
range_before work (suc n) i below = elim (cases_lt i (begin_of work n)) [
  | inl less ↦
      let (worker, low, is) = range_before work n i less in (worker, omega (arith, low), is)
  | inr more ↦
      let P : ℕ → Type 0 = λ k. i < begin_of work k in
      (n, omega arith, (omega (arith, more), subst P (omega arith) below))
]

-- each record is in some worker's range
range_of : (work : WorkView) (i : ℕ) → IsWork work → i < length work.records
    → (worker : ℕ) × (worker < work.workers) × IsInRange work worker i
range_of work i is inside =
    range_before work work.workers i
    (let end = mul-div_cancel_left (length work.records) is.some in omega (arith, end, inside))

-- ---- all workers together

-- each outcome is as the worker's contract says
abbrev pub AreOutcomes : WorkView → (ℕ → Type 0) → List Outcome → Type 0
AreOutcomes work may_refuse outcomes =
    (worker : ℕ) (outcome : Outcome) → slice_get outcomes worker ≡ Some outcome
    → IsOutcome work may_refuse worker outcome

pub outcomes_by : (work : WorkView) (may_refuse : ℕ → Type 0) (outcomes : List Outcome)
    → length outcomes ≡ work.workers
    → ((worker : ℕ) (d : Outcome) → worker < work.workers
    → IsOutcome work may_refuse worker (slice_index_or outcomes worker d))
    → AreOutcomes work may_refuse outcomes
outcomes_by work may_refuse outcomes all each worker outcome there =
    let inside = slice_get_within outcomes worker outcome there in
    let P : Outcome → Type 0 = IsOutcome work may_refuse worker in
    subst P
    (same_Some (get_or outcomes worker outcome) outcome
    (sym (slice_get-get_or outcomes worker outcome inside) ∙ there))
    (each worker outcome (omega (arith, inside, all)))

-- where none of the first n workers failed, each of them has passed the gate
pub all_passed : (passed : ℕ → Type 0) (outcomes : List Outcome) (n : ℕ) → n ≤ length outcomes
    → ((worker : ℕ) (d : Outcome) → worker < n → slice_index_or outcomes worker d ≢ Err Gate → passed worker)
    → HaveAllDecided outcomes n → HaveAllPassed passed n
all_passed passed outcomes n few each decided worker low =
    let inside : worker < length outcomes = omega (arith, low, few) in
    each worker (Ok None) low
    (λ refused. decided worker Gate low
    (slice_get-get_or outcomes worker (Ok None) inside ∙ ap Some refused))

-- a record before all that was found is complete
decided_at : (work : WorkView) (may_refuse : ℕ → Type 0) (outcomes : List Outcome) (i : ℕ) → IsWork work
    → length outcomes ≡ work.workers → AreOutcomes work may_refuse outcomes
    → HaveAllDecided outcomes (length outcomes)
    → ((worker : ℕ) (found : Finding) → worker < length outcomes → found_by outcomes worker ≡ Some found
    → i < found.at)
    → i < length work.records → AreComplete (by_task work.records) i
decided_at work may_refuse outcomes i is all are decided later within =
    of (get_or outcomes worker (Ok None)) (slice_get-get_or outcomes worker (Ok None) inside)
  where
    worker : ℕ
    worker = (range_of work i is within).0

    inside : worker < length outcomes
    inside = let low = (range_of work i is within).1 in omega (arith, low, all)

    range : IsInRange work worker i
    range = (range_of work i is within).2

    of : (outcome : Outcome) → slice_get outcomes worker ≡ Some outcome
        → AreComplete (by_task work.records) i
    of (Err fault) there = absurd (decided worker fault inside there)
    of (Ok None) there = are worker (Ok None) there i range
    of (Ok (Some found)) there =
        (are worker (Ok (Some found)) there).before i
        (later worker found inside
        (ap
        (λ (o : Option Outcome).
        option_and_then (λ (outcome : Outcome). result_unwrap_or outcome None) o)
        there))
        range

-- where no worker found anything all is complete
pub none_of_all : (work : WorkView) (may_refuse : ℕ → Type 0) (outcomes : List Outcome) → IsWork work
    → length outcomes ≡ work.workers → AreOutcomes work may_refuse outcomes
    → HaveAllDecided outcomes (length outcomes) → IsLeastOf outcomes (length outcomes) None → (i : ℕ)
    → AreComplete (by_task work.records) i
none_of_all work may_refuse outcomes is all are decided none_found i =
    complete_whole work.records (length work.records) i
    (λ k below. decided_at work may_refuse outcomes k is all are decided
    (λ worker finding inside finds. absurd (none_found worker finding inside finds)) below)
    (omega arith)

-- what a worker found is the first of its range
range_found : (work : WorkView) (may_refuse : ℕ → Type 0) (outcomes : List Outcome) (worker : ℕ)
    (finding : Finding)
    → AreOutcomes work may_refuse outcomes → found_by outcomes worker ≡ Some finding
    → IsFirstOfRange work worker finding
range_found work may_refuse outcomes worker finding are finds = of (slice_get outcomes worker) refl finds
  where
    of : (outcome : Option Outcome) → slice_get outcomes worker ≡ outcome
        → option_and_then (λ (o : Outcome). result_unwrap_or o None) outcome ≡ Some finding
        → IsFirstOfRange work worker finding
    of None there finds' = absurd (none-some finding finds')
    of (Some (Err fault)) there finds' = absurd (none-some finding finds')
    of (Some (Ok None)) there finds' = absurd (none-some finding finds')
    of (Some (Ok (Some found))) there finds' =
        let P : Finding → Type 0 = IsFirstOfRange work worker in
        subst P (same_Some found finding finds') (are worker (Ok (Some found)) there)

-- and the least finding is the first violation
pub least_of_all : (work : WorkView) (may_refuse : ℕ → Type 0) (outcomes : List Outcome) (finding : Finding)
    → IsWork work → length outcomes ≡ work.workers → AreOutcomes work may_refuse outcomes
    → HaveAllDecided outcomes (length outcomes) → IsLeastFinding outcomes (length outcomes) finding
    → IsFirstViolation (by_task work.records) finding.at finding.why
least_of_all work may_refuse outcomes finding is all are decided least =
    first_violation (by_task work.records) finding.at finding.why
    (range_found work may_refuse outcomes least.worker finding are least.is_found).violation
    (λ k below. elim (cases_lt k (length work.records)) [
      | inl within ↦ decided_at work may_refuse outcomes k is all are decided (λ worker found inside finds.
          let low = least.least worker found inside finds in omega (arith, low, below)) within
      | inr past ↦ complete_past work.records k (omega (arith, past))
    ])
