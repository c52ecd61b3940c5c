-- What is decided about one record, and what several workers find together.
use Rattle.std.specs.Prelude.{ℕ, ◌≡◌, ◌<◌, ◌≤◌, ◌+◌, ◌*◌, ◌/◌, ◌⊎◌, ⊤, List, length, Option, Some}
use Rattle.std.specs.Prelude.{None, Result, Ok, Err, MatchOption, option_and_then, slice_get}
use Rattle.std.specs.Result.{result_unwrap_or}
use Rattle.ompt_events.specs.declared.records.Record.{Record}
use Rattle.ompt_events.specs.Records.{created}
use Rattle.ompt_events.specs.Places.{at}
use Rattle.checker.specs.declared.verdict.Why.{Why}
use Rattle.checker.specs.declared.workers.Finding.{Finding}
use Rattle.checker.specs.declared.workers.WorkerFault.{WorkerFault}
use Rattle.checker.specs.declared.workers.WorkerFault.TheVariants.{Gate, Memory}
use Rattle.checker.specs.Readings.{Reading, by_task}
use Rattle.checker.specs.Verdicts.{AreComplete, IsReason, IsUnfinished, task_of}
use Rattle.checker.specs.Search.{IsFirstViolation}

-- ---- one record

-- of the tasks that must be complete at i and aren't, this one was created first in file order; and the
-- reason
pub record IsViolationAt (reading : Reading) (i : ℕ) (why : Why) : Type 0 where
  pub unfinished : IsUnfinished reading i (task_of why)
  pub reason : IsReason reading i why
  pub creation : ℕ
  pub is_created : at created reading.records creation ≡ Some (task_of why)
  pub created_first : (k other : ℕ) → k < creation → at created reading.records k ≡ Some other
      → IsUnfinished reading i other → ⊥

-- all that must be complete at i is complete; or why the record there is a violation
abbrev pub IsDecided : Reading → ℕ → Option Why → Type 0
IsDecided reading i found = MatchOption found (AreComplete reading i) (IsViolationAt reading i)

-- the first violation in file order, or there is none
abbrev pub IsFirstOrNone : Reading → Option (ℕ × Why) → Type 0
IsFirstOrNone reading found = MatchOption found ((i : ℕ) → AreComplete reading i)
    (λ f. IsFirstViolation reading f.0 f.1)

-- ---- the work

-- the view of what several workers decide
pub record WorkView : Type 0 where
  pub records : List Record
  pub workers : ℕ

pub record IsWork (work : WorkView) : Type 0 where
  pub some : 1 ≤ work.workers
  pub few : work.workers ≤ 256

-- the place at which the range of the worker with this number begins, and that of the one before it ends
abbrev pub begin_of : WorkView → ℕ → ℕ
begin_of work worker = worker * length work.records / work.workers

-- the record at i is in the range of this worker
abbrev pub IsInRange : WorkView → ℕ → ℕ → Type 0
IsInRange work worker i = (begin_of work worker ≤ i) × (i < begin_of work (worker + 1))

-- the first record of the worker's range at which something is unfinished
pub record IsFirstOfRange (work : WorkView) (worker : ℕ) (finding : Finding) : Type 0 where
  pub in_range : IsInRange work worker finding.at
  pub violation : IsViolationAt (by_task work.records) finding.at finding.why
  pub before : (i : ℕ) → i < finding.at → IsInRange work worker i → AreComplete (by_task work.records) i

-- that record, or all is complete at each record of the worker's range
abbrev pub IsFinding : WorkView → ℕ → Option Finding → Type 0
IsFinding work worker found = MatchOption found
    ((i : ℕ) → IsInRange work worker i → AreComplete (by_task work.records) i)
    (IsFirstOfRange work worker)

-- what a worker returns: its finding; or that it is out of memory; or that the gate refuses it, which the
-- gate may
abbrev pub IsOutcome : WorkView → (ℕ → Type 0) → ℕ → Result (Option Finding) WorkerFault → Type 0
IsOutcome work may_refuse worker (Ok found) = IsFinding work worker found
IsOutcome work may_refuse worker (Err Gate) = may_refuse worker
IsOutcome work may_refuse worker (Err Memory) = ⊤

-- ---- what they find together

-- what the worker with this number found, if it did not fail
abbrev pub found_by : List (Result (Option Finding) WorkerFault) → ℕ → Option Finding
found_by outcomes worker =
    option_and_then (λ (outcome : Result (Option Finding) WorkerFault). result_unwrap_or outcome None)
    (slice_get outcomes worker)

-- none of the first n workers failed
abbrev pub HaveAllDecided : List (Result (Option Finding) WorkerFault) → ℕ → Type 0
HaveAllDecided outcomes n = (worker : ℕ) (fault : WorkerFault) → worker < n
    → slice_get outcomes worker ≡ Some (Err fault) → ⊥

-- of what the first n workers found, this is first in file order
pub record IsLeastFinding (outcomes : List (Result (Option Finding) WorkerFault)) (n : ℕ) (finding : Finding)
    : Type 0 where
  pub worker : ℕ
  pub is_found : found_by outcomes worker ≡ Some finding
  pub least : (other : ℕ) (found : Finding) → other < n → found_by outcomes other ≡ Some found
      → finding.at ≤ found.at

-- that finding, or they found nothing
abbrev pub IsLeastOf : List (Result (Option Finding) WorkerFault) → ℕ → Option Finding → Type 0
IsLeastOf outcomes n least = MatchOption least
    ((worker : ℕ) (found : Finding) → worker < n → found_by outcomes worker ≡ Some found → ⊥)
    (IsLeastFinding outcomes n)

-- of a finding, if there is one, and another, the one at the lesser place
pub record IsLesserOf (least : Option Finding) (other lesser : Finding) : Type 0 where
  pub of_both : (lesser ≡ other) ⊎ (least ≡ Some lesser)
  pub low : lesser.at ≤ other.at
  pub low_too : (finding : Finding) → least ≡ Some finding → lesser.at ≤ finding.at
