-- All records at which something is wrong, where a verdict names the first.
use Rattle.std.specs.Prelude.{ℕ, ◌≡◌, ◌<◌, ◌+◌, ⊤, List, All, Some, length, map, take}
use Rattle.ompt_events.specs.declared.records.Record.{Record}
use Rattle.ompt_events.specs.Records.{created}
use Rattle.ompt_events.specs.Places.{at}
use Rattle.ompt_events.specs.Linearization.{IsLinearization}
use Rattle.ompt_events.specs.Completion.{IsCompleteIn}
use Rattle.ompt_events.specs.Shown.{AreAllBelow, AreAll, AreAllShown}
use Rattle.checker.specs.Readings.{Reading, by_task, IsRequiredBy}
use Rattle.checker.specs.Verdicts.{IsMissed, IsReason, task_of}
use Rattle.wait_coverage.specs.Waits.{AreEach}
use Rattle.checker.specs.declared.verdict.Verdict.{Verdict}
use Rattle.checker.specs.declared.verdict.Verdict.TheVariants as verdict
use Rattle.checker.specs.declared.violations.Violation.{Violation}
use Rattle.checker.specs.declared.violations.Violations.{Violations}
use Rattle.checker.specs.declared.findings.Findings.{Findings}
use Rattle.checker.specs.declared.findings.Findings.TheVariants as findings

-- ---- a no

-- in every order that the records allow, each task that must be complete at i is complete there
abbrev pub IsCompleteInAll : Reading → ℕ → Type 0
IsCompleteInAll reading i =
    (order : List ℕ) → IsLinearization reading.records order → (task : ℕ) → IsRequiredBy reading i task
    → IsCompleteIn reading.records order task i

-- that is not so
abbrev pub IsViolated : Reading → ℕ → Type 0
IsViolated reading i = IsCompleteInAll reading i → ⊥

-- so many tasks are such
pub record IsCountOf (is_such : ℕ → Type 0) (count : ℕ) : Type 0 where
  pub tasks : List ℕ
  pub each : AreEach is_such tasks
  pub counted : length tasks ≡ count

-- of the tasks that some order misses at the record the violation names the one created first in file order,
-- why it must be complete there, and how many others there are
pub record IsViolation (reading : Reading) (violation : Violation) : Type 0 where
  pub missed : IsMissed reading violation.at (task_of violation.why)
  pub reason : IsReason reading violation.at violation.why
  pub creation : ℕ
  pub is_created : at created reading.records creation ≡ Some (task_of violation.why)
  pub created_first : (k other : ℕ) → k < creation → at created reading.records k ≡ Some other
      → IsMissed reading violation.at other → ⊥
  pub all : IsCountOf (IsMissed reading violation.at) (violation.others + 1)

-- of the records at these places, at which some order misses a task, the first `most` are listed, each with
-- its violation, and so many are left out
pub record AreListed (reading : Reading) (most : ℕ) (places : List ℕ) (violations : Violations) : Type 0 where
  pub listed : map (λ (v : Violation). v.at) violations.listed.items ≡ take most places
  pub each : All (IsViolation reading) violations.listed.items
  pub left_out : length places ≡ length violations.listed.items + violations.left_out

-- these are all the records below n at which some order misses a task
pub record AreViolationsBelow (reading : Reading) (most n : ℕ) (violations : Violations) : Type 0 where
  pub places : List ℕ
  pub all : AreAllBelow (IsViolated reading) n places
  pub listed : AreListed reading most places violations

-- these are all the records at which some order misses a task
pub record AreViolations (reading : Reading) (most : ℕ) (violations : Violations) : Type 0 where
  pub places : List ℕ
  pub all : AreAll (IsViolated reading) (length reading.records) places
  pub listed : AreListed reading most places violations

-- ---- a verdict

-- what is found of the verdict: of a yes nothing; of a no all records at which some order misses a task, the
-- first `most` of them with their tasks; of a malformed trace all records that show its cause
abbrev pub IsFoundOf : List Record → ℕ → Verdict → Findings → Type 0
IsFoundOf rs most (verdict.Yes order) findings.Nothing = ⊤
IsFoundOf rs most (verdict.No i why) (findings.Violated violations) =
    AreViolations (by_task rs) most violations
IsFoundOf rs most (verdict.Malformed i cause) (findings.Malformed places) = AreAllShown rs cause places
IsFoundOf rs most _ _ = ⊥
