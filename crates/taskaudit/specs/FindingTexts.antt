-- What `check --all` prints behind the report: a line for each finding, and how many are left out.
use Rattle.std.specs.Prelude.{ℕ, ◌==◌, ◌-◌, ◌++◌, List, [], codes, decimal, length, take, if◌then◌else◌}
use Rattle.std.specs.List.{flat_map}
use Rattle.ompt_events.specs.declared.records.Record.{Record}
use Rattle.checker.specs.declared.findings.Findings.{Findings}
use Rattle.checker.specs.declared.findings.Findings.TheVariants.{Nothing, Violated, Malformed}
use Rattle.checker.specs.declared.verdict.Why.{Why}
use Rattle.checker.specs.declared.verdict.Why.TheVariants.{Unfinished, Predecessor}
use Rattle.checker.specs.declared.violations.Violation.{Violation}
use Rattle.checker.specs.Verdicts.{task_of}
use Rattle.taskaudit.specs.Reports.{record_place, dependent_at}

-- what is wrong with the task at the place i
abbrev pub why_text : List Record → ℕ → Why → List ℕ
why_text rs i (Unfinished task) = codes " unfinished"
why_text rs i (Predecessor task) = codes " must precede task " ++ decimal (dependent_at rs i)

-- how many others there are, if there are any
abbrev pub others_text : ℕ → List ℕ
others_text others = if others == 0 then [] else codes ", and " ++ (decimal others ++ codes " more")

-- the line of a violation
abbrev pub violation_line : List Record → Violation → List ℕ
violation_line rs v =
    record_place rs v.at ++ (codes ": task " ++ (decimal (task_of v.why)
    ++ (why_text rs v.at v.why ++ (others_text v.others ++ codes "\n"))))

-- the line of a record that shows a cause
abbrev pub shown_line : List Record → ℕ → List ℕ
shown_line rs i = record_place rs i ++ codes "\n"

-- how many findings have no line
abbrev pub left_line : ℕ → List ℕ
left_line count = codes "left out: " ++ (decimal count ++ codes "\n")

-- all lines, of at most so many findings
abbrev pub findings_text : List Record → ℕ → Findings → List ℕ
findings_text rs most Nothing = []
findings_text rs most (Violated violations) =
    flat_map (violation_line rs) violations.listed.items ++ left_line violations.left_out
findings_text rs most (Malformed places) =
    flat_map (shown_line rs) (take most places) ++ left_line (length places - most)
