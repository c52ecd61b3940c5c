use Rattle.std.proofs.Common.{◌≡◌, ◌++◌, take}
use Rattle.std.specs.List.{flat_map}
use Rattle.taskaudit.specs.FindingTexts.{violation_line}
use Rattle.taskaudit.proofs.finding_texts.put_violations.Given as goal

-- the lines of the violations so far stand behind what was there
abbrev pub invariant-loop-violation : goal.invariant-loop-violation
invariant-loop-violation l = l.text.items ≡ l.fn.text.items ++ flat_map (violation_line l.trace.records)
    (take l.violation-index l.violations)
