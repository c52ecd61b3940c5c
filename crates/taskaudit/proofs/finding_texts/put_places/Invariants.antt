use Rattle.std.proofs.Common.{◌≡◌, ◌++◌, take}
use Rattle.std.specs.List.{flat_map}
use Rattle.taskaudit.specs.FindingTexts.{shown_line}
use Rattle.taskaudit.proofs.finding_texts.put_places.Given as goal

-- the lines of the places so far stand behind what was there
abbrev pub invariant-loop-index : goal.invariant-loop-index
invariant-loop-index l = l.text.items ≡ l.fn.text.items ++ flat_map (shown_line l.trace.records)
    (take l.index l.places)
