use Rattle.std.proofs.Common.{◌≡◌, ◌≤◌, ◌-◌, length, take}
use Rattle.lines.proofs.parts.after.Given as goal

-- the bytes so far are the same
abbrev pub invariant-words : goal.invariant-words
invariant-words l = record { within : l.at ≤ length l.text; same : take l.at l.rest ≡ take l.at l.text }

abbrev pub decreases-words : goal.decreases-words
decreases-words l = length l.text - l.at

abbrev pub invariant-halves : goal.invariant-halves
invariant-halves l = record { within : l.at ≤ length l.text; same : take l.at l.rest ≡ take l.at l.text }

abbrev pub decreases-halves : goal.decreases-halves
decreases-halves l = length l.text - l.at

abbrev pub invariant-bytes : goal.invariant-bytes
invariant-bytes l = record { within : l.at ≤ length l.text; same : take l.at l.rest ≡ take l.at l.text }

abbrev pub decreases-bytes : goal.decreases-bytes
decreases-bytes l = length l.text - l.at
