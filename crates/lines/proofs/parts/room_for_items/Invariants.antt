use Rattle.std.proofs.Common.{◌+◌, ◌≤◌}
use Rattle.lines.proofs.parts.room_for_items.Given as goal

abbrev pub invariant-bytes : goal.invariant-bytes
invariant-bytes l = l.room ≤ l.byte-index + 1
