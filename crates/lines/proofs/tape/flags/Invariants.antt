use Rattle.std.proofs.Common.{◌≡◌, length}
use Rattle.std.specs.Prelude.{option_and_then}
use Rattle.json.specs.Json as json
use Rattle.json.specs.Find.{InItems}
use Rattle.serde_json.specs.Find.{as_array}
use Rattle.lines.specs.Meanings.{meant_at, items_meant}
use Rattle.lines.specs.Members.{flags_from}
use Rattle.lines.proofs.tape.flags.Given as goal

-- the flags so far, with those of the names to come
abbrev pub invariant-names : goal.invariant-names
invariant-names g l = (left : json.Items) × InItems l.names left
    × (option_and_then (flags_from g.F.Flags.table 0) (as_array (meant_at l.item))
    ≡ flags_from g.F.Flags.table (g.F.Flags.set_of l.flags) (items_meant left))

abbrev pub decreases-names : goal.decreases-names
decreases-names g l = length l.names
