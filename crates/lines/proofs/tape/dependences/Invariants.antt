use Rattle.std.proofs.Common.{◌≡◌, ◌++◌, length}
use Rattle.std.specs.Prelude.{option_and_then, option_map}
use Rattle.json.specs.Json as json
use Rattle.json.specs.Find.{InItems}
use Rattle.serde_json.specs.Find.{as_array}
use Rattle.lines.specs.Meanings.{meant_at, items_meant}
use Rattle.lines.specs.Members.{each, dep_of}
use Rattle.lines.proofs.tape.dependences.Given as goal

-- the dependences so far, before those to come
abbrev pub invariant-found : goal.invariant-found
invariant-found l = (left : json.Items) × InItems l.items left
    × (option_and_then (each dep_of) (as_array (meant_at l.item))
    ≡ option_map (λ ds. l.deps.items ++ ds) (each dep_of (items_meant left)))

abbrev pub decreases-found : goal.decreases-found
decreases-found l = length l.items
