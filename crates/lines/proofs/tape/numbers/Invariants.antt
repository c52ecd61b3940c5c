use Rattle.std.proofs.Common.{◌≡◌, ◌++◌, length}
use Rattle.std.specs.Prelude.{option_and_then, option_map}
use Rattle.json.specs.Json as json
use Rattle.json.specs.Find.{InItems}
use Rattle.serde_json.specs.Find.{as_array}
use Rattle.lines.specs.Meanings.{meant_at, items_meant}
use Rattle.lines.specs.Members.{each, whole_of}
use Rattle.lines.proofs.tape.numbers.Given as goal

-- the numbers so far, before those to come
abbrev pub invariant-found : goal.invariant-found
invariant-found l = (left : json.Items) × InItems l.items left
    × (option_and_then (each whole_of) (as_array (meant_at l.item))
    ≡ option_map (λ ns. l.numbers.items ++ ns) (each whole_of (items_meant left)))

abbrev pub decreases-found : goal.decreases-found
decreases-found l = length l.items
