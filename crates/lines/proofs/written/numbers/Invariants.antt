use Rattle.std.proofs.Common.{◌≡◌, ◌++◌, drop, map}
use Rattle.std.specs.Prelude.{option_and_then, option_map}
use Rattle.serde_json.specs.Find.{as_array}
use Rattle.serde_json.specs.View.{items_of}
use Rattle.lines.specs.Members.{each, whole_of}
use Rattle.lines.specs.Objects.{item_data, value_data}
use Rattle.lines.proofs.written.numbers.Given as goal

-- the numbers so far, before those to come
abbrev pub invariant-items : goal.invariant-items
invariant-items l = option_and_then (each whole_of) (as_array (value_data l.value))
    ≡ option_map (λ ns. l.numbers.items ++ ns)
    (each whole_of (items_of (map item_data (drop l.item-index l.items))))
