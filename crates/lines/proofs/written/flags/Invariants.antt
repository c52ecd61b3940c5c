use Rattle.std.proofs.Common.{◌≡◌, drop, map}
use Rattle.std.specs.Prelude.{option_and_then}
use Rattle.serde_json.specs.Find.{as_array}
use Rattle.serde_json.specs.View.{items_of}
use Rattle.lines.specs.Members.{flags_from}
use Rattle.lines.specs.Objects.{item_data, value_data}
use Rattle.lines.proofs.written.flags.Given as goal

-- the flags so far, before those to come
abbrev pub invariant-names : goal.invariant-names
invariant-names g l = option_and_then (flags_from g.F.Flags.table 0) (as_array (value_data l.value))
    ≡ flags_from g.F.Flags.table (g.F.Flags.set_of l.flags)
    (items_of (map item_data (drop l.name-index l.names)))
