use Rattle.std.proofs.Common.{◌++◌, map, drop}
use Rattle.serde_json.specs.Data.{array}
use Rattle.serde_json.specs.View.{items_of}
use Rattle.serde_json.specs.Written.{compact_text}
use Rattle.lines.specs.Texts.{dep_data}
use Rattle.lines.proofs.ItemLemmas.{IsPut}
use Rattle.lines.proofs.texts.put_deps.Given as goal

abbrev pub invariant-items : goal.invariant-items
invariant-items l =
    IsPut dep_data (drop l.item-index l.list) l.later l.fn.out.items l.out.items
    (l.text ++ compact_text (array (items_of (map dep_data l.list))))
