use Rattle.std.proofs.Common.{◌++◌, map, drop}
use Rattle.serde_json.specs.Data.{array}
use Rattle.serde_json.specs.View.{items_of}
use Rattle.serde_json.specs.Written.{compact_text}
use Rattle.lines.specs.Texts.{whole_number}
use Rattle.lines.proofs.ItemLemmas.{IsPut}
use Rattle.lines.proofs.texts.put_path.Given as goal

abbrev pub invariant-numbers : goal.invariant-numbers
invariant-numbers l =
    IsPut whole_number (drop l.at l.path) l.later l.fn.out.items l.out.items
    (l.text ++ compact_text (array (items_of (map whole_number l.path))))
