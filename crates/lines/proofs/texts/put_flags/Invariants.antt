use Rattle.std.proofs.Common.{◌++◌, drop}
use Rattle.serde_json.specs.Data.{string}
use Rattle.serde_json.specs.Written.{compact_text}
use Rattle.lines.specs.Texts.{names, flag_names}
use Rattle.lines.proofs.ItemLemmas.{IsPut}
use Rattle.lines.proofs.texts.put_flags.Given as goal

abbrev pub invariant-named : goal.invariant-named
invariant-named g l =
    IsPut string (flag_names (drop l.flag-index g.F.Flags.table) (g.F.Flags.set_of l.flags)) l.later
    l.fn.out.items l.out.items
    (l.text ++ compact_text (names (flag_names g.F.Flags.table (g.F.Flags.set_of l.flags))))
