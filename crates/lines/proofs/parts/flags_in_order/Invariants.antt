use Rattle.std.proofs.Common.{drop}
use Rattle.serde_json.specs.Written.{compact_text}
use Rattle.lines.specs.Texts.{names, flag_names}
use Rattle.lines.proofs.TakeLemmas.{IsRead}
use Rattle.lines.proofs.parts.flags_in_order.Given as goal

-- the names of the flags so far, and those that are left
abbrev pub invariant-named : goal.invariant-named
invariant-named g l =
    IsRead (flag_names (drop l.flag-index g.F.Flags.table) (g.F.Flags.set_of l.flags)) l.later l.fn.rest
    l.rest (compact_text (names (flag_names g.F.Flags.table (g.F.Flags.set_of l.flags))))
