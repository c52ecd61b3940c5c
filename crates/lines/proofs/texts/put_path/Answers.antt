use Rattle.std.proofs.Common.{◌++◌, subst}
use Rattle.std.specs.Prelude.{decimal}
use Rattle.lines.specs.Texts.{Puts, whole_number}
use Rattle.lines.proofs.ItemLemmas.{IsPut-at}
use Rattle.lines.proofs.texts.put_path.Goals as goal

pub numbers-preserved : goal.numbers-preserved
numbers-preserved c =
    IsPut-at whole_number c.args.path.now c.numbers.at c.number.result c.numbers.later c.args.out.now.items
    c.numbers.out.items c.put_short.new.out.items _ c.number.ensures c.numbers.invariant
    (subst
    (λ comma. Puts c.numbers.out.items c.put_short.new.out.items (comma ++ decimal c.number.result))
    c.comma.ensures c.in_ok-put_short.ensures)
