use Rattle.std.proofs.Common.{Ok, ap, sym}
use Rattle.json.specs.Tape.{node_token}
use Rattle.std.specs.Prelude.{map}
use Rattle.lines.proofs.MeaningLemmas.{plain-read}
use Rattle.lines.proofs.values.is_value.Goals as goal

pub returns-then-are_plain : goal.returns-then-are_plain
returns-then-are_plain c =
    λ _.
    ap Ok
    (sym
    (plain-read c.args.text.now (map node_token c.args.nodes.now) c.requires.same c.requires.some
    (c.are_plain.ensures c.if-are_plain.true)))
