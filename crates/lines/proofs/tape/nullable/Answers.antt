use Rattle.std.proofs.Common.{Some, None, ◌∙◌, sym}
use Rattle.lines.proofs.MeaningLemmas.{null-says, id-says}
use Rattle.lines.proofs.tape.nullable.Goals as goal

pub returns-then-is_null : goal.returns-then-is_null
returns-then-is_null c =
    null-says c.args.item.now c.requires
    (sym (c.is_null.ensures c.requires.0 c.requires.1) ∙ c.if-is_null.true)

pub returns-in-Some : goal.returns-in-Some
returns-in-Some c =
    id-says c.args.item.now c.requires (Some c.in-Some.number)
    (sym (c.is_null.ensures c.requires.0 c.requires.1) ∙ c.if-is_null.false) c.in-Some.ensures

pub returns-in-None : goal.returns-in-None
returns-in-None c =
    id-says c.args.item.now c.requires None
    (sym (c.is_null.ensures c.requires.0 c.requires.1) ∙ c.if-is_null.false) c.in-None.ensures
