use Rattle.std.proofs.Common.{Some, None, ◌∙◌}
use Rattle.lines.proofs.MeaningLemmas.{whole-says}
use Rattle.lines.proofs.tape.whole.Goals as goal

pub returns-in-Some : goal.returns-in-Some
returns-in-Some c =
    c.whole_number.ensures
    ∙ whole-says c.args.item.now c.requires (Some c.in-Some.text.now)
    (c.in-Some.ensures c.requires.0 c.requires.1)

pub returns-in-None : goal.returns-in-None
returns-in-None c = whole-says c.args.item.now c.requires None (c.in-None.ensures c.requires.0 c.requires.1)
