use Rattle.std.proofs.Common.{◌∙◌}
use Rattle.lines.proofs.MeaningLemmas.{text-says}
use Rattle.lines.proofs.tape.text.Goals as goal

pub returns : goal.returns
returns c = c.as_str.ensures c.requires.0 c.requires.1 ∙ text-says c.args.item.now c.requires
