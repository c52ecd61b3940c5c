use Rattle.std.proofs.Common.{◌∙◌}
use Rattle.lines.proofs.MeaningLemmas.{truth-says}
use Rattle.lines.proofs.tape.truth.Goals as goal

pub returns : goal.returns
returns c = c.as_bool.ensures c.requires.0 c.requires.1 ∙ truth-says c.args.item.now c.requires
