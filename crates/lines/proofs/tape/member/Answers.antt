use Rattle.lines.proofs.MeaningLemmas.{member-says, has_value-Finds}
use Rattle.lines.proofs.tape.member.Goals as goal

pub returns-clause-says : goal.returns-clause-says
returns-clause-says c =
    member-says c.args.name.now c.args.value.now c.requires c.get.result
    (c.get.ensures c.requires.0 c.requires.1)

pub returns-clause-has : goal.returns-clause-has
returns-clause-has c = has_value-Finds c.get.result _ (c.get.ensures c.requires.0 c.requires.1)
