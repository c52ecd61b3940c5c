use Rattle.std.proofs.Common.{◌∙◌, ap}
use Rattle.clap.specs.Words.{App}
use Rattle.clap.specs.Simple.{shape_of_fields}
use Rattle.taskaudit.proofs.words.plain.Goals as goal

pub returns-clause-shape : goal.returns-clause-shape
returns-clause-shape c =
    ap shape_of_fields c.after_help.ensures ∙ ap shape_of_fields c.about.ensures
    ∙ ap (λ (a : App). a.top) c.new.ensures.app
