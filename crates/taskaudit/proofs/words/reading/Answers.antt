use Rattle.std.proofs.Common.{◌∙◌, ◌||◌, ◌++◌, Bool, [], ◌∷◌, ap, ap₂}
use Rattle.std.proofs.lemmas.Result.{IfOk-weaker}
use Rattle.clap.specs.Words.{App, Rule, Shape}
use Rattle.taskaudit.proofs.words.reading.Goals as goal

pub returns-clause-shape : goal.returns-clause-shape
returns-clause-shape c =
    IfOk-weaker c.arg.result _ _ (λ r h. ap (λ (a : App). a.top) (h.shape c.file.ensures.local)
    ∙ ap₂ (λ (s : Shape) (a : Rule). record s { rules = s.rules ++ a ∷ [] }) c.plain.ensures.shape
    c.file.ensures.rule) c.arg.ensures

pub returns-clause-local : goal.returns-clause-local
returns-clause-local c =
    IfOk-weaker c.arg.result _ _
    (λ r h. h.globals ∙ ap₂ (λ (x y : Bool). x || y) c.plain.ensures.local c.file.ensures.local)
    c.arg.ensures
