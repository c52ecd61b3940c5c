use Rattle.std.proofs.Common.{◌∙◌, ◌||◌, ◌++◌, Bool, [], ◌∷◌, ap, ap₂}
use Rattle.std.proofs.lemmas.Result.{IfOk-weaker}
use Rattle.clap.specs.Words.{App, Rule, Shape}
use Rattle.taskaudit.proofs.words.ordering.Goals as goal

pub returns-clause-shape : goal.returns-clause-shape
returns-clause-shape c =
    IfOk-weaker c.arg.result _ _ (λ r h. ap (λ (a : App). a.top) (h.shape c.records.ensures.local)
    ∙ ap₂ (λ (s : Shape) (a : Rule). record s { rules = s.rules ++ a ∷ [] }) c.in_ok-command.ensures.shape
    c.records.ensures.rule) c.arg.ensures

pub returns-clause-local : goal.returns-clause-local
returns-clause-local c =
    IfOk-weaker c.arg.result _ _
    (λ r h. h.globals ∙ ap₂ (λ (x y : Bool). x || y) c.in_ok-command.ensures.local c.records.ensures.local)
    c.arg.ensures
