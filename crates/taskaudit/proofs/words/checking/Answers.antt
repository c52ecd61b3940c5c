-- What clap reads of the subcommand: each `arg` puts a rule behind.
use Rattle.std.proofs.Common.{◌∙◌, ◌||◌, ◌++◌, Bool, [], ◌∷◌, ap, ap₂}
use Rattle.std.proofs.lemmas.Result.{IfOk-weaker}
use Rattle.clap.specs.Words.{App, Rule, Shape}
use Rattle.taskaudit.proofs.words.checking.Goals as goal

abbrev put_behind : Shape → Rule → Shape
put_behind s a = record s { rules = s.rules ++ a ∷ [] }

abbrev either : Bool → Bool → Bool
either x y = x || y

pub returns-clause-shape : goal.returns-clause-shape
returns-clause-shape c =
    let with_workers =
    ap (λ (a : App). a.top) (c.in_ok-arg.ensures.shape c.workers.ensures.local)
    ∙ ap₂ put_behind c.in_ok-reading.ensures.shape c.workers.ensures.rule in
    let with_all =
    ap (λ (a : App). a.top) (c.in_ok-arg-2.ensures.shape c.all.ensures.local)
    ∙ ap₂ put_behind with_workers c.all.ensures.rule in
    IfOk-weaker c.arg-3.result _ _
    (λ r h.
    ap (λ (a : App). a.top) (h.shape c.most.ensures.local) ∙ ap₂ put_behind with_all c.most.ensures.rule)
    c.arg-3.ensures

pub returns-clause-local : goal.returns-clause-local
returns-clause-local c =
    let with_workers =
    c.in_ok-arg.ensures.globals ∙ ap₂ either c.in_ok-reading.ensures.local c.workers.ensures.local in
    let with_all = c.in_ok-arg-2.ensures.globals ∙ ap₂ either with_workers c.all.ensures.local in
    IfOk-weaker c.arg-3.result _ _ (λ r h. h.globals ∙ ap₂ either with_all c.most.ensures.local)
    c.arg-3.ensures
