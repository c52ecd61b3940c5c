use Rattle.std.proofs.Common.{◌∙◌, ℕ, sym, ap, subst}
use Rattle.std.specs.Prelude.{slice_get}
use Rattle.std.proofs.lemmas.Option.{same_Some}
use Rattle.ompt_events.specs.Tree.{HasPath}
use Rattle.task_tree.specs.Runs.{RunView}
use Rattle.task_tree.proofs.OwnRunLemmas.{own_tree}
use Rattle.teams.specs.Teams.{own_of}
use Rattle.wait_coverage.proofs.CoverageLemmas.{span_is}
use Rattle.wait_coverage.proofs.coverage.Coverage.span.Goals as goal

pub returns : goal.returns
returns c =
    rw (← c.self.view_is) (λ id here.
    let is = c.self.invariant in
    let run = c.self.inside.teams.run in
    let there =
    ap (λ (r : RunView). slice_get r.family.tasks c.args.task) (sym c.run.ensures.value)
    ∙ c.task-id.ensures in
    let same = same_Some c.task-id.result id (sym there ∙ here) in
    span_is run.records run.family c.args.task id _ is.teams.run.family here (λ root path stands.
    let P : ℕ → Type 0 = λ t. HasPath run.records c.in_ok-root.root t c.in_ok-root.path in
    let Q : ℕ → Type 0 = λ t. HasPath run.records root t path in
    let paths = (own_tree is.tree.0 (own_of c.self.inside.teams) is.tree.2).paths in
    subst P same ((paths c.in_ok-root.root c.task-id.result c.in_ok-root.path).1
    (c.in_ok-root.ensures is.tree.0 root path is.tree.1
    ((paths root c.task-id.result path).0 (subst Q (sym same) stands)))))
    )
