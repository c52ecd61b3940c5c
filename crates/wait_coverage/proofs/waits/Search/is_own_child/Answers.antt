use Rattle.std.proofs.Common.{◌≡◌, ◌∙◌, Some, None, ap, subst}
use Rattle.std.proofs.lemmas.Bool.{false≢true}
use Rattle.std.specs.Prelude.{slice_get}
use Rattle.ompt_events.specs.Records.{made}
use Rattle.ompt_events.specs.Places.{at}
use Rattle.task_tree.specs.Lineage.{parent_index}
use Rattle.task_tree.specs.Runs.{RunView}
use Rattle.wait_coverage.specs.Search.{SearchView, IsSearch}
use Rattle.wait_coverage.proofs.WaitLemmas.{own_by, own_parentless, parent_in}
use Rattle.wait_coverage.proofs.waits.Search.is_own_child.Goals as goal

pub returns-in-Some : goal.returns-in-Some
returns-in-Some c = λ task is.
    let search = c.args.self.now in
    let known : IsSearch search = subst IsSearch c.self.view_is c.self.invariant in
    let run_is : c.run-run.result.now ≡ search.teams.run =
    c.run-run.ensures.value ∙ ap (λ (s : SearchView). s.teams.run) c.self.view_is in
    let above : parent_index search.teams.run.family c.args.index ≡ Some c.in-Some.up =
    parent_in c.run-run.result.now search c.args.index c.parent.result run_is c.parent.ensures
    ∙ c.in-Some.is in
    let P : RunView → Type 0 =
    λ r. at made r.records c.made_at.result ≡ slice_get r.family.tasks c.args.index in
    let is_made = subst P run_is c.made_at.ensures in
    own_by search.teams.run.records search.teams.run.family c.args.index task c.in-Some.up c.made_at.result
    search.wait c.is_within.result known.teams.run.family is above is_made c.is_within.ensures

pub returns-in-None : goal.returns-in-None
returns-in-None c = λ task is.
    let search = c.args.self.now in
    let known : IsSearch search = subst IsSearch c.self.view_is c.self.invariant in
    let run_is : c.run-run.result.now ≡ search.teams.run =
    c.run-run.ensures.value ∙ ap (λ (s : SearchView). s.teams.run) c.self.view_is in
    let above : parent_index search.teams.run.family c.args.index ≡ None =
    parent_in c.run-run.result.now search c.args.index c.parent.result run_is c.parent.ensures
    ∙ c.in-None.is in (
      λ never. absurd (false≢true never),
      λ own.
          absurd
          (own_parentless search.teams.run.records search.teams.run.family c.args.index task search.wait
          known.teams.run.family is above own),
    )
