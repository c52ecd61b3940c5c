use Rattle.std.proofs.Common.{◌≡◌, Some, subst}
use Rattle.std.specs.Prelude.{slice_get}
use Rattle.task_tree.specs.Own.{OwnView}
use Rattle.teams.proofs.CallLemmas.{read_at}
use Rattle.wait_coverage.proofs.coverage.Coverage.end.Goals as goal

pub returns-clause-value : goal.returns-clause-value
returns-clause-value c =
    let place = c.index.result.now in
    let inside = rw (← c.self.view_is) at c.requires in
    let P : OwnView → Type 0 = λ o. slice_get o.places c.number.result ≡ Some place in
    rw (← c.self.view_is) (
      place,
      read_at c.self.inside.ends.items c.args.index place inside c.index.ensures,
      subst P c.own.ensures.value c.number.ensures.value,
    )
