use Rattle.std.proofs.Common.{◌∙◌, sym, ap, subst, arith}
use Rattle.ompt_events.specs.Places.{seen_at}
use Rattle.task_tree.specs.Runs.{RunView}
use Rattle.std.specs.Prelude.{MatchOption}
use Rattle.teams.specs.Teams.{TeamsView}
use Rattle.wait_coverage.specs.Done.{DoneView}
use Rattle.wait_coverage.specs.Waits.{EndsNoWaitAt, IsWaitAt}
use Rattle.wait_coverage.proofs.UnfinishedLemmas.{limit_complete, none_or_wait}
use Rattle.wait_coverage.proofs.unfinished.unmet_wait.Goals as goal

pub returns-then-is_reached : goal.returns-then-is_reached
returns-then-is_reached c = λ exact.
    let done = c.args.known.now.done in
    let names =
    c.seen.ensures
    ∙ ap (λ (r : RunView). seen_at r.records c.args.number)
    (c.run.ensures.value ∙ ap (λ (d : DoneView). d.teams.run) c.done-done.ensures.value) in
    limit_complete done c.args.number c.limit.result c.seen.result exact c.limit.ensures.limit (sym names)
    (omega (arith, c.seen.type_inv)) (c.is_reached.ensures.reached c.if-is_reached.true)

pub returns : goal.returns
returns c =
    let done = c.args.known.now.done in
    let P : TeamsView → Type 0 =
    λ t.
    MatchOption c.wait_at.result (EndsNoWaitAt t.run.records c.args.number)
    (IsWaitAt t.run.records t.run.family.tasks c.args.number) in
    none_or_wait done c.args.number c.wait_at.result
    (subst P (c.teams.ensures.value ∙ ap (λ (d : DoneView). d.teams) c.done-done.ensures.value)
    c.wait_at.ensures)
