use Rattle.std.proofs.Common.{List, subst}
use Rattle.std.proofs.lemmas.Result.{err_from_is_err_and}
use Rattle.ompt_events.specs.declared.records.Record.{Record}
use Rattle.ompt_events.specs.declared.cause.Cause.TheVariants.{TeamShort}
use Rattle.task_tree.specs.Own.{IsOwnFault, of_teams}
use Rattle.task_tree.specs.Families.{IsOwnOf}
use Rattle.task_tree.proofs.ShownLemmas.{own_fault}
use Rattle.task_states.specs.Regions.{RegionsView}
use Rattle.wait_coverage.proofs.CoverageLemmas.{build_own}
use Rattle.wait_coverage.proofs.coverage.Coverage.build.Goals as goal

pub returns-in_err-teams-clause-fault : goal.returns-in_err-teams-clause-fault
returns-in_err-teams-clause-fault c =
    let rs = c.args.trace.now.records in
    let own = c.args.states.now.regions.own in
    let states = c.regions.ensures.is_states in
    let P : List Record → Type 0 = λ l. IsOwnOf l own in
    let Q : RegionsView → Type 0 = λ r. IsOwnFault r.own TeamShort c.in_err-teams.field-0.0 in
    let p = err_from_is_err_and c.from_residual.result c.from_residual.ensures.1 in
    rw (p.1, p.2)
    (own_fault rs own TeamShort c.in_err-teams.field-0.0 of_teams (subst P c.requires.records states.own)
    states.regions.own.places (subst Q c.regions.ensures.value c.in_err-teams.ensures.fault))

pub invariant_of-result : goal.invariant_of-result
invariant_of-result c = record {
  teams = c.in_ok-teams.ensures.teams;
  tree = (
    c.args.trace.now.records,
    c.requires.tree,
    build_own c.args.trace.now.records c.args.states.now c.regions.result.now c.in_ok-teams.teams
        c.requires.records c.regions.ensures.is_states c.regions.ensures.value c.in_ok-teams.ensures.run
        c.in_ok-teams.ensures.places,
  );
  numbers = rw c.run.ensures.value at c.in_ok-numbers.ensures;
  ends = c.in_ok-ends.ensures.ends;
  waits = c.in_ok-ends.ensures.waits;
}

pub returns-clause-coverage : goal.returns-clause-coverage
returns-clause-coverage c =
    build_own c.args.trace.now.records c.args.states.now c.regions.result.now c.in_ok-teams.teams
    c.requires.records c.regions.ensures.is_states c.regions.ensures.value c.in_ok-teams.ensures.run
    c.in_ok-teams.ensures.places
