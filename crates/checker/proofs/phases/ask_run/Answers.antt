use Rattle.std.proofs.lemmas.Result.{err_from_is_err_and}
use Rattle.checker.proofs.PhaseLemmas.{states_least, teams_least, edges_least, made_sound}
use Rattle.checker.proofs.phases.ask_run.Goals as goal

pub invariant_of-runs : goal.invariant_of-runs
invariant_of-runs g c =
    rw c.run-run.ensures.records c.own-own.ensures

pub returns-in_err-states-clause-malformed : goal.returns-in_err-states-clause-malformed
returns-in_err-states-clause-malformed g c =
    let p = err_from_is_err_and c.from_residual.result c.from_residual.ensures.1 in
    rw (p.1, p.2)
    (states_least c.args.trace.now.records c.run-run.result c.in_err-states.field-0.0
    c.run-run.ensures.records
    c.requires.clear (rw c.in_err-states.was at c.states_and_edges-states.ensures.states_fault))

pub returns-in_err-teams-clause-malformed : goal.returns-in_err-teams-clause-malformed
returns-in_err-teams-clause-malformed g c =
    let p = err_from_is_err_and c.from_residual-in_err-teams.result c.from_residual-in_err-teams.ensures.1 in
    rw (p.1, p.2)
    (teams_least c.args.trace.now.records c.run-run.result c.own-own.result c.in_ok-states.states
    c.in_err-teams.field-0.0 c.run-run.ensures.records c.own-own.ensures c.requires.clear
    (rw c.in_ok-states.was at c.states_and_edges-states.ensures.states)
    (rw c.regions.ensures.value at c.in_err-teams.ensures.fault))

pub returns-in_err-edges-clause-malformed : goal.returns-in_err-edges-clause-malformed
returns-in_err-edges-clause-malformed g c =
    let teams = c.in_ok-teams.ensures in
    let p = err_from_is_err_and c.from_residual-in_err-edges.result c.from_residual-in_err-edges.ensures.1 in
    rw (p.1, p.2)
    (edges_least c.args.trace.now.records c.run-run.result c.own-own.result c.in_ok-states.states
    c.in_ok-teams.teams c.in_err-edges.field-0.0 c.run-run.ensures.records c.own-own.ensures c.requires.clear
    (rw c.in_ok-states.was at c.states_and_edges-states.ensures.states)
    (rw c.regions.ensures.value at teams.run) teams.teams
    (rw c.in_err-edges.was at c.states_and_edges-states.ensures.edges_fault))

pub invariant_of-sound : goal.invariant_of-sound
invariant_of-sound g c =
    let teams = c.in_ok-teams.ensures in
    made_sound c.args.trace.now.records c.run-run.result c.own-own.result c.in_ok-states.states
    c.in_ok-teams.teams c.in_ok-edges.edges c.run-run.ensures.records c.own-own.ensures c.requires.clear
    (rw c.in_ok-states.was at c.states_and_edges-states.ensures.states)
    (rw c.regions.ensures.value at teams.run) (rw c.regions.ensures.value at teams.places) teams.teams
    (rw c.in_ok-edges.was at c.states_and_edges-states.ensures.edges)

pub returns-clause-malformed : goal.returns-clause-malformed
returns-clause-malformed g c =
    rw c.run-run.ensures.records at c.ask_sound.ensures.malformed

pub returns-clause-right : goal.returns-clause-right
returns-clause-right g c =
    rw c.run-run.ensures.records at c.ask_sound.ensures.right
