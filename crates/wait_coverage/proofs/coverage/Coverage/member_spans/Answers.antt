use Rattle.std.proofs.Common.{◌∙◌, Some, ap, arith}
use Rattle.credit_ledger.proofs.LockLemmas.{if_ok-map}
use Rattle.wait_coverage.specs.declared.waits.Wait.TheVariants.{Barrier}
use Rattle.wait_coverage.proofs.CoverageLemmas.{have_begun, member_spans_are, teamless_spans, waiting_within}
use Rattle.wait_coverage.proofs.coverage.Coverage.member_spans.Goals as goal
use Rattle.ompt_events.proofs.ListLemmas.{get_within}

pub team-requires : goal.team-requires
team-requires c =
    let known = rw (← c.self.view_is) at c.requires in
    let teams = c.self.invariant.teams in
    let within =
    waiting_within c.self.inside.teams.run.records c.self.inside.teams.run.family.tasks known.0
    (Barrier c.args.task c.args.number) known.1 in
    let all = teams.teams.all in
    omega (arith, within, all)

pub roster_spans-requires : goal.roster_spans-requires
roster_spans-requires c =
    let known = rw (← c.self.view_is) at c.requires in
    let is = c.self.invariant in
    let in_team = c.team.ensures ∙ ap Some c.in-Some.is in
    let roster =
    get_within c.self.inside.teams.rosters c.in-Some.team
    (is.teams.rosters.within c.args.task c.in-Some.team in_team) in
    rw (← c.self.view_is, c.roster.ensures roster.0 roster.1)
    (have_begun _ c.args.task c.in-Some.team c.args.number known.0 roster.0 is.teams in_team roster.1
    known.1)

pub returns-in-Some : goal.returns-in-Some
returns-in-Some c =
    let is = c.self.invariant in
    let in_team = c.team.ensures ∙ ap Some c.in-Some.is in
    let roster =
    get_within c.self.inside.teams.rosters c.in-Some.team
    (is.teams.rosters.within c.args.task c.in-Some.team in_team) in
    rw (← c.self.view_is)
    (if_ok-map
    (λ list are.
    λ own is_own.
    member_spans_are _ c.args.task c.in-Some.team own c.args.number roster.0 list.items
    is.teams is_own in_team roster.1 (rw (c.roster.ensures roster.0 roster.1) at are))
    c.roster_spans.result (rw (← c.self.view_is) at c.roster_spans.ensures))

pub returns-in-None : goal.returns-in-None
returns-in-None c =
    rw (← c.self.view_is)
    (λ own is_own.
    teamless_spans _ _ _ c.args.task own c.args.number c.new.result.items c.self.invariant.teams.teams
    is_own (c.team.ensures ∙ ap Some c.in-None.is) c.new.ensures.items)
