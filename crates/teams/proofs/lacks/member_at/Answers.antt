use Rattle.std.proofs.Common.{◌≡◌, ◌∙◌, Some, None, sym, ap, arith}
use Rattle.std.proofs.lemmas.Option.{slice_get_within}
use Rattle.ompt_events.specs.Records.{joined, begun_root}
use Rattle.ompt_events.specs.Places.{at}
use Rattle.teams.proofs.CallLemmas.{call_same}
use Rattle.teams.proofs.MemberLemmas.{joined_at_root, never_of, lead_there}
use Rattle.teams.proofs.RosterLemmas.{lead_of_member}
use Rattle.teams.proofs.lacks.member_at.Goals as goal

pub team-requires : goal.team-requires
team-requires c =
    let tables = c.args.tables.now in
    let rs = tables.run.records in
    let tasks = tables.run.family.tasks in
    let m = c.in_ok-member.member in
    let index = c.in_ok-index.index in
    let joins : at joined rs c.args.at ≡ Some m =
    sym (rw c.run-run.ensures.value at c.joined.ensures) ∙ c.in_ok-member.was in
    let is =
    call_same tasks (at begun_root rs c.args.at) c.begun_root.result index m.member
    (rw c.run-run.ensures.value at c.begun_root.ensures) c.in_ok-index.was
    (joined_at_root rs c.args.at m joins)
    in
    let inside = slice_get_within tasks index m.member is in
    let all = c.run-run.ensures.are_tables.teams.all in
    omega (arith, inside, all)

pub returns-in_err-lead : goal.returns-in_err-lead
returns-in_err-lead c =
    let tables = c.args.tables.now in
    let rs = tables.run.records in
    let tasks = tables.run.family.tasks in
    let are = c.run-run.ensures.are_tables in
    let m = c.in_ok-member.member in
    let index = c.in_ok-index.index in
    let joins : at joined rs c.args.at ≡ Some m =
    sym (rw c.run-run.ensures.value at c.joined.ensures) ∙ c.in_ok-member.was in
    let is =
    call_same tasks (at begun_root rs c.args.at) c.begun_root.result index m.member
    (rw c.run-run.ensures.value at c.begun_root.ensures) c.in_ok-index.was
    (joined_at_root rs c.args.at m joins)
    in
    let none =
    lead_there rs tasks tables.teams c.args.at index m None are.run.family.once are.teams joins is
    (c.team.ensures ∙ ap Some c.in_err-lead.was) in
    absurd (never_of (at joined rs c.args.at) m none joins)

pub returns : goal.returns
returns c =
    let tables = c.args.tables.now in
    let rs = tables.run.records in
    let tasks = tables.run.family.tasks in
    let are = c.run-run.ensures.are_tables in
    let m = c.in_ok-member.member in
    let index = c.in_ok-index.index in
    let lead = c.in_ok-lead.lead in
    let joins : at joined rs c.args.at ≡ Some m =
    sym (rw c.run-run.ensures.value at c.joined.ensures) ∙ c.in_ok-member.was in
    let is =
    call_same tasks (at begun_root rs c.args.at) c.begun_root.result index m.member
    (rw c.run-run.ensures.value at c.begun_root.ensures) c.in_ok-index.was
    (joined_at_root rs c.args.at m joins)
    in
    let there =
    lead_there rs tasks tables.teams c.args.at index m (Some lead) are.run.family.once are.teams joins is
    (c.team.ensures ∙ ap Some c.in_ok-lead.was) in
    record {
      joining = record { joins = joins; leads = lead_of_member rs tasks c.args.at lead m there joins };
      indexed = is;
    }
