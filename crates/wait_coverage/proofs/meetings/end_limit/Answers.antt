use Rattle.std.proofs.Common.{◌∙◌, ◌<◌, length, Some, ap, rules, arith}
use Rattle.teams.proofs.CallLemmas.{read_at}
use Rattle.wait_coverage.proofs.MeetingLemmas.{begin_inside, met_least, met_limit, own_row, own_meeting}
use Rattle.wait_coverage.proofs.MeetingLemmas.{teamless_limit}
use Rattle.wait_coverage.proofs.meetings.end_limit.Goals as goal

pub returns-in-None-clause-limit : goal.returns-in-None-clause-limit
returns-in-None-clause-limit c =
    teamless_limit c.args.done.now c.args.at c.args.end.task c.args.end.begin c.zero.result
    c.run-run.ensures.is_done.teams c.requires.ends (c.team.ensures ∙ ap Some c.in-None.is)

pub returns-in-None-clause-least : goal.returns-in-None-clause-least
returns-in-None-clause-least c = λ task begin kind demands there m small all. rw c.zero.ensures (omega arith)

pub number-requires : goal.number-requires
number-requires c =
    begin_inside c.args.done.now c.args.at c.args.end.task c.args.end.begin c.run-run.ensures.is_done.teams
    c.requires.ends

pub bounds-meetings-team : goal.bounds-meetings-team
bounds-meetings-team c =
    let in_team = c.team.ensures ∙ ap Some c.in-Some.is in
    own_row c.args.done.now c.args.at c.args.end.task c.in-Some.team c.args.end.begin c.args.meetings.now
    c.run-run.ensures.is_done.teams c.requires.met c.requires.ends in_team

pub offset_bounds-meetings-team : goal.offset_bounds-meetings-team
offset_bounds-meetings-team c =
    let inside : c.in-Some.team < length c.args.meetings.now = bounds-meetings-team c in search rules

pub index-requires : goal.index-requires
index-requires c =
    let done = c.args.done.now in
    let index = c.args.end.task in
    let begin = c.args.end.begin in
    let meetings = c.args.meetings.now in
    let row = c.index-meetings-team.result in
    let teams = c.run-run.ensures.is_done.teams in
    let in_team = c.team.ensures ∙ ap Some c.in-Some.is in
    let inside =
    own_row done c.args.at index c.in-Some.team begin meetings teams c.requires.met c.requires.ends
    in_team in
    let stands = read_at meetings c.in-Some.team row inside c.index-meetings-team.is in
    let within : c.number.result < length row.items =
    own_meeting done c.args.at index c.in-Some.team begin c.number.result meetings row teams
    c.requires.met c.requires.ends in_team c.number.ensures stands in
    search rules

pub returns-in-Some-clause-limit : goal.returns-in-Some-clause-limit
returns-in-Some-clause-limit c =
    let done = c.args.done.now in
    let index = c.args.end.task in
    let begin = c.args.end.begin in
    let meetings = c.args.meetings.now in
    let row = c.index-meetings-team.result in
    let teams = c.run-run.ensures.is_done.teams in
    let in_team = c.team.ensures ∙ ap Some c.in-Some.is in
    let inside =
    own_row done c.args.at index c.in-Some.team begin meetings teams c.requires.met c.requires.ends
    in_team in
    let stands = read_at meetings c.in-Some.team row inside c.index-meetings-team.is in
    let within =
    own_meeting done c.args.at index c.in-Some.team begin c.number.result meetings row teams
    c.requires.met c.requires.ends in_team c.number.ensures stands in
    met_limit done c.args.at index c.in-Some.team begin c.number.result c.index.result.now meetings row teams
    c.requires.met c.requires.ends in_team c.number.ensures stands
    (read_at row.items c.number.result c.index.result.now within c.index.ensures)

pub returns-in-Some-clause-least : goal.returns-in-Some-clause-least
returns-in-Some-clause-least c =
    let done = c.args.done.now in
    let index = c.args.end.task in
    let begin = c.args.end.begin in
    let meetings = c.args.meetings.now in
    let row = c.index-meetings-team.result in
    let teams = c.run-run.ensures.is_done.teams in
    let in_team = c.team.ensures ∙ ap Some c.in-Some.is in
    let inside =
    own_row done c.args.at index c.in-Some.team begin meetings teams c.requires.met c.requires.ends
    in_team in
    let stands = read_at meetings c.in-Some.team row inside c.index-meetings-team.is in
    let within =
    own_meeting done c.args.at index c.in-Some.team begin c.number.result meetings row teams
    c.requires.met c.requires.ends in_team c.number.ensures stands in
    met_least done c.args.at index c.in-Some.team begin c.number.result c.index.result.now meetings row teams
    c.requires.met c.requires.ends in_team c.number.ensures stands
    (read_at row.items c.number.result c.index.result.now within c.index.ensures)
