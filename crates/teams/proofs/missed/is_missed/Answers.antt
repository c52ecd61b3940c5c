use Rattle.std.proofs.Common.{◌≡◌, ◌∙◌, Some, None, length, refl, ap, subst, arith}
use Rattle.std.proofs.lemmas.Bool.{false≢true}
use Rattle.std.specs.Prelude.{slice_get}
use Rattle.task_tree.specs.Runs.{RunView}
use Rattle.teams.specs.Tables.{TablesView}
use Rattle.teams.specs.Missed.{IsBarrierEnd}
use Rattle.teams.proofs.MemberLemmas.{teams_are}
use Rattle.teams.proofs.MissedLemmas.{IsCompared, begin_within, too_few, missed_few, no_team_missed}
use Rattle.teams.proofs.ShortLemmas.{teams_within, tables_fewest}
use Rattle.teams.proofs.missed.is_missed.Goals as goal

pub returns-in_default-team : goal.returns-in_default-team
returns-in_default-team c =
    let tables = c.args.tables.now in
    let are = c.run-run.ensures.are_tables in
    let P : RunView → Type 0 = λ r. IsBarrierEnd r c.args.at c.in-Some.end.task c.in-Some.end.begin in
    let end : IsBarrierEnd tables.run c.args.at c.in-Some.end.task c.in-Some.end.begin =
    subst P (ap (λ (t : TablesView). t.run) c.tables.view_is) c.in-Some.ensures in
    let none : slice_get tables.teams c.in-Some.end.task ≡ Some None =
    c.team.ensures ∙ ap Some c.in_default-team.is in
    let teams =
    teams_are tables.run.records tables.run.family.tasks tables.teams are.run.family.once
    are.run.family.makers.apart are.teams in (
      λ never.
          absurd (false≢true never),
      λ m.
          absurd
          (no_team_missed tables.run.records tables.run.family.tasks tables.teams c.args.at
          c.in-Some.end.begin c.in-Some.end.task end.barrier teams end.indexed none m),
    )

pub number-requires : goal.number-requires
number-requires c =
    let tables = c.args.tables.now in
    let are = c.run-run.ensures.are_tables in
    let P : RunView → Type 0 = λ r. IsBarrierEnd r c.args.at c.in-Some.end.task c.in-Some.end.begin in
    let end : IsBarrierEnd tables.run c.args.at c.in-Some.end.task c.in-Some.end.begin =
    subst P (ap (λ (t : TablesView). t.run) c.tables.view_is) c.in-Some.ensures in
    let inside =
    begin_within tables.run.records c.args.at end.barrier.task c.in-Some.end.begin end.barrier.kind
    end.barrier.ends in
    let all = are.numbers.all in
    omega (arith, inside, all)

pub fewest-requires : goal.fewest-requires
fewest-requires c =
    let tables = c.args.tables.now in
    let are = c.run-run.ensures.are_tables in
    let is_team : slice_get tables.teams c.in-Some.end.task ≡ Some (Some c.in-Some-team.team) =
    c.team.ensures ∙ ap Some c.in-Some-team.is in
    let below =
    teams_within tables.run.records (length tables.run.records) tables.run.family.tasks tables.teams
    are.teams c.in-Some.end.task c.in-Some-team.team is_team in
    let all = are.fewest.all in
    omega (arith, below, all)

pub returns-then-number-fewest : goal.returns-then-number-fewest
returns-then-number-fewest c =
    let tables = c.args.tables.now in
    let are = c.run-run.ensures.are_tables in
    let begin = c.in-Some.end.begin in
    let index = c.in-Some.end.task in
    let team = c.in-Some-team.team in
    let P : RunView → Type 0 = λ r. IsBarrierEnd r c.args.at index begin in
    let end : IsBarrierEnd tables.run c.args.at index begin =
    subst P (ap (λ (t : TablesView). t.run) c.tables.view_is) c.in-Some.ensures in
    let compared : IsCompared tables.run.records tables.run.family.tasks tables.teams tables.fewest
    tables.numbers c.args.at begin index team c.fewest.result c.number.result =
    record {
      few = are.run.trace.few_records;
      made_all = are.run.family.noted;
      are_teams =
          teams_are tables.run.records tables.run.family.tasks tables.teams are.run.family.once
          are.run.family.makers.apart are.teams;
      are_fewest = tables_fewest tables are;
      are_numbers = are.numbers;
      barrier = end.barrier;
      is_task = end.indexed;
      is_team = c.team.ensures ∙ ap Some c.in-Some-team.is;
      is_count = c.fewest.ensures;
      is_number = c.number.ensures;
    } in (
      λ never.
          absurd (false≢true never),
      λ m.
          absurd
          (let low =
          missed_few tables.run.records tables.run.family.tasks tables.teams tables.fewest
          tables.numbers c.args.at begin index team c.fewest.result c.number.result
          compared m in
          omega (arith, low, c.if-number-fewest.true)),
    )

pub returns : goal.returns
returns c =
    let tables = c.args.tables.now in
    let are = c.run-run.ensures.are_tables in
    let begin = c.in-Some.end.begin in
    let index = c.in-Some.end.task in
    let team = c.in-Some-team.team in
    let P : RunView → Type 0 = λ r. IsBarrierEnd r c.args.at index begin in
    let end : IsBarrierEnd tables.run c.args.at index begin =
    subst P (ap (λ (t : TablesView). t.run) c.tables.view_is) c.in-Some.ensures in
    let compared : IsCompared tables.run.records tables.run.family.tasks tables.teams tables.fewest
    tables.numbers c.args.at begin index team c.fewest.result c.number.result =
    record {
      few = are.run.trace.few_records;
      made_all = are.run.family.noted;
      are_teams =
          teams_are tables.run.records tables.run.family.tasks tables.teams are.run.family.once
          are.run.family.makers.apart are.teams;
      are_fewest = tables_fewest tables are;
      are_numbers = are.numbers;
      barrier = end.barrier;
      is_task = end.indexed;
      is_team = c.team.ensures ∙ ap Some c.in-Some-team.is;
      is_count = c.fewest.ensures;
      is_number = c.number.ensures;
    } in (
      λ holds.
          too_few tables.run.records tables.run.family.tasks tables.teams tables.fewest tables.numbers
          c.args.at
          begin index team c.fewest.result c.number.result compared c.if-number-fewest.false,
      λ m. refl,
    )
