use Rattle.std.proofs.Common.{◌≡◌, ℕ, List, Option, length, sym, ap, subst, arith}
use Rattle.teams.specs.Fewest.{AreTeamsWithin}
use Rattle.teams.specs.Rosters.{AreTeamsBelow}
use Rattle.teams.proofs.ShortLemmas.{teams_within}
use Rattle.teams.proofs.RosterLemmas.{rosters_more, rosters_enrolled}
use Rattle.teams.proofs.rosters.empty_rosters.Goals as goal

pub loop-index-preserved : goal.loop-index-preserved
loop-index-preserved c =
    let tables = c.args.tables.now in
    rw c.in_ok-push.ensures.items
    (rosters_more tables.run.records tables.run.family.tasks tables.sizes c.loop-index.index
    c.loop-index.rosters.items c.in_ok-empty_roster.field-0 c.loop-index.invariant
    c.in_ok-empty_roster.ensures)

pub roster_count-count-requires : goal.roster_count-count-requires
roster_count-count-requires c =
    let tables = c.args.tables.now in
    subst AreTeamsWithin (sym c.teams.ensures.value)
    (teams_within tables.run.records (length tables.run.records) tables.run.family.tasks tables.teams
    c.teams.ensures.are_tables.teams)

pub empty_roster-requires : goal.empty_roster-requires
empty_roster-requires c =
    let all = c.teams.ensures.are_tables.teams.all in
    let same = ap length c.teams.ensures.value in
    omega (arith, c.loop-index-test.true, c.roster_count-count.ensures.few, all, same)

pub returns : goal.returns
returns c =
    let tables = c.args.tables.now in
    let are = c.teams.ensures.are_tables in
    let last : c.loop-index.index ≡ c.roster_count-count.result =
    omega (arith, c.loop-index-test.false, c.loop-index.auto.index-end) in
    let P : List (Option ℕ) → Type 0 =
    λ teams. AreTeamsBelow teams (length teams) c.roster_count-count.result in
    let Q : ℕ → Type 0 = AreTeamsBelow tables.teams (length tables.teams) in
    rosters_enrolled tables.run.records tables.run.family.tasks tables.sizes tables.teams c.loop-index.index
    c.loop-index.rosters.items are.run.family.once are.run.family.makers.apart are.sizes are.teams
    (subst Q (sym last) (subst P c.teams.ensures.value c.roster_count-count.ensures.all))
    c.loop-index.invariant
