use Rattle.std.proofs.Common.{◌∙◌, List, ℕ, Option, refl, sym, ap, subst}
use Rattle.ompt_events.specs.declared.cause.Cause.TheVariants.{TeamShort}
use Rattle.task_tree.specs.Own.{IsFirstPlaceWith}
use Rattle.task_tree.specs.Runs.{RunView}
use Rattle.teams.specs.Tables.{TablesView, AreTables, tables_own}
use Rattle.teams.specs.Short.{IsSearched}
use Rattle.teams.specs.Teams.{IsTeams}
use Rattle.teams.proofs.ShortLemmas.{teams_of}
use Rattle.teams.proofs.teams.Teams.in_own.Goals as goal

pub returns-in-Some-clause-fault : goal.returns-in-Some-clause-fault
returns-in-Some-clause-fault c =
    let tables = c.in_ok-tables.tables in
    let at = c.in-Some.at in
    let first : IsFirstPlaceWith (tables_own tables) TeamShort at =
    let P : Option ℕ → Type 0 = IsSearched (tables_own tables) c.find_short.new.rosters.items in
    subst P c.in-Some.is c.find_short.ensures in
    let P : RunView → Type 0 =
    λ r. IsFirstPlaceWith (record { run = r; places = tables.places }) TeamShort at in
    let Q : List ℕ → Type 0 =
    λ places.
    IsFirstPlaceWith (record { run = c.args.regions.now.own.run; places = places }) TeamShort at in
    (refl, subst Q c.in_ok-tables.ensures.places (subst P c.in_ok-tables.ensures.run first))

pub invariant_of-result : goal.invariant_of-result
invariant_of-result c =
    let tables = c.in_ok-tables.tables in
    let rosters = c.find_short.new.rosters.items in
    let are : AreTables tables = subst AreTables c.tables.view_is c.tables.invariant in
    let none =
    let P : Option ℕ → Type 0 = IsSearched (tables_own tables) rosters in
    subst P c.in_default.is c.find_short.ensures in
    let P : TablesView → Type 0 =
    λ t. IsTeams (record {
      run = t.run;
      places = t.places;
      teams = t.teams;
      rosters = rosters;
      begins = t.begins;
      numbers = t.numbers;
    }) in
    let Q : RunView → Type 0 =
    λ r. IsTeams (record {
      run = r;
      places = c.tables.inside.regions.now.own.places;
      teams = c.tables.inside.teams.items;
      rosters = rosters;
      begins = c.tables.inside.begins.items;
      numbers = c.tables.inside.numbers.items;
    }) in
    let R : List ℕ → Type 0 =
    λ places. IsTeams (record {
      run = c.args.regions.now.own.run;
      places = places;
      teams = c.tables.inside.teams.items;
      rosters = rosters;
      begins = c.tables.inside.begins.items;
      numbers = c.tables.inside.numbers.items;
    }) in
    let inside = subst P (sym c.tables.view_is) (teams_of tables rosters are none) in
    subst R (ap (λ (t : TablesView). t.places) c.tables.view_is ∙ c.in_ok-tables.ensures.places)
    (subst Q (ap (λ (t : TablesView). t.run) c.tables.view_is ∙ c.in_ok-tables.ensures.run) inside)

pub returns-clause-teams : goal.returns-clause-teams
returns-clause-teams c =
    let tables = c.in_ok-tables.tables in
    let rosters = c.find_short.new.rosters.items in
    let are : AreTables tables = subst AreTables c.tables.view_is c.tables.invariant in
    let none =
    let P : Option ℕ → Type 0 = IsSearched (tables_own tables) rosters in
    subst P c.in_default.is c.find_short.ensures in
    let P : TablesView → Type 0 =
    λ t. IsTeams (record {
      run = t.run;
      places = t.places;
      teams = t.teams;
      rosters = rosters;
      begins = t.begins;
      numbers = t.numbers;
    }) in
    let Q : RunView → Type 0 =
    λ r. IsTeams (record {
      run = r;
      places = c.tables.inside.regions.now.own.places;
      teams = c.tables.inside.teams.items;
      rosters = rosters;
      begins = c.tables.inside.begins.items;
      numbers = c.tables.inside.numbers.items;
    }) in
    let R : List ℕ → Type 0 =
    λ places. IsTeams (record {
      run = c.args.regions.now.own.run;
      places = places;
      teams = c.tables.inside.teams.items;
      rosters = rosters;
      begins = c.tables.inside.begins.items;
      numbers = c.tables.inside.numbers.items;
    }) in
    let inside = subst P (sym c.tables.view_is) (teams_of tables rosters are none) in
    subst R (ap (λ (t : TablesView). t.places) c.tables.view_is ∙ c.in_ok-tables.ensures.places)
    (subst Q (ap (λ (t : TablesView). t.run) c.tables.view_is ∙ c.in_ok-tables.ensures.run) inside)
