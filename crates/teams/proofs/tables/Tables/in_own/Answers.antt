use Rattle.std.proofs.Common.{ℕ, List, ◌≤◌, ◌^◌, length, sym, subst}
use Rattle.std.specs.Global.{Vec}
use Rattle.task_tree.specs.Runs.{RunView}
use Rattle.teams.specs.Fewest.{AreTeamsWithin, AreShort}
use Rattle.teams.proofs.ShortLemmas.{teams_within, begins_short}
use Rattle.teams.proofs.tables.Tables.in_own.Goals as goal

pub find_fewest-requires-clause-within : goal.find_fewest-requires-clause-within
find_fewest-requires-clause-within c =
    let run = c.run-run.result.now in
    subst AreTeamsWithin (sym c.as_slice.ensures.value)
    (teams_within run.records (length run.records) run.family.tasks c.in_ok-teams.field-0.teams.items
    c.in_ok-teams.ensures.teams)

pub find_fewest-requires-clause-few : goal.find_fewest-requires-clause-few
find_fewest-requires-clause-few c =
    let run = c.run-run.result.now in
    let P : RunView → Type 0 = λ r. length r.records ≤ 2 ^ 22 in
    let few : length run.records ≤ 2 ^ 22 =
    subst P (sym c.run-run.ensures.value) c.run-run.ensures.is_own.run.trace.few_records in
    let Q : List (Vec ℕ) → Type 0 = λ rows. AreShort rows (2 ^ 22) in
    subst Q (sym c.as_slice-2.ensures.value)
    (begins_short run.records (length run.records) (2 ^ 22) run.family.tasks
    c.in_ok-begins.field-0.begins.items c.in_ok-begins.ensures.begins few)
