use Rattle.std.proofs.Common.{◌≡◌, ◌∙◌, ◌<◌, Some, length, sym, ap, arith}
use Rattle.std.specs.Prelude.{slice_get}
use Rattle.teams.proofs.CallLemmas.{read_at}
use Rattle.teams.proofs.FewestLemmas.{fewest_same, fewest_more}
use Rattle.teams.proofs.fewest.find_fewest.Goals as goal
use Rattle.teams.proofs.fewest.find_fewest.Goals.{in-Some, in_default}

pub loop-index-preserved : goal.loop-index-preserved
loop-index-preserved c =
    let teams = c.args.teams.now in
    let begins = c.args.begins.now in
    let n = c.loop-index.index in
    let fewest = c.loop-index.fewest.items in
    let here = read_at teams n c.index-teams-index.result c.loop-index-test.true c.index-teams-index.is in
    elim c.match-get.branch [
      | in-Some w ↦
          let team = w.in-Some.team in
          let is_team : slice_get teams n ≡ Some (Some team) =
          here ∙ ap Some (sym c.get.ensures ∙ w.in-Some.is) in
          let below = c.requires.within n team is_team in
          let all = c.loop-index.invariant.all in
          let within : team < length fewest = omega (arith, below, all) in
          rw w.fewest-is
          (fewest_more teams begins n team w.index.result.now (length w.row.result.now) w.lesser.result
          fewest c.loop-index.invariant is_team
          (read_at fewest team w.index.result.now within w.index.ensures) (ap length w.row.ensures)
          w.lesser.ensures)
      | in_default w ↦
          rw w.fewest-is
          (fewest_same teams begins n fewest c.loop-index.invariant
          (here ∙ ap Some (sym c.get.ensures ∙ w.in_default.is)))
    ]
