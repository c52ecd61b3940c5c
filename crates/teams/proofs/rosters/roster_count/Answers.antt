use Rattle.std.proofs.Common.{◌≡◌, ◌∙◌, Some, sym, ap, arith}
use Rattle.std.proofs.Math.Nat.{max-le}
use Rattle.std.specs.Prelude.{slice_get}
use Rattle.teams.proofs.CallLemmas.{read_at}
use Rattle.teams.proofs.RosterLemmas.{below_more, below_same}
use Rattle.teams.proofs.rosters.roster_count.Goals as goal
use Rattle.teams.proofs.rosters.roster_count.Goals.{in-Some, in_default}

pub loop-index-preserved : goal.loop-index-preserved
loop-index-preserved c =
    let teams = c.args.teams.now in
    let n = c.loop-index.index in
    let here = read_at teams n c.index-teams-index.result c.loop-index-test.true c.index-teams-index.is in
    elim c.match-get.branch [
      | in-Some w ↦
          let team = w.in-Some.team in
          let is_team : slice_get teams n ≡ Some (Some team) =
          here ∙ ap Some (sym c.get.ensures ∙ w.in-Some.is) in
          let inside = c.requires n team is_team in
          record {
            few =
                rw (w.count-is, w.greater-count.ensures)
                (max-le c.loop-index.invariant.few (omega (arith, inside)));
            below =
                rw (w.count-is, w.greater-count.ensures)
                (below_more teams n c.loop-index.count team c.loop-index.invariant.below is_team);
          }
      | in_default w ↦ record {
        few = rw w.count-is c.loop-index.invariant.few;
        below =
            rw w.count-is
            (below_same teams n c.loop-index.count c.loop-index.invariant.below
            (here ∙ ap Some (sym c.get.ensures ∙ w.in_default.is)));
      }
    ]
