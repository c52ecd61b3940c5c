use Rattle.std.proofs.Common.{ℕ, Bor}
use Rattle.std.specs.Prelude.{All}
use Rattle.online.specs.declared.team.Team.{Team}
use Rattle.online.specs.Teams.{HasBegunAll}
use Rattle.online.proofs.teams.have_begun_all.Given as goal

abbrev pub invariant-loop-team : goal.invariant-loop-team
invariant-loop-team l = All (λ (p : Bor ℕ × Bor Team). HasBegunAll p.1.now) l.yielded
