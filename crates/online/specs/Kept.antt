-- What is kept of each task and of each team.
use Rattle.std.specs.Prelude.{ℕ, Option, nat_eq}
use Rattle.std.specs.HashMap.{get}
use Rattle.online.specs.declared.kin.Kin.{Kin}
use Rattle.online.specs.declared.team.Team.{Team}
use Rattle.online.specs.declared.waits.Waits.{Waits}

-- what is kept of the task with this id
abbrev pub kept_by : Waits → ℕ → Option Kin
kept_by w = get nat_eq w.table

-- what is kept of the team of this parallel region
abbrev pub teams_by : Waits → ℕ → Option Team
teams_by w = get nat_eq w.teams
