-- What one record does to what is kept for the ends of regions that wait for tasks, whatever the record is.
use Rattle.std.specs.Prelude.{ℕ, ◌≡◌, List, [], ◌∷◌, ◌++◌, length, Some}
use Rattle.ompt_events.specs.declared.records.Record.{Record}
use Rattle.ompt_events.specs.declared.names.SyncKind.{SyncKind}
use Rattle.ompt_events.specs.declared.names.Endpoint.{Endpoint}
use Rattle.ompt_events.specs.Records.{region}
use Rattle.online.specs.declared.waits.Waits.{Waits}
use Rattle.online.specs.Waits.{IsWaitsOf, MayFollow, IsCoverComplete}
use Rattle.online.specs.Teams.{AreTeamsBefore, AreTeamsOf, FindsRoom}
use Rattle.online.specs.Kept.{kept_by, teams_by}

-- what is kept becomes what the records leave with this one, but for the end of a barrier there
pub record StepsBefore (r : Record) (old new : Waits) : Type 0 where
  pub tasks : (rs : List Record) → MayFollow rs r → IsWaitsOf rs (kept_by old)
      → IsWaitsOf (rs ++ r ∷ []) (kept_by new)
  pub teams : (rs : List Record) → MayFollow rs r → FindsRoom rs r → IsWaitsOf rs (kept_by old)
      → AreTeamsOf rs (kept_by old) (teams_by old)
      → AreTeamsBefore (rs ++ r ∷ []) (length rs) (kept_by new) (teams_by new)

-- what is kept becomes what the records leave with this one
pub record TakesStep (r : Record) (old new : Waits) : Type 0 where
  pub tasks : (rs : List Record) → MayFollow rs r → IsWaitsOf rs (kept_by old)
      → IsWaitsOf (rs ++ r ∷ []) (kept_by new)
  pub teams : (rs : List Record) → MayFollow rs r → FindsRoom rs r → IsWaitsOf rs (kept_by old)
      → AreTeamsOf rs (kept_by old) (teams_by old)
      → AreTeamsOf (rs ++ r ∷ []) (kept_by new) (teams_by new)

-- and what the end of a region there covers is complete
pub record TakesRecord (r : Record) (old new : Waits) : Type 0 where
  pub step : TakesStep r old new
  pub complete : (rs : List Record) → MayFollow rs r → FindsRoom rs r → IsWaitsOf rs (kept_by old)
      → AreTeamsOf rs (kept_by old) (teams_by old) → IsCoverComplete rs r

-- the record begins or ends a region of the task, and names the length seen
pub record IsOfRegion (task : ℕ) (kind : SyncKind) (endpoint : Endpoint) (seen : ℕ) (r : Record)
    : Type 0 where
  pub says : region r.body ≡ Some (task, kind, endpoint)
  pub seen_is : r.seen ≡ seen
