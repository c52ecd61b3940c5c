-- What records say of all but the team of a task that ends.
use Rattle.std.proofs.Common.{◌≡◌, ◌∙◌, refl, sym, ap}
use Rattle.ompt_events.specs.declared.records.Body.{Body}
use Rattle.ompt_events.specs.declared.records.Body.TheVariants.{TaskSchedule, ImplicitTask}
use Rattle.ompt_events.specs.declared.names.Endpoint.TheVariants.{End}
use Rattle.ompt_events.specs.declared.names.Status.TheVariants.{Yield, Switch}
use Rattle.ompt_events.specs.Records.{told_turns, begun_turn, ended_turn, suspended_turn, begun_root, started}
use Rattle.ompt_events.specs.Records.{created, forked, running, wait_completed}
use Rattle.ompt_events.specs.Ends.{without_team}
use Rattle.task_tree.specs.Renaming.{untold}
use Rattle.task_tree.proofs.BlindLemmas.{IsBlind, blind_begun_root, blind_created, blind_running}
use Rattle.checker.proofs.BlindBodyLemmas.{blind_forked, blind_started, blind_wait_completed}

-- it is read of a record whatever that says of the team of a task that ends
abbrev pub IsTeamBlind : {X : Type 0} → (Body → X) → Type 0
IsTeamBlind f = (body : Body) → f (without_team body) ≡ f body

pub team_untold : IsTeamBlind untold
team_untold (TaskSchedule status turns prior next claimed) = refl
team_untold (ImplicitTask End actual index given parallel task) = refl
team_untold _ = refl

-- so is what is read of it whatever turns it tells
pub team_blind : {X : Type 0} (f : Body → X) → IsBlind f → IsTeamBlind f
team_blind f blind body = sym (blind (without_team body)) ∙ ap f (team_untold body) ∙ blind body

pub team_root : IsTeamBlind begun_root
team_root = team_blind begun_root blind_begun_root

pub team_started : IsTeamBlind started
team_started = team_blind started blind_started

pub team_created : IsTeamBlind created
team_created = team_blind created blind_created

pub team_forked : IsTeamBlind forked
team_forked = team_blind forked blind_forked

pub team_running : IsTeamBlind running
team_running = team_blind running blind_running

pub team_completed : IsTeamBlind wait_completed
team_completed = team_blind wait_completed blind_wait_completed

pub team_twice : IsTeamBlind without_team
team_twice (ImplicitTask End actual index given parallel task) = refl
team_twice _ = refl

-- ---- turns

pub team_told : IsTeamBlind told_turns
team_told (ImplicitTask End actual index given parallel task) = refl
team_told _ = refl

pub team_begun : IsTeamBlind begun_turn
team_begun (ImplicitTask End actual index given parallel task) = refl
team_begun _ = refl

pub team_ended : IsTeamBlind ended_turn
team_ended (ImplicitTask End actual index given parallel task) = refl
team_ended _ = refl

pub team_suspended : IsTeamBlind suspended_turn
team_suspended (ImplicitTask End actual index given parallel task) = refl
team_suspended (TaskSchedule Yield turns prior next claimed) = refl
team_suspended (TaskSchedule Switch turns prior next claimed) = refl
team_suspended _ = refl
