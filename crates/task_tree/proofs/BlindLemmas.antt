-- What records say of all but turns is the same whatever turns they tell.
use Rattle.std.proofs.Common.{◌≡◌, ◌∙◌, ℕ, List, Option, Some, None, refl, sym, ap}
use Rattle.std.specs.Prelude.{slice_get, option_and_then}
use Rattle.ompt_events.specs.declared.records.Record.{Record}
use Rattle.ompt_events.specs.declared.records.Body.{Body}
use Rattle.ompt_events.specs.declared.records.Body.TheVariants.{TaskSchedule, ImplicitTask}
use Rattle.ompt_events.specs.declared.names.Endpoint.TheVariants.{End}
use Rattle.ompt_events.specs.Records.{begun_root, begun_initial, joined, created, creation, dependences}
use Rattle.ompt_events.specs.Records.{running, region, finish, claim}
use Rattle.ompt_events.specs.Places.{at}
use Rattle.task_tree.specs.Renaming.{untold, SayAlike}

-- it is read of a record whatever turns that tells
abbrev pub IsBlind : {X : Type 0} → (Body → X) → Type 0
IsBlind f = (body : Body) → f (untold body) ≡ f body

-- the same record says the same
pub alike_same : (rs : List Record) (i : ℕ) (ss : List Record) (j : ℕ) → slice_get rs i ≡ slice_get ss j
    → SayAlike rs i ss j
alike_same rs i ss j same = ap (option_and_then (λ (r : Record). Some (untold r.body))) same

-- where records say alike, what is read so is the same
pub blind_at : {X : Type 0} (f : Body → Option X) → IsBlind f
    → (rs : List Record) (i : ℕ) (ss : List Record) (j : ℕ) → SayAlike rs i ss j → at f rs i ≡ at f ss j
blind_at {X} f blind rs i ss j alike =
    sym (through (slice_get rs i)) ∙ ap (option_and_then f) alike ∙ through (slice_get ss j)
  where
    through : (o : Option Record)
        → option_and_then f (option_and_then (λ (r : Record). Some (untold r.body)) o)
        ≡ option_and_then (λ (r : Record). f r.body) o
    through None = refl
    through (Some r) = blind r.body

pub blind_running : IsBlind running
blind_running (TaskSchedule status turns prior next claimed) = refl
blind_running (ImplicitTask End actual index given parallel task) = refl
blind_running _ = refl

pub blind_joined : IsBlind joined
blind_joined (TaskSchedule status turns prior next claimed) = refl
blind_joined (ImplicitTask End actual index given parallel task) = refl
blind_joined _ = refl

pub blind_creation : IsBlind creation
blind_creation (TaskSchedule status turns prior next claimed) = refl
blind_creation (ImplicitTask End actual index given parallel task) = refl
blind_creation _ = refl

pub blind_begun_root : IsBlind begun_root
blind_begun_root (TaskSchedule status turns prior next claimed) = refl
blind_begun_root (ImplicitTask End actual index given parallel task) = refl
blind_begun_root _ = refl

pub blind_created : IsBlind created
blind_created (TaskSchedule status turns prior next claimed) = refl
blind_created (ImplicitTask End actual index given parallel task) = refl
blind_created _ = refl

pub blind_begun_initial : IsBlind begun_initial
blind_begun_initial (TaskSchedule status turns prior next claimed) = refl
blind_begun_initial (ImplicitTask End actual index given parallel task) = refl
blind_begun_initial _ = refl

pub blind_dependences : IsBlind dependences
blind_dependences (TaskSchedule status turns prior next claimed) = refl
blind_dependences (ImplicitTask End actual index given parallel task) = refl
blind_dependences _ = refl

pub blind_region : IsBlind region
blind_region (TaskSchedule status turns prior next claimed) = refl
blind_region (ImplicitTask End actual index given parallel task) = refl
blind_region _ = refl

pub blind_finish : IsBlind finish
blind_finish (TaskSchedule status turns prior next claimed) = refl
blind_finish (ImplicitTask End actual index given parallel task) = refl
blind_finish _ = refl

pub blind_claim : IsBlind claim
blind_claim (TaskSchedule status turns prior next claimed) = refl
blind_claim (ImplicitTask End actual index given parallel task) = refl
blind_claim _ = refl
