-- More that records say of all but turns.
use Rattle.std.proofs.Common.{ℕ, Bool, refl}
use Rattle.ompt_events.specs.declared.records.Body.TheVariants.{TaskSchedule, ImplicitTask}
use Rattle.ompt_events.specs.declared.names.Endpoint.TheVariants.{End}
use Rattle.ompt_events.specs.declared.names.Status.TheVariants.{EarlyFulfill, LateFulfill, Switch}
use Rattle.ompt_events.specs.declared.names.Status.TheVariants.{TaskwaitComplete, Yield}
use Rattle.ompt_events.specs.Records.{made, forked, region_named, ended_root, started, wait_completed}
use Rattle.ompt_events.specs.Records.{created_with_deps, discarded, fulfilled, flags, named, suspended}
use Rattle.ompt_events.specs.Threads.{Walk, after_body}
use Rattle.ompt_events.specs.States.{moves_by}
use Rattle.task_tree.proofs.BlindLemmas.{IsBlind}

pub blind_made : IsBlind made
blind_made (TaskSchedule status turns prior next claimed) = refl
blind_made (ImplicitTask End actual index given parallel task) = refl
blind_made _ = refl

pub blind_forked : IsBlind forked
blind_forked (TaskSchedule status turns prior next claimed) = refl
blind_forked (ImplicitTask End actual index given parallel task) = refl
blind_forked _ = refl

pub blind_region_named : IsBlind region_named
blind_region_named (TaskSchedule status turns prior next claimed) = refl
blind_region_named (ImplicitTask End actual index given parallel task) = refl
blind_region_named _ = refl

pub blind_ended_root : IsBlind ended_root
blind_ended_root (TaskSchedule status turns prior next claimed) = refl
blind_ended_root (ImplicitTask End actual index given parallel task) = refl
blind_ended_root _ = refl

pub blind_started : IsBlind started
blind_started (TaskSchedule status turns prior next claimed) = refl
blind_started (ImplicitTask End actual index given parallel task) = refl
blind_started _ = refl

pub blind_wait_completed : IsBlind wait_completed
blind_wait_completed (TaskSchedule TaskwaitComplete turns prior next claimed) = refl
blind_wait_completed (ImplicitTask End actual index given parallel task) = refl
blind_wait_completed _ = refl

pub blind_created_with_deps : IsBlind created_with_deps
blind_created_with_deps (TaskSchedule status turns prior next claimed) = refl
blind_created_with_deps (ImplicitTask End actual index given parallel task) = refl
blind_created_with_deps _ = refl

pub blind_discarded : IsBlind discarded
blind_discarded (TaskSchedule status turns prior next claimed) = refl
blind_discarded (ImplicitTask End actual index given parallel task) = refl
blind_discarded _ = refl

pub blind_fulfilled : IsBlind fulfilled
blind_fulfilled (TaskSchedule EarlyFulfill turns prior next claimed) = refl
blind_fulfilled (TaskSchedule LateFulfill turns prior next claimed) = refl
blind_fulfilled (ImplicitTask End actual index given parallel task) = refl
blind_fulfilled _ = refl

pub blind_flags : IsBlind flags
blind_flags (TaskSchedule status turns prior next claimed) = refl
blind_flags (ImplicitTask End actual index given parallel task) = refl
blind_flags _ = refl

pub blind_named : IsBlind named
blind_named (TaskSchedule status turns prior next claimed) = refl
blind_named (ImplicitTask End actual index given parallel task) = refl
blind_named _ = refl

pub blind_suspended : IsBlind suspended
blind_suspended (TaskSchedule Yield turns prior next claimed) = refl
blind_suspended (TaskSchedule Switch turns prior next claimed) = refl
blind_suspended (ImplicitTask End actual index given parallel task) = refl
blind_suspended _ = refl

pub blind_walk : (nests : Bool) (walk : Walk) → IsBlind (after_body nests walk)
blind_walk nests walk (TaskSchedule status turns prior next claimed) = refl
blind_walk nests walk (ImplicitTask End actual index given parallel task) = refl
blind_walk nests walk _ = refl

pub blind_moves : (task : ℕ) → IsBlind (moves_by task)
blind_moves task (TaskSchedule status turns prior next claimed) = refl
blind_moves task (ImplicitTask End actual index given parallel own) = refl
blind_moves task _ = refl
