-- A callback as it is read before its limits are asked for: its numbers cut short where they are past their
-- limits, and whether none is.
use Rattle.std.specs.Prelude.{ℕ, map, Option, Result, option_map, ok_or, if◌then◌else◌}
use Rattle.ompt_events.specs.declared.records.Claim.{Claim}
use Rattle.ompt_events.specs.declared.records.Turns.{Turns}
use Rattle.ompt_events.specs.declared.records.Body.{Body}
use Rattle.ompt_events.specs.declared.records.Body.TheVariants.{ParallelBegin, ImplicitTask, TaskSchedule}
use Rattle.ompt_events.specs.declared.records.Body.TheVariants.{Cancel}
use Rattle.lines.specs.declared.bodies.Loose.{Loose}
use Rattle.lines.specs.declared.bodies.LooseClaim.{LooseClaim}
use Rattle.lines.specs.declared.bodies.LooseTurns.{LooseTurns}
use Rattle.lines.specs.declared.cause.ReadCause.{ReadCause}
use Rattle.lines.specs.declared.cause.ReadCause.TheVariants.{Field}
use Rattle.lines.specs.RecordLines.{is_short, claim_if_fits, turns_if_fit, body_fits}

-- a number, or where it has more than 32 bits the greatest one that has not
abbrev pub cut_short : ℕ → ℕ
cut_short n = if is_short n then n else 4294967295

abbrev pub cut_claim : Claim → Claim
cut_claim c = record { kept = cut_short c.kept; root = c.root; path = map cut_short c.path }

abbrev pub cut_turns : Turns → Turns
cut_turns t = record { prior = cut_short t.prior; next = cut_short t.next }

abbrev pub cut_body : Body → Body
cut_body (ParallelBegin requested task parallel) = ParallelBegin (cut_short requested) task parallel
cut_body (ImplicitTask endpoint actual index given parallel task) =
    ImplicitTask endpoint (cut_short actual) (cut_short index) given parallel task
cut_body (TaskSchedule status turns prior next claim) =
    TaskSchedule status (option_map cut_turns turns) prior next (option_map cut_claim claim)
cut_body (Cancel given task claim) = Cancel given task (option_map cut_claim claim)
cut_body body = body

abbrev pub loose_claim : Option Claim → LooseClaim
loose_claim claim = record { claim = option_map cut_claim claim; fits = claim_if_fits claim }

abbrev pub loose_turns : Option Turns → LooseTurns
loose_turns turns = record { turns = option_map cut_turns turns; fits = turns_if_fit turns }

abbrev pub loose_body : Body → Loose
loose_body body = record { body = cut_body body; fits = body_fits body }

-- what is read of a callback
abbrev pub read_loosely : Option Body → Result Loose ReadCause
read_loosely body = ok_or (option_map loose_body body) Field
