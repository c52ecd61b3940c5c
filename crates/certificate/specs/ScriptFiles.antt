-- What a script file stands for.
use Rattle.std.specs.Prelude.{ℕ, ◌==◌, ◌&&◌, ◌||◌, Bool, not, List, [], ◌∷◌, ◌++◌}
use Rattle.std.specs.Prelude.{Result, Ok, Err, codes, nat_lt, if◌then◌else◌}
use Rattle.ompt_events.specs.Limits.{max_threads}
use Rattle.scripts.specs.declared.fault.ScriptFault.{ScriptFault}
use Rattle.scripts.specs.declared.fault.ScriptFault.TheVariants as fault
use Rattle.scripts.specs.Scripts.{ScriptView, empty_script, may_follow, is_full, step_of}
use Rattle.lines.specs.declared.cause.ReadCause.{ReadCause}
use Rattle.lines.specs.declared.cause.ReadCause.TheVariants.{Memory, Field, Limit}
use Rattle.lines.specs.declared.step_lines.SaidStep.{SaidStep}
use Rattle.lines.specs.RecordLines.{value_of, version_of}
use Rattle.lines.specs.StepLines.{step_said}
use Rattle.certificate.specs.Formats.{Format}

-- what the header says
abbrev pub script_name : List ℕ
script_name = codes "task-credit-script"

-- the version that it gives: 1 or 2
abbrev pub script_header_says : List ℕ → Result ℕ ReadCause
script_header_says line = version_of script_name 2 line

-- the script without a step that a header begins: in the trace of a script of version 2 regions may lie
-- inside others
abbrev pub no_steps : Result ℕ ReadCause → Result ScriptView ReadCause
no_steps (Err cause) = Err cause
no_steps (Ok version) = Ok (record empty_script { nests = version == 2 })

-- the cause of a line whose step is refused
abbrev pub cause_of : ScriptFault → ReadCause
cause_of fault.Misplaced = Field
cause_of fault.Full = Limit
cause_of fault.Memory = Memory

-- whether the numbers and lists of a line are within their limits
abbrev pub is_within : SaidStep → Bool
is_within s = s.loose.fits && nat_lt s.thread max_threads

-- the script with one step more
abbrev pub and_step : ScriptView → SaidStep → ScriptView
and_step before s =
    record before { steps = before.steps ++ step_of before.steps s.thread s.after s.loose.body ∷ [] }

-- the script and one step more, where it may follow the others, before any limit
abbrev pub with_step : ScriptView → Result SaidStep ReadCause → Result ScriptView ReadCause
with_step before (Err cause) = Err cause
with_step before (Ok s) =
    if not (may_follow before.steps s.after s.loose.body) then Err Field
    else if not (is_within s) || is_full before.steps s.loose.body then Err Limit
    else Ok (and_step before s)

-- the script after the line of number n, when this one stands before it
abbrev pub script_adds : ℕ → ScriptView → List ℕ → Result ScriptView ReadCause
script_adds n before line =
    if n == 1 then no_steps (script_header_says line)
    else with_step before (step_said (value_of line))

-- the format of scripts
abbrev pub scripts : Format ScriptView
scripts = record { first = empty_script; adds = script_adds }
