-- What the lines of a script file add.
use Rattle.std.proofs.Common.{Bool, ◌≡◌, ◌≢◌, ℕ, ◌+◌, ◌<◌, List, [], ◌∷◌, length, Option, Some, None}
use Rattle.std.proofs.Common.{Result, Ok, Err, true, false, cond, refl, sym, ap, ◌∙◌, eqb-true, length-append}
use Rattle.std.specs.Prelude.{◌==◌, ◌||◌, not, ok_or, option_and_then, nat_le}
use Rattle.std.proofs.lemmas.Bool.{leb-false}
use Rattle.ompt_events.specs.declared.records.Body.{Body}
use Rattle.ompt_events.specs.Limits.{max_records}
use Rattle.serde_json.specs.Data.{Data}
use Rattle.scripts.specs.declared.fault.ScriptFault.{ScriptFault}
use Rattle.scripts.specs.declared.fault.ScriptFault.TheVariants as fault
use Rattle.scripts.specs.declared.script.Step.{Step}
use Rattle.scripts.specs.Scripts.{ScriptView, empty_script, may_follow, is_full, step_of, step_fault}
use Rattle.lines.specs.declared.cause.ReadCause.{ReadCause}
use Rattle.lines.specs.declared.cause.ReadCause.TheVariants.{Memory, Header, NotJson, Field, Limit}
use Rattle.lines.specs.declared.step_lines.SaidStep.{SaidStep}
use Rattle.lines.specs.RecordLines.{value_of}
use Rattle.lines.specs.StepLines.{step, step_said}
use Rattle.certificate.specs.Reading.{Grows, IsTextCause, HasTextCauses}
use Rattle.certificate.specs.ScriptFiles.{scripts, script_adds, script_header_says, script_name, no_steps}
use Rattle.lines.specs.RecordLines.{version_in}
use Rattle.certificate.specs.ScriptFiles.{and_step, with_step, is_within, cause_of}
use Rattle.lines.proofs.RecordLemmas.{ok_not_err}
use Rattle.certificate.proofs.TraceLemmas.{same_cause}

-- ---- the causes of a line

no_steps-cause : (o : Option ℕ) (e : ReadCause) → Err e ≡ no_steps (ok_or o Header) → IsTextCause e
no_steps-cause None e h = same_cause e Header h tt
no_steps-cause (Some version) e h = absurd (ok_not_err _ e (sym h))

with_step-cause : (before : ScriptView) (o : Option Data) (e : ReadCause)
    → Err e ≡ with_step before (step_said o) → IsTextCause e
with_step-cause before None e h = same_cause e NotJson h tt
with_step-cause before (Some d) e h = by_step (step d) h
  where
    by_step : (o : Option SaidStep) → Err e ≡ with_step before (ok_or o Field) → IsTextCause e
    by_step None h = same_cause e Field h tt
    by_step (Some s) h =
        let more : ScriptView = and_step before s in
        let past : Bool = not (is_within s) || is_full before.steps s.loose.body in
        elim (may_follow before.steps s.after s.loose.body) as
        (λ b. Err e ≡ cond (not b) (Err Field) (cond past (Err Limit) (Ok more)) → IsTextCause e) [
          | true ↦
              elim past as (λ b. Err e ≡ cond b (Err Limit) (Ok more) → IsTextCause e) [
                | true ↦ λ full. same_cause e Limit full tt
                | false ↦ λ kept. absurd (ok_not_err _ e (sym kept))
              ]
          | false ↦ λ no. same_cause e Field no tt
        ] h

pub scripts-text_causes : HasTextCauses scripts
scripts-text_causes n before line e h =
    elim (n == 1) as
    (λ b.
    Err e ≡ cond b (no_steps (script_header_says line)) (with_step before (step_said (value_of line)))
    → IsTextCause e) [
      | true ↦ λ first. no_steps-cause (option_and_then (version_in script_name 2) (value_of line)) e first
      | false ↦ λ later. with_step-cause before (value_of line) e later
    ] h

-- ---- how many steps there are

no_steps-empty : (after : ScriptView) (o : Result ℕ ReadCause) → Ok after ≡ no_steps o
    → length after.steps ≡ 0
no_steps-empty after (Err e) h = absurd (ok_not_err _ e h)
no_steps-empty after (Ok version) h =
    let is : after ≡ record empty_script { nests = version == 2 } = cc in
    ap (λ (v : ScriptView). length v.steps) is

steps_room : (steps : List Step) (body : Body) (past : Bool) → (past || is_full steps body) ≡ false
    → length steps < max_records
steps_room steps body true e = absurd (let no : true ≡ false = e in cc)
steps_room steps body false e =
    leb-false max_records (length steps) (left (nat_le max_records (length steps)) _ e)
  where
    left : (a b : Bool) → (a || b) ≡ false → a ≡ false
    left false b e = refl
    left true b e = e

with_step-grows : (before after : ScriptView) (o : Result SaidStep ReadCause)
    → Ok after ≡ with_step before o
    → (length after.steps ≡ length before.steps + 1) × (length before.steps < max_records)
with_step-grows before after (Err e) h = absurd (ok_not_err _ e h)
with_step-grows before after (Ok s) h =
    let one = step_of before.steps s.thread s.after s.loose.body in
    let more : ScriptView = and_step before s in
    let past : Bool = not (is_within s) || is_full before.steps s.loose.body in
    elim (may_follow before.steps s.after s.loose.body) as
    (λ b.
    Ok after ≡ cond (not b) (Err Field) (cond past (Err Limit) (Ok more))
    → (length after.steps ≡ length before.steps + 1) × (length before.steps < max_records)) [
      | true ↦
          elim past as
          (λ b.
          past ≡ b → Ok after ≡ cond b (Err Limit) (Ok more)
          → (length after.steps ≡ length before.steps + 1) × (length before.steps < max_records)) [
            | true ↦ λ _ full. absurd (ok_not_err _ Limit full)
            | false ↦ λ room same.
                let is : after ≡ more = cc in (
                  ap (λ (v : ScriptView). length v.steps) is ∙ length-append before.steps (one ∷ []),
                  steps_room before.steps s.loose.body (not (is_within s)) room,
                )
          ] refl
      | false ↦ λ no. absurd (ok_not_err _ Field no)
    ] h

pub Grows-script : (n : ℕ) (before after : ScriptView) (line : List ℕ)
    → Ok after ≡ script_adds n before line → Grows n before.steps after.steps
Grows-script n before after line h =
    elim (n == 1) as
    (λ b.
    n == 1 ≡ b
    → Ok after
    ≡ cond b (no_steps (script_header_says line))
    (with_step before (step_said (value_of line)))
    → Grows n before.steps after.steps) [
      | true ↦
          λ is first. record {
            one = rw is (no_steps-empty after (script_header_says line) first);
            room = λ other. absurd (other (eqb-true n 1 is));
          }
      | false ↦ λ is later.
          let grown = with_step-grows before after (step_said (value_of line)) later in
          record { one = rw is grown.0; room = λ _. grown.1 }
    ] refl h

-- ---- one step more, or none

pub add-refused : (before : ScriptView) (s : SaidStep) (refused : ScriptFault) → is_within s ≡ true
    → refused ≡ step_fault before.steps s.after s.loose.body
    → ◌≢◌ {A = Result ScriptView ReadCause} (Err (cause_of refused)) (Err Memory)
    → ◌≡◌ {A = Result ScriptView ReadCause} (Err (cause_of refused)) (with_step before (Ok s))
add-refused before s refused within is other =
    let body = s.loose.body in
    rw within (by_tests (may_follow before.steps s.after body) (is_full before.steps body) (and_step before s)
    refused is other)
  where
    by_tests : (may full : Bool) (more : ScriptView) (refused : ScriptFault)
        → refused ≡ cond may (cond full fault.Full fault.Memory) fault.Misplaced
        → ◌≢◌ {A = Result ScriptView ReadCause} (Err (cause_of refused)) (Err Memory)
        → ◌≡◌ {A = Result ScriptView ReadCause} (Err (cause_of refused))
        (cond (not may) (Err Field) (cond full (Err Limit) (Ok more)))
    by_tests true true more refused e other = ap (λ f. Err (cause_of f)) e
    by_tests true false more refused e other = absurd (other (ap (λ f. Err (cause_of f)) e))
    by_tests false full more refused e other = ap (λ f. Err (cause_of f)) e

pub past-limit : (before : ScriptView) (s : SaidStep) → is_within s ≡ false
    → ◌≡◌ {A = Result ScriptView ReadCause}
    (Err (cond (may_follow before.steps s.after s.loose.body) Limit Field)) (with_step before (Ok s))
past-limit before s past = rw past (by_test (may_follow before.steps s.after s.loose.body))
  where
    by_test : (may : Bool)
        → ◌≡◌ {A = Result ScriptView ReadCause} (Err (cond may Limit Field))
        (cond (not may) (Err Field) (Err Limit))
    by_test true = refl
    by_test false = refl
