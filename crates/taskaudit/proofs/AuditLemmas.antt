-- What an audit tells and leaves, once what is shown of a verdict was written or broke off.
use Rattle.std.proofs.Common.{◌≡◌, ◌≢◌, ◌<◌, ◌≤◌, ◌∙◌, ℕ, None, arith, List, Option, Result, Ok, Err}
use Rattle.std.proofs.Common.{IfOk, IfErr, OnOk, take, refl, sym}
use Rattle.std.specs.Io.KnownBytes.{Appends}
use Rattle.ompt_events.specs.Traces.{TraceView}
use Rattle.certificate.specs.declared.faults.WriteFault.TheVariants as write
use Rattle.certificate.specs.Counts.{TakesTurns, count_more}
use Rattle.certificate.specs.ReadingOn.{ReadsAhead}
use Rattle.checker.specs.declared.verdict.CheckFault.{CheckFault}
use Rattle.checker.specs.declared.verdict.CheckFault.TheVariants as check
use Rattle.checker.specs.declared.verdict.Verdict.{Verdict}
use Rattle.checker.specs.declared.verdict.Verdict.TheVariants.{Yes, No}
use Rattle.checker.specs.declared.verdict.Verdict.TheVariants as found
use Rattle.checker.specs.Gate.{HaveAllPassed, HavePassedFor}
use Rattle.taskaudit.specs.declared.work.AuditFault.{AuditFault}
use Rattle.taskaudit.specs.declared.work.AuditFault.TheVariants.{Read, Write, Check, Call, Upgrade}
use Rattle.taskaudit.specs.declared.work.AuditFault.TheVariants.{Undecided, Memory}
use Rattle.taskaudit.specs.declared.work.Outcome.{Outcome}
use Rattle.taskaudit.specs.declared.work.Outcome.TheVariants.{Malformed}
use Rattle.taskaudit.specs.Audits.{BreaksOff, IsJudged, IsOfCrew, IsWriteFault, Leaves, LeavesOn, Reports}
use Rattle.taskaudit.specs.Audits.{IsReadRightly, Shown}
use Rattle.taskaudit.specs.Devices.{read_cause_of}
use Rattle.taskaudit.specs.Reports.{outcome_of}
use Rattle.taskaudit.proofs.HeadlineLemmas.{synchronised}

module _ (shown : Shown) (bytes old new : Option (List ℕ)) (trace : TraceView) (verdict : Verdict)
    (text : List ℕ)
    (judged : IsJudged bytes trace verdict) (printed : shown trace verdict text) where
  pub reports_of : (r : Result Outcome AuditFault) → IfOk r (λ outcome. outcome ≡ outcome_of verdict)
      → OnOk r (Appends old new text)
      → IfOk r (Reports shown bytes old new)
  reports_of (Ok outcome) kind written = record {
    trace = trace;
    verdict = verdict;
    judged = judged;
    text = text;
    printed = printed;
    written = written;
    kind = kind;
    kept = λ yes. synchronised trace.records verdict judged.right (sym kind ∙ yes);
  }
  reports_of (Err f) kind written = tt

  breaks_off : (count : ℕ) → Appends old new (take count text) → BreaksOff shown bytes old new
  breaks_off count part = record {
    trace = trace;
    verdict = verdict;
    judged = judged;
    text = text;
    printed = printed;
    count = count;
    written = part;
  }

  leaves_by : (f : AuditFault) → IsWriteFault (λ n. Appends old new (take n text)) f
      → Leaves shown bytes old new f
  leaves_by (Write write.Device) h = breaks_off h.0 h.1
  leaves_by (Write write.Memory) h = absurd h
  leaves_by (Write write.TurnsSpent) h = breaks_off h.0 h.1
  leaves_by (Read f) h = absurd h
  leaves_by (Check f) h = absurd h
  leaves_by (Call line f) h = absurd h
  leaves_by (Upgrade line f) h = absurd h
  leaves_by (Undecided line test) h = absurd h
  leaves_by Memory h = absurd h

  pub leaves_of : (r : Result Outcome AuditFault)
      → IfErr r (IsWriteFault (λ n. Appends old new (take n text)))
      → IfErr r (Leaves shown bytes old new)
  leaves_of (Ok outcome) h = tt
  leaves_of (Err f) h = leaves_by f h

-- what the faults of a check by a crew of 1 to 256 tell
pub of_crew : (workers : ℕ) (may_refuse passed : ℕ → Type 0) (r : Result Verdict CheckFault)
    → 1 ≤ workers → workers ≤ 256
    → (r ≡ Err check.Workers → 1 ≤ workers → 256 < workers)
    → ((worker : ℕ) → r ≡ Err (check.Gate worker) → (worker < workers) × may_refuse worker)
    → ((worker : ℕ) → r ≡ Err (check.Gate worker) → HaveAllPassed passed worker)
    → r ≢ Err check.Thread → IfErr r (λ fault. IsOfCrew workers may_refuse passed (Check fault))
of_crew workers may_refuse passed (Ok verdict) some few wrong gate before thread = tt
of_crew workers may_refuse passed (Err check.Memory) some few wrong gate before thread = tt
of_crew workers may_refuse passed (Err check.Workers) some few wrong gate before thread =
    absurd (let past = wrong refl some in omega (arith, past, few))
of_crew workers may_refuse passed (Err (check.Gate worker)) some few wrong gate before thread =
    ((gate worker refl).0, (gate worker refl).1, before worker refl)
of_crew workers may_refuse passed (Err check.Thread) some few wrong gate before thread =
    absurd (thread refl)

-- an audit by workers leaves the same, and they have passed the gate
pub leaves_on : (shown : Shown) (workers : ℕ) (may_refuse passed : ℕ → Type 0)
    (bytes old new : Option (List ℕ))
    (trace : TraceView) (verdict : Verdict) (text : List ℕ)
    → IsJudged bytes trace verdict → shown trace verdict text
    → HavePassedFor passed workers verdict → (r : Result Outcome AuditFault)
    → IfErr r (IsWriteFault (λ n. Appends old new (take n text)))
    → IfErr r (LeavesOn shown workers may_refuse passed bytes old new)
leaves_on shown workers may_refuse passed bytes old new trace verdict text judged printed have r part =
    of r part
  where
    off : (count : ℕ) → Appends old new (take count text)
        → (broken : BreaksOff shown bytes old new) × HavePassedFor passed workers broken.verdict
    off count left = (
      record {
        trace = trace;
        verdict = verdict;
        judged = judged;
        text = text;
        printed = printed;
        count = count;
        written = left;
      },
      have,
    )

    of : (r : Result Outcome AuditFault) → IfErr r (IsWriteFault (λ n. Appends old new (take n text)))
        → IfErr r (LeavesOn shown workers may_refuse passed bytes old new)
    of (Ok outcome) h = tt
    of (Err (Write write.Device)) h = off h.0 h.1
    of (Err (Write write.Memory)) h = absurd h
    of (Err (Write write.TurnsSpent)) h = off h.0 h.1
    of (Err (Read f)) h = absurd h
    of (Err (Check f)) h = absurd h
    of (Err (Call line f)) h = absurd h
    of (Err (Upgrade line f)) h = absurd h
    of (Err (Undecided line test)) h = absurd h
    of (Err Memory) h = absurd h

-- where a yes or a no is told the workers have passed the gate
pub passed_by : (passed : ℕ → Type 0) (workers : ℕ) (verdict : Verdict) (r : Result Outcome AuditFault)
    → HavePassedFor passed workers verdict → IfOk r (λ outcome. outcome ≡ outcome_of verdict)
    → IfOk r (λ outcome. outcome ≢ Malformed → HaveAllPassed passed workers)
passed_by passed workers verdict (Err f) have kind = tt
passed_by passed workers (Yes order) (Ok outcome) have kind = λ other. have
passed_by passed workers (No i why) (Ok outcome) have kind = λ other. have
passed_by passed workers (found.Malformed i cause) (Ok outcome) have kind = λ other. absurd (other kind)

-- a source that is not read asks for no turn
pub no_turns : (agains : ℕ) → TakesTurns None 0 0 agains agains
unfolding count_more
no_turns agains = record {
  later = omega arith;
  within = omega arith;
  counted = refl;
  spent = (λ told. cc, λ last. absurd (omega arith));
}

-- and nothing is met there
pub nothing_met : (agains breaks : ℕ) → (turns : ℕ) × ReadsAhead None 0 turns agains agains breaks breaks
nothing_met agains breaks =
    (0, record { met = None; taken = no_turns agains; broken = refl; told_after = refl })

-- what ends with the writing reports no cause of reading
pub no_read_cause : {X : Type 0} (part : ℕ → Type 0) (result : Result X AuditFault)
    → IfErr result (IsWriteFault part) → read_cause_of result ≡ None
no_read_cause part (Ok x) fault = refl
no_read_cause part (Err (Write f)) fault = refl
no_read_cause part (Err (Read f)) fault = absurd fault
no_read_cause part (Err (Check f)) fault = refl
no_read_cause part (Err (Call line f)) fault = refl
no_read_cause part (Err (Upgrade line f)) fault = refl
no_read_cause part (Err (Undecided line test)) fault = refl
no_read_cause part (Err Memory) fault = refl

-- nor is it a fault of the input
pub read_rightly : {X : Type 0} (part : ℕ → Type 0) (bytes left : Option (List ℕ))
    (result : Result X AuditFault)
    → IfErr result (IsWriteFault part) → IfErr result (IsReadRightly bytes left)
read_rightly part bytes left (Ok x) fault = tt
read_rightly part bytes left (Err (Write f)) fault = tt
read_rightly part bytes left (Err (Read f)) fault = absurd fault
read_rightly part bytes left (Err (Check f)) fault = tt
read_rightly part bytes left (Err (Call line f)) fault = tt
read_rightly part bytes left (Err (Upgrade line f)) fault = tt
read_rightly part bytes left (Err (Undecided line test)) fault = tt
read_rightly part bytes left (Err Memory) fault = tt
