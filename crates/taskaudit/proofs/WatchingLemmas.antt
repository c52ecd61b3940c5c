-- What a watch claims of a file whose records it has taken, and of one of which it has refused a record.
use Rattle.std.proofs.Common.{◌≡◌, ◌∙◌, ◌+◌, ℕ, List, Option, Some, length, take, refl, sym, ap, subst}
use Rattle.std.proofs.Common.{None, Result, Ok, Err, OnOk, IfOk, IfErr}
use Rattle.std.specs.Io.KnownBytes.{Appends}
use Rattle.ompt_events.specs.declared.records.Record.{Record}
use Rattle.ompt_events.specs.declared.cause.Cause.{Cause}
use Rattle.ompt_events.specs.Causes.{HasCause}
use Rattle.ompt_events.specs.Completion.{IsCompleteAt}
use Rattle.ompt_events.specs.Linearization.{IsLinearization, IsGreedy}
use Rattle.ompt_events.specs.Places.{places}
use Rattle.ompt_events.specs.Violations.{IsRequired}
use Rattle.ompt_events.proofs.ListLemmas.{get_last}
use Rattle.certificate.specs.Keeping.{and_record}
use Rattle.certificate.specs.Taking.{FirstLinesSay}
use Rattle.certificate.specs.declared.faults.WriteFault.TheVariants as write
use Rattle.checker.specs.Verdicts.{IsVerdict}
use Rattle.checker.specs.declared.verdict.Verdict.TheVariants as verdict
use Rattle.checker.proofs.EndYesLemmas.{yes_but_for_ends}
use Rattle.online.specs.declared.watch.Test.{Test}
use Rattle.online.specs.declared.watch.Test.TheVariants.{Calls, Regions, Teams, Lengths, Waits, Predecessors}
use Rattle.online.specs.declared.watch.Test.TheVariants.{End}
use Rattle.online.specs.declared.watch.Watch.{Watch}
use Rattle.online.specs.Watches.{HasRefused, HasRefusedStart, IsWatchOf}
use Rattle.taskaudit.specs.declared.watching.Missed.{Missed}
use Rattle.taskaudit.specs.declared.watching.Watching.{Watching}
use Rattle.taskaudit.specs.declared.work.AuditFault.{AuditFault}
use Rattle.taskaudit.specs.declared.work.AuditFault.TheVariants.{Read, Write, Check, Call, Upgrade}
use Rattle.taskaudit.specs.declared.work.AuditFault.TheVariants.{Undecided, Memory}
use Rattle.taskaudit.specs.declared.work.Outcome.{Outcome}
use Rattle.taskaudit.specs.Audits.{IsWriteFault}
use Rattle.taskaudit.specs.Reports.{AreCounts, yes_text, place_text, record_place}
use Rattle.taskaudit.specs.Watchings.{IsWholeTaken, StopsAt, IsYesOf, IsNoOf, BreaksOffWatch, LeavesWatch}
use Rattle.taskaudit.specs.Watchings.{HasFailed, early_text}
use Rattle.taskaudit.proofs.HeadlineLemmas.{synchronised}

-- the records so far may be all
pub record MayEnd (w : Watch) : Type 0 where
  pub clear : (rs : List Record) → IsWatchOf rs w → (i : ℕ) (cause : Cause) → HasCause rs i cause → ⊥
  pub complete : (rs : List Record) → IsWatchOf rs w → (i task : ℕ) → IsRequired rs i task
      → IsCompleteAt rs task i
  pub order : (rs : List Record) → IsWatchOf rs w → IsLinearization rs (places rs) × IsGreedy rs (places rs)

-- the text is the report of a yes on any records that are so many and counted so
abbrev pub TellsYes : Watching → List ℕ → Type 0
TellsYes w text = (rs : List Record) → length rs ≡ w.count → AreCounts rs w.counts → text ≡ yes_text rs

module _ (bytes : Option (List ℕ)) (w : Watching) (ends : MayEnd w.watch) (all : IsWholeTaken bytes w) where
  verdict_yes : IsVerdict all.trace.records (verdict.Yes (places all.trace.records))
  verdict_yes =
      let (rs, alike, kept) = all.taken.watched in
      yes_but_for_ends all.trace.version all.trace.records rs all.records.known all.records.fit alike
      (ends.clear rs kept) (ends.complete rs kept) (ends.order rs kept).0

  pub yes_of : (text : List ℕ) → TellsYes w text → IsYesOf bytes text
  yes_of text tells = record {
    trace = all.trace;
    records = all.records;
    file = all.file;
    right = verdict_yes;
    kept = synchronised all.trace.records (verdict.Yes (places all.trace.records)) verdict_yes refl;
    report = tells all.trace.records (sym all.taken.count) all.taken.counts;
  }

-- ---- a record that was refused

-- what is kept there, by what a watch says of its two tests
pub has_failed : (failed : Option Test) (rs : List Record) (r : Record) (w : Watch)
    → (failed ≡ Some Waits → HasRefused rs r w) → (failed ≡ Some Predecessors → HasRefusedStart rs r w)
    → HasFailed failed rs r w
has_failed None rs r w waits starts = tt
has_failed (Some Calls) rs r w waits starts = tt
has_failed (Some Regions) rs r w waits starts = tt
has_failed (Some Teams) rs r w waits starts = tt
has_failed (Some Lengths) rs r w waits starts = tt
has_failed (Some Waits) rs r w waits starts = waits refl
has_failed (Some Predecessors) rs r w waits starts = starts refl
has_failed (Some End) rs r w waits starts = tt

-- the text tells that the task is missed at a record that stands there
abbrev pub TellsNo : ℕ → Missed → List ℕ → Type 0
TellsNo line m text =
    (rs : List Record) (i : ℕ) → place_text line m.thread m.seq ≡ record_place rs i
    → text ≡ early_text m.dependent rs i m.task

module _ (bytes : Option (List ℕ)) (line : ℕ) (w : Watching) (m : Missed) (refused : StopsAt bytes line w)
    (known : w.missed ≡ Some m) where
  -- the record on the line stands there
  place_of : place_text line m.thread m.seq
      ≡ record_place (and_record refused.until.before refused.until.event).records
      (length refused.until.before.records)
  place_of =
      let u = refused.until in
      let here = u.refused m known in
      let rs = u.before.records in
      rw (get_last rs u.event (length rs) refl)
      (ap (λ n. place_text n m.thread m.seq) u.line
      ∙ ap (λ t. place_text (length rs + 2) t m.seq) here.thread
      ∙ ap (place_text (length rs + 2) u.event.thread) here.seq)

  pub no_of : (text : List ℕ) → TellsNo line m text → IsNoOf bytes text
  no_of text tells =
      let u = refused.until in
      let P : ℕ → Type 0 = λ n. FirstLinesSay n bytes (and_record u.before u.event) in
      record {
        before = u.before;
        event = u.event;
        dependent = m.dependent;
        task = m.task;
        lines = subst P u.line u.lines;
        records = u.records;
        missed = (u.refused m known).task;
        report = tells (and_record u.before u.event).records (length u.before.records) place_of;
      }

-- ---- what a text that is written leaves

-- the outcome that is told, where what was written tells it
pub told : (P : Outcome → Type 0) {W : Type 0} (o : Outcome) (r : Result Outcome AuditFault)
    → IfOk r (λ it. it ≡ o) → OnOk r W → (W → P o)
    → IfOk r P
told P o (Ok it) kind written gives = subst P (sym kind) (gives written)
told P o (Err f) kind written gives = tt

pub unless : (P Q : AuditFault → Type 0) (r : Result Outcome AuditFault) → IfErr r P
    → ((f : AuditFault) → P f → Q f) → IfErr r Q
unless P Q (Ok it) left gives = tt
unless P Q (Err f) left gives = gives f left

-- where the text breaks off
pub broken : (bytes old new : Option (List ℕ)) (text : List ℕ)
    → ((count : ℕ) → Appends old new (take count text) → BreaksOffWatch bytes old new)
    → (f : AuditFault) → IsWriteFault (λ n. Appends old new (take n text)) f → LeavesWatch bytes old new f
broken bytes old new text off (Write write.Device) h = off h.0 h.1
broken bytes old new text off (Write write.Memory) h = absurd h
broken bytes old new text off (Write write.TurnsSpent) h = off h.0 h.1
broken bytes old new text off (Read f) h = absurd h
broken bytes old new text off (Check f) h = absurd h
broken bytes old new text off (Call line f) h = absurd h
broken bytes old new text off (Upgrade line f) h = absurd h
broken bytes old new text off (Undecided line test) h = absurd h
broken bytes old new text off Memory h = absurd h
