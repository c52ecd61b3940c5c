-- What a run does on words that ask for the version alone.
use Rattle.std.proofs.Common.{◌≡◌, ◌≢◌, ◌∙◌, ap, sym, subst, arith, ℕ, false, List, [], ◌∷◌, inl, inr, Option}
use Rattle.std.proofs.Common.{None, Result, Ok, Err, option_and_then}
use Rattle.std.specs.Prelude.{IfOk, IfErr}
use Rattle.clap.specs.Words.{HasKind, Kinds, Text, kind_of, subcommand_of}
use Rattle.clap.specs.declared.error.Error.{Error}
use Rattle.clap.specs.declared.error.kind.ErrorKind.TheVariants.{DisplayVersion, OutOfMemory}
use Rattle.clap.proofs.OnLiterals.{clap_on_literals}
use Rattle.certificate.specs.declared.faults.WriteFault.TheVariants.{Device}
use Rattle.taskaudit.specs.declared.version.TheConstants.{VERSION_TEXT}
use Rattle.taskaudit.specs.declared.work.AuditFault.{AuditFault}
use Rattle.taskaudit.specs.declared.work.AuditFault.TheVariants as why
use Rattle.taskaudit.specs.declared.work.Done.{Done}
use Rattle.taskaudit.specs.declared.work.Job.{Job}
use Rattle.taskaudit.specs.declared.work.Refusal.{Refusal}
use Rattle.taskaudit.specs.declared.work.Refusal.TheVariants.{NotText, Words, File, Audit}
use Rattle.taskaudit.specs.Commands.{command_line, job_named, AsksFor, AsksVersion}
use Rattle.taskaudit.specs.Programs.{DoesAsked, Ends, IsRefused, ShowsVersion, World, version_written}
use Rattle.taskaudit.specs.Programs.{version_unwritten, no_memory}
use Rattle.taskaudit.specs.Statuses.{exit_status_of, usage_status_of}
use Rattle.taskaudit.specs.Tellings.{Call, write, IsToldFault, IsToldWords, with_text, without_text, version}
use Rattle.taskaudit.specs.Tellings.{said, shown, wrong, unwritten, out_of_memory}
use Rattle.taskaudit.proofs.CommandLemmas.{shows_version}

-- they ask for no job
none_asked : (words : List Text) → AsksVersion words
    → option_and_then job_named (subcommand_of command_line words) ≡ None
unfolding command_line clap_on_literals
none_asked words (name, inl e) =
    ap (λ (them : List Text). option_and_then job_named (subcommand_of command_line them)) e
none_asked words (name, inr e) =
    ap (λ (them : List Text). option_and_then job_named (subcommand_of command_line them)) e

no_job : (words : List Text) → AsksVersion words → (job : Job) → AsksFor words job → ⊥
no_job words asks job asked = let never = sym (none_asked words asks) ∙ asked in cc

displayed : (error : Error) → HasKind (DisplayVersion ∷ []) error → kind_of error ≢ OutOfMemory
    → kind_of error ≡ DisplayVersion
displayed error (inl is) other = absurd (other is)
displayed error (inr (inl is)) other = is
displayed error (inr (inr never)) other = absurd never

-- a fault of writing that is told, behind a version that was not written
unwritten_told : (made : Call → Type 0) (fault : AuditFault) → made (write VERSION_TEXT.now false)
    → IsToldFault made (why.Write Device) fault → ShowsVersion made (exit_status_of (Err (Audit fault)))
unwritten_told made _ tried (with_text has printed) = version_unwritten tried printed
unwritten_told made _ tried (without_text has printed) = no_memory printed

memory_told : (made : Call → Type 0) (fault : AuditFault) → IsToldFault made why.Memory fault
    → ShowsVersion made (exit_status_of (Err (Audit fault)))
memory_told made _ (with_text has printed) = no_memory printed
memory_told made _ (without_text has printed) = no_memory printed

-- what is told of an error that says so
words_told : (made : Call → Type 0) (error : Error) (refusal : Refusal) → HasKind (DisplayVersion ∷ []) error
    → IsToldWords made error refusal → ShowsVersion made (exit_status_of (Err refusal))
words_told made error _ kinds (shown other (version is written)) = rw is (version_written written)
words_told made error _ kinds (shown other (said not_this written)) =
    absurd (not_this (displayed error kinds other))
words_told made error _ kinds (wrong other status it) =
    absurd (status (ap usage_status_of (displayed error kinds other)))
words_told made error _ kinds (unwritten {fault = fault} status (version is tried) told) =
    unwritten_told made fault tried told
words_told made error _ (inl memory) (unwritten status (said not_this tried) told) =
    let never : 5 ≡ 0 = sym (ap usage_status_of memory) ∙ status in
    absurd (omega (arith, never))
words_told made error _ (inr (inl is)) (unwritten status (said not_this tried) told) = absurd (not_this is)
words_told made error _ (inr (inr never)) (unwritten status (said not_this tried) told) = absurd never
words_told made error _ kinds (out_of_memory {fault = fault} memory told) = memory_told made fault told

module _ {F : Type 0} (world : World F) (words : List Text) where
  pub version_shown : AsksVersion words → (input old new : Option (List ℕ)) (ending : Result Done Refusal)
      → IfOk ending (DoesAsked world words input old new)
      → IfErr ending (IsRefused world words input old new) → (status : ℕ)
      → Ends world.made ending status → ShowsVersion world.made status
  version_shown asks input old new (Ok done) does refused status ends =
      absurd (no_job words asks does.0 does.1)
  version_shown asks input old new (Err NotText) does refused status ends = absurd refused
  version_shown asks input old new (Err (File fault)) does refused status ends =
      absurd (no_job words asks refused.0 refused.1)
  version_shown asks input old new (Err (Audit fault)) does refused status ends =
      absurd (no_job words asks refused.0 refused.1)
  version_shown asks input old new (Err (Words error)) does refused status ends =
      let kinds = subst (λ (them : Kinds). HasKind them error) (shows_version words asks) refused.0 in
      subst (ShowsVersion world.made) (sym (ends.2 ∙ ap exit_status_of ends.1.1))
      (words_told world.made error ends.1.0 kinds ends.1.2)
