-- How a run on standard input is refused.
use Rattle.std.proofs.Common.{◌≡◌, ℕ, List, Option, Result, Ok, Err, inr, sym, subst}
use Rattle.std.specs.Prelude.{IfErr}
use Rattle.clap.specs.Words.{Text}
use Rattle.taskaudit.specs.declared.work.AuditFault.{AuditFault}
use Rattle.taskaudit.specs.declared.work.Done.{Done}
use Rattle.taskaudit.specs.declared.work.Job.{Job}
use Rattle.taskaudit.specs.declared.work.Refusal.{Refusal}
use Rattle.taskaudit.specs.Commands.{AsksFor}
use Rattle.taskaudit.specs.Programs.{IsRefused, IsStandard, LeavesOfJob, World, ending_of}

module _ {F : Type 0} (world : World F) (words : List Text) (job : Job) (input : Option (List ℕ))
    (old new : Option (List ℕ)) where
  refused_job : (result : Result Done AuditFault) → AsksFor words job → IsStandard world words job
      → IfErr result (LeavesOfJob job input old new)
      → IfErr (ending_of result) (IsRefused world words input old new)
  refused_job (Ok done) asked from leaves = tt
  refused_job (Err fault) asked from leaves = (job, asked, inr (from, leaves))

  -- by the fault of its job
  pub standard_refused : (result : Result Done AuditFault) (ending : Result Done Refusal) → AsksFor words job
      → IsStandard world words job → ending ≡ ending_of result
      → IfErr result (LeavesOfJob job input old new)
      → IfErr ending (IsRefused world words input old new)
  standard_refused result ending asked from is leaves =
      subst (λ (it : Result Done Refusal). IfErr it (IsRefused world words input old new)) (sym is)
      (refused_job result asked from leaves)
