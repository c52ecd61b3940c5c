-- What a yes says of the records.
use Rattle.std.proofs.Common.{◌≡◌, List, inl, inr}
use Rattle.ompt_events.specs.declared.records.Record.{Record}
use Rattle.checker.specs.declared.verdict.Verdict.{Verdict}
use Rattle.checker.specs.declared.verdict.Verdict.TheVariants.{Yes, No, Malformed}
use Rattle.checker.specs.Verdicts.{IsVerdict}
use Rattle.taskaudit.specs.declared.work.Outcome.TheVariants as outcome
use Rattle.taskaudit.specs.Reports.{outcome_of}
use Rattle.taskaudit.specs.Headline.{IsSynchronised}

pub synchronised : (rs : List Record) (verdict : Verdict) → IsVerdict rs verdict
    → outcome_of verdict ≡ outcome.Yes → IsSynchronised rs
synchronised rs (Yes order) is says = record {
  order = order;
  has_order = is.linearization;
  waits = λ other linear i task covers. is.always_complete other linear i task (inl covers);
  starts =
      λ other linear i dependent predecessor explicit start before.
      is.always_complete other linear i predecessor (inr (inl (dependent, explicit, start, before)));
  taskwaits =
      λ other linear i dependent predecessor completes before.
      is.always_complete other linear i predecessor (inr (inr (dependent, completes, before)));
}
synchronised rs (No i why) is says = absurd (cc)
synchronised rs (Malformed i cause) is says = absurd (cc)
