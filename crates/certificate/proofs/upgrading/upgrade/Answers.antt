use Rattle.std.proofs.Common.{◌≡◌, List, subst, rules}
use Rattle.ompt_events.specs.declared.records.Record.{Record}
use Rattle.ompt_events.specs.Upgrades.{MovesNowhere, IsUpgrade}
use Rattle.certificate.specs.Upgrading.{upgraded}
use Rattle.certificate.proofs.upgrading.upgrade.Goals as goal

pub returns-in-Ok-clause-upgraded : goal.returns-in-Ok-clause-upgraded
returns-in-Ok-clause-upgraded c =
    let old = c.args.trace.records in
    let new = c.tell_all.result.records in
    let one : c.args.trace.version ≡ 1 = search rules in
    upgraded one c.tell_all.ensures.version
    (subst (λ (rs : List Record). MovesNowhere rs) c.records.ensures.value c.in-Ok.ensures.stay)
    (subst (λ (rs : List Record). IsUpgrade rs new) c.into_records.ensures.value c.tell_all.ensures.upgrade)
