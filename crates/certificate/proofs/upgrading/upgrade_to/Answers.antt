use Rattle.std.proofs.Common.{arith}
use Rattle.certificate.specs.Upgrading.{third}
use Rattle.certificate.proofs.upgrading.upgrade_to.Goals as goal

pub returns-in-Ok-2-clause-upgraded : goal.returns-in-Ok-2-clause-upgraded
returns-in-Ok-2-clause-upgraded c =
    third (omega (arith, c.if-version-eq2.false, c.requires)) c.in-Ok.upgraded c.in-Ok.ensures.upgraded
    c.to_version_3.ensures
