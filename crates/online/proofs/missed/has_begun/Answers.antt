use Rattle.std.proofs.Common.{sym}
use Rattle.std.proofs.lemmas.Bool.{ltb-true}
use Rattle.online.proofs.missed.has_begun.Goals as goal

pub returns-in-Some-get : goal.returns-in-Some-get
returns-in-Some-get c = λ more. (
  c.in-Some.task,
  c.in-Some-get.kin.now,
  c.in-Some.is,
  sym c.in-Some-get.ensures.value,
  ltb-true c.args.number c.in-Some-get.kin.now.barriers more,
)
