use Rattle.std.proofs.Common.{sym}
use Rattle.std.specs.Prelude.{nat_eq}
use Rattle.std.specs.HashMap.{get}
use Rattle.online.proofs.MissedLemmas.{child_in}
use Rattle.online.proofs.missed.parent_in.Goals as goal

pub returns : goal.returns
returns c =
    child_in (get nat_eq c.args.table.now) c.args.task c.in_ok-get.field-0.now (sym c.in_ok-get.ensures.value)
