use Rattle.online.specs.Waits.{Completes}
use Rattle.online.proofs.TableLemmas.{changes_written}
use Rattle.online.proofs.kins.complete.Goals as goal

pub returns-clause-changed : goal.returns-clause-changed
returns-clause-changed c =
    changes_written (Completes c.args.length) c.args.task c.args.table.now
    (c.get_mut.follows.lender c.complete.new.self) c.in_ok-kin.kin.now c.complete.new.self
    c.in_ok-kin.ensures.value (c.get_mut.follows.holds c.complete.new.self) c.complete.ensures
