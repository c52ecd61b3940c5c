use Rattle.online.specs.Waits.{CountsChild}
use Rattle.online.proofs.TableLemmas.{changes_written}
use Rattle.online.proofs.kins.count_child.Goals as goal

pub returns-in-Some : goal.returns-in-Some
returns-in-Some c =
    changes_written CountsChild c.args.task c.args.table.now
    (c.get_mut.follows.lender c.count_child.new.self) c.in-Some.kin.now c.count_child.new.self
    c.in-Some.ensures.value (c.get_mut.follows.holds c.count_child.new.self) c.count_child.ensures
