use Rattle.online.specs.Waits.{SettlesChild}
use Rattle.online.proofs.TableLemmas.{above_written}
use Rattle.online.proofs.kins.settle_child.Goals as goal

pub returns-in-Some-get_mut-clause-settled : goal.returns-in-Some-get_mut-clause-settled
returns-in-Some-get_mut-clause-settled c =
    above_written (SettlesChild c.args.number c.args.length) c.args.parent c.in-Some.task c.in-Some.is
    c.args.table.now (c.get_mut.follows.lender c.settle_child.new.self) c.in-Some-get_mut.kin.now
    c.settle_child.new.self c.in-Some-get_mut.ensures.value
    (c.get_mut.follows.holds c.settle_child.new.self) c.settle_child.ensures
