use Rattle.online.specs.Waits.{CompletesChild}
use Rattle.online.proofs.TableLemmas.{above_written}
use Rattle.online.proofs.kins.complete_child.Goals as goal

pub returns-in-Some-get_mut : goal.returns-in-Some-get_mut
returns-in-Some-get_mut c =
    above_written (CompletesChild c.args.length) c.args.parent c.in-Some.task c.in-Some.is c.args.table.now
    (c.get_mut.follows.lender c.complete_child.new.self) c.in-Some-get_mut.kin.now c.complete_child.new.self
    c.in-Some-get_mut.ensures.value (c.get_mut.follows.holds c.complete_child.new.self)
    c.complete_child.ensures
