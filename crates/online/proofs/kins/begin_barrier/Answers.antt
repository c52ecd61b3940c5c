use Rattle.online.specs.Teams.{CountsBarrier}
use Rattle.online.proofs.TableLemmas.{changes_written}
use Rattle.online.proofs.kins.begin_barrier.Goals as goal

pub returns-in-Some : goal.returns-in-Some
returns-in-Some c =
    changes_written CountsBarrier c.args.task c.args.table.now
    (c.get_mut.follows.lender c.begin_barrier.new.self) c.in-Some.kin.now c.begin_barrier.new.self
    c.in-Some.ensures.value (c.get_mut.follows.holds c.begin_barrier.new.self) c.begin_barrier.ensures
