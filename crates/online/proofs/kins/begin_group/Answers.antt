use Rattle.online.specs.Waits.{BeginsGroup, StaysKin}
use Rattle.online.proofs.TableLemmas.{changes_written, ok_weaker, err_weaker}
use Rattle.online.proofs.kins.begin_group.Goals as goal

pub returns-in-Some-clause-begun : goal.returns-in-Some-clause-begun
returns-in-Some-clause-begun c =
    ok_weaker c.begin_group.result _ _
    (changes_written BeginsGroup c.args.task c.args.table.now
    (c.get_mut.follows.lender c.begin_group.new.self) c.in-Some.kin.now c.begin_group.new.self
    c.in-Some.ensures.value (c.get_mut.follows.holds c.begin_group.new.self))
    c.begin_group.ensures.begun

pub returns-in-Some-clause-err : goal.returns-in-Some-clause-err
returns-in-Some-clause-err c =
    err_weaker c.begin_group.result _ _
    (changes_written StaysKin c.args.task c.args.table.now
    (c.get_mut.follows.lender c.begin_group.new.self) c.in-Some.kin.now c.begin_group.new.self
    c.in-Some.ensures.value (c.get_mut.follows.holds c.begin_group.new.self))
    c.begin_group.ensures.err
