use Rattle.std.proofs.Common.{sym, ap}
use Rattle.std.specs.Prelude.{is_some, nat_eq, ◌≡◌}
use Rattle.std.specs.HashMap.{get}
use Rattle.online.specs.Waits.{EndsGroup}
use Rattle.online.proofs.TableLemmas.{changes_written, same_changed}
use Rattle.online.proofs.kins.end_group.Goals as goal

pub returns-in-Some-clause-found : goal.returns-in-Some-clause-found
returns-in-Some-clause-found c = λ ended. ap is_some (sym c.in-Some.ensures.value)

pub returns-in-Some-clause-ended : goal.returns-in-Some-clause-ended
returns-in-Some-clause-ended c = λ ended.
    changes_written (EndsGroup c.args.length) c.args.task c.args.table.now
    (c.get_mut.follows.lender c.end_group.new.self) c.in-Some.kin.now c.end_group.new.self
    c.in-Some.ensures.value (c.get_mut.follows.holds c.end_group.new.self) (c.end_group.ensures.ended ended)

pub returns-in-Some-clause-kept : goal.returns-in-Some-clause-kept
returns-in-Some-clause-kept c = λ refused.
    same_changed c.args.task (get nat_eq c.args.table.now)
    (get nat_eq (c.get_mut.follows.lender c.end_group.new.self))
    (changes_written (λ was after. after ≡ was) c.args.task c.args.table.now
    (c.get_mut.follows.lender c.end_group.new.self) c.in-Some.kin.now c.end_group.new.self
    c.in-Some.ensures.value (c.get_mut.follows.holds c.end_group.new.self)
    (c.end_group.ensures.kept refused))
