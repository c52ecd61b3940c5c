use Rattle.std.proofs.Common.{arith, refl, ◌+◌}
use Rattle.checker.specs.Readings.{by_task}
use Rattle.checker.proofs.FindingsLemmas.{one_listed, one_left_out}
use Rattle.checker.proofs.violations.Violations.note.Goals as goal

pub overflow_add-self : goal.overflow_add-self
overflow_add-self c =
    let records = c.len-records.ensures in
    omega (arith, c.requires.few, c.requires.within, records.value, records.few)

pub returns-in_ok-push-clause-below : goal.returns-in_ok-push-clause-below
returns-in_ok-push-clause-below c =
    let v = c.in_ok-violation.field-0 in
    one_listed (by_task c.args.deciding.now.run.records) c.args.most c.args.at c.args.self.now
    (record { listed = c.push.new.self; left_out = c.args.self.now.left_out }) v c.requires.violated
    c.in_ok-violation.ensures.at c.in_ok-violation.ensures.violation
    (omega (arith, c.len.ensures, c.args.self.now.listed.ok, c.if-len-most.true)) c.in_ok-push.ensures.items
    refl c.requires.below

pub returns-else-len-most-clause-below : goal.returns-else-len-most-clause-below
returns-else-len-most-clause-below c =
    one_left_out (by_task c.args.deciding.now.run.records) c.args.most c.args.at c.args.self.now
    (record { listed = c.args.self.now.listed; left_out = c.args.self.now.left_out + 1 }) c.requires.violated
    (omega (arith, c.len.ensures, c.args.self.now.listed.ok, c.if-len-most.false)) refl refl c.requires.below
