use Rattle.std.proofs.Common.{ℕ, ◌≡◌, Some}
use Rattle.std.specs.Global.{Vec}
use Rattle.std.specs.Prelude.{slice_get}
use Rattle.wait_coverage.specs.Waits.{AreEach}
use Rattle.checker.specs.Starts.{IsPredecessorUnfinished, IsUnfinishedPredecessor}
use Rattle.checker.proofs.LateLemmas.{if_ok}
use Rattle.checker.proofs.FindingsLemmas.{all_late_if, ready_each}
use Rattle.checker.proofs.starts.Precedence.all_late_by.Goals as goal

pub returns-in-Some-clause-late : goal.returns-in-Some-clause-late
returns-in-Some-clause-late c =
    let rs = c.args.self.now.file.records in
    let own = c.args.self.now.own.run in
    let d = c.in-Some.dependent in
    if_ok
    (λ (late : Vec ℕ). (task : ℕ) → slice_get own.family.tasks d.index ≡ Some task
    → AreEach (IsUnfinishedPredecessor own.records task d.bound) late.items)
    (λ (late : Vec ℕ). AreEach (IsPredecessorUnfinished rs c.args.at) late.items) c.all_late_of.result
    (λ late. all_late_if rs own c.args.at d.index d.bound late.items c.in-Some.ensures)
    c.all_late_of.ensures.late

pub returns-in-None-clause-late : goal.returns-in-None-clause-late
returns-in-None-clause-late c =
    rw c.new.ensures.items
    (ready_each c.args.self.now.file.records c.args.at
    (λ task preceded. absurd (c.in-None.ensures task preceded)))
