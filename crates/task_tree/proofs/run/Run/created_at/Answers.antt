use Rattle.std.proofs.Common.{◌∙◌}
use Rattle.task_tree.proofs.LookupLemmas.{created_place}
use Rattle.task_tree.proofs.run.Run.created_at.Goals as goal

pub returns-then-is_explicit_at : goal.returns-then-is_explicit_at
returns-then-is_explicit_at c = λ task place is.
    let run = c.self.inside in
    let rs = run.trace.now.records in
    let here = rw (← c.self.view_is) at is in
    rw (← c.self.view_is)
    (created_place rs task c.made_at.result place c.self.invariant.family.once
    ((c.is_explicit_at.ensures rs c.self.invariant.family task here).0 c.if-is_explicit_at.true)
    (c.made_at.ensures rs c.self.invariant.family ∙ here))
