use Rattle.checker.proofs.suspensions.Suspensions.slot_behind.Goals as goal

pub returns : goal.returns
returns c = rw c.deref.ensures.value at c.slot_behind.ensures
