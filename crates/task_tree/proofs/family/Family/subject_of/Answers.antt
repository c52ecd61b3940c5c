use Rattle.task_tree.proofs.LookupLemmas.{subject_calls}
use Rattle.task_tree.proofs.family.Family.subject_of.Goals as goal

pub returns : goal.returns
returns c =
    λ records are.
    rw (← c.self.view_is, c.slot_of.ensures, c.as_slice.ensures.value)
    (subject_calls records _ c.args.at (rw (← c.self.view_is) at are))
