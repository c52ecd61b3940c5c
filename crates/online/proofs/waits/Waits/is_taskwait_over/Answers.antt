use Rattle.online.specs.Kept.{kept_by}
use Rattle.online.proofs.WaitLemmas.{wait_covers}
use Rattle.online.proofs.waits.Waits.is_taskwait_over.Goals as goal

pub returns : goal.returns
returns c = λ over.
    let (kin, found, none, most) = c.are_children_over.ensures over in
    wait_covers (kept_by c.args.self.now) c.args.task c.args.seen kin found none most
