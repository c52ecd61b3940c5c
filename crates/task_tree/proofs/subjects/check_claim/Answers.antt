use Rattle.std.proofs.Common.{sym}
use Rattle.ompt_events.proofs.ListLemmas.{get_contains}
use Rattle.task_tree.proofs.subjects.check_claim.Goals as goal

pub returns-in-Some-index_near : goal.returns-in-Some-index_near
returns-in-Some-index_near c =
    λ yes. (
      yes,
      rw (sym c.claim_near.ensures, c.in-Some.is)
          (get_contains c.args.tasks.now c.in-Some.claim.now.root c.in-Some-index_near.index
          ((c.index_near.ensures c.in-Some-index_near.index).0 c.in-Some-index_near.is)),
    )
