use Rattle.std.proofs.Common.{[], ◌∷◌, ◌++◌}
use Rattle.online.specs.Items.{awaited_of}
use Rattle.online.proofs.ListingLemmas.{listings_over}
use Rattle.online.proofs.items.Items.complete.Goals as goal

pub returns-clause-completed : goal.returns-clause-completed
returns-clause-completed c = λ rs finished is.
    let (history, ends, gone, table, lists) = is in (
      history,
      ends ++ (c.args.task, c.args.length) ∷ [],
      gone,
      c.in_ok-complete.ensures.completed history ends gone table,
      listings_over rs history ends gone (awaited_of c.args.self.now) c.args.task c.args.length finished
          lists,
    )
