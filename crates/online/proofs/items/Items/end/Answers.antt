use Rattle.std.proofs.Common.{◌∷◌}
use Rattle.online.specs.Items.{awaited_of}
use Rattle.online.proofs.ListingLemmas.{listings_ended}
use Rattle.online.proofs.items.Items.end.Goals as goal

pub returns-clause-ended : goal.returns-clause-ended
returns-clause-ended c = λ rs ended is.
    let (history, ends, gone, table, lists) = is in (
      history,
      ends,
      c.args.parent ∷ gone,
      c.in_ok-end.ensures.ended history ends gone table,
      listings_ended rs history ends gone (awaited_of c.args.self.now) c.args.parent ended lists,
    )
