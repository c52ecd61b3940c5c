use Rattle.online.specs.Items.{awaited_of}
use Rattle.online.proofs.ListingLemmas.{listings_other}
use Rattle.online.proofs.items.Items.other.Goals as goal

pub returns : goal.returns
returns c = λ rs r neither is.
    let (history, ends, gone, table, lists) = is in (
      history,
      ends,
      gone,
      table,
      listings_other rs r history ends gone (awaited_of c.args.self.now) neither.watchable neither.once
          neither.lists_none neither.creates_none lists,
    )
