use Rattle.credit_ledger.proofs.TileLaw.{Tile-credits_after}
use Rattle.credit_ledger.proofs.share_laws.shares_tile.Goals as goal

pub returns : goal.returns
returns c = Tile-credits_after
