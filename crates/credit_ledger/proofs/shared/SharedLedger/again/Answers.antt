use Rattle.std.proofs.Common.{arith}
use Rattle.credit_ledger.proofs.SeatLemmas.{notes}
use Rattle.credit_ledger.proofs.shared.SharedLedger.again.Goals as goal

pub split_seat-place-requires : goal.split_seat-place-requires
split_seat-place-requires c = (
  c.requires.news,
  omega (arith, c.args.self.now.counts.0),
  notes c.args.news.now.place.id c.args.news.now.place.me.0 c.args.news.now.stage,
)
