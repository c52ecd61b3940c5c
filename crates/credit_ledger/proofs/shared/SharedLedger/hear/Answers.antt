use Rattle.std.proofs.Common.{arith}
use Rattle.credit_ledger.proofs.SeatLemmas.{hears}
use Rattle.credit_ledger.proofs.shared.SharedLedger.hear.Goals as goal

pub join_seat-requires : goal.join_seat-requires
join_seat-requires c = (
  c.requires.seat,
  c.requires.news,
  c.args.news.empty,
  omega (arith, c.args.self.now.counts.0),
  hears c.args.seat.now.place.id c.args.news.place.id c.args.seat.now.place.me.0 c.args.news.place.me.0
      c.args.seat.now.stage c.args.news.stage c.args.news.no_right,
)
