use Rattle.std.proofs.Common.{arith}
use Rattle.credit_ledger.proofs.SeatLemmas.{copies}
use Rattle.credit_ledger.proofs.shared.SharedLedger.split.Goals as goal

pub split_seat-place-requires : goal.split_seat-place-requires
split_seat-place-requires c = (
  c.requires.seat,
  omega (arith, c.args.self.now.counts.0),
  copies c.args.seat.now.place.id c.args.seat.now.place.me.0 c.args.seat.now.stage,
)
