use Rattle.std.proofs.Common.{arith}
use Rattle.credit_ledger.proofs.SeatLemmas.{takes_in}
use Rattle.credit_ledger.proofs.shared.take_in.Goals as goal

pub join_seat-requires : goal.join_seat-requires
join_seat-requires c = (
  c.requires.seat,
  c.requires.other,
  c.args.other.empty,
  omega (arith, c.requires.board.0),
  takes_in c.args.seat.now.place.id c.args.other.place.id c.args.seat.now.place.me.0 c.args.other.place.me.0
      c.args.seat.now.stage c.args.other.stage,
)
