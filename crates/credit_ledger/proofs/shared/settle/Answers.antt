use Rattle.std.proofs.Common.{ap, ◌∙◌, arith}
use Rattle.credit_ledger.proofs.SeatLemmas.{settles, notes, counts}
use Rattle.credit_ledger.proofs.shared.settle.Goals as goal

pub load-requires : goal.load-requires
load-requires c = (
  c.requires.new,
  omega (arith, c.requires.board.0),
  settles c.args.board.now.shared.table_id.slots c.args.new.id c.args.new.me c.requires.fresh
      c.requires.empty,
)

pub split_seat-third-requires : goal.split_seat-third-requires
split_seat-third-requires c = (
  c.load.ensures.0 ∙ c.requires.new,
  omega (arith, c.requires.board.0),
  notes c.load.new.seat.id c.load.new.seat.me.0 (ap (λ m. m.0.stage) c.load.ensures.2.3),
)

pub join_seat-requires : goal.join_seat-requires
join_seat-requires c = (
  c.requires.other,
  c.split_seat-third.ensures.3 ∙ c.load.ensures.0 ∙ c.requires.new,
  ap (λ m. m.1) c.split_seat-third.ensures.4,
  omega (arith, c.requires.board.0),
  counts c.args.other.now.id c.split_seat-third.result.id c.args.other.now.me.0
      c.split_seat-third.result.me.0 c.requires.stage (ap (λ m. m.0.stage) c.split_seat-third.ensures.4)
      (ap (λ m. m.0.shares) c.split_seat-third.ensures.4),
)
