use Rattle.std.proofs.Common.{ap, ◌∙◌, arith}
use Rattle.credit_ledger.proofs.LockLemmas.{serves_as}
use Rattle.credit_ledger.proofs.shared.await_turn.Goals as goal

pub load-serving-requires : goal.load-serving-requires
load-serving-requires g c =
    let same = c.rounds.invariant.me in (
      c.rounds.invariant.table ∙ c.requires.place,
      omega (arith, c.requires.board.0),
      serves_as c.args.board.now.shared.table_id.slots c.rounds.place.id c.rounds.place.me c.requires.board.1
          (ap (λ m. m.0.stage) same ∙ c.requires.stage) (ap (λ m. m.1) same ∙ c.requires.empty),
    )
