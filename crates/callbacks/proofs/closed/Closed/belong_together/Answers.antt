use Rattle.std.proofs.Common.{subst}
use Rattle.callbacks.specs.Logs.{AreOfKind}
use Rattle.callbacks.specs.Gathered.{gathered, HaveOwnThreads}
use Rattle.callbacks.proofs.PairLaw.{as_many_pair}
use Rattle.callbacks.proofs.closed.Closed.belong_together.Goals as goal

pub returns : goal.returns
returns c =
    let closed = c.args.self.now in
    let same = c.buffers-buffers.ensures.buffers in
    let kind = subst (λ l. AreOfKind c.args.nests (gathered l)) same
    (c.are_all_of_kind.ensures.0 c.if-not-are_all_of_kind.false) in
    let apart = subst HaveOwnThreads same (c.are_apart.ensures.0 c.if-not-are_apart.false) in
    let pair = as_many_pair closed c.buffers-buffers.ensures.are_closed apart in (
      λ many. record { of_kind = kind; apart = apart; paired = pair.0 (c.are_as_many.ensures.0 many) },
      λ together. c.are_as_many.ensures.1 (pair.1 together.paired),
    )
