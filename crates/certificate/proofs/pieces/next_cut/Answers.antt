use Rattle.std.proofs.Common.{◌+◌, arith}
use Rattle.std.proofs.lemmas.List.{take_rest}
use Rattle.certificate.proofs.BlockLemmas.{IsPiece-line}
use Rattle.certificate.proofs.pieces.next_cut.Goals as goal

pub returns-in-Some : goal.returns-in-Some
returns-in-Some c =
    λ whole.
    IsPiece-line c.args.text.now c.args.start (c.args.start + c.min.result) c.in-Some.at (omega arith)
    (rw take_rest at c.in-Some.ensures)
