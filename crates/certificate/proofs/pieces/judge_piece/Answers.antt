use Rattle.certificate.proofs.BlockLemmas.{AreCuts-at}
use Rattle.certificate.proofs.pieces.judge_piece.Goals as goal

pub piece_of-requires : goal.piece_of-requires
piece_of-requires c =
    AreCuts-at c.args.text.now c.args.cuts.now c.args.number c.requires.cuts c.requires.number

pub judge-requires : goal.judge-requires
judge-requires c =
    rw c.piece_of.ensures
    ((AreCuts-at c.args.text.now c.args.cuts.now c.args.number c.requires.cuts c.requires.number).whole)
