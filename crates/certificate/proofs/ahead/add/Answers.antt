use Rattle.std.proofs.Common.{arith}
use Rattle.certificate.proofs.JoinLemmas.{kept_some, piece_told, piece_lines, piece_sound}
use Rattle.certificate.proofs.ahead.add.Goals as goal

pub keep_all-count-requires : goal.keep_all-count-requires
keep_all-count-requires g c =
    let judged = c.requires.judged in
    piece_sound c.args.kept.now.version judged.0 c.args.piece.records.items c.args.piece.fault judged.1.read

pub returns-in-Some-clause-judged : goal.returns-in-Some-clause-judged
returns-in-Some-clause-judged g c =
    λ bytes more known left room judged few now.
    kept_some known c.args.line.now room c.keep_all-count.result.0 c.args.kept.now c.keep_all-count.new.self
    c.args.piece.records.items c.args.piece.fault c.in-Some.cause bytes more left
    (omega (arith, c.requires.line)) (rw c.in-Some.is at c.keep_all-count.ensures.first) judged.read few
    now

pub returns-in-None-clause-judged : goal.returns-in-None-clause-judged
returns-in-None-clause-judged g c =
    λ bytes more known left room judged few now.
    piece_told known c.args.line.now room c.keep_all-count.result.0 c.args.kept.now c.keep_all-count.new.self
    c.args.piece.records.items c.args.piece.fault c.fault_of.result bytes more left
    (omega (arith, c.requires.line)) (rw c.in-None.is at c.keep_all-count.ensures.first)
    c.fault_of.ensures judged.read few now

pub returns-in-None-clause-lines : goal.returns-in-None-clause-lines
returns-in-None-clause-lines g c =
    piece_lines c.args.line.now c.keep_all-count.result.0 c.args.kept.now c.keep_all-count.new.self
    c.args.piece c.fault_of.result (rw c.in-None.is at c.keep_all-count.ensures.first) c.fault_of.ensures
