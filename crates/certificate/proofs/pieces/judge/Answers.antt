use Rattle.std.proofs.Common.{arith, ◌∙◌, length-drop}
use Rattle.std.proofs.lemmas.List.{take_rest}
use Rattle.certificate.proofs.PieceLemmas.{BeginsWithRecords-more}
use Rattle.certificate.proofs.pieces.judge.Goals as goal

pub lines-preserved : goal.lines-preserved
lines-preserved c =
    let now = c.lines.invariant in
    let taken = c.in-Ok.ensures in
    let more = taken.2 in
    let size = length-drop c.lines.start c.args.text.now in
    record {
      within = omega (arith, rw take_rest at taken.4);
      read =
          rw more.records
          (BeginsWithRecords-more c.args.version c.args.text.now c.lines.start c.in-Ok.len
          c.lines.piece.records.items taken.0 now.read (rw take_rest at taken.1));
      fault = more.fault ∙ now.fault;
    }
