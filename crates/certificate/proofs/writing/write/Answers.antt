use Rattle.std.proofs.Common.{◌+◌, ◌++◌, ◌∷◌, [], arith, refl, sym, ◌∙◌, append-nil}
use Rattle.std.proofs.lemmas.Result.{err_from_is_err_and}
use Rattle.lines.specs.Texts.{header_line}
use Rattle.certificate.proofs.CountLemmas.{count_more-zero, TakesStalls-memory}
use Rattle.certificate.proofs.WritingLemmas.{Appends-none, Appends-both, text-more, part-out, sent-out}
use Rattle.certificate.proofs.WritingLemmas.{whole-out, on_err}
use Rattle.certificate.proofs.writing.write.Goals as goal
use Rattle.certificate.proofs.writing.write.Goals.{then-len-ge-BLOCK+in_ok-turns, else-len-ge-BLOCK}

pub returns-in_err-block-clause-turns : goal.returns-in_err-block-clause-turns
returns-in_err-block-clause-turns g c =
    let p = err_from_is_err_and c.from_residual.result c.from_residual.ensures.1 in
    rw (p.1, p.2, c.in_err-block.ensures.fault)
    (0, TakesStalls-memory _ _ _ (omega arith) (count_more-zero _))

pub records-init : goal.records-init
records-init g c = record {
  sent = [];
  out = Appends-none _;
  text =
      (rw c.version.ensures at c.in_ok-block.ensures.line)
      ∙ sym (append-nil (header_line c.args.trace.now.version ++ 10 ∷ []));
  few = omega arith;
  counted = count_more-zero _;
  breaks = refl;
}

pub returns-in_err-add_line-clause-prefix : goal.returns-in_err-add_line-clause-prefix
returns-in_err-add_line-clause-prefix g c =
    let now = c.records.invariant in
    on_err _ _
    (sent-out c.args.trace.now.version _ _ now.sent c.records.block.items c.args.trace.now.records
    c.records.event-index now.text now.out)

pub returns-in_err-turns-clause-prefix : goal.returns-in_err-turns-clause-prefix
returns-in_err-turns-clause-prefix g c =
    let now = c.records.invariant in
    let text =
    text-more c.args.trace.now.version now.sent c.records.block.items c.add_line.new.block.items
    c.args.trace.now.records c.records.event-index c.event-item.result now.text
    (rw c.records-event-items.ensures.value at c.records-test.true)
    (rw c.records-event-items.ensures.value at c.event-item.is) c.in_ok-add_line.ensures.line in
    let part = rw c.as_slice.ensures.value at c.in_err-turns.ensures.prefix in
    on_err _ _
    (part-out c.args.trace.now.version _ _ _ now.sent c.add_line.new.block.items c.args.trace.now.records
    (c.records.event-index + 1) part.0 text now.out part.1)

pub records-preserved : goal.records-preserved
records-preserved g c =
    let now = c.records.invariant in
    let text =
    text-more c.args.trace.now.version now.sent c.records.block.items c.add_line.new.block.items
    c.args.trace.now.records c.records.event-index c.event-item.result now.text
    (rw c.records-event-items.ensures.value at c.records-test.true)
    (rw c.records-event-items.ensures.value at c.event-item.is) c.in_ok-add_line.ensures.line in
    elim c.if-len-ge-BLOCK.branch [
      | then-len-ge-BLOCK+in_ok-turns w ↦ record {
        sent = now.sent ++ c.add_line.new.block.items;
        out =
            rw w.sink-is
            (Appends-both _ _ _ now.sent c.add_line.new.block.items now.out
            (rw w.as_slice.ensures.value at w.in_ok-turns.ensures.ok));
        text =
            rw (w.block-is, w.clear.ensures.items)
            (append-nil (now.sent ++ c.add_line.new.block.items) ∙ text);
        few = rw w.turns-is w.in_ok-turns.ensures.few;
        counted = rw (w.sink-is, w.turns-is) (w.in_ok-turns.ensures.counted _ now.counted);
        breaks = rw w.sink-is (w.in_ok-turns.ensures.kept ∙ now.breaks);
      }
      | else-len-ge-BLOCK w ↦ record {
        sent = now.sent;
        out = rw w.sink-is now.out;
        text = rw w.block-is text;
        few = rw w.turns-is now.few;
        counted = rw (w.sink-is, w.turns-is) now.counted;
        breaks = rw w.sink-is now.breaks;
      }
    ]

pub returns-in_err-send-clause-prefix : goal.returns-in_err-send-clause-prefix
returns-in_err-send-clause-prefix g c =
    let now = c.records.invariant in
    let part = rw c.as_slice-2.ensures.value at c.in_err-send.ensures.prefix in
    on_err _ _
    (part-out c.args.trace.now.version _ _ _ now.sent c.records.block.items c.args.trace.now.records
    c.records.event-index part.0 now.text now.out part.1)

pub returns-clause-ok : goal.returns-clause-ok
returns-clause-ok g c =
    let now = c.records.invariant in
    let all = rw c.records-event-items.ensures.value at c.records-test.false in
    whole-out c.args.trace.now.version _ _ _ now.sent c.records.block.items c.args.trace.now.records
    c.records.event-index now.text (omega (arith, all)) now.out
    (rw c.as_slice-2.ensures.value at c.in_ok-send.ensures.ok)
