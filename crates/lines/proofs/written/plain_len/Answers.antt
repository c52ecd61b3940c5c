use Rattle.std.proofs.Common.{arith, sym, ◌∙◌}
use Rattle.lines.proofs.WrittenLemmas.{plain-take}
use Rattle.lines.proofs.written.plain_len.Goals as goal

pub bytes-preserved : goal.bytes-preserved
bytes-preserved c = record {
  within = omega (arith, c.bytes-test.true);
  plain =
      plain-take c.args.rest.now c.bytes.len _ c.bytes-test.true c.bytes.invariant.plain
      (sym c.is_plain.ensures ∙ c.if-is_plain.true);
}
