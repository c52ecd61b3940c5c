use Rattle.std.proofs.Common.{take, arith}
use Rattle.certificate.proofs.PieceLemmas.{begins_line}
use Rattle.certificate.proofs.pieces.judge_line.Goals as goal

pub returns-in_ok-add-in-Some : goal.returns-in_ok-add-in-Some
returns-in_ok-add-in-Some c = (
  c.in-Some.event,
  record {
    line = take c.in-Some.len c.args.rest.now;
    begins = begins_line c.args.rest.now c.in-Some.len c.in-Some.ensures.line c.in-Some.ensures.short;
    says = c.in-Some.ensures.says;
  },
  c.in_ok-add-in-Some.ensures.ok,
  omega arith,
  omega (arith, c.in-Some.ensures.line.0.high),
)
