use Rattle.std.proofs.Common.{take, refl, arith}
use Rattle.std.proofs.lemmas.Result.{err_from_is_err_and}
use Rattle.certificate.proofs.PieceLemmas.{begins_line, begins_long, fault_of_text}
use Rattle.certificate.proofs.pieces.judge_other_line.Goals as goal

pub returns-in_err-judge_text-in-Some : goal.returns-in_err-judge_text-in-Some
returns-in_err-judge_text-in-Some c =
    let p = err_from_is_err_and c.from_residual.result c.from_residual.ensures.1 in
    rw (p.1, p.2) (
      fault_of_text c.args.version c.in_err-judge_text-in-Some.field-0.0 c.args.rest.now c.in-Some.len
          c.in-Some.ensures c.if-len-le-MAX_LINE.true c.in_err-judge_text-in-Some.ensures.0,
      c.in_err-judge_text-in-Some.ensures.1,
    )

pub returns-in_ok-judge_text-in-Some : goal.returns-in_ok-judge_text-in-Some
returns-in_ok-judge_text-in-Some c =
    let taken = c.in_ok-judge_text-in-Some.ensures in (
      taken.0,
      record {
        line = take c.in-Some.len c.args.rest.now;
        begins = begins_line c.args.rest.now c.in-Some.len c.in-Some.ensures c.if-len-le-MAX_LINE.true;
        says = taken.1;
      },
      taken.2,
      omega arith,
      omega (arith, c.in-Some.ensures.0.high),
    )

pub returns-in-Some-2 : goal.returns-in-Some-2
returns-in-Some-2 c = (
  begins_long c.args.rest.now c.in-Some.len c.in-Some.ensures (omega (arith, c.if-len-le-MAX_LINE.false)),
  record { records = refl; fault = refl },
)
