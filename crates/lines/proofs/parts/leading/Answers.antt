use Rattle.std.proofs.Common.{◌<◌, arith}
use Rattle.lines.proofs.TakeLemmas.{digits-first, digits-more, digits-few}
use Rattle.lines.proofs.parts.leading.Goals as goal

pub digits-init : goal.digits-init
digits-init c = record {
  some = c.requires.some;
  within = omega (arith, c.requires.within);
  few = omega (arith, c.requires.digit);
  taken = digits-first c.args.front.now c.args.first c.requires.within c.requires.front c.requires.digit;
}

pub digits-preserved : goal.digits-preserved
digits-preserved c =
    let now = c.digits.invariant in
    let next = c.in-Some.ensures in
    let short : c.digits.len < 19 = omega (arith, next.1, c.requires.short) in
    let few = digits-few c.digits.number c.in-Some.next c.digits.len now.few short next.0 in
    record {
      some = omega (arith, now.some);
      within = omega (arith, next.1);
      few = few.0;
      taken =
          digits-more c.args.front.now c.digits.len c.digits.number c.in-Some.next next.1 next.2 now.some
          few.1 next.0 now.taken;
    }

pub overflow_mul-number : goal.overflow_mul-number
overflow_mul-number c =
    let next = c.in-Some.ensures in
    omega (
      arith,
      (digits-few c.digits.number c.in-Some.next c.digits.len c.digits.invariant.few
          (omega (arith, next.1, c.requires.short)) next.0).1,
    )

pub overflow_add-number : goal.overflow_add-number
overflow_add-number c =
    let next = c.in-Some.ensures in
    omega (
      arith,
      (digits-few c.digits.number c.in-Some.next c.digits.len c.digits.invariant.few
          (omega (arith, next.1, c.requires.short)) next.0).1,
    )
