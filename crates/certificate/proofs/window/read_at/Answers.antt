use Rattle.std.proofs.Common.{refl, arith, ◌∙◌, ap}
use Rattle.certificate.specs.Counts.{next_count}
use Rattle.certificate.proofs.WindowLemmas.{Keeps-itself, Keeps-both, Keeps-consumes}
use Rattle.certificate.proofs.CountLemmas.{count_more-none, count_more-next}
use Rattle.certificate.proofs.window.read_at.Goals as goal

pub turns-init : goal.turns-init
turns-init g c = record {
  len = refl;
  front = refl;
  rest = Keeps-itself _;
  later = omega arith;
  within = omega (arith, c.requires.turns);
  counted = count_more-none _ _;
  breaks = refl;
}

pub turns-preserved : goal.turns-preserved
turns-preserved g c =
    let now = c.turns.invariant in
    let call = c.in-Err-Again.ensures in
    record {
      len = call.len ∙ now.len;
      front = call.front ∙ now.front;
      rest = Keeps-both _ _ _ now.rest call.bytes;
      later = omega (arith, now.later);
      within = omega arith;
      counted =
          (rw c.in-Err-Again.field-0-is at call.agains) ∙ ap next_count now.counted
          ∙ count_more-next _ _ _ now.later;
      breaks = (rw c.in-Err-Again.field-0-is at call.breaks) ∙ now.breaks;
    }

pub returns-in-Ok-clause-bytes : goal.returns-in-Ok-clause-bytes
returns-in-Ok-clause-bytes g c =
    let read = c.in-Ok.ensures.bytes in
    (Keeps-consumes _ _ _ _ c.turns.invariant.rest read.0, read.1)

pub returns-in-Err-Broken-clause-bytes : goal.returns-in-Err-Broken-clause-bytes
returns-in-Err-Broken-clause-bytes g c =
    Keeps-both _ _ _ c.turns.invariant.rest c.in-Err-Broken.ensures.bytes
