use Rattle.std.proofs.Common.{◌≡◌, ◌+◌, ◌≤◌, refl, arith, ◌∙◌, length, length-drop}
use Rattle.std.proofs.lemmas.List.{take_rest}
use Rattle.certificate.specs.Limits.{max_turns}
use Rattle.certificate.proofs.CountLemmas.{stalls-none, stalls-some}
use Rattle.certificate.proofs.WritingLemmas.{Appends-none, Appends-more}
use Rattle.certificate.proofs.writing.send.Goals as goal
use Rattle.certificate.proofs.writing.send.Goals.{then-taken-eq0+else-turns-gt-MAX_TURNS, else-taken-eq0}

pub bytes-init : goal.bytes-init
bytes-init g c = record {
  sent = Appends-none _;
  within = omega arith;
  few = omega arith;
  counted = λ start is. is;
  breaks = refl;
}

pub returns-then-turns-gt-MAX_TURNS-clause-ended : goal.returns-then-turns-gt-MAX_TURNS-clause-ended
returns-then-turns-gt-MAX_TURNS-clause-ended g c =
    let last : c.bytes.turns + 1 ≡ max_turns + 1 = omega (arith, c.bytes.invariant.few) in
    λ start is. (
      c.bytes.turns + 1,
      record {
        within = omega arith;
        counted =
            stalls-none _ _ _ _ _ _
            (omega (arith, c.bytes-test.true, length-drop c.bytes.at c.args.bytes.now))
            (c.bytes.invariant.counted start is) c.in_ok-taken.ensures.stalls c.if-taken-eq0.true;
        spent = ((λ _. last), (λ _. refl));
      },
    )

pub bytes-preserved : goal.bytes-preserved
bytes-preserved g c =
    let now = c.bytes.invariant in
    let call = c.in_ok-taken.ensures in
    let sent =
    Appends-more _ _ _ c.args.bytes.now c.bytes.at c.in_ok-taken.taken now.sent
    (rw take_rest at call.bytes) in
    let bound = rw take_rest at call.bound in
    let within : c.bytes.at + c.in_ok-taken.taken ≤ length c.args.bytes.now =
    omega (arith, bound, now.within, length-drop c.bytes.at c.args.bytes.now) in
    elim c.if-taken-eq0.branch [
      | then-taken-eq0+else-turns-gt-MAX_TURNS w ↦ record {
        sent = sent;
        within = within;
        few = omega arith;
        counted =
            λ start is.
            rw w.turns-is
            (stalls-none _ _ _ _ _ _
            (omega (arith, c.bytes-test.true, length-drop c.bytes.at c.args.bytes.now))
            (now.counted start is) call.stalls w.if-taken-eq0.true);
        breaks = call.breaks ∙ now.breaks;
      }
      | else-taken-eq0 w ↦ record {
        sent = sent;
        within = within;
        few = omega (arith, now.few);
        counted =
            λ start is.
            rw w.turns-is
            (stalls-some _ _ _ _ _ _ (now.counted start is) call.stalls w.if-taken-eq0.false);
        breaks = call.breaks ∙ now.breaks;
      }
    ]
