use Rattle.std.proofs.Common.{◌≡◌, ◌∙◌, ◌-◌, ◌++◌, length, take, decimal, ap, sym, arith}
use Rattle.std.proofs.Common.{take-take, take-append-drop, length-drop}
use Rattle.std.proofs.lemmas.List.{take_all}
use Rattle.std.specs.Prelude.{drop}
use Rattle.lines.proofs.parts.digits.Goals as goal

pub returns-then-len-lt-NEAR_DIGITS : goal.returns-then-len-lt-NEAR_DIGITS
returns-then-len-lt-NEAR_DIGITS c =
    let rest = c.args.rest.now in
    let number = c.leading-number.result.0 in
    let len = c.leading-number.result.1 in
    let taken : take len rest ≡ decimal number =
    sym (take-take len 8 rest (omega (arith, c.if-len-lt-NEAR_DIGITS.true)))
    ∙ c.leading-number.ensures.taken in
    record {
      is =
          sym (take-append-drop len rest)
          ∙ ap (λ front. front ++ drop len rest) taken
          ∙ ap (λ behind. decimal number ++ behind)
          (sym (take_all (length rest - len) (drop len rest) (omega (arith, length-drop len rest))));
    }
