use Rattle.std.proofs.Common.{sym, ◌∙◌}
use Rattle.lines.proofs.NumberLemmas.{number_of-negative, number_of-unsigned}
use Rattle.lines.proofs.values.other_number.Goals as goal

pub returns-then-begins_with_minus : goal.returns-then-begins_with_minus
returns-then-begins_with_minus c =
    number_of-negative c.args.text.now
    (rw (← c.as_bytes-digits.ensures.value)
    (sym c.begins_with_minus.ensures ∙ c.if-begins_with_minus.true))

pub returns-else-begins_with_minus : goal.returns-else-begins_with_minus
returns-else-begins_with_minus c =
    rw (← c.as_bytes-digits.ensures.value)
    (number_of-unsigned c.as_bytes-digits.result.now c.to_u64.result
    (sym c.begins_with_minus.ensures ∙ c.if-begins_with_minus.false)
    (rw (← c.scan.ensures.parts) c.to_u64.ensures))
