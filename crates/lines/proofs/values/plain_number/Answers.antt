use Rattle.lines.proofs.NumberLemmas.{number_of-alone}
use Rattle.lines.proofs.values.plain_number.Goals as goal

pub returns : goal.returns
returns c =
    rw (← c.as_bytes.ensures.value)
    (number_of-alone c.as_bytes.result.now c.in_ok-number.number c.in_ok-number.behind.now c.alone.result
    c.in_ok-number.ensures c.alone.ensures)
