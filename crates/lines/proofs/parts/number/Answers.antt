use Rattle.std.proofs.Common.{◌∙◌, ap, arith, ◌+◌, decimal}
use Rattle.lines.proofs.TakeLemmas.{digits-first, Takes-taken}
use Rattle.lines.proofs.parts.number.Goals as goal

pub returns-then-first-eq0 : goal.returns-then-first-eq0
returns-then-first-eq0 c =
    let first = c.in_ok-first.ensures in
    Takes-taken c.args.rest.now (decimal 0) 1
    (digits-first c.args.rest.now 0 first.1 (first.2 ∙ ap (λ d. 48 + d) c.if-first-eq0.true)
    (omega arith))
