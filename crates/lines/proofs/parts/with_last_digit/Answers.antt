use Rattle.std.proofs.Common.{◌+◌, decimal}
use Rattle.lines.proofs.TakeLemmas.{digits-more, Takes-taken}
use Rattle.lines.proofs.parts.with_last_digit.Goals as goal

pub returns-in_ok-one_more-in-Some : goal.returns-in_ok-one_more-in-Some
returns-in_ok-one_more-in-Some c =
    let next = c.in-Some.ensures in
    let more = c.in_ok-one_more-in-Some.ensures in
    Takes-taken c.args.rest.now (decimal c.in_ok-one_more-in-Some.field-0) (c.args.len + 1)
    (rw (more.0)
    (digits-more c.args.rest.now c.args.len c.args.number c.in-Some.next next.1 next.2 c.requires.some
    (rw more.0 at more.1) next.0 c.requires.taken))
