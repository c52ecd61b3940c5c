use Rattle.lines.proofs.LooseLemmas.{record-within}
use Rattle.lines.proofs.record_lines.within.Goals as goal

pub returns : goal.returns
returns c =
    λ body is.
    rw (← c.nests_in.ensures)
    (record-within c.nests_in.result c.args.thread c.args.seq c.args.seen c.in_ok-byte.field-0
    c.in_ok-short.field-0 c.in_ok-short-2.field-0 c.args.loose body is c.if-not-loose.false
    c.in_ok-byte.ensures c.in_ok-short.ensures c.in_ok-short-2.ensures)
