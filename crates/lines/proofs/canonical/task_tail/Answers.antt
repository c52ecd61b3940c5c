use Rattle.json.specs.Print.{escape_byte}
use Rattle.lines.specs.declared.members.Member.TheVariants as variant
use Rattle.lines.specs.Texts.{whole_number}
use Rattle.lines.proofs.InFrontLemmas.{then, then-end}
use Rattle.lines.proofs.canonical.task_tail.Goals as goal

pub returns : goal.returns
unfolding escape_byte
returns g c =
    then variant.Seen (whole_number c.in-Some-short.seen)
    _ _ _ _ _ c.in-Some.ensures c.in-Some-short.ensures
    (then variant.Seq (whole_number c.in-Some-short-2.seq)
    _ _ _ _ _ c.in-Some-after.ensures c.in-Some-short-2.ensures
    (then variant.Task (whole_number c.in-Some-number.task)
    _ _ _ _ _ c.in-Some-after-2.ensures c.in-Some-number.ensures
    (then variant.Thread (whole_number c.in-Some-byte.thread)
    _ _ _ _ _ c.in-Some-after-3.ensures c.in-Some-byte.ensures
    (then-end _ _ c.in-Some-after-4.ensures))))
