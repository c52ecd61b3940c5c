use Rattle.std.proofs.Common.{refl}
use Rattle.json.specs.Print.{escape_byte}
use Rattle.serde_json.specs.Data.{string}
use Rattle.lines.specs.declared.members.Member.TheVariants as variant
use Rattle.lines.specs.CallbackNames as callback
use Rattle.lines.specs.Texts.{whole_number, with_member}
use Rattle.lines.proofs.InFrontLemmas.{line-from-two, then}
use Rattle.lines.proofs.canonical.parallel_begin.Goals as goal

pub returns : goal.returns
unfolding escape_byte with_member
returns g c =
    line-from-two variant.Callback variant.Parallel (string callback.parallel_begin) (whole_number
    c.in-Some-number.parallel)
    _ _ _ _ _ _ c.in-Some.ensures c.in-Some-number.ensures
    (then variant.Requested (whole_number c.in-Some-short.requested)
    _ _ _ _ _ c.in-Some-after.ensures c.in-Some-short.ensures
    c.in-Some-task_tail.ensures)
    refl
