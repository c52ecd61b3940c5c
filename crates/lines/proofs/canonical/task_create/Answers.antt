use Rattle.std.proofs.Common.{refl}
use Rattle.json.specs.Print.{escape_byte}
use Rattle.serde_json.specs.Data.{boolean, string}
use Rattle.ompt_events.specs.Flags as flag
use Rattle.lines.specs.declared.members.Member.TheVariants as variant
use Rattle.lines.specs.CallbackNames as callback
use Rattle.lines.specs.Texts.{flag_names, names, whole_number, with_member}
use Rattle.lines.proofs.InFrontLemmas.{line-from-two, then}
use Rattle.lines.proofs.canonical.task_create.Goals as goal

pub returns : goal.returns
unfolding escape_byte with_member
returns g c =
    line-from-two variant.Callback variant.Child (string callback.task_create) (whole_number
    c.in-Some-number.child)
    _ _ _ _ _ _ c.in-Some.ensures c.in-Some-number.ensures
    (then variant.Deps (boolean c.in-Some-truth.deps)
    _ _ _ _ _ c.in-Some-after.ensures c.in-Some-truth.ensures
    (then variant.Flags (names (flag_names flag.task_flags c.in-Some-task_flags.flags.0))
    _ _ _ _ _ c.in-Some-after-2.ensures c.in-Some-task_flags.ensures
    c.in-Some-task_tail.ensures))
    refl
