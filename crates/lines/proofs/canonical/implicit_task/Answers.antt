use Rattle.std.proofs.Common.{refl}
use Rattle.json.specs.Print.{escape_byte}
use Rattle.serde_json.specs.Data.{string}
use Rattle.ompt_events.specs.Flags as flag
use Rattle.ompt_events.specs.Names.{endpoint_name}
use Rattle.lines.specs.declared.members.Member.TheVariants as variant
use Rattle.lines.specs.CallbackNames as callback
use Rattle.lines.specs.Texts.{flag_names, names, whole_number, with_member}
use Rattle.lines.proofs.InFrontLemmas.{line-from-one, then, then-whole}
use Rattle.lines.proofs.canonical.implicit_task.Goals as goal

pub returns : goal.returns
unfolding escape_byte with_member
returns g c =
    line-from-one variant.Actual (whole_number c.in-Some-short.actual)
    _ _ _ _ _ _ c.in-Some.ensures c.in-Some-short.ensures
    (then-whole variant.Callback (string callback.implicit_task) _ _ _ _ c.in-Some-after.ensures
    (then variant.Endpoint (string (endpoint_name c.in-Some-endpoint.endpoint))
    _ _ _ _ _ c.in-Some-after-2.ensures c.in-Some-endpoint.ensures
    (then variant.Flags (names (flag_names flag.task_flags c.in-Some-task_flags.flags.0))
    _ _ _ _ _ c.in-Some-after-3.ensures c.in-Some-task_flags.ensures
    (then variant.Index (whole_number c.in-Some-short-2.index)
    _ _ _ _ _ c.in-Some-after-4.ensures c.in-Some-short-2.ensures
    (then variant.Parallel (whole_number c.in-Some-number.parallel)
    _ _ _ _ _ c.in-Some-after-5.ensures c.in-Some-number.ensures
    c.in-Some-task_tail.ensures)))))
    refl
