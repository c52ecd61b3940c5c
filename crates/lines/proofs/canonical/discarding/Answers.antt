use Rattle.std.proofs.Common.{map, refl}
use Rattle.json.specs.Print.{escape_byte}
use Rattle.serde_json.specs.Data.{array, string}
use Rattle.serde_json.specs.View.{items_of}
use Rattle.ompt_events.specs.Flags as flag
use Rattle.lines.specs.declared.members.Member.TheVariants as variant
use Rattle.lines.specs.CallbackNames as callback
use Rattle.lines.specs.Texts.{flag_names, names, whole_number, with_member}
use Rattle.lines.proofs.InFrontLemmas.{line-from-two, then}
use Rattle.lines.proofs.canonical.discarding.Goals as goal

pub returns : goal.returns
unfolding escape_byte with_member
returns g c =
    rw c.in-Some-claim_of.ensures
    (line-from-two variant.Callback variant.Flags (string callback.cancel) (names (flag_names
    flag.cancel_flags c.in-Some-cancel_flags.flags.0))
    _ _ _ _ _ _ c.in-Some.ensures c.in-Some-cancel_flags.ensures
    (then variant.Kept (whole_number c.in-Some-short.kept)
    _ _ _ _ _ c.in-Some-after.ensures c.in-Some-short.ensures
    (then variant.Path (array (items_of (map whole_number c.in-Some-path.path)))
    _ _ _ _ _ c.in-Some-after-2.ensures c.in-Some-path.ensures
    (then variant.Root (whole_number c.in-Some-number.root)
    _ _ _ _ _ c.in-Some-after-3.ensures c.in-Some-number.ensures
    c.in-Some-task_tail.ensures)))
    refl)
