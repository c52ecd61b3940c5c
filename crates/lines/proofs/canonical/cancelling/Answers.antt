use Rattle.std.proofs.Common.{refl}
use Rattle.json.specs.Print.{escape_byte}
use Rattle.serde_json.specs.Data.{string}
use Rattle.ompt_events.specs.Flags as flag
use Rattle.lines.specs.declared.members.Member.TheVariants as variant
use Rattle.lines.specs.CallbackNames as callback
use Rattle.lines.specs.Texts.{flag_names, names, with_member}
use Rattle.lines.proofs.InFrontLemmas.{line-from-two}
use Rattle.lines.proofs.canonical.cancelling.Goals as goal

pub returns : goal.returns
unfolding escape_byte with_member
returns g c =
    line-from-two variant.Callback variant.Flags (string callback.cancel) (names (flag_names
    flag.cancel_flags c.in-Some-cancel_flags.flags.0))
    _ _ _ _ _ _ c.in-Some.ensures c.in-Some-cancel_flags.ensures
    c.in-Some-task_tail.ensures
    refl
