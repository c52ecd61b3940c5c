use Rattle.std.proofs.Common.{refl}
use Rattle.json.specs.Print.{escape_byte}
use Rattle.serde_json.specs.Data.{string}
use Rattle.ompt_events.specs.Names.{thread_kind_name}
use Rattle.lines.specs.declared.members.Member.TheVariants as variant
use Rattle.lines.specs.CallbackNames as callback
use Rattle.lines.specs.Texts.{whole_number, with_member}
use Rattle.lines.proofs.InFrontLemmas.{line-from-two, then, then-end}
use Rattle.lines.proofs.canonical.thread_begin.Goals as goal

pub returns : goal.returns
unfolding escape_byte with_member
returns g c =
    line-from-two variant.Callback variant.Kind (string callback.thread_begin) (string (thread_kind_name
    c.in-Some-thread_kind.kind))
    _ _ _ _ _ _ c.in-Some.ensures c.in-Some-thread_kind.ensures
    (then variant.Seen (whole_number c.in-Some-short.seen)
    _ _ _ _ _ c.in-Some-after.ensures c.in-Some-short.ensures
    (then variant.Seq (whole_number c.in-Some-short-2.seq)
    _ _ _ _ _ c.in-Some-after-2.ensures c.in-Some-short-2.ensures
    (then variant.Thread (whole_number c.in-Some-byte.thread)
    _ _ _ _ _ c.in-Some-after-3.ensures c.in-Some-byte.ensures
    (then-end _ _ c.in-Some-after-4.ensures))))
    refl
