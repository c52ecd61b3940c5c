use Rattle.std.proofs.Common.{map, refl}
use Rattle.json.specs.Print.{escape_byte}
use Rattle.serde_json.specs.Data.{array, string}
use Rattle.serde_json.specs.View.{items_of}
use Rattle.lines.specs.declared.members.Member.TheVariants as variant
use Rattle.lines.specs.CallbackNames as callback
use Rattle.lines.specs.Texts.{dep_data, with_member}
use Rattle.lines.proofs.InFrontLemmas.{line-from-two}
use Rattle.lines.proofs.canonical.dependences.Goals as goal

pub returns : goal.returns
unfolding escape_byte with_member
returns g c =
    line-from-two variant.Callback variant.List (string callback.dependences) (array (items_of (map
    dep_data c.in-Some-deps.list)))
    _ _ _ _ _ _ c.in-Some.ensures c.in-Some-deps.ensures
    c.in-Some-task_tail.ensures
    refl
