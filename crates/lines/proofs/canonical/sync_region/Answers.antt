use Rattle.std.proofs.Common.{refl}
use Rattle.json.specs.Print.{escape_byte}
use Rattle.serde_json.specs.Data.{string}
use Rattle.ompt_events.specs.Names.{endpoint_name, sync_kind_name}
use Rattle.lines.specs.declared.members.Member.TheVariants as variant
use Rattle.lines.specs.CallbackNames as callback
use Rattle.lines.specs.Texts.{number_or_null, with_member}
use Rattle.lines.proofs.InFrontLemmas.{line-from-two, then}
use Rattle.lines.proofs.canonical.sync_region.Goals as goal

pub returns : goal.returns
unfolding escape_byte with_member
returns g c =
    line-from-two variant.Callback variant.Endpoint (string callback.sync_region) (string (endpoint_name
    c.in-Some-endpoint.endpoint))
    _ _ _ _ _ _ c.in-Some.ensures c.in-Some-endpoint.ensures
    (then variant.Kind (string (sync_kind_name c.in-Some-sync_kind.kind))
    _ _ _ _ _ c.in-Some-after.ensures c.in-Some-sync_kind.ensures
    (then variant.Parallel (number_or_null c.in-Some-id_or_null.parallel)
    _ _ _ _ _ c.in-Some-after-2.ensures c.in-Some-id_or_null.ensures
    c.in-Some-task_tail.ensures))
    refl
