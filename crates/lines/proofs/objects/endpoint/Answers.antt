use Rattle.std.proofs.Common.{[], ◌∷◌, ◌∙◌}
use Rattle.std.specs.List.{AllByRecursion}
use Rattle.ompt_events.specs.declared.names.Endpoint.{Endpoint}
use Rattle.ompt_events.specs.declared.names.Endpoint.TheVariants.{Begin, End, BeginEnd}
use Rattle.ompt_events.specs.Names.{endpoint_name}
use Rattle.lines.proofs.MemberLemmas.{ok_or-named}
use Rattle.lines.proofs.objects.endpoint.Goals as goal

every : (P : Endpoint → Type 0) → AllByRecursion P (Begin ∷ End ∷ BeginEnd ∷ []) → (x : Endpoint) → P x
every P all = elim [ Begin ↦ all.0 | End ↦ all.1.0 | BeginEnd ↦ all.1.1.0 ]

pub returns : goal.returns
returns c =
    c.ok_or.ensures.value
    ∙ ok_or-named endpoint_name (Begin ∷ End ∷ BeginEnd ∷ []) every _ c.in_ok-text.field-0.now
    c.from_name.result c.in_ok-text.ensures c.from_name.ensures
