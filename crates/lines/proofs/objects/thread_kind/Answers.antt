use Rattle.std.proofs.Common.{[], ◌∷◌, ◌∙◌}
use Rattle.std.specs.List.{AllByRecursion}
use Rattle.ompt_events.specs.declared.names.ThreadKind.{ThreadKind}
use Rattle.ompt_events.specs.declared.names.ThreadKind.TheVariants.{Initial, Worker, Other, Unknown}
use Rattle.ompt_events.specs.Names.{thread_kind_name}
use Rattle.lines.proofs.MemberLemmas.{ok_or-named}
use Rattle.lines.proofs.objects.thread_kind.Goals as goal

every : (P : ThreadKind → Type 0) → AllByRecursion P (Initial ∷ Worker ∷ Other ∷ Unknown ∷ [])
    → (x : ThreadKind) → P x
every P all = elim [ Initial ↦ all.0 | Worker ↦ all.1.0 | Other ↦ all.1.1.0 | Unknown ↦ all.1.1.1.0 ]

pub returns : goal.returns
returns c =
    c.ok_or.ensures.value
    ∙ ok_or-named thread_kind_name (Initial ∷ Worker ∷ Other ∷ Unknown ∷ []) every _
    c.in_ok-text.field-0.now c.from_name.result c.in_ok-text.ensures c.from_name.ensures
