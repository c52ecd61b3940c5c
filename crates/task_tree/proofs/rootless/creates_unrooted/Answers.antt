use Rattle.std.proofs.Common.{◌∙◌, sym}
use Rattle.std.proofs.lemmas.Bool.{false≢true}
use Rattle.ompt_events.specs.Records.{creation}
use Rattle.packed_trace.specs.Named.{object}
use Rattle.ompt_events.proofs.PlaceLemmas.{at_get}
use Rattle.task_tree.proofs.RootlessLemmas.{unrooted_child, no_child, slot_low}
use Rattle.task_tree.proofs.rootless.creates_unrooted.Goals as goal

pub has_no_root-requires : goal.has_no_root-requires
has_no_root-requires c = slot_low c.args.tasks.now c.args.roots.now _ c.args.second c.requires.all
    c.requires.found

pub returns-then-is_some : goal.returns-then-is_some
returns-then-is_some c = λ r stands.
    let rs = c.args.trace.now.records in
    let object_is = at_get object rs c.args.at r stands in
    let child =
    unrooted_child c.args.tasks.now c.args.roots.now r.body c.args.second c.requires.apart
    (rw object_is at c.requires.found) (rw object_is at c.requires.filled)
    (rw (c.creation.ensures ∙ at_get creation rs c.args.at r stands) at
    (sym c.is_some.ensures ∙ c.if-is_some.true)) in (
      λ yes. child.0 (c.has_no_root.ensures.0 yes),
      λ has. c.has_no_root.ensures.1 (child.1 has),
    )

pub returns-else-is_some : goal.returns-else-is_some
returns-else-is_some c = λ r stands. (
  λ yes. absurd (false≢true (sym c.if-is_some.false ∙ yes)),
  λ has.
      absurd
      (no_child c.args.tasks.now c.args.roots.now r.body
      (rw (c.creation.ensures ∙ at_get creation c.args.trace.now.records c.args.at r stands) at
      (sym c.is_some.ensures ∙ c.if-is_some.false)) has),
)
