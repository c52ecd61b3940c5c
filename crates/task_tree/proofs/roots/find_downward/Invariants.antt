use Rattle.std.proofs.Common.{ℕ, ◌≡◌, ◌+◌, ◌-◌, ◌<◌, ◌≤◌, length, Some}
use Rattle.std.specs.Prelude.{Contains, slice_get}
use Rattle.ompt_events.specs.Tree.{children}
use Rattle.task_tree.specs.Roots.{missing, IsSeeded}
use Rattle.task_tree.specs.declared.roots.Reached.{Reached}
use Rattle.task_tree.specs.declared.roots.Standing.{Standing}
use Rattle.task_tree.proofs.roots.find_downward.Given as goal

-- what was reached so far, and the children of the first `next` of it
abbrev pub invariant-reached : goal.invariant-reached
invariant-reached l = record {
  reach : IsSeeded l.trace.records (length l.trace.records) l.tasks l.roots.items l.order.items;
  next : l.next ≤ length l.order.items;
  closed : (k task child index : ℕ) (entry : Reached) → k < l.next → slice_get l.order.items k ≡ Some entry
      → slice_get l.tasks entry.index ≡ Some task
      → Contains (children l.trace.records task) child → slice_get l.tasks index ≡ Some child
      → (standing : Standing) × (slice_get l.roots.items index ≡ Some (Some standing));
}

-- each turn reaches tasks that had no root, and passes one that has
abbrev pub decreases-reached : goal.decreases-reached
decreases-reached l = missing l.roots.items + length l.order.items - l.next
