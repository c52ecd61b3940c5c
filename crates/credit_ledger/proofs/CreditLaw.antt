-- The first entries hold what a task starts with exactly where they finish it.
use Rattle.std.proofs.Common.{ℕ, List, take}
use Rattle.std.specs.Prelude.{◌↔◌}
use Rattle.ompt_events.specs.declared.records.Record.{Record}
use Rattle.ompt_events.specs.Traces.{IsTrace}
use Rattle.ompt_events.specs.Tree.{IsChild, HasPath}
use Rattle.credit_ledger.specs.declared.entry.Entry.{Entry}
use Rattle.credit_ledger.specs.TraceEntries.{IsLedgerOf, IsDone, HasRightEntries}
use Rattle.credit_ledger.specs.TraceCredits.{IsHeldInTree, IsHeldInPool, IsFamilyDone}
use Rattle.credit_ledger.proofs.TreeLaw.{IsKnown, tree_held, tree_done}
use Rattle.credit_ledger.proofs.PoolLaw.{pool_held, pool_done}

pub known_trace : (rs : List Record) (entries : List Entry) → IsTrace rs → HasRightEntries rs
    → IsLedgerOf rs entries → IsKnown rs entries
known_trace rs entries trace right are = record {
  trace = trace;
  once = right.once;
  right = right.right;
  ledger = are;
}

pub held_in_pool : (rs : List Record) (entries : List Entry) (n root parent number task : ℕ) (path : List ℕ)
    → IsTrace rs → HasRightEntries rs → IsLedgerOf rs entries → HasPath rs root parent path
    → IsChild rs parent number task → IsDone rs n task ↔ IsHeldInPool (take n entries) root path number
held_in_pool rs entries n root parent number task path trace right are stands numbered =
    let known = known_trace rs entries trace right are in (
      pool_held rs entries n root parent number task path known stands numbered,
      pool_done rs entries n root parent number task path known stands numbered,
    )

pub held_in_tree : (rs : List Record) (entries : List Entry) (n root task : ℕ) (path : List ℕ) → IsTrace rs
    → HasRightEntries rs → IsLedgerOf rs entries → HasPath rs root task path
    → IsFamilyDone rs n task ↔ IsHeldInTree (take n entries) root path
held_in_tree rs entries n root task path trace right are stands =
    let known = known_trace rs entries trace right are in (
      tree_held rs entries n root task path known stands,
      λ held member of. tree_done rs entries n root task member path known stands held of,
    )
