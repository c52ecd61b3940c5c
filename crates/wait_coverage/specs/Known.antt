-- What is known of all tasks and ends before an end is looked at.
use Rattle.std.specs.Prelude.{ℕ, ◌≡◌, ◌<◌, ◌≤◌, ◌^◌, ◌↔◌, List, Some, slice_get, take}
use Rattle.ompt_events.specs.Tree.{HasPath, IsChild}
use Rattle.credit_ledger.specs.declared.entry.Entry.{Entry}
use Rattle.credit_ledger.specs.TraceEntries.{IsLedgerOf}
use Rattle.credit_ledger.specs.TraceCredits.{IsHeldInTree, IsHeldInPool}
use Rattle.wait_coverage.specs.Done.{DoneView, records_of, tasks_of}
use Rattle.wait_coverage.specs.Limits.{AreEndLimits}
use Rattle.wait_coverage.specs.declared.limits.Node.{Node}

-- the lengths of the tasks, and what is noted at each record
pub record KnownView : Type 0 where
  pub done : DoneView
  pub nodes : List Node

abbrev pub AreLimitsKnown : KnownView → Type 0
AreLimitsKnown known = AreEndLimits known.done known.nodes

-- the entries hold the credit of each child in its parent's pool from its own length on, and not before;
-- and they hold the credit of each task in its root's tree from the length of its family on, and not before
-- (F. Mattern, 1989)
pub record AreHeldFrom (done : DoneView) (entries : List Entry) : Type 0 where
  pub pool : (index task limit n root parent number : ℕ) (path : List ℕ)
      → slice_get (tasks_of done) index ≡ Some task → slice_get done.own index ≡ Some limit
      → HasPath (records_of done) root parent path → IsChild (records_of done) parent number task → n < 2 ^ 32
      → (limit ≤ n) ↔ IsHeldInPool (take n entries) root path number
  pub tree : (index task limit n root : ℕ) (path : List ℕ)
      → slice_get (tasks_of done) index ≡ Some task → slice_get done.families index ≡ Some limit
      → HasPath (records_of done) root task path → n < 2 ^ 32
      → (limit ≤ n) ↔ IsHeldInTree (take n entries) root path

-- this is so for every ledger of the trace
abbrev pub AreCreditLengths : DoneView → Type 0
AreCreditLengths done =
    (entries : List Entry) → IsLedgerOf (records_of done) entries → AreHeldFrom done entries
