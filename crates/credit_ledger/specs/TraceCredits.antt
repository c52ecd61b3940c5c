-- What a ledger holds of a task's credit, and what is finished then.
use Rattle.std.specs.Prelude.{ℕ, List}
use Rattle.ompt_events.specs.declared.records.Record.{Record}
use Rattle.ompt_events.specs.Coverage.{IsFamily}
use Rattle.credit_ledger.specs.Shares.{start_share, Hold}
use Rattle.credit_ledger.specs.declared.entry.Entry.{Entry}
use Rattle.credit_ledger.specs.declared.entry.Cover.TheVariants.{Children}
use Rattle.credit_ledger.specs.Entries.{tree_shares, IsChildHeld}
use Rattle.credit_ledger.specs.TraceEntries.{IsDone}

-- the entries hold the share of its root's credit with which the task at the path starts; for a root this
-- is the whole credit
abbrev pub IsHeldInTree : List Entry → ℕ → List ℕ → Type 0
IsHeldInTree entries root path = Hold (tree_shares root entries) (start_share path)

-- the entries hold the share of its parent's pool with which the child with the number starts; the parent
-- is at the path
abbrev pub IsHeldInPool : List Entry → ℕ → List ℕ → ℕ → Type 0
IsHeldInPool entries root path number = IsChildHeld entries root path number Children

-- the entries below the length n finish the task and all its descendants
abbrev pub IsFamilyDone : List Record → ℕ → ℕ → Type 0
IsFamilyDone rs n task = (member : ℕ) → IsFamily rs task member → IsDone rs n member
