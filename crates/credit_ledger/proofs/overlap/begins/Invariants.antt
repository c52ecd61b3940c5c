use Rattle.std.proofs.Common.{◌≡◌, ◌<◌, ℕ}
use Rattle.std.specs.Prelude.{slice_get}
use Rattle.credit_ledger.specs.Codes.{tree_runs}
use Rattle.credit_ledger.proofs.overlap.begins.Given as goal

abbrev pub invariant-runs : goal.invariant-runs
invariant-runs l =
    (i : ℕ) → i < l.index
    → slice_get (tree_runs l.entry.path l.entry.kept l.entry.part) i
    ≡ slice_get (tree_runs l.other.path l.other.kept l.other.part) i
