use Rattle.std.proofs.Common.{◌≡◌, ◌<◌, ℕ, Some}
use Rattle.std.specs.Prelude.{slice_get}
use Rattle.callbacks.specs.Buffers.{BufferView}
use Rattle.callbacks.specs.Logs.{AreOfKind}
use Rattle.callbacks.proofs.gathering.are_all_of_kind.Given as goal

-- those before are of the kind
abbrev pub invariant-buffers : goal.invariant-buffers
invariant-buffers l =
    (i : ℕ) (b : BufferView) → i < l.index → slice_get l.buffers i ≡ Some b → AreOfKind l.nests b.records
