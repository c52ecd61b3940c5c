use Rattle.std.proofs.Common.{◌≡◌, ◌<◌, ◌+◌, ℕ, Some}
use Rattle.std.specs.Prelude.{◌≢◌, slice_get}
use Rattle.callbacks.specs.Buffers.{BufferView}
use Rattle.callbacks.proofs.gathering.are_apart.Given as goal

-- those before differ from the ones next to them
abbrev pub invariant-buffers : goal.invariant-buffers
invariant-buffers l =
    (i : ℕ) (a b : BufferView) → i + 1 < l.index → slice_get l.buffers i ≡ Some a
    → slice_get l.buffers (i + 1) ≡ Some b → a.thread ≢ b.thread
