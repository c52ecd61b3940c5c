use Rattle.std.proofs.Common.{◌≡◌, ◌++◌, ◌+◌, ◌≤◌, List, length}
use Rattle.std.specs.Prelude.{reverse}
use Rattle.std.specs.Vec.{vec_capacity}
use Rattle.callbacks.specs.Recorders.{RecorderView}
use Rattle.callbacks.specs.Closed.{AreParts}
use Rattle.callbacks.proofs.closed.take_apart.Given as goal

abbrev pub decreases-recorders : goal.decreases-recorders
decreases-recorders l = length l.recorders.items

-- those that were taken apart are the last ones
abbrev pub invariant-recorders : goal.invariant-recorders
invariant-recorders l = record {
  parts : (taken : List RecorderView) × (l.recorders.items ++ taken ≡ l.initial.recorders.items)
      × AreParts taken (reverse l.seats.items) (reverse l.buffers.items);
  seats_fit : length l.recorders.items + length l.seats.items ≤ vec_capacity l.seats;
  buffers_fit : length l.recorders.items + length l.buffers.items ≤ vec_capacity l.buffers;
}
