use Rattle.std.specs.Prelude.{◌≡◌, take}
use Rattle.packed_trace.proofs.trace.PackedTrace.of.Given as goal

-- the records so far are packed
abbrev pub invariant-loop-at : goal.invariant-loop-at
invariant-loop-at l = record {
  first : l.packed ≡ record { version = l.trace.version; records = take l.at l.trace.records };
}
