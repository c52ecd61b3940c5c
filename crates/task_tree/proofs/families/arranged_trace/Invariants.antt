use Rattle.std.proofs.Common.{◌≡◌, take}
use Rattle.ompt_events.specs.Turns.{in_own_order}
use Rattle.task_tree.proofs.families.arranged_trace.Given as goal

-- the first records of the own order were copied
abbrev pub invariant-loop-number : goal.invariant-loop-number
invariant-loop-number l = record {
  version : l.copies.version ≡ l.trace.version;
  records : l.copies.records ≡ take l.number (in_own_order l.trace.records);
}
