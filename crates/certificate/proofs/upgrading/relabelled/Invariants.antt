use Rattle.std.proofs.Common.{◌≡◌, ◌++◌, map, take, drop}
use Rattle.ompt_events.specs.Upgrades.{nesting}
use Rattle.certificate.proofs.upgrading.relabelled.Given as goal

-- the records so far are in version 3
abbrev pub invariant-loop-at : goal.invariant-loop-at
invariant-loop-at l =
    l.records.items ≡ map nesting (take l.at l.fn.records.items) ++ drop l.at l.fn.records.items
