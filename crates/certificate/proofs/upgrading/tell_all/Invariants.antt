use Rattle.certificate.specs.TaskTurns.{AreTurnsNoted, AreEnded, IsUpgradedUpTo}
use Rattle.certificate.proofs.upgrading.tell_all.Given as goal

-- the records so far have their turns, and those that begin and end next are known
abbrev pub invariant-loop-at : goal.invariant-loop-at
invariant-loop-at l = record {
  turns : AreTurnsNoted l.fn.records.items l.at l.table;
  ended : AreEnded l.records.items l.at l.table;
  upgraded : IsUpgradedUpTo l.fn.records.items l.at l.records.items;
}
