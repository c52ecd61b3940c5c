use Rattle.teams.specs.Rosters.{IsWholeBefore, AreEnrolled}
use Rattle.teams.proofs.short.enrol_members.Given as goal

-- no member so far shows a lack, and those that began have their slots
abbrev pub invariant-loop-number : goal.invariant-loop-number
invariant-loop-number l = record {
  whole : IsWholeBefore l.tables.run.records l.number;
  enrolled : AreEnrolled l.tables.run.records l.number l.tables.run.family.tasks l.rosters.items;
}
