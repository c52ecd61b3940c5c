use Rattle.teams.specs.Members.{AreLeads, AreMembers, HasRegionHashers}
use Rattle.teams.proofs.members.find_members.Given as goal

-- the members that begin by the records so far
abbrev pub invariant-loop-at : goal.invariant-loop-at
invariant-loop-at l = record {
  leads : AreLeads l.run.records l.at l.run.family.tasks l.leads;
  seeded : HasRegionHashers l.run l.leads;
  members : AreMembers l.run l.at l.members;
}
