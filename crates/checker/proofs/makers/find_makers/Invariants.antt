use Rattle.std.proofs.Common.{◌≡◌, ℕ, ◌<◌, length}
use Rattle.ompt_events.specs.Causes.{RepeatsEntry, entries_in}
use Rattle.ompt_events.specs.Shown.{AreAllBelow}
use Rattle.checker.specs.Entries.{AreEntryPlaces}
use Rattle.checker.specs.Makers.{AreEntriesNamed}
use Rattle.checker.proofs.makers.find_makers.Given as goal

-- just the entries so far are named, by the records that make them unless one is repeated
abbrev pub invariant-loop-at : goal.invariant-loop-at
invariant-loop-at l = record {
  long : length l.named.makers.items ≡ entries_in l.run.records;
  named : AreEntriesNamed l.run.records l.at l.named;
  makers : ((k : ℕ) → k < l.at → RepeatsEntry l.run.records k → ⊥)
      → AreEntryPlaces l.run.records l.at l.named.makers.items;
  repeats : AreAllBelow (RepeatsEntry l.run.records) l.at l.repeats;
}
