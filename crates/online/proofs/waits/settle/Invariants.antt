use Rattle.std.proofs.Common.{◌+◌}
use Rattle.std.specs.Prelude.{nat_eq, is_some, if◌then◌else◌}
use Rattle.std.specs.HashMap.{get, hash_map_len}
use Rattle.online.specs.Waits.{KeepsWaits}
use Rattle.online.specs.Teams.{KeepsTeams}
use Rattle.online.proofs.waits.settle.Given as goal

abbrev pub invariant-loop-next : goal.invariant-loop-next
invariant-loop-next l = record {
  kept : KeepsWaits (get nat_eq l.initial.table) (get nat_eq l.table);
  both :
      KeepsTeams (get nat_eq l.initial.table) (get nat_eq l.initial.teams) (get nat_eq l.table)
      (get nat_eq l.teams);
}

abbrev pub decreases-loop-next : goal.decreases-loop-next
decreases-loop-next l = hash_map_len l.table + (if is_some l.next then 1 else 0)
