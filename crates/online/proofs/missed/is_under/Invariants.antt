use Rattle.std.proofs.Common.{ℕ, ◌≡◌, ◌+◌, Some}
use Rattle.std.specs.Prelude.{nat_eq, is_some, if◌then◌else◌}
use Rattle.std.specs.HashMap.{get, hash_map_len}
use Rattle.online.specs.Missed.{IsPartOfTable, IsBelowAwaited}
use Rattle.online.proofs.missed.is_under.Given as goal

abbrev pub invariant-loop-next : goal.invariant-loop-next
invariant-loop-next l = record {
  part : IsPartOfTable (get nat_eq l.table) (get nat_eq l.initial.table);
  leads :
      (passed : ℕ) → l.next ≡ Some passed → IsBelowAwaited (get nat_eq l.initial.table) l.awaited passed
      → IsBelowAwaited (get nat_eq l.initial.table) l.awaited l.fn.task;
}

abbrev pub decreases-loop-next : goal.decreases-loop-next
decreases-loop-next l = hash_map_len l.table + (if is_some l.next then 1 else 0)
