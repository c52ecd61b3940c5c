use Rattle.std.proofs.Common.{refl, sym}
use Rattle.std.specs.Prelude.{nat_eq}
use Rattle.std.specs.HashMap.{get}
use Rattle.online.proofs.MissedLemmas.{reached_part}
use Rattle.online.proofs.missed.first_missed.Goals as goal

pub returns-then-is_reached : goal.returns-then-is_reached
returns-then-is_reached c = (
  sym c.if-is_live.ensures,
  reached_part (get nat_eq c.loop-task.table) (get nat_eq c.args.table.now) c.loop-task.invariant
      c.args.awaited _ (c.if-is_reached.ensures.reached refl),
)
