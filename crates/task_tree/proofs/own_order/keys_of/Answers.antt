use Rattle.std.proofs.Common.{refl}
use Rattle.std.specs.Prelude.{slice_index}
use Rattle.task_tree.proofs.ArrangeLemmas.{key_pushed}
use Rattle.task_tree.proofs.own_order.keys_of.Goals as goal

pub loop-at-preserved : goal.loop-at-preserved
loop-at-preserved c =
    key_pushed c.args.turns.now c.loop-at.at (slice_index c.args.turns.now c.loop-at.at) c.loop-at.keys.items
    c.push.new.self.items c.loop-at.invariant refl c.in_ok-push.ensures.items
