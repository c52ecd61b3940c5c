use Rattle.std.proofs.Common.{◌≡◌, arith, rules, subst}
use Rattle.task_tree.specs.TurnTable.{IsTableAt}
use Rattle.task_tree.proofs.WalkLemmas.{walked_turns, walked_order}
use Rattle.task_tree.proofs.turn_table.turns_of.Goals as goal

pub returns-clause-turns : goal.returns-clause-turns
returns-clause-turns c =
    let rs = c.args.trace.now.records in
    let tasks = c.args.family.now.tasks in
    let walk = c.loop-thread.walk in
    let chains = c.in_ok-chains.ensures in
    walked_turns rs tasks walk (λ i thread is. chains.narrow i thread (omega arith) is)
    (subst (λ t. IsTableAt rs tasks t 0 walk)
    (let last : c.loop-thread.thread ≡ 256 = search rules in last) c.loop-thread.invariant)

pub returns-clause-order : goal.returns-clause-order
returns-clause-order c =
    let rs = c.args.trace.now.records in
    let tasks = c.args.family.now.tasks in
    let walk = c.loop-thread.walk in
    let chains = c.in_ok-chains.ensures in
    record {
      order =
          walked_order rs tasks walk (λ i thread is. chains.narrow i thread (omega arith) is)
          (subst (λ t. IsTableAt rs tasks t 0 walk)
          (let last : c.loop-thread.thread ≡ 256 = search rules in last) c.loop-thread.invariant);
    }
