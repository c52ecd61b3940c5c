use Rattle.std.proofs.Common.{◌-◌, length}
use Rattle.task_tree.specs.Chains.{AreChainsFrom}
use Rattle.task_tree.proofs.chains.find_chains.Given as goal

-- the chains of the records that are passed
abbrev pub invariant-loop-passed : goal.invariant-loop-passed
invariant-loop-passed l = AreChainsFrom l.trace.records (length l.trace.records - l.passed) l.firsts.items
    l.nexts.items
