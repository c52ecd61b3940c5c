use Rattle.std.proofs.Common.{ap}
use Rattle.ompt_events.specs.Traces.{TraceView}
use Rattle.ompt_events.specs.Turns.{in_own_order}
use Rattle.task_tree.specs.Families.{own_family}
use Rattle.task_tree.proofs.TreeLemmas.{reading_of, paths_alike}
use Rattle.task_tree.proofs.tree.Tree.build.Goals as goal

pub returns-clause-tree : goal.returns-clause-tree
returns-clause-tree c =
    let rs = c.args.trace.now.records in
    let families = rw (ap (λ (t : TraceView). t.records) c.in_ok-trace.ensures) at
    c.in_ok-families.ensures.families in
    let reading = reading_of rs c.in_ok-families.families families in
    let paths = rw c.own_family.ensures at c.in_ok-paths.ensures in
    record {
      trace = ap (λ (t : TraceView). t.records) c.in_ok-trace.ensures;
      families = families;
      paths =
          paths_alike reading.records (in_own_order rs) (own_family c.in_ok-families.families).tasks
          c.in_ok-paths.paths.items reading.same (paths reading.records reading.family);
    }
