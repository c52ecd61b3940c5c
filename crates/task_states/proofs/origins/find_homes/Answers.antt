use Rattle.std.proofs.Common.{ℕ, ◌≡◌, Some, arith}
use Rattle.std.specs.Prelude.{slice_get}
use Rattle.task_states.specs.declared.homes.Home.{Home}
use Rattle.task_states.specs.Homes.{home_at}
use Rattle.task_states.proofs.OriginLemmas.{filled_more, homes_are}
use Rattle.task_states.proofs.origins.find_homes.Goals as goal

pub loop-index-preserved : goal.loop-index-preserved
loop-index-preserved c =
    let run = c.args.schedules.now in
    record {
      count = c.loop-index.invariant.count;
      filled =
          rw c.in_ok-push.ensures.items
          (filled_more
          (λ (i : ℕ) (home : Home).
          (task : ℕ) → slice_get run.family.tasks i ≡ Some task → home ≡ home_at run.records task)
          c.loop-index.index c.loop-index.homes.items c.home_at.result c.loop-index.invariant.filled
          c.home_at.ensures);
    }

pub returns-clause-homes : goal.returns-clause-homes
returns-clause-homes c =
    let run = c.args.schedules.now in
    homes_are run.records run.family.tasks c.loop-index.index c.loop-index.homes.items
    c.loop-index.invariant.filled (omega (arith, c.loop-index-test.false, c.loop-index.invariant.count))
