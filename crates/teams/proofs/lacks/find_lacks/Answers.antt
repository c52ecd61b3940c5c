use Rattle.std.proofs.Common.{◌∙◌, length, ap}
use Rattle.task_tree.specs.Runs.{RunView}
use Rattle.teams.proofs.LackLemmas.{taken_start, mixed_start, lacks_none, lacks_more}
use Rattle.teams.proofs.lacks.find_lacks.Goals as goal

pub loop-number-init : goal.loop-number-init
loop-number-init c =
    let rs = c.args.tables.now.run.records in
    let tasks = c.args.tables.now.run.family.tasks in
    record {
      lacks = lacks_none rs c.in_ok-lacks.lacks.items c.in_ok-lacks.ensures.items;
      seen = record {
        taken = taken_start rs tasks c.in_ok-empty_rosters.field-0.items c.in_ok-empty_rosters.ensures;
        mixed =
            mixed_start rs tasks c.task_count.result c.in_ok-none_mixed.field-0.items
            c.in_ok-none_mixed.ensures
            (c.task_count.ensures.value ∙ ap (λ (r : RunView). length r.family.tasks) c.run.ensures.value);
      };
    }

pub loop-number-preserved : goal.loop-number-preserved
loop-number-preserved c = record {
  lacks =
      rw c.in_ok-push.ensures.items
      (lacks_more c.args.tables.now.run.records c.loop-number.number c.loop-number.lacks.items
      c.shows_lack.result c.loop-number.invariant.lacks c.shows_lack.ensures.lacks);
  seen = c.shows_lack.ensures.seen;
}
