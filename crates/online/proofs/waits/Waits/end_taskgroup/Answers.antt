use Rattle.std.specs.Prelude.{nat_eq}
use Rattle.std.specs.HashMap.{get}
use Rattle.online.specs.Kept.{kept_by, teams_by}
use Rattle.ompt_events.proofs.PlaceLemmas.{some_of}
use Rattle.online.proofs.WaitLemmas.{end_then, end_covers}
use Rattle.online.proofs.WaitTeamLemmas.{end_teams_then}
use Rattle.online.proofs.waits.Waits.end_taskgroup.Goals as goal

pub returns-clause-tasks : goal.returns-clause-tasks
returns-clause-tasks c = λ ended.
    let (was, found) = some_of (kept_by c.args.self.now c.args.task) (c.end_group.ensures.found ended) in
    end_then (kept_by c.args.self.now) (get nat_eq c.end_group.new.table) c.args.task c.args.seen was found
    (c.end_group.ensures.ended ended)

pub returns-clause-teams : goal.returns-clause-teams
returns-clause-teams c = λ ended.
    end_teams_then (kept_by c.args.self.now) (get nat_eq c.end_group.new.table) (teams_by c.args.self.now)
    c.args.task c.args.seen (c.end_group.ensures.ended ended)

pub returns-clause-complete : goal.returns-clause-complete
returns-clause-complete c = λ ended.
    let (was, found) = some_of (kept_by c.args.self.now c.args.task) (c.end_group.ensures.found ended) in
    end_covers (kept_by c.args.self.now) (get nat_eq c.end_group.new.table) c.args.task c.args.seen was found
    (c.end_group.ensures.ended ended)
