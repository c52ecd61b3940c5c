use Rattle.std.proofs.Common.{◌∙◌, Some, sym, ap}
use Rattle.std.specs.Prelude.{nat_eq}
use Rattle.std.specs.HashMap.{get}
use Rattle.ompt_events.specs.declared.names.WaitKind.TheVariants.{Taskwait, Taskgroup, Barrier}
use Rattle.online.proofs.MissedLemmas.{wait_ended, wait_at_once, group_ended, barrier_ended}
use Rattle.online.proofs.WaitStepLemmas.{kind_of}
use Rattle.online.proofs.missed.awaited_at.Goals as goal

pub returns-in-Taskwait-End : goal.returns-in-Taskwait-End
returns-in-Taskwait-End c =
    wait_ended (get nat_eq c.args.table.now) c.args.task c.args.kind c.args.endpoint
    (kind_of c.args.kind (Some Taskwait)
    (ap Some (sym c.in-Taskwait-End.is-0) ∙ sym c.in_ok-wait_kind.was ∙ c.wait_kind.ensures))
    c.in-Taskwait-End.is-1

pub returns-in-Taskwait-BeginEnd : goal.returns-in-Taskwait-BeginEnd
returns-in-Taskwait-BeginEnd c =
    wait_at_once (get nat_eq c.args.table.now) c.args.task c.args.kind c.args.endpoint
    (kind_of c.args.kind (Some Taskwait)
    (ap Some (sym c.in-Taskwait-BeginEnd.is-0) ∙ sym c.in_ok-wait_kind.was ∙ c.wait_kind.ensures))
    c.in-Taskwait-BeginEnd.is-1

pub returns-in-Taskgroup-End : goal.returns-in-Taskgroup-End
returns-in-Taskgroup-End c =
    group_ended (get nat_eq c.args.table.now) c.args.task c.args.kind c.args.endpoint c.in_group.result
    (kind_of c.args.kind (Some Taskgroup)
    (ap Some (sym c.in-Taskgroup-End.is-0) ∙ sym c.in_ok-wait_kind.was ∙ c.wait_kind.ensures))
    c.in-Taskgroup-End.is-1 c.in_group.ensures

pub returns-in-Barrier-End : goal.returns-in-Barrier-End
returns-in-Barrier-End c =
    barrier_ended (get nat_eq c.args.table.now) c.args.task c.args.kind c.args.endpoint c.in_team.result
    (kind_of c.args.kind (Some Barrier)
    (ap Some (sym c.in-Barrier-End.is-0) ∙ sym c.in_ok-wait_kind.was ∙ c.wait_kind.ensures))
    c.in-Barrier-End.is-1 c.in_team.ensures
