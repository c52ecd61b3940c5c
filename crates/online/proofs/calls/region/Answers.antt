use Rattle.std.proofs.Common.{◌∙◌, sym, subst}
use Rattle.ompt_events.specs.declared.names.Endpoint.{Endpoint}
use Rattle.ompt_events.specs.declared.records.Body.TheVariants.{SyncRegion}
use Rattle.online.specs.Replays.{Takes, MayTake}
use Rattle.online.proofs.CallLemmas.{region_begin_takes, region_end_takes, region_in_one_takes}
use Rattle.online.proofs.calls.region.Goals as goal

pub returns-in_ok-begin_region-in-Begin : goal.returns-in_ok-begin_region-in-Begin
returns-in_ok-begin_region-in-Begin c is own place parallel may =
    let P : Endpoint → Type 0 = λ e. MayTake own place (SyncRegion c.args.kind e parallel c.args.task)
    → Takes place.state.now.nests place.number own (SyncRegion c.args.kind e parallel c.args.task)
    c.args.tasks.now
    c.begin_region.new.self in
    subst P (sym c.in-Begin.is)
    (λ may_begin. region_begin_takes own place c.args.tasks.now c.begin_region.new.self c.args.kind parallel
    c.args.task c.in-Some.value.now (sym c.in-Some.ensures) (sym c.if-is_barred.ensures) may_begin
    c.in_ok-begin_region-in-Begin.ensures)
    may

pub returns-in-BeginEnd : goal.returns-in-BeginEnd
returns-in-BeginEnd c is own place parallel may =
    let P : Endpoint → Type 0 = λ e. MayTake own place (SyncRegion c.args.kind e parallel c.args.task)
    → Takes place.state.now.nests place.number own (SyncRegion c.args.kind e parallel c.args.task)
    c.args.tasks.now
    c.args.tasks.now in
    subst P (sym c.in-BeginEnd.is)
    (region_in_one_takes own place c.args.tasks.now c.args.kind parallel c.args.task c.in-Some.value.now
    (sym c.in-Some.ensures) (sym c.if-is_barred.ensures))
    may

pub returns-else-not-is_innermost_region : goal.returns-else-not-is_innermost_region
returns-else-not-is_innermost_region c is own place parallel may =
    let P : Endpoint → Type 0 = λ e. MayTake own place (SyncRegion c.args.kind e parallel c.args.task)
    → Takes place.state.now.nests place.number own (SyncRegion c.args.kind e parallel c.args.task)
    c.args.tasks.now
    c.end_region.new.self in
    subst P (sym c.in-End.is)
    (λ may_end. region_end_takes own place c.args.tasks.now c.end_region.new.self c.args.kind parallel
    c.args.task
    c.in-Some.value.now (sym c.in-Some.ensures) (sym c.if-is_barred.ensures)
    (sym c.is_innermost_region.ensures ∙ c.if-not-is_innermost_region.false) may_end c.end_region.ensures)
    may
