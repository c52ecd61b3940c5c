use Rattle.std.proofs.Common.{◌∙◌, ◌≤◌, List, length, sym, subst}
use Rattle.std.proofs.lemmas.Bool.{leb-true}
use Rattle.std.specs.Prelude.{IsTrue}
use Rattle.std.proofs.lemmas.Result.{IfOk-weaker}
use Rattle.ompt_events.specs.declared.records.Record.{Record}
use Rattle.ompt_events.specs.declared.records.Body.{Body}
use Rattle.ompt_events.specs.declared.deps.Dep.{Dep}
use Rattle.online.specs.Tasks.{value_of}
use Rattle.online.specs.Replays.{Takes, MayTake}
use Rattle.online.proofs.CallLemmas.{thread_takes, join_takes, list_takes, some_value}
use Rattle.online.proofs.calls.take.Goals as goal

pub returns-in-ParallelBegin : goal.returns-in-ParallelBegin
returns-in-ParallelBegin c is own may =
    let found = c.in-ParallelBegin in
    let tasks = c.args.tasks.now in
    let place = c.args.place.now in
    let P : Body → Type 0 = λ b. MayTake own place b
    → Takes place.state.now.nests place.number own b tasks tasks in
    subst P (sym found.is) (c.may_fork.ensures is own found.requested found.parallel) may

pub returns-in-ParallelEnd : goal.returns-in-ParallelEnd
returns-in-ParallelEnd c is own may =
    let found = c.in-ParallelEnd in
    let tasks = c.args.tasks.now in
    let place = c.args.place.now in
    let P : Body → Type 0 = λ b. MayTake own place b
    → Takes place.state.now.nests place.number own b tasks tasks in
    let (t, here) = some_value (value_of tasks found.task) (sym c.contains.ensures ∙ is) in
    subst P (sym found.is) (join_takes own place tasks found.task found.parallel t here) may

pub returns-then-contains : goal.returns-then-contains
returns-then-contains c is own may =
    let found = c.in-Dependences in
    let tasks = c.args.tasks.now in
    let place = c.args.place.now in
    let P : Body → Type 0 = λ b. MayTake own place b
    → Takes place.state.now.nests place.number own b tasks tasks in
    let (t, here) =
    some_value (value_of tasks found.task) (sym c.contains-in-Dependences.ensures ∙ c.if-contains.true) in
    let short = leb-true (length c.as_slice.result.now) 64 is in
    subst P (sym found.is)
    (list_takes own place tasks found.task found.list t here
    (subst (λ (l : List Dep). length l ≤ 64) c.as_slice.ensures short))
    may

pub returns-in-SyncRegion : goal.returns-in-SyncRegion
returns-in-SyncRegion c =
    let found = c.in-SyncRegion in
    let place = c.args.place.now in
    let later = c.region.new.tasks in
    let P : Body → Type 0 = λ b. (own : List Record) → MayTake own place b
    → Takes place.state.now.nests place.number own b c.args.tasks.now later in
    IfOk-weaker c.region.result _ (λ taken. IsTrue taken → P c.args.body.now)
    (λ taken takes is. subst P (sym found.is) (λ own. takes is own place found.parallel)) c.region.ensures

pub returns-in-ThreadBegin : goal.returns-in-ThreadBegin
returns-in-ThreadBegin c is own may =
    thread_takes own c.args.place.now c.args.tasks.now c.args.body.now c.in-ThreadBegin.is may

pub returns-in-ThreadBegin-2 : goal.returns-in-ThreadBegin-2
returns-in-ThreadBegin-2 c is own may =
    thread_takes own c.args.place.now c.args.tasks.now c.args.body.now c.in-ThreadBegin.is may
