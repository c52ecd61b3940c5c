use Rattle.std.proofs.Common.{◌≡◌, ◌∙◌, ◌<◌, Some, length, get_or, sym, ap, subst, arith}
use Rattle.std.proofs.lemmas.Option.{slice_get-get_or}
use Rattle.std.specs.Prelude.{◌↔◌, IsTrue, slice_get}
use Rattle.ompt_events.specs.Teams.{IsTeammate}
use Rattle.task_states.specs.Rows.{row_at}
use Rattle.teams.specs.Teams.{TeamsView}
use Rattle.wait_coverage.specs.Search.{SearchView, IsSearch}
use Rattle.wait_coverage.specs.Waits.{IsInWait, waiting}
use Rattle.wait_coverage.specs.declared.waits.Wait.{Wait}
use Rattle.wait_coverage.proofs.WaitLemmas.{IsBeforeBegin, within_taskwait, within_taskgroup, within_barrier}
use Rattle.wait_coverage.proofs.waits.Search.is_within.Goals as goal

pub returns-in-Taskwait : goal.returns-in-Taskwait
returns-in-Taskwait c = λ parent here.
    let search = c.args.self.now in
    let known : IsSearch search = subst IsSearch c.self.view_is c.self.invariant in
    let run = search.teams.run in
    let is_wait = sym c.in-Taskwait.is ∙ ap (λ (s : SearchView). s.wait) c.self.view_is in
    let P : Wait → Type 0 =
    λ w. IsTrue c.is_between.result ↔ IsInWait run.records run.family.tasks parent c.args.made w in
    subst P is_wait
    (within_taskwait run.records run.family.tasks parent c.args.made c.args.index c.in-Taskwait.task
    c.in-Taskwait.begin c.is_between.result known.teams.run.family.makers.apart here
    c.is_between.ensures)

pub returns-in-Taskgroup : goal.returns-in-Taskgroup
returns-in-Taskgroup c = λ parent here.
    let search = c.args.self.now in
    let known : IsSearch search = subst IsSearch c.self.view_is c.self.invariant in
    let run = search.teams.run in
    let is_wait = sym c.in-Taskgroup.is ∙ ap (λ (s : SearchView). s.wait) c.self.view_is in
    let answer = c.is_between-in-Taskgroup.result in
    let P : Wait → Type 0 = λ w. IsTrue answer ↔ IsInWait run.records run.family.tasks parent c.args.made w in
    subst P is_wait
    (within_taskgroup run.records run.family.tasks parent c.args.made c.args.index c.in-Taskgroup.task
    c.in-Taskgroup.begin c.in-Taskgroup.end answer known.teams.run.family.makers.apart here
    c.is_between-in-Taskgroup.ensures)

pub returns-then-are_teammates : goal.returns-then-are_teammates
returns-then-are_teammates c = λ parent here.
    let search = c.args.self.now in
    let known : IsSearch search = subst IsSearch c.self.view_is c.self.invariant in
    let teams_is : c.self.inside.teams.now ≡ search.teams = ap (λ (s : SearchView). s.teams) c.self.view_is in
    let rs = search.teams.run.records in
    let tasks = search.teams.run.family.tasks in
    let task = c.in-Barrier.task in
    let number = c.in-Barrier.number in
    let answer = c.is_before_begin.result in
    let is_wait = sym c.in-Barrier.is ∙ ap (λ (s : SearchView). s.wait) c.self.view_is in
    let own_within = known.waits in
    let same = ap waiting is_wait in
    let inside : task < length tasks = omega (arith, own_within, same) in
    let own = get_or tasks task 0 in
    let is_own = slice_get-get_or tasks task 0 inside in
    let M : TeamsView → Type 0 =
    λ t.
    slice_get t.run.family.tasks task ≡ Some own
    → slice_get t.run.family.tasks c.args.index ≡ Some parent
    → IsTrue c.are_teammates.result ↔ IsTeammate t.run.records own parent in
    let mates = subst M teams_is (c.are_teammates.ensures own parent) is_own here in
    let B : TeamsView → Type 0 =
    λ t. IsTrue answer ↔ IsBeforeBegin (row_at t.begins c.args.index) number c.args.made in
    let before = subst B teams_is c.is_before_begin.ensures in
    let P : Wait → Type 0 = λ w. IsTrue answer ↔ IsInWait rs tasks parent c.args.made w in
    subst P is_wait
    (within_barrier rs tasks (row_at search.teams.begins c.args.index) own parent c.args.made c.args.index
    task number answer is_own (mates.0 c.if-are_teammates.true)
    (known.teams.begins.each c.args.index parent here) before)
