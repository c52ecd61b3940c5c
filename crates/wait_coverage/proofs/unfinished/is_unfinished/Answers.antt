use Rattle.std.proofs.Common.{ℕ, ◌∙◌, sym, ap, subst, arith, Option, Some, None, is_some, refl}
use Rattle.std.proofs.lemmas.Bool.{false≢true}
use Rattle.std.specs.Prelude.{◌↔◌, IsTrue, MatchOption}
use Rattle.ompt_events.specs.Places.{seen_at}
use Rattle.task_tree.specs.Runs.{RunView}
use Rattle.teams.specs.Teams.{TeamsView}
use Rattle.wait_coverage.specs.Done.{DoneView, records_of, tasks_of}
use Rattle.wait_coverage.specs.Spans.{IsCoverComplete}
use Rattle.wait_coverage.specs.Waits.{EndsNoWaitAt, IsWaitAt}
use Rattle.wait_coverage.specs.declared.waits.Wait.{Wait}
use Rattle.wait_coverage.proofs.HeldLemmas.{own_children_done}
use Rattle.wait_coverage.proofs.UnfinishedLemmas.{least_reached, limit_complete, none_complete}
use Rattle.wait_coverage.proofs.unfinished.is_unfinished.Goals as goal

pub returns-then-is_reached : goal.returns-then-is_reached
returns-then-is_reached c = λ are small.
    let done = c.args.known.now.done in
    let names =
    c.seen.ensures
    ∙ ap (λ (r : RunView). seen_at r.records c.args.number)
    (c.run.ensures.value ∙ ap (λ (d : DoneView). d.teams.run) c.done-done.ensures.value) in
    let complete =
    limit_complete done c.args.number c.limit.result c.seen.result
    (own_children_done done c.done-done.ensures.is_done are) c.limit.ensures.limit (sym names)
    (omega (arith, c.seen.type_inv)) (c.is_reached.ensures.reached c.if-is_reached.true) in
    ((λ never. absurd (false≢true never)), (λ not_all. absurd (not_all complete)))

-- what the end waits for, if it waits for anything, is not all complete
decided : (done : DoneView) (i : ℕ) (found : Option Wait)
    → MatchOption found (EndsNoWaitAt (records_of done) i) (IsWaitAt (records_of done) (tasks_of done) i)
    → ((wait : Wait) → IsWaitAt (records_of done) (tasks_of done) i wait
    → IsCoverComplete (records_of done) i → ⊥)
    → IsTrue (is_some found) ↔ (IsCoverComplete (records_of done) i → ⊥)
decided done i None none not_all = (
  (λ never. absurd (false≢true never)),
  (λ incomplete. absurd
      (incomplete (none_complete (records_of done) i none))),
)
decided done i (Some wait) is not_all = ((λ yes. not_all wait is), (λ incomplete. refl))

pub returns : goal.returns
returns c = λ are small.
    let done = c.args.known.now.done in
    let names =
    c.seen.ensures
    ∙ ap (λ (r : RunView). seen_at r.records c.args.number)
    (c.run.ensures.value ∙ ap (λ (d : DoneView). d.teams.run) c.done-done.ensures.value) in
    let exact = own_children_done done c.done-done.ensures.is_done are in
    let P : TeamsView → Type 0 =
    λ t.
    MatchOption c.wait_at.result (EndsNoWaitAt t.run.records c.args.number)
    (IsWaitAt t.run.records t.run.family.tasks c.args.number) in
    let found =
    subst P (c.teams.ensures.value ∙ ap (λ (d : DoneView). d.teams) c.done-done.ensures.value)
    c.wait_at.ensures in
    rw c.is_some.ensures
    (decided done c.args.number c.wait_at.result found (λ wait is complete.
    false≢true
    (sym c.if-is_reached.false
    ∙ c.is_reached.ensures.missed (omega (arith, names, small))
    (least_reached done c.args.number c.seen.result c.limit.result wait exact is c.limit.ensures.least
    (sym names) (omega (arith, names, small)) complete))))
