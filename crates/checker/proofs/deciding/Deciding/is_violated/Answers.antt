use Rattle.std.proofs.Common.{◌∙◌, subst}
use Rattle.std.specs.Prelude.{◌↔◌, IsTrue}
use Rattle.task_tree.specs.Runs.{RunView}
use Rattle.checker.specs.Search.{ClearView}
use Rattle.checker.specs.Readings.{by_task}
use Rattle.checker.specs.Starts.{AreReady}
use Rattle.checker.specs.Findings.{IsViolated}
use Rattle.checker.proofs.DecidingLemmas.{number_within}
use Rattle.checker.proofs.FindingsLemmas.{covered_if, violated_covered, violated_late}
use Rattle.checker.proofs.deciding.Deciding.is_violated.Goals as goal

pub number-requires : goal.number-requires
number-requires c =
    let view = c.self.inside.clear.now in
    number_within view c.own-own.result.now c.args.at c.sound.ensures.is_clear
    (c.own-own.ensures.value ∙ c.sound.ensures.own) (rw (← c.self.view_is) at c.requires)

pub returns-then-is_unfinished : goal.returns-then-is_unfinished
returns-then-is_unfinished c =
    let view = c.self.inside.clear.now in
    let answer = c.is_unfinished.result in
    let P : ClearView → Type 0 = λ v. IsTrue answer ↔ IsViolated (by_task v.run.records) c.args.at in
    subst P c.self.view_is
    (violated_covered view c.args.at answer c.sound.ensures.is_clear c.if-is_unfinished.true
    (covered_if view c.own-own.result.now c.known.result.now.done c.number.result c.args.at answer
    c.sound.ensures.is_clear (c.own-own.ensures.value ∙ c.sound.ensures.own) c.known.ensures.own
    c.known.ensures.done c.number.ensures.value c.is_unfinished.ensures))

pub returns-else-is_unfinished : goal.returns-else-is_unfinished
returns-else-is_unfinished c =
    let view = c.self.inside.clear.now in
    let answer = c.is_unfinished.result in
    let late = c.is_late_at.result in
    let P : ClearView → Type 0 = λ v. IsTrue late ↔ IsViolated (by_task v.run.records) c.args.at in
    let Late : RunView → Type 0 = λ run. IsTrue late ↔ (AreReady run.records c.args.at → ⊥) in
    subst P c.self.view_is
    (violated_late view c.args.at answer late c.sound.ensures.is_clear c.if-is_unfinished.false
    (covered_if view c.own-own.result.now c.known.result.now.done c.number.result c.args.at answer
    c.sound.ensures.is_clear (c.own-own.ensures.value ∙ c.sound.ensures.own) c.known.ensures.own
    c.known.ensures.done c.number.ensures.value c.is_unfinished.ensures)
    (subst Late c.self.invariant c.is_late_at.ensures))
