use Rattle.std.proofs.Common.{◌≡◌, ◌∙◌, ◌+◌, length, arith, subst}
use Rattle.task_tree.specs.Runs.{RunView}
use Rattle.wait_coverage.specs.Waits.{AreEach}
use Rattle.checker.specs.Search.{ClearView}
use Rattle.checker.specs.Readings.{by_task}
use Rattle.checker.specs.Verdicts.{IsUnfinished}
use Rattle.checker.specs.Starts.{IsPredecessorUnfinished}
use Rattle.checker.specs.Findings.{IsCountOf}
use Rattle.checker.proofs.DecidingLemmas.{number_within}
use Rattle.checker.proofs.FindingsLemmas.{counted}
use Rattle.checker.proofs.deciding.Deciding.unfinished_count.Goals as goal

pub number-requires : goal.number-requires
number-requires c =
    let view = c.self.inside.clear.now in
    number_within view c.own-own.result.now c.args.at c.sound.ensures.is_clear
    (c.own-own.ensures.value ∙ c.sound.ensures.own) (rw (← c.self.view_is) at c.requires)

pub returns-clause-count : goal.returns-clause-count
returns-clause-count c =
    let view = c.self.inside.clear.now in
    let covered = c.in_ok-covered.covered.items in
    let late = c.in_ok-late.late.items in
    let P : ClearView → Type 0 = λ v.
    IsCountOf (IsUnfinished (by_task v.run.records) c.args.at) (length covered + length late) in
    let Late : RunView → Type 0 = λ run. AreEach (IsPredecessorUnfinished run.records c.args.at) late in
    let covered_long : c.len.result ≡ length covered = omega
    (arith, c.len.ensures, c.in_ok-covered.covered.ok) in
    let late_long : c.len-2.result ≡ length late = omega (arith, c.len-2.ensures, c.in_ok-late.late.ok) in
    rw (covered_long, late_long)
    (subst P c.self.view_is
    (counted view c.own-own.result.now c.known.result.now.done c.number.result c.args.at covered late
    c.sound.ensures.is_clear (c.own-own.ensures.value ∙ c.sound.ensures.own) c.known.ensures.own
    c.number.ensures.value (c.in_ok-covered.ensures.unfinished c.known.ensures.done)
    (subst Late c.self.invariant c.in_ok-late.ensures.late)))
