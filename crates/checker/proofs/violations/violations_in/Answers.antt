use Rattle.std.proofs.Common.{◌≡◌, ◌∙◌, ◌+◌, length, arith, sym, subst}
use Rattle.std.proofs.lemmas.Bool.{false≢true}
use Rattle.checker.specs.Readings.{by_task}
use Rattle.checker.specs.Search.{ClearView, IsClearView}
use Rattle.checker.specs.Findings.{AreViolationsBelow, IsViolated}
use Rattle.checker.proofs.violations.violations_in.Goals.{then-is_violated+in_ok-note, else-is_violated}
use Rattle.checker.proofs.FindingsLemmas.{none_listed, none_more, all_violations}
use Rattle.checker.proofs.violations.violations_in.Goals as goal

pub loop-at-init : goal.loop-at-init
loop-at-init c =
    let none = c.none-found.ensures.all in (
      omega (arith, none),
      none_listed (by_task c.args.clear.now.run.records) c.args.most c.none-found.result
          c.none-found.ensures.empty none,
    )

pub note-requires-clause-below : goal.note-requires-clause-below
note-requires-clause-below c =
    let P : ClearView → Type 0 = λ v. AreViolationsBelow (by_task v.run.records) c.args.most c.loop-at.at
    c.loop-at.found in
    subst P (sym c.in_ok-deciding.ensures.clear) (c.loop-at.invariant.1)

pub loop-at-preserved : goal.loop-at-preserved
loop-at-preserved c =
    let same = c.in_ok-deciding.ensures.clear in
    elim c.if-is_violated.branch [
      | then-is_violated+in_ok-note w ↦
          let P : ClearView → Type 0 = λ v. AreViolationsBelow (by_task v.run.records) c.args.most
          (c.loop-at.at + 1)
          w.note.new.self in
          rw w.found-is (w.in_ok-note.ensures.few, subst P same w.in_ok-note.ensures.below)
      | else-is_violated w ↦
          let few = c.loop-at.invariant.0 in
          let complete : IsViolated (by_task c.in_ok-deciding.deciding.run.records) c.loop-at.at → ⊥
          = λ violated. false≢true (sym w.if-is_violated.false ∙ c.is_violated.ensures.1 violated) in
          let P : ClearView → Type 0 = λ v. IsViolated (by_task v.run.records) c.loop-at.at → ⊥ in
          rw w.found-is (
            omega (arith, few),
            none_more (by_task c.args.clear.now.run.records) c.args.most c.loop-at.at c.loop-at.found
                (subst P same complete) c.loop-at.invariant.1,
          )
    ]

pub returns-clause-violations : goal.returns-clause-violations
returns-clause-violations c =
    let same = c.in_ok-deciding.ensures.clear in
    let at_end = c.len-at-end.ensures in
    let Long : ClearView → Type 0 = λ v. c.len-at-end.result ≡ length v.run.records in
    let long = subst Long same at_end.value in
    let past = c.loop-at-test.false in
    let low = c.loop-at.auto.at-end in
    all_violations c.args.clear.now c.args.most c.loop-at.at c.loop-at.found
    (subst IsClearView same at_end.is_clear)
    (omega (arith, long, past, low)) c.loop-at.invariant.1
