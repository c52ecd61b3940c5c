use Rattle.std.proofs.Common.{◌<◌, length, ◌∙◌, sym, arith}
use Rattle.std.proofs.lemmas.Bool.{false≢true}
use Rattle.std.proofs.lemmas.Option.{none-some}
use Rattle.task_tree.proofs.ClimbLemmas.{climbing_more, climbing_other, climbing_link, number_above}
use Rattle.task_tree.proofs.family.Family.climbs.Goals as goal

pub returns-in_default : goal.returns-in_default
returns-in_default c = λ records are root task whole here stands long.
    let climbing = c.loop-step.invariant records are root task whole here stands long in
    let within : c.loop-step.step < length c.args.path.now =
    omega (arith, c.loop-step-test.true, c.len-step-end.ensures) in
    let link =
    climbing_link records c.args.self.now root c.loop-step.current c.loop-step.step whole c.args.path.now
    are long within climbing in
    absurd (none-some link.0 (sym c.in_default.is ∙ (c.link_at.ensures link.0).1 link.1))

pub returns-then-link-number : goal.returns-then-link-number
returns-then-link-number c = λ records are root task whole here stands long. (
  λ no. absurd (false≢true no),
  λ same.
      let within : c.loop-step.step < length c.args.path.now =
      omega (arith, c.loop-step-test.true, c.len-step-end.ensures) in
      let above =
      number_above c.args.path.now c.len.result c.loop-step.step c.number.result c.len.ensures
      c.number.ensures in
      absurd
      (climbing_other records c.args.self.now root c.loop-step.current c.loop-step.step c.number.result whole
      c.args.path.now c.in-Some.link are long within ((c.link_at.ensures c.in-Some.link).0 c.in-Some.is)
      (λ alike. c.if-link-number.true (alike ∙ above))
      (c.loop-step.invariant records are root task whole here stands long) same),
)

pub loop-step-preserved : goal.loop-step-preserved
loop-step-preserved c = λ records are root task whole here stands long.
    let within : c.loop-step.step < length c.args.path.now =
    omega (arith, c.loop-step-test.true, c.len-step-end.ensures) in
    let above =
    number_above c.args.path.now c.len.result c.loop-step.step c.number.result c.len.ensures
    c.number.ensures in
    climbing_more records c.args.self.now root c.loop-step.current c.loop-step.step c.number.result whole
    c.args.path.now c.in-Some.link are long within ((c.link_at.ensures c.in-Some.link).0 c.in-Some.is)
    (c.if-link-number.false ∙ sym above)
    (c.loop-step.invariant records are root task whole here stands long)
