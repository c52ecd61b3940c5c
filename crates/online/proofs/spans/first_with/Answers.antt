use Rattle.std.proofs.Common.{arith}
use Rattle.online.specs.Spans.{last_from, extends}
use Rattle.online.proofs.SpanLemmas.{begins_behind, begins_alone}
use Rattle.online.proofs.spans.first_with.Goals.{else-last-id-via-then-last-id+else-id-last-eq1}
use Rattle.online.proofs.spans.first_with.Goals.{else-last-id-via-else-last-id}
use Rattle.online.proofs.spans.first_with.Goals as goal

pub returns-then-id-last-eq1 : goal.returns-then-id-last-eq1
returns-then-id-last-eq1 c =
    extends c.in-Some.first c.in-Some.last c.in-Some.ensures.nearest.1
    (omega (arith, c.if-last-id.true, c.if-id-last-eq1.true))

pub returns-else-last-id : goal.returns-else-last-id
returns-else-last-id c =
    begins_behind (last_from c.args.spans.now) c.args.id c.in-Some.first c.in-Some.last
    c.in-Some.ensures.nearest
    (λ touch. elim c.else-last-id.branch [
      | else-last-id-via-then-last-id+else-id-last-eq1 w ↦
          omega (arith, touch, w.if-last-id.true, w.if-id-last-eq1.false)
      | else-last-id-via-else-last-id w ↦ omega (arith, touch, w.if-last-id.false)
    ])

pub returns-in-None : goal.returns-in-None
returns-in-None c = begins_alone (last_from c.args.spans.now) c.args.id c.in-None.ensures.nearest
