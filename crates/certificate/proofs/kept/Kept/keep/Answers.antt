use Rattle.std.proofs.Common.{◌≡◌, ◌+◌, ◌≤◌, true, false, cond, not, arith, ap, sym, ◌∙◌, subst}
use Rattle.std.specs.Prelude.{is_some}
use Rattle.std.specs.Result.{is_ok}
use Rattle.ompt_events.specs.Traces.{TraceView, FitsIn}
use Rattle.ompt_events.specs.Limits.{max_tasks}
use Rattle.certificate.specs.Keeping.{IsTraceKept, and_record}
use Rattle.certificate.proofs.KeptLemmas.{kept_next, room_asked, pushed}
use Rattle.certificate.proofs.kept.Kept.keep.Goals as goal
use Rattle.certificate.proofs.kept.Kept.keep.Goals.{else-makes-via-then-makes+else-self-ge-MAX_TASKS}
use Rattle.certificate.proofs.kept.Kept.keep.Goals.{else-makes-via-else-makes}

pub push-requires : goal.push-requires
push-requires g c =
    let trace = g.L.RecordList.listed c.self.inside.list in
    let tasks = c.self.inside.tasks in
    let makes = c.is_some-makes.result in
    let low : tasks ≤ max_tasks = omega
    (arith, c.self.invariant.counted, c.self.invariant.is_trace.is_trace.few_tasks)
    in
    let few : tasks + cond makes 1 0 ≤ max_tasks =
    elim c.else-makes.branch [
      | else-makes-via-then-makes+else-self-ge-MAX_TASKS w ↦
          room_asked tasks makes (omega (arith, w.if-self-ge-MAX_TASKS.false))
      | else-makes-via-else-makes w ↦ rw w.if-makes.false (omega (arith, low))
    ] in
    let fits : FitsIn trace.version c.args.event =
    subst (λ (t : TraceView). FitsIn t.version c.args.event) (sym c.self.view_is) c.requires in
    (kept_next trace c.args.event c.self.inside.count tasks makes c.self.invariant fits c.read_numbers.ensures
    c.if-self-ge-MAX_RECORDS.false (c.is_some-makes.ensures ∙ ap is_some c.made.ensures) few).is_trace

pub invariant_of-self-then-makes-2 : goal.invariant_of-self-then-makes-2
invariant_of-self-then-makes-2 g c =
    let trace = g.L.RecordList.listed c.self.inside.list in
    let tasks = c.self.inside.tasks in
    let few : tasks + 1 ≤ max_tasks =
    elim c.else-makes.branch [
      | else-makes-via-then-makes+else-self-ge-MAX_TASKS w ↦ omega (arith, w.if-self-ge-MAX_TASKS.false)
      | else-makes-via-else-makes w ↦
          absurd (let no : true ≡ false = sym c.if-makes-2.true ∙ w.if-makes.false in cc)
    ] in
    let fits : FitsIn trace.version c.args.event =
    subst (λ (t : TraceView). FitsIn t.version c.args.event) (sym c.self.view_is) c.requires in
    let ok : is_ok c.push.result ≡ true = c.is_err.ensures.negation ∙ ap not c.if-is_err.false in
    rw (pushed c.push.result _ _ ok c.push.ensures)
    (kept_next trace c.args.event c.self.inside.count tasks true c.self.invariant fits c.read_numbers.ensures
    c.if-self-ge-MAX_RECORDS.false
    (sym c.if-makes-2.true ∙ c.is_some-makes.ensures ∙ ap is_some c.made.ensures) few)

pub invariant_of-self-else-makes-2 : goal.invariant_of-self-else-makes-2
invariant_of-self-else-makes-2 g c =
    let trace = g.L.RecordList.listed c.self.inside.list in
    let tasks = c.self.inside.tasks in
    let few : tasks + 0 ≤ max_tasks =
    omega (arith, c.self.invariant.counted, c.self.invariant.is_trace.is_trace.few_tasks) in
    let fits : FitsIn trace.version c.args.event =
    subst (λ (t : TraceView). FitsIn t.version c.args.event) (sym c.self.view_is) c.requires in
    let ok : is_ok c.push.result ≡ true = c.is_err.ensures.negation ∙ ap not c.if-is_err.false in
    let same : tasks + 0 ≡ tasks = omega arith in
    rw (pushed c.push.result _ _ ok c.push.ensures)
    (subst (λ n. IsTraceKept (and_record trace c.args.event) (c.self.inside.count + 1) n) same
    (kept_next trace c.args.event c.self.inside.count tasks false c.self.invariant fits c.read_numbers.ensures
    c.if-self-ge-MAX_RECORDS.false
    (sym c.if-makes-2.false ∙ c.is_some-makes.ensures ∙ ap is_some c.made.ensures) few))
