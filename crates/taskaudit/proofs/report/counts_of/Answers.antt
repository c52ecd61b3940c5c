use Rattle.std.proofs.Common.{◌<◌, ◌∙◌, arith, ap, length, sym}
use Rattle.std.specs.Prelude.{is_some}
use Rattle.ompt_events.specs.Records.{finish, creation}
use Rattle.ompt_events.specs.Regions.{ends_wait}
use Rattle.taskaudit.proofs.CountLemmas.{count_one_more, is_some-cond}
use Rattle.taskaudit.proofs.report.counts_of.Goals as goal

pub loop-at-preserved : goal.loop-at-preserved
loop-at-preserved c =
    let rs = c.args.trace.now.records in
    let at = c.loop-at.at in
    let inside : at < length rs = omega (arith, c.loop-at-test.true, c.len-at-end.ensures.value) in
    record {
      entries =
          count_one_more (λ body. is_some (finish body)) rs at c.loop-at.entries c.from-entries.result
          c.is_some.result inside
          (λ body there.
          sym (c.is_some.ensures ∙ c.finishes.ensures.any body (c.act-act.ensures.act body there)))
          c.loop-at.invariant.entries c.from-entries.ensures;
      tasks =
          count_one_more (λ body. is_some (creation body)) rs at c.loop-at.tasks c.from-tasks.result
          c.creates.result inside
          (λ body there.
          ap is_some (c.creates.ensures.ids body (c.act-act.ensures.act body there))
          ∙ is_some-cond c.creates.result _)
          c.loop-at.invariant.tasks c.from-tasks.ensures;
      waits =
          count_one_more ends_wait rs at c.loop-at.waits c.from-waits.result c.ends_wait.result inside
          (λ body there. sym (c.ends_wait.ensures body (c.act-act.ensures.act body there)))
          c.loop-at.invariant.waits c.from-waits.ensures;
    }
