use Rattle.std.proofs.Common.{◌∙◌, Some, ap, sym}
use Rattle.std.proofs.lemmas.Bool.{false≢true, eqb-true}
use Rattle.task_states.proofs.MisnestingLemmas.{place_within, begun_thread, begun_there, not_begun}
use Rattle.task_states.proofs.MisnestingLemmas.{option_same}
use Rattle.task_states.proofs.begun.Begun.has_begun.Goals as goal

pub thread-requires : goal.thread-requires
thread-requires c =
    place_within c.args.run.now.records c.args.at c.args.parallel c.in-Some.place c.args.self.now.places
    c.requires.begun.places (sym c.get.ensures.value ∙ sym c.copied.ensures ∙ c.in-Some.is)
    c.requires.within

pub forking-requires : goal.forking-requires
forking-requires c =
    place_within c.args.run.now.records c.args.at c.args.parallel c.in-Some.place c.args.self.now.places
    c.requires.begun.places (sym c.get.ensures.value ∙ sym c.copied.ensures ∙ c.in-Some.is)
    c.requires.within

pub returns-then-thread : goal.returns-then-thread
returns-then-thread c =
    let both =
    begun_there c.args.run.now c.args.at c.in-Some.place c.thread-in-Some.result c.args.parallel
    c.args.self.now.places c.forking.result c.args.task c.requires.is_run c.requires.begun.places
    (sym c.get.ensures.value ∙ sym c.copied.ensures ∙ c.in-Some.is)
    (c.thread.ensures ∙ ap Some c.if-thread.true) c.thread-in-Some.ensures c.forking.ensures in
    let same = option_same c.forking.result c.args.task in (
      λ is. both.0 (same.0 (sym c.eq.ensures ∙ is)),
      λ has. c.eq.ensures ∙ same.1 (both.1 has),
    )

pub returns-else-thread : goal.returns-else-thread
returns-else-thread c = (
  λ is. absurd (c.if-thread.false (eqb-true c.thread.result c.thread-in-Some.result is)),
  λ has.
      absurd
      (c.if-thread.false
      (begun_thread c.args.run.now c.args.at c.in-Some.place c.thread-in-Some.result c.thread.result
      c.args.parallel c.args.self.now.places c.args.task c.requires.is_run c.requires.begun.places
      (sym c.get.ensures.value ∙ sym c.copied.ensures ∙ c.in-Some.is) c.thread.ensures
      c.thread-in-Some.ensures has)),
)

pub returns-in-None : goal.returns-in-None
returns-in-None c = (
  λ is. absurd (false≢true is),
  λ has.
      absurd
      (not_begun c.args.run.now c.args.at c.args.parallel c.args.self.now.places c.args.task
      c.requires.begun.places (sym c.get.ensures.value ∙ sym c.copied.ensures ∙ c.in-None.is) has),
)
