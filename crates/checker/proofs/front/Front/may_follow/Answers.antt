use Rattle.std.proofs.Common.{◌∙◌, sym}
use Rattle.std.proofs.lemmas.Bool.{false≢true}
use Rattle.checker.proofs.MergeLemmas.{is_head}
use Rattle.checker.proofs.FrontLemmas.{follows, passes}
use Rattle.checker.proofs.front.Front.may_follow.Goals as goal
use Rattle.task_tree.proofs.GapFreeLemmas.{thread_there}

pub returns-then-is_head : goal.returns-then-is_head
returns-then-is_head c =
    let it = c.args.self.now in
    let thread = thread_there it.run.now.records c.args.place c.requires.within in (
      λ yes.
          follows it.run.now.records it.run.now.family it.suspensions.now it.placed.now it.heads.now it.low
          thread.0 c.args.place c.requires.front thread.1
          ((c.is_head.ensures thread.0 thread.1).0 c.if-is_head.true) (c.is_ready.ensures.0 yes),
      λ may.
          c.is_ready.ensures.1
          (passes it.run.now.records it.run.now.family it.suspensions.now it.placed.now it.heads.now
          it.low c.args.place c.requires.front may),
    )

pub returns-else-is_head : goal.returns-else-is_head
returns-else-is_head c =
    let it = c.args.self.now in
    let thread = thread_there it.run.now.records c.args.place c.requires.within in (
      λ yes. absurd (false≢true (sym c.if-is_head.false ∙ yes)),
      λ may.
          (c.is_head.ensures thread.0 thread.1).1
          (is_head it.run.now.records it.placed.now it.heads.now c.args.place thread.0
          c.requires.front.are_heads thread.1 may),
    )
