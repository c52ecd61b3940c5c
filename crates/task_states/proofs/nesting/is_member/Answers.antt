use Rattle.task_states.proofs.NestingLemmas.{member_at}
use Rattle.task_states.proofs.nesting.is_member.Goals as goal

pub returns : goal.returns
returns c =
    rw c.is_some.ensures
    (member_at c.args.run.now c.args.index c.made_at.result c.joined.result c.requires.is_run
    c.requires.within c.made_at.ensures c.joined.ensures)
