use Rattle.std.proofs.Common.{◌∙◌}
use Rattle.task_states.proofs.PassLemmas.{many_is}
use Rattle.task_states.proofs.origins.Origins.has_moved.Goals as goal

pub returns : goal.returns
returns c =
    λ task stands.
    c.is_many.ensures ∙ many_is c.args.self.now.records task c.home.result (c.home.ensures task stands)
