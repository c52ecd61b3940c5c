use Rattle.scripts.proofs.RuleLemmas.{step_rules}
use Rattle.scripts.proofs.laws.steps_follow_by_the_rules.Goals as goal

pub returns : goal.returns
returns c = step_rules
