use Rattle.scripts.proofs.RuleLemmas.{rules_from, rules_to}
use Rattle.scripts.proofs.laws.calls_follow_by_the_rules.Goals as goal

pub returns : goal.returns
returns c = λ steps after body script. (rules_from steps after body script, rules_to steps after body script)
