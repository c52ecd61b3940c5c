use Rattle.checker.proofs.UpgradeVerdictLemmas.{IsUpgradeOfFirst, kept_verdict, given_verdict, kept_counter}
use Rattle.checker.proofs.UpgradeVerdictLemmas.{given_counter}
use Rattle.checker.proofs.laws.an_upgrade_keeps_the_verdict.Goals as goal

pub returns-clause-verdict : goal.returns-clause-verdict
returns-clause-verdict c = λ rs upgraded trace still upgrade verdict.
    let known : IsUpgradeOfFirst rs upgraded = record { trace = trace; still = still; upgrade = upgrade } in
    (kept_verdict rs upgraded verdict known, given_verdict rs upgraded verdict known)

pub returns-clause-counter : goal.returns-clause-counter
returns-clause-counter c = λ rs upgraded trace still upgrade i task found.
    let known : IsUpgradeOfFirst rs upgraded = record { trace = trace; still = still; upgrade = upgrade } in
    (kept_counter rs upgraded i task found known, given_counter rs upgraded i task found known)
