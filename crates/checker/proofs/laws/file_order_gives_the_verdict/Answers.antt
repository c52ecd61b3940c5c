use Rattle.checker.specs.Readings.{by_task, by_file}
use Rattle.checker.proofs.ReadingLemmas.{alike_verdicts, alike_counters, rising_alike, first_version_alike}
use Rattle.checker.proofs.laws.file_order_gives_the_verdict.Goals as goal

pub returns-clause-rising : goal.returns-clause-rising
returns-clause-rising c = λ rs rise verdict.
    alike_verdicts (by_task rs) (by_file rs) verdict (rising_alike rs rise)

pub returns-clause-rising_counter : goal.returns-clause-rising_counter
returns-clause-rising_counter c = λ rs rise i task found.
    alike_counters (by_task rs) (by_file rs) i task found (rising_alike rs rise)

pub returns-clause-version_1 : goal.returns-clause-version_1
returns-clause-version_1 c = λ rs trace verdict.
    alike_verdicts (by_task rs) (by_file rs) verdict (first_version_alike rs trace)

pub returns-clause-version_1_counter : goal.returns-clause-version_1_counter
returns-clause-version_1_counter c = λ rs trace i task found.
    alike_counters (by_task rs) (by_file rs) i task found (first_version_alike rs trace)
