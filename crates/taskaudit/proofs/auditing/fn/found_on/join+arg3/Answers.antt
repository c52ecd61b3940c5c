use Rattle.taskaudit.proofs.AuditLemmas.{of_crew}
use Rattle.taskaudit.proofs.auditing.fn.found_on.join+arg3.Goals as goal

pub returns : goal.returns
returns g c =
    let found = c.check_packed_on.ensures in
    record {
      verdict = found.verdict;
      passed = found.passed;
      fault =
          of_crew c.captures.crew-workers (g.G.Gate.may_refuse c.captures.crew-gate.now)
          (g.G.Gate.passed c.captures.crew-gate.now) c.check_packed_on.result c.requires.2 c.requires.3
          found.workers.0 found.gate found.passed_before found.thread;
    }
