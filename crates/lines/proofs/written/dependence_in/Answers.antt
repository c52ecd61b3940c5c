use Rattle.std.proofs.Common.{sym}
use Rattle.lines.proofs.SaysLemmas.{dep-read}
use Rattle.lines.proofs.written.dependence_in.Goals as goal

pub returns-in-Dependence : goal.returns-in-Dependence
returns-in-Dependence c = rw c.in-Dependence.is (sym (dep-read c.in-Dependence.dep))
