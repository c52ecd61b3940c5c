use Rattle.std.proofs.Common.{sym, ◌∙◌}
use Rattle.certificate.proofs.laws.one_trace.Goals as goal

pub returns : goal.returns
returns c = λ newest bytes a b for_a for_b. for_a.each ∙ sym for_b.each
