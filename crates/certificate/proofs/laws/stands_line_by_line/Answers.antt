use Rattle.certificate.proofs.LawLemmas.{stands_for, said_of_stands}
use Rattle.certificate.proofs.laws.stands_line_by_line.Goals as goal

pub returns : goal.returns
returns c = λ newest bytes trace. (stands_for newest bytes trace, said_of_stands newest bytes trace)
