use Rattle.certificate.proofs.LawLemmas.{first_fault, said_of_first}
use Rattle.certificate.proofs.laws.first_fault_is_said.Goals as goal

pub returns : goal.returns
returns c = λ newest bytes fault. (first_fault newest bytes fault, said_of_first newest bytes fault)
