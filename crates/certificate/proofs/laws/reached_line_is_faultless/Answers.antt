use Rattle.certificate.specs.Files.{long_traces}
use Rattle.certificate.proofs.ReadingLemmas.{IsLineReached-later}
use Rattle.certificate.proofs.laws.reached_line_is_faultless.Goals as goal

pub returns : goal.returns
returns c = λ n bytes fault reached says. IsLineReached-later long_traces n bytes fault reached says
